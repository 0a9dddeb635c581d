-- A list appended with a count that is known afterwards, and the state after it.
use Prim.Native.Nat.{ℕ, ◌+◌, ◌-◌, ◌*◌, ◌/◌, ◌≤◌, ◌<◌}
use native.Mathlib.Omega.{arith}
use mathlib.Core.Path.{◌≡◌, sym, ap, ◌∙◌}
use mathlib.Core.Bool.{true, false}
use mathlib.Core.List.{List, [], ◌++◌, append-nil}
use lib.ListN.{length, length-append}
use Rattle.output.specs.Written.{written, two_bytes}
use Rattle.terms.specs.declared.Fact.{Fact}
use Rattle.limits.specs.Limits.{max_length, max_facts, count_size, fact_size}
use Rattle.format.specs.Lists.{list_at, list_end}
use Rattle.format.specs.Toggled.{toggled}
use Rattle.format.specs.Form.{Form, state_after}
use Rattle.jobs.specs.Convert.{facts_bytes, list_bytes}
use Rattle.rendering.specs.Held.{state_list_size, Holds}
use Rattle.rendering.specs.Good.{GoodNext}
use Rattle.appending.proofs.Appended.{append_then, append_renewed, over_first, over_then}
use Rattle.rendering.proofs.Bytes.{facts_length, list_bytes_length, list_read}
use Rattle.rendering.proofs.Held.{list_size}

-- ---- the count

-- two bytes, and then the facts
module _ (fs : List Fact) (u old mid new : List ℕ) (two : length u ≡ count_size) (p : mid ≡ old ++ u) (q : new ≡ mid ++ facts_bytes fs) where
  pub list_room : (length old + count_size ≡ length mid) × (length mid + fact_size * length fs ≡ length new)
  list_room =
      let n : length mid ≡ length old + length u = ap length p ∙ length-append old u in
      let m : length new ≡ length mid + length (facts_bytes fs) = ap length q ∙ length-append mid (facts_bytes fs) in
      (omega arith, omega (arith, facts_length fs))

  pub list_counted : (new' : List ℕ) → new' ≡ written new (length old) (two_bytes ((length new - length mid) / fact_size)) → new' ≡ old ++ list_bytes fs
  unfolding list_bytes two_bytes
  list_counted new' e =
      let (a, b) = list_room in
      let n : (length new - length mid) / fact_size ≡ length fs = omega arith in
      append_renewed [] u (facts_bytes fs) (two_bytes (length fs)) old (length old) (append_then u (facts_bytes fs) old mid p q) (omega arith) (sym two) (rw n at e)

-- the end is passed by the two bytes, or by the facts
module _ (fs : List Fact) (u old : List ℕ) (two : length u ≡ count_size) where
  whole_length : length (u ++ facts_bytes fs) ≡ length (list_bytes fs)
  whole_length = simp length-append (omega (arith, facts_length fs, list_bytes_length fs))

  pub list_over : max_length < length old + length u → max_length < length old + length (list_bytes fs)
  list_over h = let n = whole_length in let o = over_first u (facts_bytes fs) old old h in omega arith

  pub list_over_then : (mid : List ℕ) → mid ≡ old ++ u → max_length < length mid + length (facts_bytes fs) → max_length < length old + length (list_bytes fs)
  list_over_then mid e h = let n = whole_length in let o = over_then u (facts_bytes fs) old mid e h in omega arith

-- ---- the list read again

module _ (fs : List Fact) (old new : List ℕ) (p : new ≡ old ++ list_bytes fs) (few : length fs ≤ max_facts) (bytes : List ℕ) (same : bytes ≡ new)
    (start : ℕ) (from : start ≡ length old) where
  pub list_back : list_at bytes start ≡ fs
  list_back =
      let is : bytes ≡ old ++ (list_bytes fs ++ []) = same ∙ p ∙ ap (λ (t : List ℕ). old ++ t) (sym (append-nil (list_bytes fs))) in
      rw (is, from) (list_read old fs [] (omega arith))

  pub list_within : list_end bytes start ≡ length bytes
  list_within =
      let d = ap length list_back in
      let n : length bytes ≡ length old + length (list_bytes fs) = ap length (same ∙ p) ∙ length-append old (list_bytes fs) in
      omega (arith, list_size bytes start, list_bytes_length fs)

-- ---- the state after it

module _ (form : Form) (s : List ℕ) (before : List Fact) (at : ℕ) where
  pub after_short : form ≡ true → state_after form s before at ≡ toggled before (list_at s at)
  unfolding state_after
  after_short e = rw e

  pub after_full : form ≡ false → state_after form s before at ≡ list_at s at
  unfolding state_after
  after_full e = rw e

  pub few_short : GoodNext form s before at → form ≡ true → length (toggled before (list_at s at)) ≤ max_facts
  few_short good e = rw (after_short e) at good.few

  pub few_full : GoodNext form s before at → form ≡ false → length (list_at s at) ≤ max_facts
  few_full good e = rw (after_full e) at good.few

  pub carried_by : GoodNext form s before at → (after : List Fact) {state : List ℕ} → state_after form s before at ≡ after
      → length state ≡ state_list_size → list_at state 0 ≡ after → Holds state × (list_at state 0 ≡ state_after form s before at)
  carried_by good after {state} e l d =
      let f : list_at state 0 ≡ state_after form s before at = d ∙ sym e in
      (record { long = l; few = rw f good.few }, f)
