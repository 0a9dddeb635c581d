-- Rows 1 to 10 and 27, then 23 and 13, by what the calls return, and what the lent output holds.
use Prim.Native.Nat.{ℕ, ◌<◌, ◌≤◌}
use mathlib.Core.Path.{◌≡◌, refl, sym, ap, ◌∙◌}
use mathlib.Core.Bool.{true, false, not}
use mathlib.Core.List.{List}
use lib.Dec.{ltb}
use lib.ListN.{length}
use native.Mathlib.Omega.{arith}
use borrow.Author.Tests.{lt-ltb, le-ltb}
use Rattle.answer.specs.Answer.{Answer, Good, Refused, ◌>>=◌, refuse, is_refused, kept}
use Rattle.answer.proofs.Laws.{stays, follows, bind_good, bind_assoc, bind_cong, passed, refuse_met, refuse_unmet, refused_kept}
use Rattle.limits.specs.Limits.{max_length}
use Rattle.output.specs.Written.{written}
use Rattle.output.proofs.Written.{front_written}
use Rattle.format.specs.Form.{Form}
use Rattle.format.specs.LookOver.{look_over}
use Rattle.jobs.specs.Convert.{converted, convert, convert_bytes}
use Rattle.rendering.specs.Formed.{ConvertedFormed}
use Rattle.converting.specs.Outcome.{ConvertOutcome}

twice : (form : Form) → not (not form) ≡ form
twice true = refl
twice false = refl

module _ (form : Form) (s old : List ℕ) where
  abbrev new : List ℕ
  new = converted (not form) s

  -- a refusal leaves the output as it was
  kept_old : (a : Answer) → a ≡ convert (not form) s (length old) → is_refused a ≡ true → ConvertOutcome form s old old a
  unfolding convert_bytes
  kept_old a e r = record { says = e; bytes = refused_kept _ a _ old e r }

  abbrev room : Answer
  room = refuse (ltb (length old) (length new)) 13 0 >>= λ _. Good (length new)

  module _ (looked : Answer) (e : looked ≡ look_over form s) where
    parts : (looked >>= λ _. refuse (ltb max_length (length new)) 23 0 >>= λ _. room) ≡ convert (not form) s (length old)
    unfolding convert
    parts = ap (λ (a : Answer). a >>= λ _. refuse (ltb max_length (length new)) 23 0 >>= λ _. room) (e ∙ ap (λ (f : Form). look_over f s) (sym (twice form)))

    pub first_refused_lem : is_refused looked ≡ true → ConvertOutcome form s old old looked
    first_refused_lem r = kept_old looked (stays looked _ r ∙ parts) r

    module _ (good : is_refused looked ≡ false) (mem : List ℕ) (a : Answer) (formed : ConvertedFormed form s mem a) where
      rest : (a >>= λ _. room) ≡ convert (not form) s (length old)
      rest =
          ap (λ (x : Answer). x >>= λ _. room) formed.says ∙ bind_assoc (refuse (ltb max_length (length new)) 23 0) (λ _. Good (length new)) (λ _. room)
          ∙ bind_cong (refuse (ltb max_length (length new)) 23 0) (λ _. Good (length new) >>= λ _. room) (λ _. room) (λ n. bind_good _ _ (length new) refl)
          ∙ follows looked (λ _. refuse (ltb max_length (length new)) 23 0 >>= λ _. room) good ∙ parts

      pub new_refused : is_refused a ≡ true → ConvertOutcome form s old old a
      new_refused r = kept_old a (stays a _ r ∙ rest) r

      module _ (v : ℕ) (is : a ≡ Good v) where
        size : length new ≡ v
        size = let (fits, same) = passed (ltb max_length (length new)) 23 0 v _ (sym formed.says ∙ is) in cc

        pub room_for : length mem ≡ v
        room_for = ap length (formed.bytes v is) ∙ size

        after : room ≡ convert (not form) s (length old)
        after = sym (bind_good a (λ _. room) v is) ∙ rest

        pub no_room : length old < v → ConvertOutcome form s old old (Refused 13 0)
        unfolding is_refused
        no_room l = kept_old _ (sym (refuse_met _ _ _ _ (lt-ltb (length old) (length new) (omega (arith, size, l)))) ∙ after) refl

        pub stored : (out : List ℕ) → v ≤ length old → out ≡ written old 0 mem → ConvertOutcome form s old out (Good v)
        unfolding convert_bytes kept
        stored out l w =
            let says : Good v ≡ convert (not form) s (length old) = ap Good (sym size) ∙ sym (refuse_unmet _ _ _ _ (le-ltb (length old) (length new) (omega (arith, size, l)))) ∙ after in
            record { says = says; bytes = rw (← says, w, formed.bytes v is, front_written old new) }
