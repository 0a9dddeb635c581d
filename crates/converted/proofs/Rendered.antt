-- Values rendered as bytes are read back where the bytes stand: a two-byte number, facts, a list of facts, a step.
use Prim.Native.Nat.{ℕ, ◌+◌, ◌*◌, ◌<◌}
use mathlib.Core.Path.{◌≡◌, refl, ap}
use mathlib.Core.List.{List, [], ◌∷◌}
use native.Mathlib.Omega.{arith}
use lib.ListN.{length}
use Rattle.input.specs.Bytes.{byte_at, two}
use Rattle.output.specs.Written.{two_bytes}
use Rattle.limits.specs.Limits.{count_size, fact_size, step_size}
use Rattle.terms.specs.declared.Fact.{Fact}
use Rattle.terms.specs.declared.Step.{Step}
use Rattle.terms.specs.Facts.{fact_at}
use Rattle.terms.specs.Steps.{object_of, step_at}
use Rattle.format.specs.Lists.{facts_at, list_at, list_end}
use Rattle.format.specs.Filed.{went_at, filed_step_at}
use Rattle.format.specs.Form.{Form}
use Rattle.format.specs.Decode.{recorded_step}
use Rattle.jobs.specs.Convert.{facts_bytes, list_bytes, step_bytes, filed_step_bytes}
use Rattle.jobs.proofs.Bytes.{filed_as_read}
use Rattle.converted.proofs.Stands.{Stands, stands_first, stands_rest, stands_left, stands_right}
use Rattle.output.proofs.Two.{length_two}

-- ---- a two-byte number

-- it is read if its two bytes hold it
pub two_read : (n : ℕ) (t : List ℕ) (at : ℕ) → n < 65536 → Stands (two_bytes n) t at → two t at ≡ n
unfolding two_bytes two
two_read n t at l h =
    let high = stands_first _ _ t at h in
    let low = stands_first _ _ t (at + 1) (stands_rest _ _ t at h) in
    rw (high, low) (omega arith)

-- ---- facts

pub length_facts_bytes : (fs : List Fact) → length (facts_bytes fs) ≡ fact_size * length fs
unfolding facts_bytes
length_facts_bytes [] = refl
length_facts_bytes (f ∷ fs) = let e = length_facts_bytes fs in omega arith

-- the first of rendered facts, and the others
module _ (f : Fact) (fs : List Fact) (t : List ℕ) (at : ℕ) (h : Stands (facts_bytes (f ∷ fs)) t at) where
  -- The fact is read, and the others stand behind it.
  pub fact_read : fact_at t at ≡ f
  unfolding facts_bytes fact_at
  fact_read =
      let a = stands_first _ _ t at h in
      let h₁ = stands_rest _ _ t at h in
      let b = stands_first _ _ t (at + 1) h₁ in
      let c = stands_first _ _ t (at + 1 + 1) (stands_rest _ _ t (at + 1) h₁) in
      let e : at + 1 + 1 ≡ at + 2 = omega arith in
      rw (a, b, rw e at c)

  pub facts_behind : Stands (facts_bytes fs) t (at + fact_size)
  unfolding facts_bytes
  facts_behind =
      let h₁ = stands_rest _ _ t at h in
      let h₂ = stands_rest _ _ t (at + 1) h₁ in
      let h₃ = stands_rest _ _ t (at + 1 + 1) h₂ in
      let e : at + 1 + 1 + 1 ≡ at + 3 = omega arith in
      rw e at h₃

-- as many facts as were rendered are read as these
pub facts_read : (fs : List Fact) (t : List ℕ) (at : ℕ) → Stands (facts_bytes fs) t at → facts_at t (length fs) at ≡ fs
unfolding facts_at
facts_read [] t at h = refl
facts_read (f ∷ fs) t at h =
    rw (fact_read f fs t at h, facts_read fs t (at + fact_size) (facts_behind f fs t at h))

-- ---- a list of facts

pub length_list_bytes : (fs : List Fact) → length (list_bytes fs) ≡ count_size + fact_size * length fs
unfolding list_bytes two_bytes
length_list_bytes fs = let e = length_facts_bytes fs in omega arith

module _ (fs : List Fact) (t : List ℕ) (at : ℕ) (few : length fs < 65536) (h : Stands (list_bytes fs) t at) where
  -- The count is read, and the facts stand behind it:
  pub count_read : two t at ≡ length fs
  unfolding list_bytes
  count_read = two_read (length fs) t at few (stands_left (two_bytes (length fs)) (facts_bytes fs) t at h)

  pub facts_stand : Stands (facts_bytes fs) t (at + count_size)
  unfolding list_bytes
  facts_stand = rw (length_two (length fs)) at (stands_right (two_bytes (length fs)) (facts_bytes fs) t at h)

  -- the list is read, and ends where it was rendered to.
  pub list_read : list_at t at ≡ fs
  unfolding list_at
  list_read = rw count_read (facts_read fs t (at + count_size) facts_stand)

  pub list_end_read : list_end t at ≡ at + length (list_bytes fs)
  unfolding list_end
  list_end_read = let e = length_list_bytes fs in rw count_read (omega arith)

-- ---- a step

-- of a step that was read: its binding has four objects
pub length_filed_step_bytes : (form : Form) (s : List ℕ) (before : List Fact) (a : ℕ) → length (filed_step_bytes (recorded_step form s before a)) ≡ step_size
unfolding filed_step_bytes step_bytes
length_filed_step_bytes form s before a = refl

-- the step that bytes say, where these stand
said_read : (s : List ℕ) (a : ℕ) (t : List ℕ) (at : ℕ) → Stands (step_bytes (step_at s a)) t at → step_at t at ≡ step_at s a
unfolding step_bytes step_at object_of
said_read s a t at h =
    let h₁ = stands_rest _ _ t at h in
    let h₂ = stands_rest _ _ t (at + 1) h₁ in
    let h₃ = stands_rest _ _ t (at + 1 + 1) h₂ in
    let h₄ = stands_rest _ _ t (at + 1 + 1 + 1) h₃ in
    let e₀ = stands_first _ _ t at h in
    let e₁ = stands_first _ _ t (at + 1) h₁ in
    let e₂ = stands_first _ _ t (at + 1 + 1) h₂ in
    let e₃ = stands_first _ _ t (at + 1 + 1 + 1) h₃ in
    let e₄ = stands_first _ _ t (at + 1 + 1 + 1 + 1) h₄ in
    let p₂ : at + 1 + 1 ≡ at + 2 = omega arith in
    let p₃ : at + 1 + 1 + 1 ≡ at + 3 = omega arith in
    let p₄ : at + 1 + 1 + 1 + 1 ≡ at + 4 = omega arith in
    rw (e₀, e₁, rw p₂ at e₂, rw p₃ at e₃, rw p₄ at e₄)

move_read : (s : List ℕ) (a : ℕ) (t : List ℕ) (at : ℕ) → step_at t at ≡ step_at s a → byte_at t at ≡ byte_at s a
unfolding step_at
move_read s a t at e = ap (λ (st : Step). st.action.0) e

-- a recorded step is read back, and whether it went
pub step_read : (form : Form) (s : List ℕ) (before : List Fact) (a : ℕ) (t : List ℕ) (at : ℕ) → Stands (filed_step_bytes (recorded_step form s before a)) t at
    → (filed_step_at t at ≡ filed_step_at s a) × (went_at t at ≡ went_at s a)
unfolding filed_step_bytes recorded_step filed_step_at went_at
step_read form s before a t at h =
    let e = said_read s a t at (rw (filed_as_read s a) at h) in
    let b = move_read s a t at e in
    (rw (e, b), rw b)
