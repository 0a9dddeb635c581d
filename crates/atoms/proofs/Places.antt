-- The parameters that fill a place, as four bits, and the pairs of two such sets: what the code computes is what the definitions say.
use Prim.Native.Nat.{ℕ, zero, suc, ◌+◌, ◌-◌, ◌*◌, ◌/◌, ◌%◌, ◌≤◌, ◌<◌, min}
use native.Mathlib.Nat.{mul-le-mul}
use native.Mathlib.Decide.{ℕ_discrete, dec_lt}
use native.Mathlib.Omega.{arith}
use mathlib.Core.Path.{◌≡◌, refl, sym, ap, ap₂, ◌∙◌}
use mathlib.Core.Bool.{Bool, true, ◌&&◌, ◌||◌, not, or-false}
use mathlib.Core.List.{List}
use lib.Dec.{eqb, ltb, leb}
use borrow.Author.Tests.{eqb-true, lt-ltb, le-ltb, le-leb, lt-leb, ne_eqb}
use Rattle.truth.specs.Bools.{and_out}
use Rattle.input.specs.Bytes.{byte_at}
use Rattle.limits.specs.Limits.{max_params}
use Rattle.mask.specs.Bits.{bit_of}
use Rattle.mask.specs.Sets.{digit, number}
use Rattle.mask.proofs.Numbers.{bit_power, bit_number}
use Rattle.objectset.specs.Sets.{member, entry}
use Rattle.terms.specs.declared.Param.{Param}
use Rattle.terms.specs.declared.Objects.{Objects}
use Rattle.terms.specs.declared.Relation.{Relation}
use Rattle.terms.specs.declared.Move.{Move}
use Rattle.terms.specs.declared.Sections.{Sections}
use Rattle.terms.specs.Schema.{Schema, move_at, schema, typed_objects, out_of_range, kind_suits}
use Rattle.terms.specs.Steps.{parameter_fills}
use Rattle.tables.specs.Tables.{RightByKind}
use Rattle.atoms.specs.Atoms.{ParamsByKind, fillers, pairs}
use Rattle.atoms.proofs.Words.{bit_high, number_low}

-- ---- the parameters of a move as typed objects
clamped_in : (params p : ℕ) → 1 ≤ p → p ≤ max_params → not (out_of_range (min params max_params) p) ≡ leb p params
unfolding out_of_range
clamped_in params p low high = go (dec_lt params p)
  where
    go : Dec (params < p) → not (ltb p 1 || ltb (min params max_params) p) ≡ leb p params
    go (yes h) = rw (le-ltb p 1 low, lt-ltb (min params max_params) p (omega arith), lt-leb p params h)
    go (no h) = rw (le-ltb p 1 low, le-ltb (min params max_params) p (omega arith), le-leb p params (omega arith))

pub params_right : (h : Sections) (s : List ℕ) (m : Move) (o : Objects) (ks : List ℕ)
    → o.count ≡ min ((schema h s).params m) max_params
    → o.at ≡ move_at h m + 1
    → RightByKind (schema h s) (typed_objects o s) ks
    → ParamsByKind (schema h s) m ks
unfolding RightByKind ParamsByKind typed_objects schema
params_right h s m o ks count at right k p low high =
    let e : o.at + (p.0 - 1) ≡ move_at h m + p.0 = omega arith in
    right k (record { 0 = p.0 })
    ∙ ap₂ (λ (a b : Bool). a && b) (ap (λ (c : ℕ). not (out_of_range c p.0)) count ∙ clamped_in (byte_at s (move_at h m)) p.0 low high)
    (ap (λ (x : ℕ). kind_suits (schema h s) k (byte_at s x)) e)

-- ---- one place
member_bit : (set x : ℕ) → x < 32 → member set x ≡ bit_of set x
unfolding member
member_bit set x l =
    let e : x % 32 ≡ x = omega arith in
    rw (lt-ltb x 32 l, e)

module _ (sch : Schema) (m : Move) (r : Relation) (i places : ℕ) (is : places ≡ sch.places r) where
  used_fills : (p : Param) → i ≤ places
      → parameter_fills sch m r i p ≡ (leb p.0 (sch.params m) && kind_suits sch (sch.place_kind r i) (sch.param_kind m p))
  unfolding parameter_fills
  used_fills p l =
      rw (← is, le-leb i places l, le-ltb places i l)
      (or-false (leb p.0 (sch.params m) && kind_suits sch (sch.place_kind r i) (sch.param_kind m p)))

  unused_fills : (p : Param) → places < i → parameter_fills sch m r i p ≡ eqb p.0 1
  unfolding parameter_fills
  unused_fills p l = rw (← is, lt-leb i places l, lt-ltb places i l)

  pub used_fillers : (ks : List ℕ) (k set : ℕ) → k ≡ sch.place_kind r i → i ≤ places → set ≡ entry ks k → ParamsByKind sch m ks
      → set / 2 % 16 ≡ fillers sch m r i
  unfolding fillers ParamsByKind
  used_fillers ks k set e l f right =
      number_low (λ p. parameter_fills sch m r i (record { 0 = p })) (set / 2) 1 4
      (λ j b. bit_high set 1 j ∙ sym (member_bit set (1 + j) (omega arith))
      ∙ rw (f, e) (right (sch.place_kind r i) (record { 0 = 1 + j }) (omega arith) (omega arith))
      ∙ sym (used_fills (record { 0 = 1 + j }) l))

  pub unused_fillers : places < i → 1 ≡ fillers sch m r i
  unfolding fillers
  unused_fillers l =
      number_low (λ p. parameter_fills sch m r i (record { 0 = p })) 1 1 4
      (λ j b. bit_power 0 j ∙ first j (ℕ_discrete 0 j) ∙ sym (unused_fills (record { 0 = 1 + j }) l))
    where
      first : (j : ℕ) → Dec (0 ≡ j) → eqb 0 j ≡ eqb (1 + j) 1
      first j (yes q) = rw (← q)
      first j (no d) = ne_eqb 0 j d ∙ sym (ne_eqb (1 + j) 1 (λ (q : 1 + j ≡ 1). d (omega arith)))

pub fillers_bit : (sch : Schema) (m : Move) (r : Relation) (i j : ℕ) → j < 4
    → bit_of (fillers sch m r i) j ≡ parameter_fills sch m r i (record { 0 = 1 + j })
unfolding fillers
fillers_bit sch m r i j l = bit_number (λ p. parameter_fills sch m r i (record { 0 = p })) 1 4 j l

-- ---- pairs
-- a test of all numbers below n
every : ℕ → (ℕ → Bool) → Bool
every zero t = true
every (suc n) t = t n && every n t

every_at : (n : ℕ) (t : ℕ → Bool) → every n t ≡ true → (j : ℕ) → j < n → t j ≡ true
unfolding every
every_at zero t e j l = absurd (omega arith)
every_at (suc n) t e j l = let (last, rest) = and_out (t n) (every n t) e in go last (every_at n t rest j) (ℕ_discrete j n)
  where
    go : t n ≡ true → (j < n → t j ≡ true) → Dec (j ≡ n) → t j ≡ true
    go last before (yes q) = rw q last
    go last before (no d) = before (omega arith)

abbrev spread : ℕ → ℕ
spread first = first % 2 + first / 2 % 2 * 16 + first / 4 % 2 * 256 + first / 8 * 4096

all_pairs : every 16 (λ first. every 16 (λ second. eqb (spread first * second) (pairs first second))) ≡ true
unfolding pairs number digit bit_of every
all_pairs = refl

module _ (first second : ℕ) (l : first < 16) (k : second < 16) where
  pub pairs_fit : spread first * second < 65536
  pairs_fit =
      let wide : spread first ≤ 4369 = omega arith in
      let narrow : second ≤ 15 = omega arith in
      omega (arith, mul-le-mul wide narrow)

  pub pairs_product : spread first * second ≡ pairs first second
  pairs_product =
      let row = every_at 16 (λ f. every 16 (λ s. eqb (spread f * s) (pairs f s))) all_pairs first l in
      eqb-true (spread first * second) (pairs first second) (every_at 16 (λ s. eqb (spread first * s) (pairs first s)) row second k)
