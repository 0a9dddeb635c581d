-- From a fact to its bound fact by a table of digits: the table of a binding, and a fact's mark. Uses the definitions of observed.
use Prim.Native.Nat.{ℕ, zero, suc, ◌+◌, ◌-◌, ◌*◌, ◌<◌, ◌≤◌}
use mathlib.Core.Path.{◌≡◌, refl, sym, ap, ◌∙◌}
use mathlib.Core.Bool.{Bool, true, false, cond, ◌&&◌, ◌||◌, not}
use mathlib.Core.List.{List}
use Rattle.std.proofs.Common.{Option, Some, None, is_some}
use native.Mathlib.Decide.{ℕ_discrete}
use native.Mathlib.Omega.{arith}
use borrow.Author.Tests.{eq-eqb, ne_eqb, leb-true, leb-false, le-leb, lt-leb}
use lib.Dec.{eqb, leb}
use lib.ListN.{length, get_or, set, length-set, length-replicate, get_or-replicate}
use lib.Seq.{get_or-set_same, get_or-set_other, ext_get_or}
use Rattle.truth.specs.Bools.{clash, is_true, is_false, and_out}
use Rattle.mask.specs.Bits.{test_bit, set_bit, flip_bit}
use Rattle.terms.specs.declared.Object.{Object}
use Rattle.terms.specs.declared.Binding.{Binding}
use Rattle.terms.specs.declared.Fact.{Fact}
use Rattle.terms.specs.Steps.{object_of}
use Rattle.observed.specs.Inverse.{gives, param_of, place_bound, fact_bound, atom_of, mark, turn_mark}
use Rattle.observed.proofs.Params.{param_most}
use Rattle.lifting.specs.Pairs.{digit, places_of, lifted, at_atom, marked_as, turned_as, no_digits, Inverts}

-- ---- the table

-- a table of 256 bytes that has f
pub record Table (t : List ℕ) (f : ℕ → ℕ) : Type 0 where
  pub long : length t ≡ 256
  pub has : (x : ℕ) → x < 256 → get_or t x 0 ≡ f x

table_none : Table no_digits (λ x. 16)
unfolding no_digits
table_none = record { long = length-replicate {A = ℕ} 256 16; has = λ x h. get_or-replicate {A = ℕ} 256 x 16 0 h }

pub digits_long : (t : List ℕ) → t ≡ no_digits → length t ≡ 256
digits_long t e = ap length e ∙ table_none.long

put_at_lem : (l : List ℕ) (i v x : ℕ) → x < length l → get_or (set l i v) x 0 ≡ cond (eqb i x) v (get_or l x 0)
put_at_lem l i v x h = go (ℕ_discrete i x)
  where
    go : Dec (i ≡ x) → get_or (set l i v) x 0 ≡ cond (eqb i x) v (get_or l x 0)
    go (yes e) = rw (eq-eqb i x e, e) (get_or-set_same l x v 0 h)
    go (no d) = rw (ne_eqb i x d) (get_or-set_other l i x v 0 (λ e. d (sym e)))

table_put : {l : List ℕ} {f : ℕ → ℕ} → Table l f → (t : List ℕ) (i v : ℕ) → t ≡ set l i v → Table t (λ x. cond (eqb i x) v (f x))
table_put {l} {f} w t i v e =
    record {
      long = ap length e ∙ length-set l i v ∙ w.long;
      has =
          λ x h.
          ap (λ (k : List ℕ). get_or k x 0) e
          ∙ put_at_lem l i v x (omega (arith, w.long))
          ∙ ap (λ (y : ℕ). cond (eqb i x) v y) (w.has x h);
    }

eqb_flip : (m n : ℕ) → eqb m n ≡ eqb n m
eqb_flip m n = go (ℕ_discrete m n)
  where
    go : Dec (m ≡ n) → eqb m n ≡ eqb n m
    go (yes e) = eq-eqb m n e ∙ sym (eq-eqb n m (sym e))
    go (no d) = ne_eqb m n d ∙ sym (ne_eqb n m (λ e. d (sym e)))

module _ (b : Binding) (x : Object) where
  digit_is : digit b x ≡ cond (eqb x.0 0) 0 (cond (gives b 1 x) 0 (cond (gives b 2 x) 1 (cond (gives b 3 x) 2 (cond (gives b 4 x) 3 16))))
  unfolding digit place_bound param_of
  digit_is = go (eqb x.0 0) (gives b 1 x) (gives b 2 x) (gives b 3 x) (gives b 4 x)
    where
      go : (z g₁ g₂ g₃ g₄ : Bool)
          → cond (z || not (eqb (cond z 0 (cond g₁ 1 (cond g₂ 2 (cond g₃ 3 (cond g₄ 4 0))))) 0)) (cond z 0 (cond g₁ 1 (cond g₂ 2 (cond g₃ 3 (cond g₄ 4 0)))) - 1) 16
          ≡ cond z 0 (cond g₁ 0 (cond g₂ 1 (cond g₃ 2 (cond g₄ 3 16))))
      go true g₁ g₂ g₃ g₄ = refl
      go false true g₂ g₃ g₄ = refl
      go false false true g₃ g₄ = refl
      go false false false true g₄ = refl
      go false false false false true = refl
      go false false false false false = refl

module _ (b : Binding) where
  -- what an object adds by the parameters from i on; and what is left of it once the first i parameters are taken out
  abbrev pub put_from : ℕ → ℕ → ℕ
  put_from i x =
      let o : Object = record { 0 = x } in
      cond (leb i 0 && gives b 1 o) 0 (cond (leb i 1 && gives b 2 o) 1 (cond (leb i 2 && gives b 3 o) 2 (cond (leb i 3 && gives b 4 o) 3 16)))

  abbrev pub left_after : ℕ → ℕ → ℕ
  left_after i x =
      let o : Object = record { 0 = x } in
      cond (leb 4 i && gives b 4 o) 16 (cond (leb 3 i && gives b 3 o) 16 (cond (leb 2 i && gives b 2 o) 16 (cond (leb 1 i && gives b 1 o) 16 (digit b o))))

  abbrev object_at : ℕ → Object
  object_at i = get_or b.objects i (record { 0 = 0 })

  put_one : (i x : ℕ) → i < 4 → cond (eqb (object_at i).0 x) i (put_from (i + 1) x) ≡ put_from i x
  unfolding gives object_of
  put_one zero x h = refl
  put_one (suc zero) x h = refl
  put_one (suc (suc zero)) x h = refl
  put_one (suc (suc (suc zero))) x h = refl
  put_one (suc (suc (suc (suc i)))) x h = absurd (omega arith)

  left_one : (i x : ℕ) → i < 4 → cond (eqb (object_at i).0 x) 16 (left_after i x) ≡ left_after (i + 1) x
  unfolding gives object_of
  left_one zero x h = refl
  left_one (suc zero) x h = refl
  left_one (suc (suc zero)) x h = refl
  left_one (suc (suc (suc zero))) x h = refl
  left_one (suc (suc (suc (suc i)))) x h = absurd (omega arith)

  table_as : {l : List ℕ} {f g : ℕ → ℕ} → Table l f → ((x : ℕ) → f x ≡ g x) → Table l g
  table_as w e = record { long = w.long; has = λ x h. w.has x h ∙ e x }

  -- the digits of the parameters put into an empty table, the last first
  pub put_none : (t : List ℕ) → t ≡ no_digits → Table t (put_from 4)
  put_none t e = rw e table_none

  pub put_next : {t : List ℕ} (i : ℕ) (t' : List ℕ) → 0 < i → i ≤ 4 → Table t (put_from i) → t' ≡ set t (object_at (i - 1)).0 (i - 1) → Table t' (put_from (i - 1))
  put_next {t} i t' h k w e =
      let p : i ≡ i - 1 + 1 = omega arith in
      let v : Table t (put_from (i - 1 + 1)) = rw (← p) w in
      table_as (table_put v t' _ (i - 1) e) (λ x. put_one (i - 1) x (omega arith))

  pub put_all : {t : List ℕ} (i : ℕ) (t' : List ℕ) → i ≤ 0 → Table t (put_from i) → t' ≡ set t 0 0 → Inverts b t'
  put_all {t} i t' h w e =
      let p : i ≡ 0 = omega arith in
      let u : Table t (put_from 0) = rw (← p) w in
      let v = table_put u t' 0 0 e in
      record { long = v.long; gives = λ x h. v.has x h ∙ rw (eqb_flip 0 x) (sym (digit_is b (record { 0 = x }))) }

  -- and taken out again
  pub left_none : (t : List ℕ) → Inverts b t → Table t (left_after 0)
  left_none t inverts = record { long = inverts.long; has = inverts.gives }

  pub left_next : {t : List ℕ} (i : ℕ) (t' : List ℕ) → i < 4 → Table t (left_after i) → t' ≡ set t (object_at i).0 16 → Table t' (left_after (i + 1))
  left_next i t' h w e = table_as (table_put w t' _ 16 e) (λ x. left_one i x h)

  pub left_all : {t : List ℕ} (i : ℕ) (t' : List ℕ) → 4 ≤ i → i ≤ 4 → Table t (left_after i) → t' ≡ set t 0 16 → t' ≡ no_digits
  left_all {t} i t' h k w e =
      let p : i ≡ 4 = omega arith in
      let u : Table t (left_after 4) = rw (← p) w in
      let v = table_put u t' 0 16 e in
      ext_get_or 0 t' no_digits (v.long ∙ sym table_none.long)
      (λ x h.
      let l : x < 256 = omega (arith, v.long) in
      let o : Object = record { 0 = x } in
      v.has x l ∙ rw (eqb_flip 0 x, digit_is b o) (none (eqb x 0) (gives b 1 o) (gives b 2 o) (gives b 3 o) (gives b 4 o)) ∙ sym (table_none.has x l))
    where
      none : (z g₁ g₂ g₃ g₄ : Bool)
          → ◌≡◌ {A = ℕ} (cond z 16 (cond g₄ 16 (cond g₃ 16 (cond g₂ 16 (cond g₁ 16 (cond z 0 (cond g₁ 0 (cond g₂ 1 (cond g₃ 2 (cond g₄ 3 16)))))))))) 16
      none true g₁ g₂ g₃ g₄ = refl
      none false true true true true = refl
      none false true true true false = refl
      none false true true false true = refl
      none false true true false false = refl
      none false true false true true = refl
      none false true false true false = refl
      none false true false false true = refl
      none false true false false false = refl
      none false false true true true = refl
      none false false true true false = refl
      none false false true false true = refl
      none false false true false false = refl
      none false false false true true = refl
      none false false false true false = refl
      none false false false false true = refl
      none false false false false false = refl

-- ---- a fact
pub places_by : (b : Binding) (f : Fact) (t : List ℕ) (m n : ℕ)
    → Inverts b t
    → m ≡ get_or t f.first.0 0
    → n ≡ get_or t f.second.0 0
    → f.first.0 < 256
    → f.second.0 < 256
    → 4 * m + n ≡ places_of b f
unfolding places_of
places_by b f t m n w d e h k = rw (d, e, w.gives f.first.0 h, w.gives f.second.0 k)

module _ (b : Binding) (f : Fact) where
  abbrev both_bound : Bool
  both_bound = place_bound b f.first && place_bound b f.second

  -- places that are both the binding's
  filled : both_bound ≡ true → places_of b f ≡ 4 * (param_of b f.first - 1) + (param_of b f.second - 1)
  unfolding places_of digit
  filled e = go (place_bound b f.first) (place_bound b f.second) e
    where
      go : (m n : Bool) → (m && n) ≡ true
          → 4 * cond m (param_of b f.first - 1) 16 + cond n (param_of b f.second - 1) 16 ≡ 4 * (param_of b f.first - 1) + (param_of b f.second - 1)
      go true true d = refl
      go true false d = clash false d refl
      go false n d = clash false d refl

  unfilled : both_bound ≡ false → 16 ≤ places_of b f
  unfolding places_of digit
  unfilled e = go (place_bound b f.first) (place_bound b f.second) e
    where
      go : (m n : Bool) → (m && n) ≡ false → 16 ≤ 4 * cond m (param_of b f.first - 1) 16 + cond n (param_of b f.second - 1) 16
      go true true d = clash true refl d
      go true false d = omega arith
      go false n d = omega arith

  filled_less : both_bound ≡ true → places_of b f < 16
  filled_less e = omega (arith, filled e, param_most b f.first, param_most b f.second)

  -- the number of the bound fact
  number_by : both_bound ≡ true → (x : ℕ) → x ≡ places_of b f → (n : ℕ) → n ≡ 16 * (f.relation.0 - 1) + x → n ≡ atom_of b f
  unfolding atom_of
  number_by e x is n d = omega (arith, filled e)

  module _ (atoms : List ℕ) where
    -- ---- what `atom` returns, by its tests
    module _ (x : ℕ) (is : x ≡ places_of b f) where
      pub atom_none : 16 ≤ x → None ≡ lifted atoms b f
      unfolding lifted fact_bound
      atom_none h = go both_bound refl
        where
          go : (t : Bool) → both_bound ≡ t → None ≡ cond (t && test_bit atoms (atom_of b f)) (Some (atom_of b f)) None
          go true e = absurd (omega (arith, filled_less e))
          go false e = refl

      pub atom_some : x < 16 → (n : ℕ) → n ≡ 16 * (f.relation.0 - 1) + x → (t : Bool) → t ≡ test_bit atoms n → cond t (Some n) None ≡ lifted atoms b f
      unfolding lifted fact_bound
      atom_some h n d t told = go both_bound refl
        where
          go : (u : Bool) → both_bound ≡ u → cond t (Some n) None ≡ cond (u && test_bit atoms (atom_of b f)) (Some (atom_of b f)) None
          go true e = rw (← number_by e x is n d, ← told)
          go false e = absurd (omega (arith, unfilled e))

    -- ---- what it says
    module _ (x : Option ℕ) (is : x ≡ lifted atoms b f) where
      is_bound : is_some x ≡ fact_bound atoms b f
      unfolding lifted
      is_bound = rw is (go (fact_bound atoms b f))
        where
          go : (t : Bool) → is_some (cond t (Some (atom_of b f)) None) ≡ t
          go true = refl
          go false = refl

      pub atom_bound : is_some x ≡ true → fact_bound atoms b f ≡ true
      atom_bound e = sym is_bound ∙ e

      pub atom_unbound : is_some x ≡ false → fact_bound atoms b f ≡ false
      atom_unbound e = sym is_bound ∙ e

      pub atom_test : (t : Bool) → is_some x ≡ not t → t ≡ not (fact_bound atoms b f)
      atom_test t e = rw (← is_bound, e) (go t)
        where
          go : (t : Bool) → t ≡ not (not t)
          go true = refl
          go false = refl

      at_atom_lem : (make : List ℕ → ℕ → List ℕ) (m : List ℕ) → at_atom make m x ≡ cond (fact_bound atoms b f) (make m (atom_of b f)) m
      unfolding lifted
      at_atom_lem make m = rw is (go (fact_bound atoms b f))
        where
          go : (t : Bool) → at_atom make m (cond t (Some (atom_of b f)) None) ≡ cond t (make m (atom_of b f)) m
          go true = refl
          go false = refl

      pub marked_as_lem : (m : List ℕ) → marked_as m x ≡ mark atoms b m f
      unfolding mark
      marked_as_lem m = at_atom_lem set_bit m

      pub turned_as_lem : (m : List ℕ) → turned_as m x ≡ turn_mark atoms b m f
      unfolding turn_mark
      turned_as_lem m = at_atom_lem flip_bit m
