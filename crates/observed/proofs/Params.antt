-- The parameter that has an object: it is one of four, and its object is that one.
use Prim.Native.Nat.{ℕ, ◌≤◌, ◌<◌}
use native.Mathlib.Decide.{dec_lt}
use native.Mathlib.Omega.{arith}
use mathlib.Core.Path.{◌≡◌, refl}
use mathlib.Core.Bool.{Bool, true, false, cond}
use lib.Dec.{eqb}
use Rattle.terms.specs.declared.Object.{Object}
use Rattle.terms.specs.declared.Binding.{Binding}
use Rattle.observed.specs.Inverse.{gives, param_of}

module _ (b : Binding) (x : Object) where
  -- a parameter that is found has the object
  pub param_out : 1 ≤ param_of b x → (param_of b x ≤ 4) × (gives b (param_of b x) x ≡ true)
  unfolding param_of
  param_out = go (eqb x.0 0) (gives b 1 x) (gives b 2 x) (gives b 3 x) (gives b 4 x) refl refl refl refl refl
    where
      chosen : Bool → Bool → Bool → Bool → Bool → ℕ
      chosen z p q r s = cond z 0 (cond p 1 (cond q 2 (cond r 3 (cond s 4 0))))

      go : (z p q r s : Bool) → eqb x.0 0 ≡ z → gives b 1 x ≡ p → gives b 2 x ≡ q → gives b 3 x ≡ r → gives b 4 x ≡ s → 1 ≤ chosen z p q r s
          → (chosen z p q r s ≤ 4) × (gives b (chosen z p q r s) x ≡ true)
      go true p q r s ez ep eq er es h = absurd (omega arith)
      go false true q r s ez ep eq er es h = (omega arith, ep)
      go false false true r s ez ep eq er es h = (omega arith, eq)
      go false false false true s ez ep eq er es h = (omega arith, er)
      go false false false false true ez ep eq er es h = (omega arith, es)
      go false false false false false ez ep eq er es h = absurd (omega arith)

  pub param_most : param_of b x ≤ 4
  param_most = go (dec_lt 0 (param_of b x))
    where
      go : Dec (0 < param_of b x) → param_of b x ≤ 4
      go (yes h) = (param_out (omega arith)).0
      go (no h) = omega arith
