-- Whether two truth values are the same, as a test. Other laws of truth values: truth/specs/Bools.
use mathlib.Core.Path.{◌≡◌, refl, sym}
use mathlib.Core.Bool.{Bool, true, false, not}
use Rattle.quantify.specs.Quantify.{same}

pub same_in : (b c : Bool) → b ≡ c → same b c ≡ true
unfolding same
same_in true c e = rw (← e)
same_in false c e = rw (← e)

pub same_out : (b c : Bool) → same b c ≡ true → b ≡ c
unfolding same
same_out true true e = refl
same_out true false e = sym e
same_out false true e = e
same_out false false e = refl

pub same_true : (x : Bool) → same true x ≡ x
unfolding same
same_true true = refl
same_true false = refl

pub same_false : (x : Bool) → same false x ≡ not x
unfolding same
same_false true = refl
same_false false = refl
