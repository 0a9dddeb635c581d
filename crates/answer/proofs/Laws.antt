-- Laws of an answer and of rows in order, for the proofs of code that meets the rows one by one.
use Prim.Native.Nat.{ℕ, ◌≤◌}
use mathlib.Core.Path.{◌≡◌, refl, sym}
use mathlib.Core.Bool.{Bool, true, false, ◌||◌}
use mathlib.Core.List.{List}
use native.Mathlib.Omega.{arith}
use borrow.Author.Tests.{ltb-false}
use lib.Dec.{ltb}
use Rattle.answer.specs.Answer.{Answer, Good, Refused, ◌>>=◌, refuse, is_refused, value_of, kept}
use Rattle.truth.specs.Bools.{clash, neither}

-- an answer is not both good and refused
pub good_refused {ℓ} : {A : Type ℓ} (n k p : ℕ) → Good n ≡ Refused k p → A
good_refused n k p e = absurd (let z : ◌≡◌ {A = ℕ} 0 1 = cc in omega arith)

-- a refusal is the answer, whatever would follow
pub stays : (a : Answer) (k : ℕ → Answer) → is_refused a ≡ true → a ≡ (a >>= k)
unfolding is_refused ◌>>=◌
stays (Good n) k e = clash false e refl
stays (Refused n p) k e = refl

-- after a good answer the answer is what follows, asked with its number
pub follows : (a : Answer) (k : ℕ → Answer) → is_refused a ≡ false → k (value_of a) ≡ (a >>= k)
unfolding is_refused value_of ◌>>=◌
follows (Good n) k e = refl
follows (Refused n p) k e = clash true refl e

pub bind_good : (a : Answer) (k : ℕ → Answer) (n : ℕ) → a ≡ Good n → (a >>= k) ≡ k n
unfolding ◌>>=◌
bind_good a k n e = rw e

pub bind_refused : (a : Answer) (k : ℕ → Answer) (n p : ℕ) → a ≡ Refused n p → (a >>= k) ≡ Refused n p
unfolding ◌>>=◌
bind_refused a k n p e = rw e

-- where nothing follows; where what follows has two parts; and where what follows is replaced by something equal
pub bind_unit : (a : Answer) → (a >>= λ n. Good n) ≡ a
unfolding ◌>>=◌
bind_unit (Good n) = refl
bind_unit (Refused n p) = refl

pub bind_assoc : (a : Answer) (j k : ℕ → Answer) → (a >>= j >>= k) ≡ (a >>= λ n. j n >>= k)
unfolding ◌>>=◌
bind_assoc (Good n) j k = refl
bind_assoc (Refused n p) j k = refl

pub bind_cong : (a : Answer) (j k : ℕ → Answer) → ((n : ℕ) → j n ≡ k n) → (a >>= j) ≡ (a >>= k)
bind_cong a j k e = λ i. a >>= λ n. e n i

-- a row that is met, and one that is not
pub refuse_met : (b : Bool) (n p : ℕ) (k : ℕ → Answer) → b ≡ true → (refuse b n p >>= k) ≡ Refused n p
unfolding ◌>>=◌ refuse
refuse_met b n p k e = rw e

pub refuse_unmet : (b : Bool) (n p : ℕ) (k : ℕ → Answer) → b ≡ false → (refuse b n p >>= k) ≡ k 0
unfolding ◌>>=◌ refuse
refuse_unmet b n p k e = rw e

-- a good answer says that its first row was not met, and that what follows is good
pub passed : (b : Bool) (n p m : ℕ) (k : ℕ → Answer) → (refuse b n p >>= k) ≡ Good m → (b ≡ false) × (k 0 ≡ Good m)
unfolding ◌>>=◌ refuse
passed true n p m k e = good_refused m n p (sym e)
passed false n p m k e = (refl, e)

-- a good answer's first part is good
pub parted : (a : Answer) (m : ℕ) (k : ℕ → Answer) → (a >>= k) ≡ Good m → (n : ℕ) × (a ≡ Good n) × (k n ≡ Good m)
unfolding ◌>>=◌
parted (Good n) m k e = (n, refl, e)
parted (Refused n p) m k e = good_refused m n p (sym e)

-- success is no refusal
pub refused_good : (m : ℕ) → is_refused (Good m) ≡ false
unfolding is_refused
refused_good m = refl

-- a refusal leaves lent bytes as they were, by what the call returned
pub refused_kept : (a r : Answer) (new old : List ℕ) → r ≡ a → is_refused r ≡ true → old ≡ kept a new old
unfolding kept is_refused
refused_kept a (Good n) new old e f = clash false f refl
refused_kept a (Refused n p) new old e f = rw (← e)

-- lent bytes that stay as they were on success stay so in any case
pub kept_same : (a : Answer) (new old : List ℕ) → new ≡ old → kept a new old ≡ old
unfolding kept
kept_same (Good n) new old e = e
kept_same (Refused n p) new old e = refl

-- four counts, none of them over its limit
pub none_over : (a b c d k l m n : ℕ) → (ltb k a || ltb l b || ltb m c || ltb n d) ≡ false → (a ≤ k) × (b ≤ l) × (c ≤ m) × (d ≤ n)
none_over a b c d k l m n e =
    let x = neither _ _ e in
    let y = neither _ _ x.0 in
    let z = neither _ _ y.0 in
    (ltb-false k a z.0, ltb-false l b z.1, ltb-false m c y.1, ltb-false n d x.1)
