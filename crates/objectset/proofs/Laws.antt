-- Laws of sets of objects and of tables of them: an object put into a set, and what stands at an index of a table.
use Prim.Native.Nat.{ℕ, suc, ◌+◌, ◌/◌, ◌^◌, ◌%◌, ◌<◌, ◌≤◌}
use mathlib.Core.Path.{◌≡◌, refl, sym, ap, ap₂, ◌∙◌}
use mathlib.Core.Bool.{Bool, true, false, ◌&&◌, ◌||◌, and-true, and-false, and_assoc}
use mathlib.Core.List.{List}
use native.Mathlib.Decide.{ℕ_discrete}
use native.Mathlib.Numerals.{add-one}
use native.Mathlib.Omega.{arith}
use borrow.Author.Tests.{ltb-true, ltb-false, ne_eqb}
use lib.Bits.{bit_and, bit_or}
use lib.Dec.{eqb, ltb}
use lib.ListN.{length, length-set, get_or, drop, drop_of_length-le}
use lib.Seq.{drop-cons, get_or-set_same, get_or-set_other}
use Rattle.std.specs.List.{list_all}
use Rattle.mask.specs.Bits.{bit_of}
use Rattle.mask.specs.Sets.{empty}
use Rattle.mask.proofs.Numbers.{bit_and_lem, bit_or_lem, bit_zero, bit_power, bit_none}
use Rattle.mask.proofs.Bytes.{zeros}
use Rattle.objectset.specs.declared.Asked.{Asked}
use Rattle.objectset.specs.Sets.{member, is_in, entry, put, stored}

-- ---- sets
pub member_none : (x : ℕ) → member 0 x ≡ false
unfolding member
member_none x = rw (bit_none (x % 32)) (and-false (ltb x 32))

member_with : (m n x : ℕ) (b : Bool) → ltb x 32 ≡ b → n < 32
    → (b && bit_of (bit_or m (2 ^ n)) (x % 32)) ≡ (b && bit_of m (x % 32) || eqb n x)
member_with m n x true e l =
    let h : x < 32 = ltb-true x 32 e in
    let i : x % 32 ≡ x = omega arith in
    bit_or_lem m (2 ^ n) (x % 32) ∙ ap (λ (t : Bool). bit_of m (x % 32) || t) (bit_power n (x % 32) ∙ ap (eqb n) i)
member_with m n x false e l =
    let h : 32 ≤ x = ltb-false x 32 e in
    sym (ne_eqb n x (λ (i : n ≡ x). omega arith))

pub member_put : (m n x : ℕ) → n < 32 → member (bit_or m (2 ^ n)) x ≡ (member m x || eqb n x)
unfolding member
member_put m n x l = member_with m n x (ltb x 32) refl l

one_at : (x : ℕ) (b : Bool) → ltb x 32 ≡ b → (x ≡ 0 → ⊥) → (b && bit_of 1 (x % 32)) ≡ false
one_at x true e d =
    let h : x < 32 = ltb-true x 32 e in
    bit_power 0 (x % 32) ∙ ne_eqb 0 (x % 32) (λ (i : 0 ≡ x % 32). d (omega arith))
one_at x false e d = refl

-- an unused place has object 0 alone
pub member_one : (x : ℕ) → member 1 x ≡ eqb x 0
unfolding member
member_one x = by (ℕ_discrete x 0)
  where
    by : Dec (x ≡ 0) → (ltb x 32 && bit_of 1 (x % 32)) ≡ eqb x 0
    by (yes e) = rw e (bit_power 0 0)
    by (no d) = one_at x (ltb x 32) refl d ∙ sym (ne_eqb x 0 d)

swapped : (s t u v : Bool) → ((s && t) && (u && v)) ≡ ((s && u) && (t && v))
swapped true true u v = refl
swapped true false u v = sym (and-false u)
swapped false t u v = refl

low_and : (p q : ℕ) → eqb (bit_and p q % 2) 1 ≡ (eqb (p % 2) 1 && eqb (q % 2) 1)
low_and p q = sym (bit_zero (bit_and p q)) ∙ bit_and_lem p q 0 ∙ ap₂ ◌&&◌ (bit_zero p) (bit_zero q)

-- two lowest bits, each under a condition, are tested as one
lowest_two : (p q : ℕ) (s t : Bool) → ((s && t) && eqb (bit_and p q % 2) 1) ≡ ((s && eqb (p % 2) 1) && (t && eqb (q % 2) 1))
lowest_two p q s t = ap (λ (b : Bool). (s && t) && b) (low_and p q) ∙ swapped s t (eqb (p % 2) 1) (eqb (q % 2) 1)

-- Where a loop stands that asks all the questions: those before i have their answers in `known` and in the lowest bit.
unfoldable pub Asking : List Asked → ℕ → Bool → ℕ → Type 0
Asking xs i known bits = ((known && eqb (bits % 2) 1) && list_all is_in (drop i xs)) ≡ list_all is_in xs

pub asking_next : (xs : List Asked) (i : ℕ) (d : Asked) (known : Bool) (bits : ℕ) → i < length xs → Asking xs i known bits
    → (let a : Asked = get_or xs i d in Asking xs (i + 1) (known && ltb a.object 32) (bit_and bits (a.set / 2 ^ (a.object % 32))))
unfolding Asking is_in member bit_of
asking_next xs i d known bits h is =
    let a : Asked = get_or xs i d in
    let q : ℕ = a.set / 2 ^ (a.object % 32) in
    rw (add-one, lowest_two bits q known (ltb a.object 32), and_assoc (known && eqb (bits % 2) 1) (ltb a.object 32 && eqb (q % 2) 1) (list_all is_in (drop (suc i) xs)))
    (rw (drop-cons xs i d h) at is)

pub asking_last : (xs : List Asked) (i : ℕ) (known : Bool) (bits : ℕ) → length xs ≤ i → Asking xs i known bits → (known && eqb (bits % 2) 1) ≡ list_all is_in xs
unfolding Asking
asking_last xs i known bits h is = sym (and-true (known && eqb (bits % 2) 1)) ∙ (rw (drop_of_length-le xs h) at is)

-- ---- tables
pub put_same : (t : List ℕ) (i x : ℕ) → i < length t → entry (put t i x) i ≡ bit_or (entry t i) (2 ^ x)
unfolding put entry
put_same t i x h = get_or-set_same t i _ 0 h

pub put_other : (t : List ℕ) (i x k : ℕ) → (i ≡ k → ⊥) → entry (put t i x) k ≡ entry t k
unfolding put entry
put_other t i x k d = get_or-set_other t i k _ 0 (λ (e : k ≡ i). d (sym e))

pub length_put : (t : List ℕ) (i x : ℕ) → length (put t i x) ≡ length t
unfolding put
length_put t i x = length-set t i _

pub entry_empty : (n i : ℕ) → entry (empty n) i ≡ 0
unfolding entry empty
entry_empty n i = zeros n i

pub stored_same : (t : List ℕ) (i m : ℕ) → i < length t → entry (stored t i m) i ≡ m
unfolding stored entry
stored_same t i m h = get_or-set_same t i m 0 h

pub stored_other : (t : List ℕ) (i m k : ℕ) → (i ≡ k → ⊥) → entry (stored t i m) k ≡ entry t k
unfolding stored entry
stored_other t i m k d = get_or-set_other t i k m 0 (λ (e : k ≡ i). d (sym e))

pub length_stored : (t : List ℕ) (i m : ℕ) → length (stored t i m) ≡ length t
unfolding stored
length_stored t i m = length-set t i m
