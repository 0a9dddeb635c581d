-- Parts of a sequence and turns of a loop, over answers: what holds of the whole, by what the calls in the code return of a part.
use Prim.Native.Nat.{ℕ, ◌-◌, ◌≤◌, ◌<◌}
use mathlib.Core.Path.{◌≡◌, refl, sym, ◌∙◌}
use mathlib.Core.Bool.{Bool, true, false}
use Rattle.answer.specs.Answer.{Answer, Good, Refused, ◌>>=◌, is_refused, value_of}
use Rattle.truth.specs.Bools.{clash}
use Rattle.answer.proofs.Laws.{stays, follows}
use Rattle.answer.specs.Walk.{walk}
use Rattle.answer.proofs.Walks.{walk_none, walk_refused, walk_good, walk_induction}

-- an answer that is not refused is good
pub is_good : (a : Answer) → is_refused a ≡ false → a ≡ Good (value_of a)
unfolding is_refused value_of
is_good (Good n) e = refl
is_good (Refused n p) e = clash true refl e

-- a part of a sequence, by what the calls in the code return of it
module _ (x : Answer) (k : ℕ → Answer) (a : Answer) (b : Bool) where
  pub part_stays : a ≡ x → b ≡ is_refused a → b ≡ true → a ≡ (x >>= k)
  part_stays p q r = rw (← p) (stays a k (sym q ∙ r))

  pub part_follows : (v : ℕ) → a ≡ x → b ≡ is_refused a → b ≡ false → v ≡ value_of a → k v ≡ (x >>= k)
  part_follows v p q r t = rw (← p, t) (follows a k (sym q ∙ r))

-- the same, where what follows does not ask for the part's value
pub part_then : (x y a : Answer) (b : Bool) → a ≡ x → b ≡ is_refused a → b ≡ false → y ≡ (x >>= λ _. y)
part_then x y a b p q r = part_follows x (λ _. y) a b _ p q r refl

-- a turn of a loop that walks: what is left of the walk answers as the whole, by what the item's call returned
module _ (item : ℕ → Answer) (whole : Answer) where
  pub turn_none : (n at : ℕ) → walk item n at ≡ whole → n ≡ 0 → Good at ≡ whole
  turn_none n at i e = sym (walk_none item n at e) ∙ i

  pub turn_refused : (n at k p : ℕ) (a : Answer) → walk item n at ≡ whole → 0 < n → a ≡ item at → a ≡ Refused k p → Refused k p ≡ whole
  turn_refused n at k p a i h e f = sym (walk_refused item n at k p h (sym e ∙ f)) ∙ i

  pub turn_good : (n at next : ℕ) (a : Answer)
      → walk item n at ≡ whole
      → 0 < n
      → a ≡ item at
      → a ≡ Good next
      → walk item (n - 1) next ≡ whole
  turn_good n at next a i h e f = sym (walk_good item n at next h (sym e ∙ f)) ∙ i

-- where a walk ends, if its items end there
pub walk_within : (item : ℕ → Answer) (end : ℕ)
    → ((at next : ℕ) → item at ≡ Good next → next ≤ end)
    → (n at next : ℕ)
    → at ≤ end
    → walk item n at ≡ Good next
    → next ≤ end
walk_within item end f n at next h e =
    walk_induction item (λ n at last. at ≤ end → last ≤ end) (λ at h. h) (λ n at next last good rest h. rest (f at next good)) n at next e h
