-- What joins learning to running: a model that needs all that another needs, and does the same wherever its own needs are met.
use Rattle.std.specs.Prelude.{ℕ, ◌≡◌, Bool, true, false, ◌&&◌, ◌||◌, not}
use Rattle.model.specs.Domain.{Domain}
use Rattle.model.specs.Model.{Model}

-- what the action makes of an atom that has the value b
unfoldable pub value : Model → ℕ → ℕ → Bool → Bool
value M a n b = M.effect true a n || (b && not (M.effect false a n))

-- `alike` is asked only of a value b that the needs of L allow
pub record Stricter (D : Domain) (L M : Model) : Type 0 where
  pub needs : (b : Bool) (a n : ℕ) → M.precondition b a n ≡ true → L.precondition b a n ≡ true
  pub alike : (b : Bool) (a n : ℕ) → D.atom a n ≡ true → L.precondition (not b) a n ≡ false → value M a n b ≡ value L a n b
