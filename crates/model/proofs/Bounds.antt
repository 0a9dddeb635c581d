-- The learned model as a bound of all that fit: of their preconditions it has every one that some has,
-- of their effects just those that each has.
use Prim.Native.Nat.{ℕ}
use mathlib.Core.Path.{◌≡◌}
use mathlib.Core.Logic.{◌↔◌}
use mathlib.Core.Bool.{Bool, true, false, not}
use mathlib.Core.List.{List}
use Rattle.model.specs.Domain.{Domain, Transition, Failed}
use Rattle.model.specs.Model.{Model, Fitting}
use Rattle.model.specs.Learned.{learned}
use Rattle.model.specs.Check.{unfit}
use Rattle.model.specs.Formed.{Formed}
use Rattle.model.proofs.Seen.{turned_out, effect_out}
use Rattle.model.proofs.Stricter.{explains, forced}
use Rattle.model.proofs.Failed.{strict, own}

module _ (D : Domain) (ts : List Transition) (us : List Failed) (formed : Formed D ts) (fit : unfit D ts us ≡ false) (b : Bool) (a n : ℕ) where
  -- A precondition is learned exactly if some model that fits has it.
  pub precondition_iff_some : ((learned D ts).precondition b a n ≡ true) ↔ ((M : Model) × Fitting D ts us M × (M.precondition b a n ≡ true))
  precondition_iff_some =
      (λ e. (learned D ts, own D ts us formed fit, e), λ (M, h, e). (strict D ts us formed M h).needs b a n e)

  -- An effect is learned exactly if every model that fits has it.
  pub effect_iff_every : ((learned D ts).effect b a n ≡ true) ↔ ((M : Model) → Fitting D ts us M → M.effect b a n ≡ true)
  effect_iff_every = (
    λ e M h.
        let (atom, turns) = effect_out D ts b a n e in
        forced M a n b ((explains D ts formed M h.consistent).made a n atom (not b) b (turned_out ts a n b turns)),
    λ every. every (learned D ts) (own D ts us formed fit),
  )
