-- The judge's verdict depends on which models he holds and on what the plan comes to under each of these.
use mathlib.Core.Path.{◌≡◌, sym, ◌∙◌}
use mathlib.Core.Logic.{◌↔◌}
use mathlib.Core.List.{List}
use Rattle.model.specs.Domain.{Domain, State, GroundAction, GoalLiteral}
use Rattle.model.specs.Model.{Model, run}
use Rattle.model.specs.Judge.{Verdict, impossible, stops, misses, passes, Judged}

module _ (D : Domain) (plan plan' : List GroundAction) (st : State) (goal : List GoalLiteral) where
  -- the same models, and the same runs: his verdict on the one plan is his verdict on the other
  pub judged_over : (P Q : Model → Type 0) → ((M : Model) → P M ↔ Q M) → ((M : Model) → P M → run D M plan st 1 ≡ run D M plan' st 1)
      → (v : Verdict) → Judged D P plan st goal v → Judged D Q plan' st goal v
  judged_over P Q held same impossible h = λ M q. h M ((held M).1 q)
  judged_over P Q held same (stops k) (some, all) =
      let (M, p, e) = some in
      ((M, (held M).0 p, sym (same M p) ∙ e), λ M q j e. let p = (held M).1 q in all M p j (same M p ∙ e))
  judged_over P Q held same (misses i) (none, some, all) =
      let (M, p, miss) = some in (
        λ M q j e. let p = (held M).1 q in none M p j (same M p ∙ e),
        (M, (held M).0 p, (miss.0, sym (same M p) ∙ miss.1, miss.2)),
        λ M q j miss. let p = (held M).1 q in all M p j (miss.0, same M p ∙ miss.1, miss.2),
      )
  judged_over P Q held same (passes end) (some, all, none) = (
    (some.0, (held some.0).0 some.1, some.2),
    λ M q. let p = (held M).1 q in sym (same M p) ∙ all M p,
    λ M q j miss. let p = (held M).1 q in none M p j (miss.0, same M p ∙ miss.1, miss.2),
  )
