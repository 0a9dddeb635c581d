-- The small hall with its bytes taken away: the marked cases that concern learning and plans, computed.
-- A bank rolls between spots 2, 3 and 4. Facts 0, 1, 2: the bank is at spot 2, 3, 4; facts 3, 4, 5: the spot is clear.
-- Atoms 0 and 1 of action 1, the roll: the bank is at the first, at the second spot; atoms 2 and 3: it is clear. Action 2 has no atom.
use Prim.Native.Nat.{ℕ}
use mathlib.Core.Path.{◌≡◌, refl}
use mathlib.Core.Bool.{Bool, true, false, ◌&&◌}
use mathlib.Core.List.{List, [], ◌∷◌}
use lib.Dec.{eqb, ltb}
use lib.ListN.{get_or}
use Rattle.quantify.specs.Quantify.{same, below, any, later, first}
use Rattle.model.specs.Domain.{Domain, State, GroundAction, Transition, Failed, GoalLiteral}
use Rattle.model.specs.Model.{image, inapplicable, next, run}
use Rattle.model.specs.Judge.{Verdict, impossible, stops, misses, passes, wrong}
use Rattle.model.specs.Learned.{saw, before, after, turned, learned_rules, model_of, learned, unbound_effect, conflicting}
use Rattle.model.specs.Check.{reached, judged_run, checked_by, inconsistent, refuted, unfit, checked}

abbrev typed_objects : Domain
typed_objects = record { atom = λ a n. eqb a 1 && ltb n 4; atoms = 4; facts = 6; actions = 2 }

abbrev state : List ℕ → State
state fs f = any (eqb f) fs

abbrev roll : List ℕ → GroundAction
roll facts = record { action = 1; ground = λ n. get_or facts n 0 }

abbrev roll23 : GroundAction
roll23 = roll (0 ∷ 1 ∷ 3 ∷ 4 ∷ [])

abbrev roll34 : GroundAction
roll34 = roll (1 ∷ 2 ∷ 4 ∷ 5 ∷ [])

abbrev seen : List ℕ → List ℕ → Transition
seen pre post = record { step = roll23; pre = state pre; post = state post }

abbrev recorded_steps : Transition
recorded_steps = seen (0 ∷ 4 ∷ []) (1 ∷ 3 ∷ [])

-- a step that did not go
abbrev failed : GroundAction → List ℕ → Failed
failed s facts = record { step = s; state = state facts }

abbrev action_two : GroundAction
action_two = record { action = 2; ground = λ n. 0 }

abbrev at4 : List GoalLiteral
at4 = record { wanted = true; fact = 2 } ∷ []

-- the facts of the end state, where the plan passes
abbrev ends : Verdict → List Bool
ends impossible = []
ends (stops k) = []
ends (misses i) = []
ends (passes e) = e 0 ∷ e 1 ∷ e 2 ∷ e 3 ∷ e 4 ∷ e 5 ∷ []

-- the check with steps that did not go, and without any
tried_with : List Transition → List Failed → List GroundAction → List ℕ → Verdict
tried_with ts us plan start = checked typed_objects ts us plan (state start) at4

tried : List Transition → List GroundAction → List ℕ → Verdict
tried ts = tried_with ts []

-- M2, M3, M5, M6, M7 and M9; then a stop at step 2, row 12 by a fact that was once removed and once left, row 11 by spot 4,
-- that a fact which held before and after is no effect, and that it is one if another step changed it, which may come first or last
small-hall-right :
    (ends (tried (recorded_steps ∷ []) (roll23 ∷ roll34 ∷ []) (0 ∷ 4 ∷ 5 ∷ [])) ≡ false ∷ false ∷ true ∷ true ∷ true ∷ false ∷ [])
    × (tried (recorded_steps ∷ []) (roll23 ∷ roll34 ∷ []) (0 ∷ 3 ∷ 4 ∷ 5 ∷ []) ≡ stops 1)
    × (tried (recorded_steps ∷ []) [] (0 ∷ 4 ∷ 5 ∷ []) ≡ misses 1)
    × (tried [] (roll23 ∷ []) (0 ∷ 4 ∷ 5 ∷ []) ≡ stops 1)
    × (ends (tried [] (action_two ∷ []) (2 ∷ [])) ≡ false ∷ false ∷ true ∷ false ∷ false ∷ false ∷ [])
    × (tried (recorded_steps ∷ seen (0 ∷ 4 ∷ []) [] ∷ []) [] [] ≡ impossible)
    × (tried (recorded_steps ∷ []) (roll23 ∷ roll23 ∷ []) (0 ∷ 4 ∷ 5 ∷ []) ≡ stops 2)
    × (tried (recorded_steps ∷ seen (0 ∷ 4 ∷ []) (0 ∷ 1 ∷ 3 ∷ []) ∷ []) [] [] ≡ impossible)
    × (tried (seen (0 ∷ 4 ∷ []) (1 ∷ 3 ∷ 5 ∷ []) ∷ []) [] [] ≡ impossible)
    × ((learned typed_objects (seen (0 ∷ 3 ∷ 4 ∷ []) (1 ∷ 3 ∷ []) ∷ [])).effect true 1 2 ≡ false)
    × ((learned typed_objects (recorded_steps ∷ seen (0 ∷ 3 ∷ 4 ∷ []) (1 ∷ 3 ∷ []) ∷ [])).effect true 1 2 ≡ true)
    × ((learned typed_objects (seen (0 ∷ 3 ∷ 4 ∷ []) (1 ∷ 3 ∷ []) ∷ recorded_steps ∷ [])).effect true 1 2 ≡ true)
unfolding tried tried_with same below any later first image inapplicable next run wrong saw before after turned learned_rules model_of learned unbound_effect conflicting reached judged_run checked_by inconsistent refuted unfit checked
small-hall-right = (refl, refl, refl, refl, refl, refl, refl, refl, refl, refl, refl, refl)

-- M2 with a step besides that did not go, and how M2 ends
with_failed : Failed → Verdict
with_failed u = tried_with (recorded_steps ∷ []) (u ∷ []) (roll23 ∷ roll34 ∷ []) (0 ∷ 4 ∷ 5 ∷ [])

abbrev end_of_m2 : List Bool
end_of_m2 = false ∷ false ∷ true ∷ true ∷ true ∷ false ∷ []

-- Steps that did not go. The recorded roll needs the bank at the first spot and not at the second, the second spot clear and the first not.
-- A roll with one of these needs unmet, each in turn (two to hold, two not to hold): as without it.
-- All needs met, at the same spots, at others, or behind a step with a need unmet: impossible.
-- An action of no atoms, else recorded or not: impossible, since no model can bar it.
-- Rolls where no roll is recorded: not impossible, whatever held; and a roll in the plan stops as one never recorded.
failed-steps-right :
    (ends (with_failed (failed roll23 (4 ∷ []))) ≡ end_of_m2)
    × (ends (with_failed (failed roll23 (0 ∷ []))) ≡ end_of_m2)
    × (ends (with_failed (failed roll23 (0 ∷ 1 ∷ 4 ∷ []))) ≡ end_of_m2)
    × (ends (with_failed (failed roll23 (0 ∷ 3 ∷ 4 ∷ []))) ≡ end_of_m2)
    × (with_failed (failed roll23 (0 ∷ 4 ∷ [])) ≡ impossible)
    × (with_failed (failed roll34 (1 ∷ 5 ∷ [])) ≡ impossible)
    × (tried_with (recorded_steps ∷ []) (failed roll23 (0 ∷ []) ∷ failed roll23 (0 ∷ 4 ∷ []) ∷ []) [] [] ≡ impossible)
    × (with_failed (failed action_two []) ≡ impossible)
    × (tried_with (record { step = action_two; pre = state []; post = state [] } ∷ []) (failed action_two (0 ∷ 4 ∷ []) ∷ []) [] [] ≡ impossible)
    × (ends (tried_with [] (failed roll23 (0 ∷ 4 ∷ []) ∷ failed roll34 [] ∷ []) [] (2 ∷ [])) ≡ false ∷ false ∷ true ∷ false ∷ false ∷ false ∷ [])
    × (tried_with [] (failed roll23 (0 ∷ 4 ∷ []) ∷ []) (roll23 ∷ []) (0 ∷ 4 ∷ 5 ∷ []) ≡ stops 1)
unfolding with_failed tried_with same below any later first image inapplicable next run wrong saw before after turned learned_rules model_of learned unbound_effect conflicting reached judged_run checked_by inconsistent refuted unfit checked
failed-steps-right = (refl, refl, refl, refl, refl, refl, refl, refl, refl, refl, refl)
