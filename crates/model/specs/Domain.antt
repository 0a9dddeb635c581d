-- Domains, states and transitions over numbered actions, lifted atoms and facts. Nothing here knows bytes or kinds.
use Rattle.std.specs.Prelude.{ℕ, Bool}

-- Which numbers are the lifted atoms (the paper's bound facts) of an action, and how far each sort is counted:
-- atoms and facts from 0, actions from 1. The bounds are data, so that nothing is proved for one size alone.
pub record Domain : Type 0 where
  pub atom : ℕ → ℕ → Bool
  pub atoms : ℕ
  pub facts : ℕ
  pub actions : ℕ

-- a state: which facts (ground atoms) hold
abbrev pub State : Type 0
State = ℕ → Bool

-- a ground action (the paper's step): an action, and the fact that each of its lifted atoms becomes under the binding
pub record GroundAction : Type 0 where
  pub action : ℕ
  pub ground : ℕ → ℕ

-- a step with the states before and after it
pub record Transition : Type 0 where
  pub step : GroundAction
  pub pre : State
  pub post : State

-- a step that did not go, and the state in which it was tried: a failed execution
pub record Failed : Type 0 where
  pub step : GroundAction
  pub state : State

-- a goal literal: a fact and the value wanted of it
pub record GoalLiteral : Type 0 where
  pub wanted : Bool
  pub fact : ℕ
