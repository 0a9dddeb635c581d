-- What the code answers, in the words of the definitions: a result as an answer, and the paper's number of each reason.
use Rattle.std.specs.Prelude.{ℕ, Result, Ok, Err}
use Rattle.answer.specs.Answer.{Answer, Good, Refused, Positioned}
use Rattle.answer.specs.declared.Reason.{Reason}
use Rattle.answer.specs.declared.Reason.TheVariants.{BookLength, BookCounts, BookOffsets, Parent, Relation, Move, Record, NoSteps, Object, State, Step, Repeated, FailedChange, Unbound, Conflict, FailedMet, TooLong, Room, OrderHeader, Starts, OrderObject, Start, GoalEntry, PlanStep, Inapplicable, GoalMissed}
use Rattle.answer.specs.declared.Refusal.{Refusal}
use Rattle.answer.specs.declared.CheckRefusal.{CheckRefusal}
use Rattle.answer.specs.declared.CheckRefusal.TheVariants.{BeforeStarts, AtStart}

-- the number of a reason in the refusal table
abbrev pub number_of : Reason → ℕ
number_of BookLength = 1
number_of BookCounts = 2
number_of BookOffsets = 3
number_of Parent = 21
number_of Relation = 4
number_of Move = 5
number_of Record = 6
number_of NoSteps = 24
number_of Object = 7
number_of State = 8
number_of Step = 9
number_of Repeated = 10
number_of FailedChange = 27
number_of Unbound = 11
number_of Conflict = 12
number_of FailedMet = 28
number_of TooLong = 23
number_of Room = 13
number_of OrderHeader = 14
number_of Starts = 22
number_of OrderObject = 15
number_of Start = 16
number_of GoalEntry = 17
number_of PlanStep = 18
number_of Inapplicable = 19
number_of GoalMissed = 20

-- a refusal as an answer, and a result as an answer
abbrev pub refused_by : Refusal → Answer
refused_by r = Refused (number_of r.reason) r.place

abbrev pub answer_of : Result ℕ Refusal → Answer
answer_of (Ok n) = Good n
answer_of (Err r) = refused_by r

-- a result as an answer, by the number that a good one comes to
abbrev pub answer_by : {A : Type 0} → (A → ℕ) → Result A Refusal → Answer
answer_by f (Ok a) = Good (f a)
answer_by f (Err r) = refused_by r

-- a row of the refusal table, as `refuse`: no number comes of one that is not met
abbrev pub row_of : {A : Type 0} → Result A Refusal → Answer
row_of (Ok a) = Good 0
row_of (Err r) = refused_by r

-- what a check comes to, as an answer with its position
abbrev pub positioned_of : Result ℕ CheckRefusal → Positioned
positioned_of (Ok n) = record { answer = Good n; position = 0 }
positioned_of (Err (BeforeStarts r)) = record { answer = refused_by r; position = 0 }
positioned_of (Err (AtStart k r)) = record { answer = refused_by r; position = k }
