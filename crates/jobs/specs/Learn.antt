-- Learning: rows 11 to 13, row 28 among them, the rule sheet, and what the lent sheet holds afterwards.
use Rattle.std.specs.Prelude.{ℕ, zero, suc, ◌*◌, not, List, [], ◌++◌, length, eqb}
use Rattle.answer.specs.Answer.{Answer, Good, Refused, ◌>>=◌, refuse, first_refused, kept}
use Rattle.limits.specs.Limits.{set_size, rule_size}
use Rattle.mask.specs.Sets.{mask_of}
use Rattle.terms.specs.Schema.{Schema}
use Rattle.format.specs.Form.{Form}
use Rattle.format.specs.Decode.{RecordedStep}
use Rattle.format.specs.LookOver.{look_over}
use Rattle.quantify.specs.Quantify.{least}
use Rattle.model.specs.Domain.{Transition}
use Rattle.model.specs.Model.{Model}
use Rattle.model.specs.Learned.{Rules, learned_rules, learned, unbound_effect, conflicting}
use Rattle.model.specs.Check.{refuted}
use Rattle.jobs.specs.Planning.{domain, transition, failed, went_steps, failed_steps, schema_of, steps_of_book, transitions_of}

-- row 11: the first step that went and changed a fact that is no bound fact of it
unfoldable pub unbound_effects : Schema → List RecordedStep → Answer
unbound_effects sch xs = first_refused (λ x. unbound_effect (domain sch) (transition sch x)) 11 (λ x. x.place) (went_steps xs)

-- row 12: the smallest move with a bound fact changed to one value and left with the other
unfoldable pub conflict_answer : ℕ → Answer
conflict_answer zero = Good 0
conflict_answer (suc a) = Refused 12 (suc a)

unfoldable pub conflicting_move : Schema → List Transition → Answer
conflicting_move sch ts = conflict_answer (least sch.moves (conflicting (domain sch) ts))

-- rows 11 and 12: the steps of the book that went are inconsistent
unfoldable pub inconsistency : Form → List ℕ → Answer
inconsistency form s = do
  _ ← unbound_effects (schema_of s) (steps_of_book form s)
  conflicting_move (schema_of s) (transitions_of form s)

-- the four sets of one move, its block of 128 bytes on the sheet
unfoldable pub rule_block : Rules → ℕ → List ℕ
rule_block R a = mask_of set_size (R.needed a) ++ mask_of set_size (R.needed_not a) ++ mask_of set_size (R.added a) ++ mask_of set_size (R.removed a)

-- the blocks of a number of moves, from move a on
unfoldable pub rule_blocks : Rules → ℕ → ℕ → List ℕ
rule_blocks R zero a = []
rule_blocks R (suc n) a = rule_block R a ++ rule_blocks R n (suc a)

-- the rules that are learned from a book, and the model that they are
unfoldable pub rules_from : Form → List ℕ → Rules
rules_from form s = learned_rules (domain (schema_of s)) (transitions_of form s)

unfoldable pub learned_from : Form → List ℕ → Model
learned_from form s = learned (domain (schema_of s)) (transitions_of form s)

-- row 28: the first step that did not go though all preconditions of a model are met
unfoldable pub refuted_steps : Schema → Model → List RecordedStep → Answer
refuted_steps sch M xs = first_refused (λ x. refuted (domain sch) M (failed sch x)) 28 (λ x. x.place) (failed_steps xs)

-- of the book, by the model that is learned from all of it
unfoldable pub refutation : Form → List ℕ → Answer
refutation form s = refuted_steps (schema_of s) (learned_from form s) (steps_of_book form s)

-- rows 1 to 12 and 28; success is the count of all steps
unfoldable pub learnable : Form → List ℕ → Answer
learnable form s = do
  total ← look_over form s
  _ ← inconsistency form s
  _ ← refutation form s
  Good total

unfoldable pub rule_sheet : Form → List ℕ → List ℕ
rule_sheet form s = rule_blocks (rules_from form s) (schema_of s).moves 1

-- rows 1 to 13, for a lent sheet of `size` bytes; success is the count of all steps
unfoldable pub learn : Form → List ℕ → ℕ → Answer
learn form s size = do
  total ← learnable form s
  _ ← refuse (not (eqb size (rule_size * (schema_of s).moves))) 13 0
  Good total

unfoldable pub learn_bytes : Form → List ℕ → List ℕ → List ℕ
learn_bytes form s sheet = kept (learn form s (length sheet)) (rule_sheet form s) sheet
