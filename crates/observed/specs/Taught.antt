-- What is observed after all steps gives the sheet, row 11 and row 12 that learning is defined by, and with the steps themselves row 28.
use Rattle.std.specs.Prelude.{◌≡◌, not, List, map, length}
use Rattle.limits.specs.Limits.{observed_size}
use Rattle.mask.specs.Bits.{Bytes}
use Rattle.terms.specs.Schema.{Schema}
use Rattle.format.specs.Decode.{RecordedStep}
use Rattle.quantify.specs.Quantify.{any}
use Rattle.model.specs.Learned.{learned_rules, learned}
use Rattle.jobs.specs.Planning.{domain, transition, went_steps}
use Rattle.jobs.specs.Learn.{unbound_effects, conflicting_move, refuted_steps, rule_blocks}
use Rattle.observed.specs.Observed.{Observed}
use Rattle.observed.specs.Rules.{sheet_observed, unbound_answer, conflict_among, refuted_observed}

-- `seen` is what is observed after the steps `xs`
pub record Taught (sch : Schema) (xs : List RecordedStep) (seen : Observed) : Type 0 where
  pub sized : length seen.masks ≡ observed_size
  pub bytes : Bytes seen.masks
  pub row11 : unbound_answer seen.named ≡ unbound_effects sch xs
  pub row12 : conflict_among seen.masks sch.moves ≡ conflicting_move sch (map (transition sch) (went_steps xs))
  pub sheet : sheet_observed seen.masks sch.moves 1 ≡ rule_blocks (learned_rules (domain sch) (map (transition sch) (went_steps xs))) sch.moves 1
  pub failed : seen.failed ≡ any (λ x. not x.went) xs
  pub row28 : refuted_observed seen.masks xs ≡ refuted_steps sch (learned (domain sch) (map (transition sch) (went_steps xs))) xs
