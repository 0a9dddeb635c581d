-- `listing::rules_listing` meets its contract: the answer's listing, and the answer is that of rows 1 to 12.
use Rattle.std.proofs.Common.{arith, ap, ◌∙◌}
use Rattle.std.proofs.lemmas.Grind.{common_steps}
use Rattle.answer.specs.Refusal.{answer_of}
use Rattle.jobs.specs.Listing.{rules_lines}
use Rattle.listing.proofs.Printed.{learned_by, printed_by}
use Rattle.listing.proofs.rules_listing.Goals as goal

pub invariant_of-learned : goal.invariant_of-learned
invariant_of-learned c = record { is = learned_by _ _ _ _ _ _ c.read-h.ensures c.learn.ensures (ap answer_of c.in-Ok.is) }

pub returns-in-Ok : goal.returns-in-Ok
returns-in-Ok c = printed_by _ _ _ _ _ _ _ c.read-h.ensures (λ few. grind (arith, common_steps)) c.learn.ensures (ap answer_of c.in-Ok.is) c.put_lines.ensures

pub returns-in-Err : goal.returns-in-Err
unfolding rules_lines
returns-in-Err c = printed_by _ _ _ _ _ _ _ c.read-h.ensures (λ few. grind (arith, common_steps)) c.learn.ensures (ap answer_of c.in-Err.is) (c.refused_line.ensures ∙ rw (c.clear.ensures, c.number.ensures))
