-- `grounding::asked_word` meets its contract: none of the relation's bound facts is asked for, or those that are and hold.
use Rattle.grounding.proofs.Held.{asked_none, asked_some}
use Rattle.grounding.proofs.asked_word.Goals as goal

pub returns-then-asked-eq0 : goal.returns-then-asked-eq0
returns-then-asked-eq0 c = asked_none _ _ _ _ c.requires.3 _ _ c.word_at-asked.ensures.0 c.if-asked-eq0.true

pub returns : goal.returns
returns c = asked_some _ _ _ _ c.requires.3 _ _ _ c.word_at-asked.ensures.0 c.held_word.ensures
