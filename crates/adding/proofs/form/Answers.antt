-- `form` meets its contract: the four writes one after the other are the new book.
use Rattle.adding.proofs.Formed.{form_by}
use Rattle.adding.proofs.form.Goals as goal

pub returns : goal.returns
returns c = form_by _ _ c.requires.0 _ _ _ _ _ _ c.requires.1 c.two_at-count.ensures c.write_bytes.ensures c.write_bytes-2.ensures c.write_two.ensures c.write_two-2.ensures
