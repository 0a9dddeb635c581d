-- `write_two` meets its contract: the last two bytes of the number.
use Rattle.output.proofs.Two.{last_two}
use Rattle.output.proofs.write_two.Goals as goal

pub returns : goal.returns
returns c = rw (c.to_be_bytes.ensures, last_two) at c.write_bytes.ensures
