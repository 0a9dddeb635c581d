-- `lines::Text::put_number` meets its contract: a space stands after the digits.
use Rattle.std.proofs.Common.{arith, length-append}
use Rattle.lines.proofs.Decimal.{decimal_few}
use Rattle.lines.proofs.text.Text.put_number.Goals as goal

pub returns-clause-upper_bound : goal.returns-clause-upper_bound
returns-clause-upper_bound g c =
    let short = decimal_few 2 c.args.n (omega arith) in
    rw (c.put.ensures, c.put_decimal.ensures.text) (simp length-append (omega arith))
