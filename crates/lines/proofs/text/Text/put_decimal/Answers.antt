-- `lines::Text::put_decimal` meets its contract: the digits are those of the listing.
use Rattle.std.proofs.Common.{◌<◌, ◌^◌, arith}
use Rattle.lines.proofs.Decimal.{decimal_spelt}
use Rattle.lines.proofs.text.Text.put_decimal.Goals as goal

pub returns-clause-text : goal.returns-clause-text
returns-clause-text g c = let d = c.decimal-count.ensures in
    let n : c.args.n < 2 ^ 64 = omega arith in
    rw (c.put.ensures, d.digits, decimal_spelt _ _ n d.len)
