-- `factgroups::word_at` meets its contract: each of the two elements is a byte.
use Rattle.std.proofs.Common.{◌≡◌, ◌+◌, ◌*◌, ◌∙◌, get_or, rules}
use Rattle.factgroups.proofs.Words.{word_number}
use Rattle.factgroups.proofs.word_at.Goals as goal

pub returns : goal.returns
returns c = let m = c.args.m.now in
    let at = c.args.at in
    let word : c.from_le_bytes.result ≡ get_or m at 0 + 256 * get_or m (at + 1) 0 = search rules in
    let byte = c.type_inv.m in
    (word ∙ word_number m at (byte at).fits (byte (at + 1)).fits, λ i. (byte i).fits)
