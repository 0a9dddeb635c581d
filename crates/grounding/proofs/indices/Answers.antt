-- `grounding::indices` meets its contract: four numbers, one for each object.
use Rattle.std.proofs.Common.{◌≡◌, ◌-◌, get_or, rules}
use Rattle.grounding.proofs.Objects.{indices_by}
use Rattle.grounding.proofs.indices.Goals as goal

pub returns : goal.returns
returns c = let m = c.map.ensures.items in
    let x = c.map.result in
    let o = c.args.b.objects in
    indices_by c.args.b c.requires x m.long
    (λ i h. let (p, q, k) = m.at i (record { 0 = 0 }) 0 h in
    let e : get_or x i 0 ≡ (get_or o i (record { 0 = 0 })).0 - 1 = search rules in e)
