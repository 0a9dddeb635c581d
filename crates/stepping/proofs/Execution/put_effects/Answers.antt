-- `stepping::Execution::put_effects` meets its contract: the state has the effects of the relations so far.
use Rattle.std.proofs.Common.{◌≡◌, ◌∙◌, ◌+◌, ◌*◌, sym, arith}
use Rattle.mask.specs.Bits.{Bytes}
use Rattle.factgroups.proofs.Groups.{starts}
use Rattle.stepping.proofs.Next.{next_length, next_first, next_last}
use Rattle.stepping.proofs.Execution.put_effects.Goals as goal

pub loop-r-init : goal.loop-r-init
loop-r-init c = let bytes : Bytes c.args.state.now = λ i. (c.type_inv.state i).fits in
    (bytes, next_first _ _ _ _ c.requires bytes)

pub put_relation-requires : goal.put_relation-requires
put_relation-requires c = (next_length _ _ _ _ _ _ c.loop-r.invariant.1, starts _ (omega arith) (omega arith))

pub loop-r-preserved : goal.loop-r-preserved
loop-r-preserved c = let next : 16 * c.loop-r.r + 16 ≡ 16 * (c.loop-r.r + 1) = omega arith in
    (c.loop-r.invariant.0, rw (← next) (c.put_relation.ensures _ c.loop-r.invariant.1))

pub shape_of-state : goal.shape_of-state
shape_of-state c = next_length _ _ _ _ _ _ c.loop-r.invariant.1 ∙ sym c.requires

pub returns : goal.returns
returns c = let i = c.loop-r.invariant in
    i.1 ∙ next_last _ _ _ _ c.requires i.0 _ (omega arith)
