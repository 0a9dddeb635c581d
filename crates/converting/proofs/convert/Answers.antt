-- `convert` meets its contract, row by row.
use mathlib.Core.Path.{refl}
use native.Mathlib.Omega.{arith}
use Rattle.std.proofs.lemmas.Result.{err_from_is_err_and}
use Rattle.answer.specs.Answer.{is_refused}
use Rattle.converting.proofs.Returns.{first_refused_lem, new_refused, room_for, no_room, stored}
use Rattle.converting.proofs.convert.Goals as goal

pub returns-in_err-look_over : goal.returns-in_err-look_over
unfolding is_refused
returns-in_err-look_over c = let p = err_from_is_err_and c.from_residual.result c.from_residual.ensures.1 in
    rw (p.1, p.2) (first_refused_lem _ _ _ _ c.in_err-look_over.ensures refl)

pub returns-in_err-size : goal.returns-in_err-size
unfolding is_refused
returns-in_err-size c = let p = err_from_is_err_and c.from_residual-in_err-size.result c.from_residual-in_err-size.ensures.1 in
    rw (p.1, p.2) (new_refused _ _ _ _ c.in_ok-look_over.ensures refl _ _ c.in_err-size.ensures refl)

pub returns-then-out-size : goal.returns-then-out-size
unfolding is_refused
returns-then-out-size c = rw c.at.ensures (no_room _ _ _ _ c.in_ok-look_over.ensures refl _ _ c.in_ok-size.ensures _ refl c.if-out-size.true)

pub write_bytes-requires : goal.write_bytes-requires
unfolding is_refused
write_bytes-requires c = let d = room_for _ _ c.args.out.now _ c.in_ok-look_over.ensures refl _ _ c.in_ok-size.ensures _ refl in
    rw c.bytes.ensures.0 (omega arith)

pub returns : goal.returns
unfolding is_refused
returns c = stored _ _ _ _ c.in_ok-look_over.ensures refl _ _ c.in_ok-size.ensures _ refl _ c.if-out-size.false (rw c.bytes.ensures.0 at c.write_bytes.ensures)
