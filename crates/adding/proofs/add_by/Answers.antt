-- `add_by` meets its contract: each refusal by the rows before it, and the bytes stored by what `form` left in `new`.
use mathlib.Core.Path.{refl}
use native.Mathlib.Omega.{arith}
use lib.ListN.{length-take}
use Rattle.std.proofs.lemmas.Result.{err_from_is_err_and}
use Rattle.answer.specs.Answer.{is_refused}
use Rattle.adding.proofs.Returns.{known, first_refused_lem, long_enough, short_enough, too_long, book_is_full, new_refused, no_room, stored}
use Rattle.adding.proofs.add_by.Goals as goal

pub returns-in_err-look_over : goal.returns-in_err-look_over
unfolding is_refused
returns-in_err-look_over c = let p = err_from_is_err_and c.from_residual.result c.from_residual.ensures.1 in
    rw (p.1, p.2) (first_refused_lem _ _ _ _ _ c.in_err-look_over.ensures refl)

pub room_behind-requires : goal.room_behind-requires
room_behind-requires c = short_enough _ _ _ c.in_ok-look_over.ensures

pub returns-then-room_behind-bytes : goal.returns-then-room_behind-bytes
returns-then-room_behind-bytes c = rw c.at.ensures (too_long _ _ _ _ _ c.in_ok-look_over.ensures (omega arith))

pub returns-then-h-ge-MAX_RECORDS : goal.returns-then-h-ge-MAX_RECORDS
returns-then-h-ge-MAX_RECORDS c = rw c.at-then-h-ge-MAX_RECORDS.ensures (book_is_full _ _ _ _ _ c.in_ok-look_over.ensures _ c.read-h.ensures (omega arith) (omega arith))

pub form-requires : goal.form-requires
form-requires c = (long_enough _ _ _ c.in_ok-look_over.ensures, omega arith)

pub slice_bounds-last_record-end-2 : goal.slice_bounds-last_record-end-2
slice_bounds-last_record-end-2 c = simp length-take (omega arith)

pub last_record-requires : goal.last_record-requires
last_record-requires c = (
  simp length-take (omega arith),
  omega arith,
  known _ _ _ c.args.out.now _ c.in_ok-look_over.ensures _ c.read-h.ensures (omega arith) c.if-h-ge-MAX_RECORDS.false _ _ c.form.ensures,
)

pub returns-in_err-last_record : goal.returns-in_err-last_record
unfolding is_refused
returns-in_err-last_record c = let p = err_from_is_err_and c.from_residual-in_err-last_record.result c.from_residual-in_err-last_record.ensures.1 in
    rw (p.1, p.2) (new_refused _ _ _ _ _ c.in_ok-look_over.ensures _ c.read-h.ensures (omega arith) c.if-h-ge-MAX_RECORDS.false _ _ c.form.ensures _ c.in_err-last_record.ensures refl)

pub returns-then-out-size : goal.returns-then-out-size
unfolding is_refused
returns-then-out-size c = rw c.at-then-out-size.ensures (no_room _ _ _ _ _ c.in_ok-look_over.ensures
    _ c.read-h.ensures (omega arith) c.if-h-ge-MAX_RECORDS.false _ _ c.form.ensures _ c.in_ok-last_record.ensures refl c.if-out-size.true)

pub slice_bounds-write_bytes-end : goal.slice_bounds-write_bytes-end
slice_bounds-write_bytes-end c = omega (arith, c.form.auto.new, c.requires, c.room_behind.ensures, c.if-room_behind-bytes.false)

pub slice_bounds-write_bytes-end-2 : goal.slice_bounds-write_bytes-end-2
slice_bounds-write_bytes-end-2 c = simp length-take (omega (arith, c.room_behind.ensures, c.if-room_behind-bytes.false))

pub write_bytes-requires : goal.write_bytes-requires
write_bytes-requires c = simp length-take (omega arith)

pub returns : goal.returns
unfolding is_refused
returns c = stored _ _ _ _ _ c.in_ok-look_over.ensures
    _ c.read-h.ensures (omega arith) c.if-h-ge-MAX_RECORDS.false _ _ c.form.ensures _ c.in_ok-last_record.ensures refl _ c.if-out-size.false c.write_bytes.ensures
