-- `observerecords::observe_list` meets its contract, by the form.
use Rattle.tables.specs.Tables.{ForRightByPlace}
use Rattle.states.proofs.Looking.{list_looked}
use Rattle.observerecords.proofs.Ready.{right_few, held_count, step_move, step_within, ready_turnable, ready_suited, listed_done, turned_done}
use Rattle.observerecords.proofs.observe_list.Goals as goal

pub observe_turned-requires : goal.observe_turned-requires
observe_turned-requires c = let p = c.requires in
    (ready_turnable _ _ _ _ p.0.1 _ p.2 _ _ _ _ p.1, p.4, held_count _ _ _ _ p.0.1 _ _ _ _ p.1 c.if-c.true, right_few _ _ _ _ p.0.1)

pub returns-then-c-clause-good : goal.returns-then-c-clause-good
unfolding ForRightByPlace
returns-then-c-clause-good c = let p = c.requires in
    let w = c.observe_turned.ensures in
    turned_done _ _ _ _ p.0.1 _ p.2 _ _ _ _ _ _ _ _ _ c.if-c.true p.3 (list_looked _ _ _ _ _ _ p.2.list w.list_looked _ _ p.0.1.readable.table) w.good

pub observe-requires : goal.observe-requires
observe-requires c = let p = c.requires in
    let l = p.1.listed c.if-c.false in
    let m = step_move _ _ _ _ p.0.1 _ p.2 in
    let w = step_within _ _ _ _ p.0.1 _ p.2 in
    record { masks = (l.1, w.0, p.1.begun.sized, p.4); bound = (m.0, m.1, ready_suited _ _ _ _ p.0.1 _ p.2 _ _ _ _ p.1 c.if-c.false); lists_within = (l.2, w.1) }

pub returns-clause-good : goal.returns-clause-good
returns-clause-good c = let p = c.requires in
    listed_done _ _ _ _ p.0.1 _ p.2 _ _ _ _ _ _ _ _ c.if-c.false p.3 c.observe.ensures.good
