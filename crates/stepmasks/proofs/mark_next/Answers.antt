-- `stepmasks::mark_next` meets its contract: each of its four ways on is a law of Steps. A place in the proof has the name of the value that it makes known.
use native.Mathlib.Omega.{arith}
use mathlib.Core.Path.{refl, sym, ◌∙◌}
use Rattle.truth.specs.Bools.{not_in}
use Rattle.stepmasks.proofs.Looks.{plain_next, item_ahead, comes_plain, facts_equal, facts_differ, same_told, looks_next, looks_wrong}
use Rattle.stepmasks.proofs.Steps.{marked_both, marked_before, marked_first, marked_after}
use Rattle.stepmasks.proofs.mark_next.Goals as goal

pub fact-g-requires : goal.fact-g-requires
fact-g-requires c = let a = c.requires in
    item_ahead _ _ a.suited.1 a.within.1 a.within.3 a.suited.2

pub returns-then-not-follows : goal.returns-then-not-follows
returns-then-not-follows c = let a = c.requires in
    let told = same_told _ _ _ _ _ _ _ c.fact-f.ensures a.suited.0 (facts_equal _ _ _ c.eq.ensures c.if-eq.true) (omega (arith, c.fact-g.type_inv)) c.fact-g.ensures c.follows.ensures in
    rw c.at.ensures record { next_marked = tt; looks = (refl, looks_wrong _ _ _ _ told a.within.3 (not_in _ c.if-not-follows.true)) }

pub next-w-requires : goal.next-w-requires
next-w-requires c = let a = c.requires in
    (item_ahead _ _ a.suited.1 a.within.1 a.within.3 a.suited.2, a.within.3)

pub returns-then-eq : goal.returns-then-eq
returns-then-eq c = let a = c.requires in
    let told = same_told _ _ _ _ _ _ _ c.fact-f.ensures a.suited.0 (facts_equal _ _ _ c.eq.ensures c.if-eq.true) (omega (arith, c.fact-g.type_inv)) c.fact-g.ensures c.follows.ensures in
    record {
      next_marked = marked_both _ _ _ _ _ _ _ c.fact-f.ensures _ (comes_plain _ _ a.suited.1 a.within.1 a.within.3 _ c.fact-g.ensures) _ c.atom-x.ensures (facts_equal _ _ _ c.eq.ensures c.if-eq.true) _ _ _ _ c.pass-w.ensures (c.mark.ensures, plain_next _ _ a.suited.1 _ c.next-w.ensures);
      looks = looks_next _ _ _ _ told a.within.3 (rw c.if-not-follows.false) _ c.next-w.ensures;
    }

pub returns-then-is_some : goal.returns-then-is_some
returns-then-is_some c = let a = c.requires in
    record {
      next_marked = marked_before _ _ _ _ _ _ _ c.fact-f.ensures a.within.1 _ c.atom-x-2.ensures (sym c.is_some.ensures ∙ c.if-is_some.true) _ _ c.pass-w-then-is_some.ensures;
      looks = λ end n from looked. looked;
    }

pub bad-requires : goal.bad-requires
bad-requires c = let a = c.requires in
    item_ahead _ _ a.suited.1 a.within.1 a.within.3 a.suited.2

pub returns-then-bad : goal.returns-then-bad
returns-then-bad c = let a = c.requires in
    rw c.at-then-bad.ensures record { next_marked = tt; looks = (refl, looks_wrong _ _ _ _ c.bad.ensures a.within.3 c.if-bad.true) }

pub returns-then-unbound-follows : goal.returns-then-unbound-follows
returns-then-unbound-follows c = let a = c.requires in
    record {
      next_marked = marked_first _ _ _ _ _ _ _ c.fact-f.ensures _ (comes_plain _ _ a.suited.1 a.within.1 a.within.3 _ c.fact-g.ensures) (facts_differ _ _ _ c.eq.ensures c.if-eq.false) _ _ c.atom-x-2.ensures (sym c.is_some.ensures ∙ c.if-is_some.false) c.atom-y.ensures _ _ c.is_none-unbound.ensures c.follows-2.ensures a.within.1 c.if-unbound-follows.true _ _ c.pass-w-then-unbound-follows.ensures;
      looks = λ end n from looked. looked;
    }

pub next-w-requires-2 : goal.next-w-requires-2
next-w-requires-2 c = let a = c.requires in
    (item_ahead _ _ a.suited.1 a.within.1 a.within.3 a.suited.2, a.within.3)

pub returns : goal.returns
returns c = let a = c.requires in
    record {
      next_marked = marked_after _ _ _ _ _ _ _ c.fact-f.ensures _ (comes_plain _ _ a.suited.1 a.within.1 a.within.3 _ c.fact-g.ensures) (facts_differ _ _ _ c.eq.ensures c.if-eq.false) _ _ c.atom-x-2.ensures (sym c.is_some.ensures ∙ c.if-is_some.false) c.atom-y.ensures _ _ c.is_none-unbound.ensures c.follows-2.ensures a.within.0 c.if-unbound-follows.false _ _
          (c.mark-2.ensures, plain_next _ _ a.suited.1 _ c.next-w-2.ensures);
      looks = looks_next _ _ _ _ c.bad.ensures a.within.3 c.if-bad.false _ c.next-w-2.ensures;
    }
