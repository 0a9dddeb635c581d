-- `learner::observe_form` meets its contract: rows 1 to 5, then the records from an empty start.
use mathlib.Core.Path.{sym, ap, ◌∙◌}
use mathlib.Core.List.{List}
use Prim.Native.Nat.{ℕ}
use lib.ListN.{length}
use native.Mathlib.Omega.{arith}
use Rattle.std.proofs.lemmas.Result.{err_from_is_err_and}
use Rattle.format.proofs.Header.{sections_good}
use Rattle.format.proofs.Typing.{schema_right}
use Rattle.observed.specs.Observed.{observed_set}
use Rattle.observed.proofs.Observe.{seen_nothing}
use Rattle.learner.proofs.Book.{at_sections, at_records}
use Rattle.learner.proofs.observe_form.Goals as goal

pub returns-in_err-sections : goal.returns-in_err-sections
returns-in_err-sections c = let p = err_from_is_err_and c.from_residual.result c.from_residual.ensures.1 in
    rw (p.1, p.2) (at_sections _ _ _ c.requires.0 _ c.in_err-sections.field-0.0 c.in_err-sections.ensures)

pub nothing_seen-requires : goal.nothing_seen-requires
nothing_seen-requires c = (c.requires.1, (sections_good _ _ _ (sym c.in_ok-sections.ensures)).counts.moves)

pub records-requires : goal.records-requires
records-requires c = let g = sections_good _ _ _ (sym c.in_ok-sections.ensures) in
    let seen = c.nothing_seen.ensures in (
      record {
        known = g.counts.relations;
        moves = g.counts.moves;
        falling = (schema_right _ _ _ g).falling;
        begun = record { sized = ap length seen ∙ (seen_nothing _).sized; atoms = λ a low high. ap (λ (l : List ℕ). observed_set l a 6) seen ∙ (seen_nothing _).atoms a low high };
        size = g.size.most;
        near = omega (arith, g.offsets.within, g.size.most);
      },
      g.counts.records,
    )

pub returns : goal.returns
returns c = at_records _ _ _ c.requires.0 _ _ _ _ c.in_ok-sections.ensures c.nothing_seen.ensures c.records.ensures
