-- What learning asks of one step as recorded: that the bound facts found from the facts are those that the step's grounding means. Good form gives it.
use Rattle.std.specs.Prelude.{ℕ, ◌≤◌, ◌<◌, ◌≡◌, ◌&&◌, List}
use Rattle.limits.specs.Limits.{max_atoms}
use Rattle.mask.specs.Bits.{test_bit}
use Rattle.terms.specs.declared.Fact.{Fact}
use Rattle.terms.specs.declared.Step.{Step}
use Rattle.terms.specs.Schema.{Schema}
use Rattle.terms.specs.Steps.{is_atom, ground}
use Rattle.atoms.specs.Atoms.{atom_set}
use Rattle.format.specs.Decode.{RecordedStep}
use Rattle.model.specs.Learned.{unbound_effect}
use Rattle.jobs.specs.Planning.{domain, transition}
use Rattle.observed.specs.Inverse.{atoms_in, unbound_changed}
use Rattle.factsets.specs.Holding.{holding}

-- the set found from the facts has those of the step's atoms whose facts hold in the state
abbrev pub Found : Schema → Step → List Fact → Type 0
Found sch st fs =
    (n : ℕ) → n < max_atoms
    → test_bit (atoms_in (atom_set sch st.action.0) st.binding fs) n ≡ (is_atom sch st.action.0 n && holding fs (ground sch st.binding n))

pub record Faithful (sch : Schema) (x : RecordedStep) : Type 0 where
  pub counted : 1 ≤ x.step.action.0
  pub known : x.step.action.0 ≤ sch.moves
  pub placed : 1 ≤ x.place
  pub was : Found sch x.step x.pre
  pub got : Found sch x.step x.post
  pub unbound_effects : unbound_changed (atom_set sch x.step.action.0) x.step.binding x.pre x.post ≡ unbound_effect (domain sch) (transition sch x)
