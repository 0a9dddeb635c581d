-- Right schemas that say the same, for planning: their bound facts become the same facts, and they have one domain. Books with the same bytes
-- for relations and moves, and the same parents, have such schemas.
use Prim.Native.Nat.{ℕ, ◌+◌, ◌*◌, ◌<◌}
use mathlib.Core.Path.{◌≡◌}
use mathlib.Core.Bool.{true}
use native.Mathlib.Omega.{arith}
use Rattle.input.specs.Bytes.{byte_at}
use Rattle.limits.specs.Limits.{relation_size, move_size}
use Rattle.terms.specs.declared.Binding.{Binding}
use Rattle.terms.specs.Sections.{sections_of}
use Rattle.terms.specs.Schema.{Schema, schema}
use Rattle.terms.specs.Steps.{atom_relation, is_atom}
use Rattle.terms.specs.Typing.{RightSchema}
use Rattle.terms.specs.Agree.{SameSchema}
use Rattle.terms.proofs.Atoms.{relation_from_1, atom_out}
use Rattle.terms.proofs.Agree.{same_by_bytes, atoms_same}
use Rattle.format.proofs.LookOver.{look_over_good}
use Rattle.jobs.specs.Planning.{domain, schema_of}
use Rattle.wellformed.specs.Grounding.{object_in, fact_of}
use Rattle.demand.specs.TwoBooks.{SameSectionsSameSchema}

-- a bound fact becomes one fact
pub fact_same : (S T : Schema) → SameSchema S T → (b : Binding) (a n : ℕ) → is_atom S a n ≡ true → fact_of S b n ≡ fact_of T b n
unfolding fact_of object_in
fact_same S T h b a n atom = rw (h.places (atom_relation n) (relation_from_1 n) (atom_out S a n atom).relation)

pub domain_same : (S T : Schema) → SameSchema S T → RightSchema S → RightSchema T → domain S ≡ domain T
unfolding domain
domain_same S T h right right' =
    λ i. record { atom = λ a n. atoms_same S T h right right' a n i; atoms = 16 * h.relations i; facts = 256 * h.relations i; actions = h.moves i }

-- Books of good form with equal relations and moves, and the same parents, have schemas that say the same.
pub same_sections_same_schema : SameSectionsSameSchema
unfolding schema_of schema
same_sections_same_schema f g s t m n good good' same =
    let h = (look_over_good f s m good).sections.offsets in
    let k = (look_over_good g t n good').sections.offsets in
    same_by_bytes (sections_of s) (sections_of t) s t same.parents same.relations same.moves
    (λ i l. same.bytes i (omega arith))
    (λ i l. further (relation_size * (sections_of s).relations.count + i) _ _ (omega (arith, h.moves)) (omega (arith, k.moves, same.relations)) (omega arith))
  where
    further : (i x y : ℕ) → x ≡ (sections_of s).relations.at + i → y ≡ (sections_of t).relations.at + i
        → i < relation_size * (sections_of s).relations.count + move_size * (sections_of s).moves.count → byte_at s x ≡ byte_at t y
    further i x y e e' l = rw (e, e') (same.bytes i l)
