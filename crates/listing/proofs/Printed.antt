-- Learning into the sheet of a program: what it then knows, and that what it puts is the listing of the book.
use Prim.Native.Nat.{ℕ, ◌*◌, ◌≤◌}
use mathlib.Core.Path.{◌≡◌, refl, sym, ap, ◌∙◌}
use mathlib.Core.Bool.{not}
use mathlib.Core.List.{List, ◌++◌}
use lib.Dec.{eqb}
use lib.ListN.{length}
use borrow.Author.Tests.{eq-eqb}
use Rattle.format.specs.Form.{full}
use Rattle.answer.specs.Answer.{Answer, Good, Refused, ◌>>=◌, refuse, kept}
use Rattle.answer.proofs.Laws.{parted}
use Rattle.limits.specs.Limits.{max_moves, rule_size}
use Rattle.terms.specs.declared.Sections.{Sections}
use Rattle.terms.specs.Sections.{sections_of}
use Rattle.terms.specs.Schema.{schema}
use Rattle.jobs.specs.Planning.{schema_of}
use Rattle.jobs.specs.Learn.{learnable, learn, learn_bytes, rules_from, rule_sheet}
use Rattle.jobs.specs.Listing.{move_lines, counts_line, rules_lines, rules_printed}
use Rattle.wellformed.proofs.Headers.{moves_few, relations_few}
use Rattle.learner.specs.Learner.{LearnOutcome}
use Rattle.learner.proofs.Book.{form_good}
use Rattle.listing.specs.SheetOf.{SheetOf}

-- after learning with success
pub learned_by : (s : List ℕ) (h : Sections) (old new : List ℕ) (r : Answer) (steps : ℕ) → h ≡ sections_of s → LearnOutcome full s old new r → r ≡ Good steps → SheetOf s h new
unfolding learn learn_bytes kept schema_of schema
learned_by s h old new r steps own l e =
    let good : learn full s (length old) ≡ Good steps = sym l.says ∙ e in
    let p = parted (learnable full s) steps _ good in
    let f = form_good full s p.0 p.1 in
    record { own = own; few_moves = rw own (moves_few full s f.0 f.1); few_relations = rw own (relations_few full s f.0 f.1); bytes = l.bytes ∙ ap (λ a. kept a (rule_sheet full s) old) good }

-- the first line, and the lines of the moves after it
pub listing_by : (s : List ℕ) (h : Sections) (sheet : List ℕ) → SheetOf s h sheet
    → (text next : List ℕ) (steps : ℕ)
    → text ≡ counts_line h.moves.count h.records.count steps
    → next ≡ text ++ move_lines (schema_of s) (rules_from full s) h.moves.count 1
    → next ≡ rules_lines s (Good steps)
unfolding rules_lines schema_of schema
listing_by s h sheet l text next steps e f = f ∙ rw (e, l.own)

-- a sheet of the right length, or a book with more moves than there may be: row 13 is not met
learnt : (s : List ℕ) (size : ℕ) (a : Answer) → learnable full s ≡ a → ((schema_of s).moves ≤ max_moves → size ≡ rule_size * (schema_of s).moves)
    → (a >>= λ total. refuse (not (eqb size (rule_size * (schema_of s).moves))) 13 0 >>= λ _. Good total) ≡ a
unfolding ◌>>=◌ refuse
learnt s size (Good n) e f = let g = form_good full s n e in rw (eq-eqb size _ (f (moves_few full s g.0 g.1)))
learnt s size (Refused n p) e f = refl

-- what is printed is the listing of the answer
pub printed_by : (s : List ℕ) (h : Sections) (old new text : List ℕ) (a b : Answer)
    → h ≡ sections_of s
    → (h.moves.count ≤ max_moves → length old ≡ rule_size * h.moves.count)
    → LearnOutcome full s old new a
    → a ≡ b
    → text ≡ rules_lines s b
    → text ≡ rules_printed s
unfolding rules_printed learn schema_of schema
printed_by s h old new text a b own fits l e t =
    t ∙ ap (rules_lines s) (sym e ∙ l.says ∙ learnt s (length old) (learnable full s) refl (rw own at fits))
