-- The theorems: two good books with the same transitions get the same answers, and a good book and its converted twin are such books.
use Prim.Native.Nat.{ℕ}
use mathlib.Core.Path.{sym, ap, ◌∙◌, subst}
use mathlib.Core.List.{List}
use Rattle.terms.proofs.Agree.{same_sym}
use Rattle.format.specs.Form.{Form}
use Rattle.model.specs.Domain.{Domain, State}
use Rattle.model.specs.Model.{run}
use Rattle.model.specs.Judge.{Verdict, Judged}
use Rattle.jobs.specs.Planning.{domain, schema_of, plan_of, goal_of}
use Rattle.jobs.specs.Judge.{FitsBook, StartVerdict}
use Rattle.converted.proofs.Converted.{keeps_sections, is_good, says_the_same}
use Rattle.twins.specs.Twins.{SameBooks, SameTransitions, SameTransitionsSameAnswers, SameBooksSameAnswers, EitherForm, EitherFormSameAnswers}
use Rattle.twins.proofs.Answers.{twin_answer}
use Rattle.twins.proofs.Trimmed.{valid_of_atoms}
use Rattle.twins.proofs.Verdicts.{judged_over}
use Rattle.twins.proofs.Books.{domains, fit_over, runs_same}
use Rattle.twins.proofs.Learning.{sheet_same, learn_twin, learn_bytes_same}
use Rattle.twins.proofs.Checking.{check_twin, position_same, check_bytes_same}

-- which of the two comes first does not matter
pub same_transitions_sym : (f g : Form) (s t : List ℕ) (n : ℕ) → SameTransitions f g s t n → SameTransitions g f t s n
same_transitions_sym f g s t n same =
    let both = same.comparable in
    record {
      comparable = record { good = both.good'; good' = both.good; schema = same_sym (schema_of s) (schema_of t) both.schema; kinds = sym both.kinds };
      steps = λ x. ((same.steps x).1, (same.steps x).0);
    }

-- what the judge says of a plan with the one book, he says with the other
verdict_over : (f g : Form) (s t : List ℕ) (n : ℕ) → SameTransitions f g s t n → (o : List ℕ) (start : State) (v : Verdict)
    → StartVerdict f s o start v → StartVerdict g t o start v
verdict_over f g s t n same o start v h =
    let D : Domain = domain (schema_of s) in
    let other = same_transitions_sym f g s t n same in
    let moved : Judged D (FitsBook g t) (plan_of (schema_of t) o) start (goal_of o) v =
    judged_over D (plan_of (schema_of s) o) (plan_of (schema_of t) o) start (goal_of o) (FitsBook f s) (FitsBook g t)
    (λ M. (fit_over f g s t n same M, fit_over g f t s n other M))
    (λ M fits.
    runs_same f g s t n same M (valid_of_atoms D M fits.consistent.valid) o start 1
    ∙ ap (λ (E : Domain). run E M (plan_of (schema_of t) o) start 1) (sym (domains f g s t n same)))
    v h in
    subst (λ (E : Domain). Judged E (FitsBook g t) (plan_of (schema_of t) o) start (goal_of o) v) (domains f g s t n same) moved

-- Books with the same transitions get the same sheet, the same answers apart from the places of 11 and 28, and the same verdicts.
pub same_transitions_same_answers : SameTransitionsSameAnswers
same_transitions_same_answers f g s t n same =
    let other = same_transitions_sym f g s t n same in
    record {
      sheet = sheet_same f g s t n same;
      learning = λ size. twin_answer _ _ (learn_twin f g s t n same size);
      learned_bytes = learn_bytes_same f g s t n same;
      checking = λ o size. twin_answer _ _ (check_twin f g s t n same o size);
      position = λ o size. position_same f g s t n same o size;
      checked_bytes = λ o lent. check_bytes_same f g s t n same o lent;
      fitting = λ M. (fit_over f g s t n same M, fit_over g f t s n other M);
      verdicts = λ o start v. (verdict_over f g s t n same o start v, verdict_over g f t s n other o start v);
    }

-- books that say the same have the same transitions
same_transitions : (f g : Form) (s t : List ℕ) (n : ℕ) → SameBooks f g s t n → SameTransitions f g s t n
same_transitions f g s t n same = record { comparable = same.comparable; steps = λ x. rw same.steps (λ m. m, λ m. m) }

-- So they get the same answers too.
pub same_answers : SameBooksSameAnswers
same_answers f g s t n same = same_transitions_same_answers f g s t n (same_transitions f g s t n same)

-- A good book and its converted twin say the same,
pub either_form : EitherForm
either_form form s n good most =
    let kept = keeps_sections form s n good most in
    record {
      comparable = record { good = good; good' = is_good form s n good most; schema = kept.schema; kinds = sym kept.kinds };
      steps = sym (says_the_same form s n good most);
    }

-- and get the same answers.
pub either_form_same_answers : EitherFormSameAnswers
either_form_same_answers form s n good most =
    let same = same_transitions _ _ _ _ n (either_form form s n good most) in
    (same_transitions_same_answers _ _ _ _ n same, same_transitions_same_answers _ _ _ _ n (same_transitions_sym _ _ _ _ n same))
