-- What `JudgeAgrees` says of one start at a time, from what it says of their verdicts as a list: the first start whose verdict is no pass gives the
-- check's answer, and the plan passes exactly if it passes from each start alone. Only the statement is used here, not how it is proved.
use Prim.Native.Nat.{ℕ, suc, ◌+◌}
use mathlib.Core.Path.{◌≡◌, refl, sym, ap, ◌∙◌, subst}
use mathlib.Core.List.{List, [], ◌∷◌, ◌++◌, append-nil}
use native.Mathlib.Omega.{arith}
use lib.ListN.{length}
use Rattle.limits.specs.Limits.{end_sheet_size}
use Rattle.answer.specs.Answer.{Answer, Good, Positioned, number, place, unpositioned}
use Rattle.format.specs.Form.{Form}
use Rattle.format.specs.Order.{step_count, order_form}
use Rattle.quantify.specs.Quantify.{Mem, here, there}
use Rattle.model.specs.Domain.{State}
use Rattle.model.specs.Judge.{Verdict, impossible, stops, misses, passes}
use Rattle.jobs.specs.Planning.{schema_of, start_states}
use Rattle.jobs.specs.Learn.{learnable}
use Rattle.jobs.specs.Check.{check}
use Rattle.jobs.specs.Judge.{StartVerdict}
use Rattle.demand.specs.Demand3.{Impossible, Verdicts, none, more, answer_by, JudgeAgrees}
use Rattle.demand.proofs.Demand3.{not_passed}

-- number, place and position that a verdict on the start at position k gives; a pass gives none by itself, since a later start may fail
abbrev pub Answers : ℕ → Verdict → Positioned → Type 0
Answers k impossible r = Impossible r.answer × (r.position ≡ 0)
Answers k (stops j) r = (number r.answer ≡ 19) × (place r.answer ≡ j) × (r.position ≡ k)
Answers k (misses i) r = (number r.answer ≡ 20) × (place r.answer ≡ i) × (r.position ≡ k)
Answers k (passes end) r = Unit {0}

-- those of a plan of so many steps that passes
abbrev pub Passed : ℕ → Positioned → Type 0
Passed steps r = (number r.answer ≡ 0) × (place r.answer ≡ steps) × (r.position ≡ 0)

-- each of the starts has a pass
abbrev pub AllPass : Form → List ℕ → List ℕ → List State → Type 0
AllPass form s o starts = (start : State) → Mem start starts → (end : State) × StartVerdict form s o start (passes end)

-- the first of some verdicts
first_answers : (refusal : Answer) (steps k : ℕ) (v : Verdict) (vs : List Verdict) (r : Positioned)
    → r ≡ answer_by refusal steps k (v ∷ vs) → (v ≡ impossible → Impossible r.answer) → Answers k v r
unfolding answer_by unpositioned number place
first_answers refusal steps k impossible vs r e none-fits = (none-fits refl, ap (λ (x : Positioned). x.position) e)
first_answers refusal steps k (stops j) vs r e none-fits = rw e (refl, refl, refl)
first_answers refusal steps k (misses i) vs r e none-fits = rw e (refl, refl, refl)
first_answers refusal steps k (passes end) vs r e none-fits = tt

module _ (form : Form) (s : List ℕ) (agrees : JudgeAgrees form s) (o : List ℕ) (n : ℕ) (ordered : order_form (schema_of s) o ≡ Good n) where
  all_judged : (starts : List State) → (vs : List Verdict) × Verdicts (StartVerdict form s o) starts vs
  all_judged [] = ([], none)
  all_judged (start ∷ starts) =
      let (v, h) = agrees.some o n ordered start in
      let (vs, each) = all_judged starts in
      (v ∷ vs, more h each)

  by : ℕ → List Verdict → Positioned
  by = answer_by (learnable form s) (step_count o)

  -- starts that pass only move the position on
  past : (before rest : List State) (vs : List Verdict) → Verdicts (StartVerdict form s o) rest vs → (k at : ℕ) → at ≡ k + length before → AllPass form s o before
      → (ws : List Verdict) × Verdicts (StartVerdict form s o) (before ++ rest) ws × (by k ws ≡ by at vs)
  unfolding answer_by by
  past [] rest vs each k at e all = (vs, each, ap (λ (x : ℕ). by x vs) (omega arith))
  past (start ∷ before) rest vs each k at e all =
      let (end, h) = all start here in
      let (ws, every, moved) = past before rest vs each (suc k) at (omega arith) (λ other m. all other (there m)) in
      (passes end ∷ ws, more h every, moved)

  -- Of the starts in file order, the first whose verdict is no pass gives the check's number and place, and its position.
  pub verdict : (before : List State) (start : State) (rest : List State) → start_states o ≡ before ++ (start ∷ rest) → AllPass form s o before
      → (v : Verdict) → StartVerdict form s o start v → Answers (suc (length before)) v (check form s o end_sheet_size)
  unfolding by
  verdict before start rest parts all v h =
      let (vs, each) = all_judged rest in
      let (ws, every, moved) = past before (start ∷ rest) (v ∷ vs) (more h each) 1 (suc (length before)) (omega arith) all in
      first_answers (learnable form s) (step_count o) (suc (length before)) v vs (check form s o end_sheet_size)
      (agrees.verdicts o n ordered ws (rw parts every) ∙ moved)
      (λ e. (agrees.checking o end_sheet_size).1 ((agrees.unfit o start).0 (subst (λ (w : Verdict). StartVerdict form s o start w) e h)))

  -- The plan passes if it passes from each start alone,
  pub pass : AllPass form s o (start_states o) → Passed (step_count o) (check form s o end_sheet_size)
  unfolding answer_by by unpositioned number place
  pass all =
      let (ws, every, moved) = past (start_states o) [] [] none 1 (1 + length (start_states o)) refl all in
      rw (agrees.verdicts o n ordered ws (rw (append-nil (start_states o)) at every) ∙ moved) (refl, refl, refl)

  -- and only then.
  pub only : number (check form s o end_sheet_size).answer ≡ 0 → AllPass form s o (start_states o)
  unfolding answer_by by number
  only z =
      let (vs, each) = all_judged (start_states o) in
      each_passes (start_states o) vs 1 each (ap (λ (r : Positioned). number r.answer) (sym (agrees.verdicts o n ordered vs each)) ∙ z)
    where
      each_passes : (starts : List State) (vs : List Verdict) (k : ℕ) → Verdicts (StartVerdict form s o) starts vs → number (by k vs).answer ≡ 0 → AllPass form s o starts
      each_passes [] vs k _ e other m = elim m [ ]
      each_passes (start ∷ starts) [] k x7 e other m = elim x7 [ ]
      each_passes (start ∷ starts) (impossible ∷ vs) k (more h each) e other m =
          absurd (not_passed (check form s o end_sheet_size).answer ((agrees.checking o end_sheet_size).1 ((agrees.unfit o start).0 h)) z)
      each_passes (start ∷ starts) (stops j ∷ vs) k (more h each) e other m = absurd (omega arith)
      each_passes (start ∷ starts) (misses i ∷ vs) k (more h each) e other m = absurd (omega arith)
      each_passes (start ∷ starts) (passes end ∷ vs) k (more h each) e other here = (end, h)
      each_passes (start ∷ starts) (passes end ∷ vs) k (more h each) e other (there m) = each_passes starts vs (suc k) each e other m
