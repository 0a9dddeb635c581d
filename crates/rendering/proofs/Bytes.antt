-- Parts of a book as the values that stand there: facts, steps, and a list that was written and is read again.
use Prim.Native.Nat.{ℕ, zero, suc, ◌+◌, ◌-◌, ◌*◌, ◌/◌, ◌%◌, ◌≤◌, ◌<◌}
use native.Mathlib.Nat.{mul-zero}
use native.Mathlib.Omega.{arith}
use mathlib.Core.Path.{◌≡◌, refl, sym, ap, ap₂, ◌∙◌}
use mathlib.Core.List.{List, [], ◌∷◌, ◌++◌, append_assoc}
use lib.ListN.{length, take, drop, length-append, length-take, length-drop}
use lib.Seq.{get_or-append_seam, get_or-append-add}
use Rattle.input.specs.Bytes.{byte_at, two}
use Rattle.output.specs.Written.{two_bytes}
use Rattle.terms.specs.declared.Fact.{Fact}
use Rattle.terms.specs.Facts.{fact_at}
use Rattle.terms.proofs.Atoms.{fact_path}
use Rattle.limits.specs.Limits.{count_size, fact_size, step_size}
use Rattle.format.specs.Lists.{facts_at, list_at}
use Rattle.format.specs.Form.{Form}
use Rattle.format.specs.Decode.{recorded_step}
use Rattle.jobs.specs.Convert.{facts_bytes, list_bytes, filed_step_bytes, bytes_at}
use Rattle.jobs.proofs.Bytes.{part_three, filed_step_again}

-- ---- bytes of the book

-- so many facts
pub facts_part : (s : List ℕ) (n at size : ℕ) → size ≡ fact_size * n → at + fact_size * n ≤ length s → take size (drop at s) ≡ facts_bytes (facts_at s n at)
unfolding facts_at facts_bytes fact_at
facts_part s zero at size e h = rw (e ∙ mul-zero fact_size)
facts_part s (suc n) at size e h =
    let d : size ≡ suc (suc (suc (fact_size * n))) = omega arith in
    rw (d, part_three s at (fact_size * n) (omega arith), facts_part s n (at + 3) (fact_size * n) refl (omega arith))

-- a step
pub step_part : (form : Form) (s : List ℕ) (before : List Fact) (at size : ℕ) → size ≡ step_size → at + step_size ≤ length s
    → take size (drop at s) ≡ filed_step_bytes (recorded_step form s before at)
unfolding bytes_at
step_part form s before at size e h = rw e (sym (filed_step_again form s before at h))

-- a part that lies within
pub part_size : (s : List ℕ) (at size : ℕ) → at + size ≤ length s → length (take (at + size - at) (drop at s)) ≡ size
part_size s at size h = simp (length-take, length-drop) (omega arith)

-- ---- lists written

pub facts_length : (fs : List Fact) → length (facts_bytes fs) ≡ fact_size * length fs
unfolding facts_bytes
facts_length [] = sym (mul-zero fact_size)
facts_length (f ∷ fs) = omega (arith, facts_length fs)

pub list_bytes_length : (fs : List Fact) → length (list_bytes fs) ≡ count_size + fact_size * length fs
unfolding list_bytes two_bytes
list_bytes_length fs = omega (arith, facts_length fs)

-- a fact that stands after other bytes
fact_read : (p : List ℕ) (f : Fact) (q : List ℕ) → fact_at (p ++ (f.relation.0 ∷ f.first.0 ∷ f.second.0 ∷ q)) (length p) ≡ f
unfolding fact_at byte_at
fact_read p f q =
    let t : List ℕ = f.relation.0 ∷ f.first.0 ∷ f.second.0 ∷ q in
    fact_path _ f (get_or-append_seam p _ _ 0) (get_or-append-add p t 1 0) (get_or-append-add p t 2 0)

facts_read : (p : List ℕ) (fs : List Fact) (q : List ℕ) (at : ℕ) → at ≡ length p → facts_at (p ++ (facts_bytes fs ++ q)) (length fs) at ≡ fs
unfolding facts_at facts_bytes
facts_read p [] q at e = refl
facts_read p (f ∷ fs) q at e =
    let x : List ℕ = f.relation.0 ∷ f.first.0 ∷ f.second.0 ∷ [] in
    let d : at + fact_size ≡ length (p ++ x) = simp length-append (omega arith) in
    let same : p ++ (x ++ (facts_bytes fs ++ q)) ≡ p ++ x ++ (facts_bytes fs ++ q) = sym (append_assoc p x (facts_bytes fs ++ q)) in
    ap₂ (λ (g : Fact) (gs : List Fact). g ∷ gs) (rw e (fact_read p f (facts_bytes fs ++ q)))
    (ap (λ (l : List ℕ). facts_at l (length fs) (at + fact_size)) same ∙ facts_read (p ++ x) fs q (at + fact_size) d)

count_read : (p : List ℕ) (n : ℕ) (q : List ℕ) → n < 65536 → two (p ++ (two_bytes n ++ q)) (length p) ≡ n
unfolding two byte_at two_bytes
count_read p n q h =
    let t : List ℕ = n / 256 % 256 ∷ n % 256 ∷ q in
    rw (get_or-append_seam p (n / 256 % 256) (n % 256 ∷ q) 0, get_or-append-add p t 1 0) (omega arith)

-- A list that was written is read as it was.
pub list_read : (p : List ℕ) (fs : List Fact) (q : List ℕ) → length fs < 65536 → list_at (p ++ (list_bytes fs ++ q)) (length p) ≡ fs
unfolding list_at list_bytes two_bytes
list_read p fs q h =
    let n : ℕ = length fs in
    let b : List ℕ = n / 256 % 256 ∷ n % 256 ∷ [] in
    let d : length p + count_size ≡ length (p ++ b) = simp length-append (omega arith) in
    let same : p ++ (b ++ (facts_bytes fs ++ q)) ≡ p ++ b ++ (facts_bytes fs ++ q) = sym (append_assoc p b (facts_bytes fs ++ q)) in
    rw (count_read p n (facts_bytes fs ++ q) h)
    (ap (λ (l : List ℕ). facts_at l n (length p + count_size)) same ∙ facts_read (p ++ b) fs q (length p + count_size) d)
