-- What a `map_err` was given, by what it returned.
use Rattle.std.proofs.Common.{Result, Ok, Err, IsErrAnd, MatchResult, ◌≡◌, refl, subst}

module _ {A D E : Type 0} where
  pub mapped_err : (r : Result A E) (m : Result A D) (Q : E → D → Type 0) → MatchResult r (λ n. m ≡ Ok n) (λ e. IsErrAnd m (Q e))
      → (d : D) → m ≡ Err d → (e : E) × (r ≡ Err e) × Q e d
  mapped_err (Ok n) m Q cases d is = cc
  mapped_err (Err e) (Ok n) Q cases d is = absurd cases
  mapped_err (Err e) (Err x) Q cases d is = let same : x ≡ d = cc in (e, refl, subst (λ (y : D). Q e y) same cases)

  pub mapped_ok : (r : Result A E) (m : Result A D) (Q : E → D → Type 0) → MatchResult r (λ n. m ≡ Ok n) (λ e. IsErrAnd m (Q e))
      → (n : A) → m ≡ Ok n → r ≡ Ok n
  mapped_ok (Ok k) m Q cases n is = cc
  mapped_ok (Err e) (Ok k) Q cases n is = absurd cases
  mapped_ok (Err e) (Err x) Q cases n is = cc
