-- One set of what is observed replaced. A step is noted so, set by set (observestep); proofs/Noted.antt says that this is `noted`.
use Rattle.std.specs.Prelude.{ℕ, ◌+◌, List, ◌++◌, take, drop}
use Rattle.limits.specs.Limits.{set_size}

-- the set at an offset replaced by what is made of it
unfoldable pub on_set : ℕ → (List ℕ → List ℕ) → List ℕ → List ℕ
on_set at f l = take at l ++ f (take set_size (drop at l)) ++ drop (at + set_size) l
