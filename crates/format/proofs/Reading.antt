-- The same bytes at another offset, of the same book or of another, read alike: a number, a fact, a step, a state, a record's head, the
-- entries of the sections. Reading is total, so nothing is asked of the bytes but that they are the same as far as is read.
use Prim.Native.Nat.{ℕ, zero, suc, ◌+◌, ◌-◌, ◌*◌, ◌≤◌, ◌<◌}
use mathlib.Core.Path.{◌≡◌, refl}
use mathlib.Core.List.{List, ◌++◌}
use native.Mathlib.Omega.{arith}
use lib.ListN.{length, length-append, get_or-append}
use lib.Seq.{get_or-append-add}
use Rattle.input.specs.Bytes.{byte_at, two}
use Rattle.terms.specs.Facts.{fact_at}
use Rattle.terms.specs.Steps.{step_at}
use Rattle.limits.specs.Limits.{head_size, count_size, fact_size, step_size, relation_size, move_size}
use Rattle.format.specs.Filed.{went_at, filed_step_at}
use Rattle.format.specs.Header.{kind_bad, relation_bad, move_bad}
use Rattle.format.specs.Records.{objects_in, steps_in, length_in}
use Rattle.format.specs.Lists.{facts_at, list_at, list_end}

-- a number whose two bytes are the same
pub two_by : (t s : List ℕ) (at : ℕ) → byte_at t at ≡ byte_at s at → byte_at t (at + 1) ≡ byte_at s (at + 1) → two t at ≡ two s at
unfolding two
two_by t s at p q = rw (p, q)

-- so many bytes of s from `at` on stand in t from `at'` on
pub record Copied (s : List ℕ) (at : ℕ) (t : List ℕ) (at' size : ℕ) : Type 0 where
  pub within : at' + size ≤ length t
  pub bytes : (i : ℕ) → i < size → byte_at t (at' + i) ≡ byte_at s (at + i)

-- what stands in two books, after whatever bytes and before whatever bytes
pub part_copied : (r x y x' y' : List ℕ) → Copied (x ++ (r ++ y)) (length x) (x' ++ (r ++ y')) (length x') (length r)
unfolding byte_at
part_copied r x y x' y' =
    record {
      within = simp length-append (omega arith);
      bytes = λ i l. rw (get_or-append-add x' (r ++ y') i 0, get_or-append-add x (r ++ y) i 0, get_or-append r y' 0 i l, get_or-append r y 0 i l);
    }

-- offset b lies as far after `at'` as offset a after `at`
pub record Facing (at at' a b : ℕ) : Type 0 where
  pub low : at ≤ a
  pub level : a + at' ≡ b + at

pub facing_on : {at at' a b : ℕ} → Facing at at' a b → (n : ℕ) → Facing at at' (a + n) (b + n)
facing_on f n = record { low = omega arith; level = omega arith }

module _ {s t : List ℕ} {at at' size : ℕ} (c : Copied s at t at' size) where
  pub byte_copied : (a b : ℕ) → Facing at at' a b → a < at + size → byte_at t b ≡ byte_at s a
  byte_copied a b f l = go (a - at) a b (omega arith) (omega arith) (omega arith)
    where
      go : (j x y : ℕ) → x ≡ at + j → y ≡ at' + j → j < size → byte_at t y ≡ byte_at s x
      go j x y e g l = rw (e, g) (c.bytes j l)

  module _ (a b : ℕ) (f : Facing at at' a b) where
    further : (n : ℕ) → a + n < at + size → byte_at t (b + n) ≡ byte_at s (a + n)
    further n l = byte_copied (a + n) (b + n) (facing_on f n) l

    pub two_copied : a + count_size ≤ at + size → two t b ≡ two s a
    unfolding two
    two_copied l = rw (byte_copied a b f (omega arith), further 1 (omega arith))

    pub fact_copied : a + fact_size ≤ at + size → fact_at t b ≡ fact_at s a
    unfolding fact_at
    fact_copied l = rw (byte_copied a b f (omega arith), further 1 (omega arith), further 2 (omega arith))

    pub step_copied : a + step_size ≤ at + size → step_at t b ≡ step_at s a
    unfolding step_at
    step_copied l =
        rw (byte_copied a b f (omega arith), further 1 (omega arith), further 2 (omega arith), further 3 (omega arith), further 4 (omega arith))

    pub filed_step_copied : a + step_size ≤ at + size → filed_step_at t b ≡ filed_step_at s a
    unfolding filed_step_at
    filed_step_copied l = rw (step_copied l, byte_copied a b f (omega arith))

    pub went_copied : a + step_size ≤ at + size → went_at t b ≡ went_at s a
    unfolding went_at
    went_copied l = rw (byte_copied a b f (omega arith))

    -- rows 4 and 5 read an entry and no more
    pub relation_copied : (kinds : ℕ) → a + relation_size ≤ at + size → relation_bad t kinds b ≡ relation_bad s kinds a
    unfolding relation_bad kind_bad
    relation_copied kinds l = rw (byte_copied a b f (omega arith), further 1 (omega arith), further 2 (omega arith), further 3 (omega arith))

    pub move_copied : (kinds : ℕ) → a + move_size ≤ at + size → move_bad t kinds b ≡ move_bad s kinds a
    unfolding move_bad kind_bad
    move_copied kinds l =
        rw (
          byte_copied a b f (omega arith),
          further 1 (omega arith),
          further 2 (omega arith),
          further 3 (omega arith),
          further 4 (omega arith),
          further 5 (omega arith),
        )

    -- a record's head
    pub head_copied : a + head_size ≤ at + size → (objects_in t b ≡ objects_in s a) × (steps_in t b ≡ steps_in s a) × (length_in t b ≡ length_in s a)
    unfolding objects_in steps_in length_in two
    head_copied l =
        (byte_copied a b f (omega arith), further 1 (omega arith), rw (further 2 (omega arith), byte_copied (a + 2 + 1) (b + 2 + 1) (facing_on (facing_on f 2) 1) (omega arith)))

    -- a state's bytes, and where they end
    pub end_copied : list_end s a ≤ at + size → Facing at at' (list_end s a) (list_end t b)
    unfolding list_end
    end_copied l =
        let e = two_copied (omega arith) in
        record { low = omega arith; level = omega arith }

  facts_copied : (n a b : ℕ) → Facing at at' a b → a + fact_size * n ≤ at + size → facts_at t n b ≡ facts_at s n a
  unfolding facts_at
  facts_copied zero a b f l = refl
  facts_copied (suc n) a b f l =
      rw (fact_copied a b f (omega arith), facts_copied n (a + fact_size) (b + fact_size) (facing_on f fact_size) (omega arith))

  pub list_copied : (a b : ℕ) → Facing at at' a b → list_end s a ≤ at + size → list_at t b ≡ list_at s a
  unfolding list_at list_end
  list_copied a b f l = rw (two_copied a b f (omega arith)) (facts_copied (two s a) (a + count_size) (b + count_size) (facing_on f count_size) l)
