-- The bytes of an order with one of its starts alone: its header, and where objects, start, goal entries and steps stand in it.
use Prim.Native.Nat.{ℕ, ◌+◌, ◌-◌, ◌*◌, ◌≤◌, ◌<◌}
use mathlib.Core.Path.{◌≡◌, refl, sym, ap, ◌∙◌}
use mathlib.Core.List.{List, ◌++◌}
use native.Mathlib.Omega.{arith}
use lib.ListN.{length, take, drop, get_or, length-append, length-drop, get_or-append}
use lib.Seq.{length-take-le, get_or-take, get_or-drop, get_or-append-add}
use Rattle.limits.specs.Limits.{header_size, entry_size, max_facts}
use Rattle.input.specs.Bytes.{byte_at, two}
use Rattle.output.specs.Written.{written, two_bytes}
use Rattle.output.proofs.Two.{two_elsewhere, two_there}
use Rattle.output.proofs.Written.{length_written}
use Rattle.format.specs.Lists.{list_end}
use Rattle.format.specs.Order.{object_count, start_count, goal_count, start_at, goal_at}
use Rattle.format.proofs.Orders.{OrderHeaderGood, start_at_is, steps_at_is}
use Rattle.format.proofs.Reading.{two_by, Copied}
use Rattle.jobs.specs.Alone.{start_size, goal_alone, left_alone, alone_at}

-- a start of the order: it stands where the starts do, and counts no more facts than a state may have
pub record StartIn (o : List ℕ) (at : ℕ) : Type 0 where
  pub header : OrderHeaderGood o
  pub low : start_at o ≤ at
  pub high : list_end o at ≤ goal_at o
  pub few : two o at ≤ max_facts

-- where it ends
pub start_end : (o : List ℕ) (at : ℕ) → list_end o at ≡ at + start_size o at
unfolding list_end start_size
start_end o at = omega arith

module _ (o : List ℕ) (at : ℕ) (start : StartIn o at) where
  size_most : start_size o at ≤ 770
  unfolding start_size
  size_most = omega (arith, start.few)

  pub goal_alone_is : goal_alone o at ≡ start_at o + start_size o at
  unfolding goal_alone
  goal_alone_is = refl

  -- the order ends behind its goal entries
  behind : goal_at o ≤ length o
  behind = omega (arith, start.header.size, steps_at_is o)

  reach : at + start_size o at ≤ goal_at o
  reach = omega (arith, start.high, start_end o at)

  -- ---- the bytes that are left

  length_front : length (take (start_at o) o) ≡ start_at o
  length_front = length-take-le (start_at o) o (omega (arith, behind, start.header.touch))

  length_middle : length (take (start_size o at) (drop at o)) ≡ start_size o at
  length_middle = length-take-le (start_size o at) (drop at o) (omega (arith, length-drop at o, behind, reach))

  length_left : length (left_alone o at) ≡ goal_alone o at + (length o - goal_at o)
  unfolding left_alone
  length_left =
      let middle : List ℕ = take (start_size o at) (drop at o) in
      omega (
        arith,
        length-append (take (start_at o) o) (middle ++ drop (goal_at o) o),
        length-append middle (drop (goal_at o) o),
        length_front,
        length_middle,
        length-drop (goal_at o) o,
        goal_alone_is,
      )

  left_front : (i : ℕ) → i < start_at o → byte_at (left_alone o at) i ≡ byte_at o i
  unfolding left_alone byte_at
  left_front i l = get_or-append (take (start_at o) o) _ 0 i (omega (arith, length_front)) ∙ get_or-take (start_at o) o i 0 l

  left_behind : (i : ℕ) → byte_at (left_alone o at) (start_at o + i) ≡ byte_at (take (start_size o at) (drop at o) ++ drop (goal_at o) o) i
  unfolding left_alone byte_at
  left_behind i =
      let rest : List ℕ = take (start_size o at) (drop at o) ++ drop (goal_at o) o in
      ap (λ (k : ℕ). get_or (take (start_at o) o ++ rest) (k + i) 0) (sym length_front) ∙ get_or-append-add (take (start_at o) o) rest i 0

  left_middle : (i : ℕ) → i < start_size o at → byte_at (left_alone o at) (start_at o + i) ≡ byte_at o (at + i)
  unfolding byte_at
  left_middle i l =
      left_behind i ∙ get_or-append (take (start_size o at) (drop at o)) _ 0 i (omega (arith, length_middle)) ∙ get_or-take (start_size o at) (drop at o) i 0 l
      ∙ get_or-drop at o i 0

  left_rest : (i : ℕ) → byte_at (left_alone o at) (goal_alone o at + i) ≡ byte_at o (goal_at o + i)
  unfolding byte_at
  left_rest i =
      let middle : List ℕ = take (start_size o at) (drop at o) in
      let place : goal_alone o at + i ≡ start_at o + (length middle + i) = omega (arith, goal_alone_is, length_middle) in
      ap (byte_at (left_alone o at)) place ∙ left_behind (length middle + i) ∙ get_or-append-add middle (drop (goal_at o) o) i 0 ∙ get_or-drop (goal_at o) o i 0

  -- ---- the header is renewed in three of its numbers

  abbrev pub p : List ℕ
  p = alone_at o at

  long : header_size ≤ length (left_alone o at)
  long = omega (arith, length_left, goal_alone_is, start_at_is o)

  abbrev counted : List ℕ
  counted = written (left_alone o at) 2 (two_bytes 1)

  abbrev placed : List ℕ
  placed = written counted 12 (two_bytes (goal_alone o at))

  length_counted : length counted ≡ length (left_alone o at)
  unfolding two_bytes
  length_counted = length_written (left_alone o at) 2 _ (omega (arith, long))

  length_placed : length placed ≡ length (left_alone o at)
  unfolding two_bytes
  length_placed = length_written counted 12 _ (omega (arith, long, length_counted)) ∙ length_counted

  pub length_alone : length p ≡ goal_alone o at + (length o - goal_at o)
  unfolding alone_at two_bytes
  length_alone = length_written placed 14 _ (omega (arith, long, length_placed)) ∙ length_placed ∙ length_left

  -- bytes of no number from an offset on
  abbrev Off : ℕ → ℕ → Type 0
  Off i n = (i ≡ n → ⊥) × (i ≡ n + 1 → ⊥)

  elsewhere : (i : ℕ) → Off i 2 → Off i 12 → Off i 14 → byte_at p i ≡ byte_at (left_alone o at) i
  unfolding alone_at
  elsewhere i a b c =
      two_elsewhere placed 14 _ (omega (arith, long, length_placed)) i c.0 c.1
      ∙ two_elsewhere counted 12 _ (omega (arith, long, length_counted)) i b.0 b.1
      ∙ two_elsewhere (left_alone o at) 2 1 (omega (arith, long)) i a.0 a.1

  pub starts_one : start_count p ≡ 1
  unfolding start_count alone_at
  starts_one =
      let before : (i : ℕ) → i < 12 → byte_at p i ≡ byte_at counted i =
      λ i l.
      two_elsewhere placed 14 _ (omega (arith, long, length_placed)) i (λ e. omega arith) (λ e. omega arith)
      ∙ two_elsewhere counted 12 _ (omega (arith, long, length_counted)) i (λ e. omega arith) (λ e. omega arith) in
      two_by p counted 2 (before 2 (omega arith)) (before 3 (omega arith)) ∙ two_there (left_alone o at) 2 1 (omega (arith, long)) (omega arith)

  pub goal_at_lem : goal_at p ≡ goal_alone o at
  unfolding goal_at alone_at
  goal_at_lem =
      let before : (i : ℕ) → i < 14 → byte_at p i ≡ byte_at placed i =
      λ i l. two_elsewhere placed 14 _ (omega (arith, long, length_placed)) i (λ e. omega arith) (λ e. omega arith) in
      two_by p placed 12 (before 12 (omega arith)) (before 13 (omega arith))
      ∙ two_there counted 12 (goal_alone o at) (omega (arith, long, length_counted)) (omega (arith, size_most, goal_alone_is, start_at_is o, start.header.objects))

  pub steps_told : two p 14 ≡ goal_alone o at + entry_size * goal_count o
  unfolding alone_at
  steps_told =
      two_there placed 14 _ (omega (arith, long, length_placed)) (omega (arith, size_most, goal_alone_is, start_at_is o, start.header.objects, start.header.entries))

  -- the other numbers stay
  pub number_kept : (k : ℕ) → k + 1 < 12 → Off k 2 → Off (k + 1) 2 → two p k ≡ two o k
  number_kept k l a b =
      let kept : (i : ℕ) → i < 12 → Off i 2 → byte_at p i ≡ byte_at o i =
      λ i l a. elsewhere i a (λ e. omega arith, λ e. omega arith) (λ e. omega arith, λ e. omega arith) ∙ left_front i (omega (arith, start_at_is o)) in
      two_by p o k (kept k (omega arith) a) (kept (k + 1) l b)

  -- ---- objects, start, goal entries and steps

  later : (i : ℕ) → header_size ≤ i → byte_at p i ≡ byte_at (left_alone o at) i
  later i l = elsewhere i (λ e. omega arith, λ e. omega arith) (λ e. omega arith, λ e. omega arith) (λ e. omega arith, λ e. omega arith)

  pub objects_there : Copied o header_size p header_size (object_count o)
  objects_there =
      record {
        within = omega (arith, length_alone, goal_alone_is, start_at_is o);
        bytes = λ i l. later (header_size + i) (omega arith) ∙ left_front (header_size + i) (omega (arith, start_at_is o));
      }

  pub start_there : Copied o at p (start_at o) (start_size o at)
  start_there =
      record {
        within = omega (arith, length_alone, goal_alone_is);
        bytes = λ i l. later (start_at o + i) (omega (arith, start_at_is o)) ∙ left_middle i l;
      }

  pub rest_there : Copied o (goal_at o) p (goal_alone o at) (length o - goal_at o)
  rest_there =
      record {
        within = omega (arith, length_alone);
        bytes = λ i l. later (goal_alone o at + i) (omega (arith, goal_alone_is, start_at_is o)) ∙ left_rest i;
      }
