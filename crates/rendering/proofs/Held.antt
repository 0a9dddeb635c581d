-- A state kept as a list: copied from a book, emptied, and read again from bytes that were appended.
use Prim.Native.Nat.{ℕ, ◌+◌, ◌-◌, ◌*◌, ◌≤◌, ◌<◌}
use native.Mathlib.Nat.{zero-add}
use native.Mathlib.Omega.{arith}
use mathlib.Core.Path.{◌≡◌, ap, ◌∙◌}
use mathlib.Core.List.{List, []}
use lib.ListN.{length, take, drop, length-take, length-drop, get_or-append}
use lib.Seq.{get_or-take, get_or-drop}
use Rattle.input.specs.Bytes.{byte_at, two}
use Rattle.output.specs.Written.{written, two_bytes}
use Rattle.output.proofs.Written.{front_written, length_written}
use Rattle.output.proofs.Two.{two_there}
use Rattle.limits.specs.Limits.{count_size, fact_size, max_facts}
use Rattle.format.specs.Lists.{facts_at, list_at, list_end}
use Rattle.format.proofs.Reading.{Copied, list_copied}
use Rattle.factsets.proofs.States.{length_facts}
use Rattle.rendering.specs.Held.{state_list_size, Holds}

-- ---- how long a list is

pub list_length : (s : List ℕ) (at : ℕ) → length (list_at s at) ≡ two s at
unfolding list_at
list_length s at = length_facts s (two s at) (at + count_size)

pub list_size : (s : List ℕ) (at : ℕ) → list_end s at ≡ at + count_size + fact_size * length (list_at s at)
unfolding list_end
list_size s at = rw (list_length s at)

pub holds_end : {state : List ℕ} → Holds state → list_end state 0 ≤ length state
holds_end {state} h = omega (arith, list_size state 0)

-- ---- another list in its place

module _ (state s : List ℕ) (at end : ℕ) (long : length state ≡ state_list_size) (is : end ≡ list_end s at) (within : list_end s at ≤ length s) (few : length (list_at s at) ≤ max_facts) where
  part_length : length (take (end - at) (drop at s)) ≡ end - at
  part_length = simp (length-take, length-drop) (omega (arith, list_size s at))

  pub hold_room : 0 + length (take (end - at) (drop at s)) ≤ length state
  hold_room = rw part_length (omega (arith, list_size s at))

  module _ (state' : List ℕ) (e : state' ≡ written state 0 (take (end - at) (drop at s))) where
    byte : (i : ℕ) → i < end - at → byte_at state' i ≡ byte_at s (at + i)
    unfolding byte_at
    byte i l =
        let part = take (end - at) (drop at s) in
        let m : i < length part = omega (arith, part_length) in
        rw (e, front_written state part, get_or-append part (drop (length part) state) 0 i m, get_or-take (end - at) (drop at s) i 0 l, get_or-drop at s i 0)

    copy : Copied s at state' 0 (end - at)
    copy =
        record {
          within = omega (arith, ap length e, length_written state 0 (take (end - at) (drop at s)) hold_room, hold_room, part_length);
          bytes = λ i l. rw zero-add (byte i l);
        }

    pub held_by : list_at state' 0 ≡ list_at s at
    held_by =
        let low = list_size s at in
        list_copied copy at 0 (record { low = omega arith; level = omega arith }) (omega arith)

-- ---- no facts

pub held_none : (state state' : List ℕ) → length state ≡ state_list_size → state' ≡ written state 0 (two_bytes 0) → list_at state' 0 ≡ []
unfolding list_at facts_at
held_none state state' long e = rw (ap (λ (t : List ℕ). two t 0) e ∙ two_there state 0 0 (omega arith) (omega arith))

pub holds_none : (state : List ℕ) → length state ≡ state_list_size → list_at state 0 ≡ [] → Holds state
holds_none state long e = record { long = long; few = rw e (omega arith) }
