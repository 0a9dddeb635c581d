-- Bytes written into a list: by a loop, one run after another, and through a part that was lent. Uses lib's lists and `paste` alone.
use Prim.Native.Nat.{ℕ, ◌+◌, ◌-◌, ◌≤◌, ◌<◌}
use native.Mathlib.Nat.{zero-add}
use native.Mathlib.Numerals.{add-one}
use native.Mathlib.Omega.{arith}
use mathlib.Core.Path.{◌≡◌, sym, ◌∙◌, ap, ap₂}
use mathlib.Core.List.{List, ◌++◌, append_assoc, append-nil}
use lib.ListN.{length, get_or, set, take, drop, length-append, length-drop, drop_of_length-le}
use lib.Seq.{paste, paste-zero, paste-suc, length-take-le, take-length, drop-drop, drop_at, take_at, take_all, take-append_seam, take-append-le, drop-append-add, drop-append-le}
use borrow.Rule.Slice.PartMut.{mid_of, put_mid, mid_len}
use Rattle.output.specs.Written.{written}

-- `written`, as a copy of the whole run
paste_all : (d : List ℕ) (at : ℕ) (s : List ℕ) → paste d at s (length s) ≡ written d at s
unfolding written
paste_all d at s = rw take-length

-- the first i elements of a run
unfoldable pub copied : List ℕ → ℕ → List ℕ → ℕ → List ℕ
copied d at s i = paste d at s i

pub copied_first : (d : List ℕ) (at : ℕ) (s : List ℕ) → d ≡ copied d at s 0
unfolding copied
copied_first d at s = paste-zero d at s

pub copied_next : (l d : List ℕ) (at : ℕ) (s : List ℕ) (i : ℕ) → at + length s ≤ length d → i < length s → l ≡ copied d at s i → set l (at + i) (get_or s i 0) ≡ copied d at s (i + 1)
unfolding copied
copied_next l d at s i h k e = rw (e, add-one) (paste-suc d at s i 0 (omega arith) k)

pub copied_last : (d : List ℕ) (at : ℕ) (s : List ℕ) (i : ℕ) → i ≤ length s → length s ≤ i → copied d at s i ≡ written d at s
unfolding copied
copied_last d at s i h k =
    let e : i ≡ length s = omega arith in
    rw e (paste_all d at s)

pub length_written : (d : List ℕ) (at : ℕ) (s : List ℕ) → at + length s ≤ length d → length (written d at s) ≡ length d
unfolding written
length_written d at s h = simp (length-append, length-take-le at d (omega arith), length-drop) (omega arith)

-- a run, and the next one where it ends, are one run
pub written_then : (d : List ℕ) (at : ℕ) (a b : List ℕ) (next : ℕ) → next ≡ at + length a → next ≤ length d → written (written d at a) next b ≡ written d at (a ++ b)
unfolding written
written_then d at a b next e h =
    let k : next + length b ≡ at + length (a ++ b) = simp length-append (omega arith) in
    let p : length (take at d ++ a) ≡ next = length-append (take at d) a ∙ ap (λ (n : ℕ). n + length a) (length-take-le at d (omega arith)) ∙ sym e in
    let front = take_at (take at d ++ a) (drop (at + length a) d) next p in
    let behind = drop_at (take at d ++ a) (drop (at + length a) d) next p in
    let back =
    sym (drop-drop (length b) next (take at d ++ a ++ drop (at + length a) d))
    ∙ ap (λ (l : List ℕ). drop (length b) l) behind
    ∙ drop-drop (length b) (at + length a) d
    ∙ ap (λ (n : ℕ). drop (n + length b) d) (sym e)
    ∙ ap (λ (n : ℕ). drop n d) k in
    ap₂ (λ (x y : List ℕ). x ++ b ++ y) front back ∙ ap (λ (l : List ℕ). l ++ drop (at + length (a ++ b)) d) (append_assoc (take at d) a b)

-- written from the front on
pub front_written : (d v : List ℕ) → written d 0 v ≡ v ++ drop (length v) d
unfolding written
front_written d v = rw zero-add

behind : (s r q : List ℕ) → written (s ++ q) (length s) r ≡ s ++ r ++ drop (length r) q
unfolding written
behind s r q = rw (take-append_seam, drop-append-add)

-- after what was written from the front on
pub behind_written : (d s r : List ℕ) → written (written d 0 s) (length s) r ≡ s ++ r ++ drop (length s + length r) d
behind_written d s r = rw (front_written d s, behind s r (drop (length s) d), drop-drop)

-- within the first part of a list
pub part_written : (p q : List ℕ) (at : ℕ) (v : List ℕ) → at + length v ≤ length p → written (p ++ q) at v ≡ written p at v ++ q
unfolding written
part_written p q at v h =
    rw (take-append-le at p q (omega arith), drop-append-le (at + length v) p q h) (sym (append_assoc (take at p ++ v) (drop (at + length v) p) q))

-- nothing is left of a list that is written over from its start
pub written_whole : (d s : List ℕ) → length s ≡ length d → written d 0 s ≡ s
unfolding written
written_whole d s e =
    let h : length d ≤ 0 + length s = omega arith in
    rw (drop_of_length-le d h) (append-nil s)

-- a run written at the start of a part that was lent is a run written where the part starts
pub written_part : (d : List ℕ) (at : ℕ) (s m : List ℕ) → at ≤ length d → m ≡ written (mid_of at (length d - at) d) 0 s → put_mid at (length d - at) d m ≡ written d at s
unfolding written
written_part d at s m h e =
    let k : length (drop at d) ≤ length d - at = omega (arith, length-drop at d) in
    let whole = take_all (length d - at) (drop at d) k in
    let rest = drop-drop (0 + length s) at d ∙ ap (λ (n : ℕ). drop (at + n) d) (zero-add (length s)) in
    let row : m ≡ s ++ drop (at + length s) d = e ∙ ap (λ (l : List ℕ). s ++ drop (0 + length s) l) whole ∙ ap (λ (l : List ℕ). s ++ l) rest in
    ap₂ (λ (x y : List ℕ). take at d ++ (x ++ y)) row (drop_of_length-le (drop at d) k)
    ∙ ap (λ (l : List ℕ). take at d ++ l) (append-nil (s ++ drop (at + length s) d))
    ∙ sym (append_assoc (take at d) s (drop (at + length s) d))

-- the part of a list from an index on has what the list has from there
pub part_room : (d : List ℕ) (at n : ℕ) → at + n ≤ length d → n ≤ length (mid_of at (length d - at) d)
part_room d at n h = omega (arith, mid_len at (length d) d (omega arith))
