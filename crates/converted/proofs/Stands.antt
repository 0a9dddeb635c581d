-- Bytes that stand in a book from an offset on, put together from parts and taken apart: for rendered values, which are read where they stand.
use Prim.Native.Nat.{ℕ, zero, suc, ◌+◌, ◌-◌, ◌≤◌, ◌<◌}
use mathlib.Core.Path.{◌≡◌, refl, sym, ◌∙◌}
use mathlib.Core.List.{List, [], ◌∷◌, ◌++◌}
use native.Mathlib.Decide.{dec_lt}
use native.Mathlib.Nat.{zero-add, add-zero}
use native.Mathlib.Omega.{arith}
use lib.ListN.{length, drop, length-append, length-drop, get_or-append}
use lib.Seq.{get_or-append-add, get_or-take, get_or-drop, length-take-le, ext_get_or}
use Rattle.input.specs.Bytes.{byte_at}
use Rattle.jobs.specs.Convert.{bytes_at}

-- the bytes v stand in t from an offset on
pub record Stands (v t : List ℕ) (at : ℕ) : Type 0 where
  pub within : at + length v ≤ length t
  pub bytes : (i : ℕ) → i < length v → byte_at t (at + i) ≡ byte_at v i

-- a book stands in itself
pub stands_own : (t : List ℕ) → Stands t t 0
stands_own t = record { within = omega arith; bytes = λ i l. rw zero-add refl }

-- the same offset, called otherwise
pub stands_at : (v t : List ℕ) (a b : ℕ) → a ≡ b → Stands v t a → Stands v t b
stands_at v t a b e h = rw e at h

-- no bytes; the first byte and the others; one byte more in front
pub stands_none : (t : List ℕ) (at : ℕ) → at ≤ length t → Stands [] t at
stands_none t at l = record { within = omega arith; bytes = λ i l. absurd (omega arith) }

pub stands_first : (b : ℕ) (v t : List ℕ) (at : ℕ) → Stands (b ∷ v) t at → byte_at t at ≡ b
unfolding byte_at
stands_first b v t at h = rw add-zero at (h.bytes 0 (omega arith))

pub stands_rest : (b : ℕ) (v t : List ℕ) (at : ℕ) → Stands (b ∷ v) t at → Stands v t (at + 1)
unfolding byte_at
stands_rest b v t at h =
    let w = h.within in
    record {
      within = omega arith;
      bytes = λ i l.
          let e : at + 1 + i ≡ at + suc i = omega arith in
          rw e (h.bytes (suc i) (omega arith));
    }

pub stands_more : (b : ℕ) (v t : List ℕ) (at : ℕ) → byte_at t at ≡ b → Stands v t (at + 1) → Stands (b ∷ v) t at
unfolding byte_at
stands_more b v t at e h =
    let w = h.within in
    record { within = omega arith; bytes = go }
  where
    go : (i : ℕ) → i < suc (length v) → byte_at t (at + i) ≡ byte_at (b ∷ v) i
    go zero l = rw add-zero e
    go (suc i) l =
        let f : at + suc i ≡ at + 1 + i = omega arith in
        rw f (h.bytes i (omega arith))

-- two parts, one after the other
module _ (v w t : List ℕ) (at : ℕ) where
  pub stands_left : Stands (v ++ w) t at → Stands v t at
  unfolding byte_at
  stands_left h =
      let l = h.within in
      let n = length-append v w in
      record { within = omega arith; bytes = λ i k. h.bytes i (omega arith) ∙ get_or-append v w 0 i k }

  pub stands_right : Stands (v ++ w) t at → Stands w t (at + length v)
  unfolding byte_at
  stands_right h =
      let l = h.within in
      let n = length-append v w in
      record {
        within = omega arith;
        bytes = λ i k.
            let e : at + length v + i ≡ at + (length v + i) = omega arith in
            rw e (h.bytes (length v + i) (omega arith) ∙ get_or-append-add v w i 0);
      }

  pub stands_both : Stands v t at → Stands w t (at + length v) → Stands (v ++ w) t at
  unfolding byte_at
  stands_both h k =
      let n = length-append v w in
      let l = k.within in
      record { within = omega arith; bytes = λ i m. go i (omega arith) (dec_lt i (length v)) }
    where
      go : (i : ℕ) → i < length v + length w → Dec (i < length v) → byte_at t (at + i) ≡ byte_at (v ++ w) i
      go i m (yes l) = h.bytes i l ∙ sym (get_or-append v w 0 i l)
      go i m (no l) =
          let e : at + i ≡ at + length v + (i - length v) = omega arith in
          let f : length v + (i - length v) ≡ i = omega arith in
          let g = sym (get_or-append-add v w (i - length v) 0) in
          rw e (k.bytes (i - length v) (omega arith) ∙ rw f at g)

-- bytes that stand in a whole book are the book
pub stands_whole : (v t : List ℕ) → Stands v t 0 → length v ≡ length t → v ≡ t
unfolding byte_at
stands_whole v t h e = ext_get_or 0 v t e (λ i l. sym (h.bytes i l) ∙ rw zero-add refl)

-- ---- a part of a book

module _ (s : List ℕ) (at size : ℕ) (l : at + size ≤ length s) where
  -- it has so many bytes, which are those of the book
  pub length_part : length (bytes_at s at size) ≡ size
  unfolding bytes_at
  length_part = length-take-le size (drop at s) (rw (length-drop at s) (omega arith))

  pub part_byte : (i : ℕ) → i < size → byte_at (bytes_at s at size) i ≡ byte_at s (at + i)
  unfolding byte_at bytes_at
  part_byte i k = get_or-take size (drop at s) i 0 k ∙ get_or-drop at s i 0

  -- it stands wherever the same bytes are, thus where it was
  pub part_stands : (t : List ℕ) (at' : ℕ) → at' + size ≤ length t → ((i : ℕ) → i < size → byte_at t (at' + i) ≡ byte_at s (at + i)) → Stands (bytes_at s at size) t at'
  part_stands t at' w same =
      let n = length_part in
      record { within = omega arith; bytes = λ i k. same i (omega arith) ∙ sym (part_byte i (omega arith)) }

  -- where it stands, its bytes are read
  pub part_read : (t : List ℕ) (at' : ℕ) → Stands (bytes_at s at size) t at' → (i : ℕ) → i < size → byte_at t (at' + i) ≡ byte_at s (at + i)
  part_read t at' h i k = let n = length_part in h.bytes i (omega arith) ∙ part_byte i k

-- parts of two books with the same bytes are the same
pub part_same : (s t : List ℕ) (at at' size : ℕ) → at + size ≤ length s → at' + size ≤ length t
    → ((i : ℕ) → i < size → byte_at t (at' + i) ≡ byte_at s (at + i)) → bytes_at t at' size ≡ bytes_at s at size
unfolding byte_at
part_same s t at at' size l k same =
    let m = length_part s at size l in
    let n = length_part t at' size k in
    ext_get_or 0 (bytes_at t at' size) (bytes_at s at size) (n ∙ sym m)
    (λ i j.
    let j' : i < size = omega arith in
    part_byte t at' size k i j' ∙ same i j' ∙ sym (part_byte s at size l i j'))
