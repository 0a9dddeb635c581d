-- What adding does to a book, where it succeeds: the record is read back as it was filed, and the rest of the book stays.
use Rattle.std.specs.Prelude.{ℕ, ◌+◌, ◌<◌, ◌≡◌, false, List, ◌++◌, length, take, drop}
use Rattle.answer.specs.Answer.{Good, Refused}
use Rattle.input.specs.Bytes.{byte_at}
use Rattle.terms.specs.Sections.{sections_of}
use Rattle.terms.specs.Agree.{SameSchema}
use Rattle.format.specs.Form.{Form}
use Rattle.format.specs.Records.{steps_in, record_at}
use Rattle.format.specs.LookOver.{look_over}
use Rattle.format.specs.Decode.{steps_of_record, recorded_steps, moved_by}
use Rattle.jobs.specs.Planning.{schema_of}
use Rattle.jobs.specs.Add.{added, add, add_bytes}
use Rattle.adding.specs.NewHeader.{renewed, one_more}

-- `s` the old book, `r` the bytes of the record, n the place of the success
pub record ReadBack (form : Form) (s r : List ℕ) (n : ℕ) : Type 0 where
  -- the place is the new length
  pub place : n ≡ length s + length r
  pub size : length (added s r) ≡ n
  -- the old book was of good form, and the new one is: its steps are the old ones and those of the record
  pub old : ℕ
  pub was : look_over form s ≡ Good old
  pub is : look_over form (added s r) ≡ Good (old + steps_in r 0)
  -- the old book's bytes stand where they stood, but for the record count and the end
  pub kept : (i : ℕ) → i < length s → renewed i ≡ false → byte_at (added s r) i ≡ byte_at s i
  pub header : sections_of (added s r) ≡ one_more (sections_of s) n
  pub kinds : (schema_of (added s r)).kinds ≡ (schema_of s).kinds
  pub schema : SameSchema (schema_of s) (schema_of (added s r))
  -- the record's bytes stand after them, unchanged, and are one record of good form to their end
  pub behind : drop (length s) (added s r) ≡ r
  pub whole : record_at form (sections_of (added s r)) (added s r) (length s) ≡ Good n
  -- all recorded steps, those that did not go among them, are the old book's, then the record's ..
  pub steps : recorded_steps form (sections_of (added s r)) (added s r) ≡ recorded_steps form (sections_of s) s ++ steps_of_record form (added s r) (length s)
  -- .. and these are what the record's bytes say by themselves, with their places in the new book
  pub as_recorded : steps_of_record form (added s r) (length s) ≡ moved_by (length s) (steps_of_record form r 0)

-- a record that was added is read back as it was filed
abbrev pub AddedIsReadBack : Type 0
AddedIsReadBack = (form : Form) (s r : List ℕ) (size n : ℕ) → add form s r size ≡ Good n → ReadBack form s r n

-- the lent output after a success: the new book, and behind it the bytes that the output had there; after a refusal all its bytes are as before
pub record NewBookStored (form : Form) (s r out : List ℕ) (n : ℕ) : Type 0 where
  pub book : take n (add_bytes form s r out) ≡ added s r
  pub beyond : drop n (add_bytes form s r out) ≡ drop n out
  pub size : length (add_bytes form s r out) ≡ length out

abbrev pub AddedIsStored : Type 0
AddedIsStored = (form : Form) (s r out : List ℕ) (n : ℕ) → add form s r (length out) ≡ Good n → NewBookStored form s r out n

abbrev pub RefusedIsUntouched : Type 0
RefusedIsUntouched = (form : Form) (s r out : List ℕ) (k p : ℕ) → add form s r (length out) ≡ Refused k p → add_bytes form s r out ≡ out
