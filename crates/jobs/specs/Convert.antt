-- Converting a book to the other form, and what the lent output holds afterwards. The header but for its end, the sections and what the records say
-- stay; each state after a step is listed in the other form.
use Rattle.std.specs.Prelude.{ℕ, zero, suc, ◌+◌, ◌-◌, cond, not, List, [], ◌∷◌, ◌++◌, length, take, drop, ltb}
use Rattle.answer.specs.Answer.{Answer, Good, ◌>>=◌, refuse, kept}
use Rattle.output.specs.Written.{two_bytes}
use Rattle.terms.specs.declared.Fact.{Fact}
use Rattle.terms.specs.declared.Step.{Step}
use Rattle.terms.specs.Sections.{sections_of}
use Rattle.terms.specs.Steps.{object_of}
use Rattle.limits.specs.Limits.{max_length, header_size, head_size, failed_mark}
use Rattle.format.specs.Lists.{list_at}
use Rattle.format.specs.Toggled.{toggled}
use Rattle.format.specs.Form.{Form}
use Rattle.format.specs.Records.{objects_in, steps_in, length_in}
use Rattle.format.specs.LookOver.{look_over}
use Rattle.format.specs.Decode.{RecordedStep, first_at, steps_of_record}

-- ---- values as bytes

unfoldable pub facts_bytes : List Fact → List ℕ
facts_bytes [] = []
facts_bytes (f ∷ fs) = f.relation.0 ∷ f.first.0 ∷ f.second.0 ∷ facts_bytes fs

unfoldable pub list_bytes : List Fact → List ℕ
list_bytes fs = two_bytes (length fs) ++ facts_bytes fs

unfoldable pub step_bytes : Step → List ℕ
step_bytes st =
    st.action.0
    ∷ (object_of st.binding (record { 0 = 1 })).0
    ∷ (object_of st.binding (record { 0 = 2 })).0
    ∷ (object_of st.binding (record { 0 = 3 })).0
    ∷ (object_of st.binding (record { 0 = 4 })).0
    ∷ []

-- the step with the mark of one that did not go
unfoldable pub marked : Step → Step
marked st = record { action = record { 0 = failed_mark + st.action.0 }; binding = st.binding }

-- a recorded step: what `filed_step_at` and `went_at` read is written back as the bytes that were there (proofs/Bytes)
unfoldable pub filed_step_bytes : RecordedStep → List ℕ
filed_step_bytes x = step_bytes (cond x.went x.step (marked x.step))

-- the list after a step in a form: the facts that turn, or those that hold
unfoldable pub listed : Form → RecordedStep → List Fact
listed form x = cond form (toggled x.pre x.post) x.post

unfoldable pub steps_bytes : Form → List RecordedStep → List ℕ
steps_bytes form [] = []
steps_bytes form (x ∷ xs) = filed_step_bytes x ++ list_bytes (listed form x) ++ steps_bytes form xs

-- ---- a book in the form `to`, which `s` is not in

-- so many bytes from an offset on
unfoldable pub bytes_at : List ℕ → ℕ → ℕ → List ℕ
bytes_at s at size = take size (drop at s)

-- the part of a record after its head
unfoldable pub body_bytes : Form → List ℕ → ℕ → List ℕ
body_bytes to s at = bytes_at s (at + head_size) (objects_in s at) ++ list_bytes (list_at s (first_at s at)) ++ steps_bytes to (steps_of_record (not to) s at)

-- a record, its length renewed
unfoldable pub record_bytes : Form → List ℕ → ℕ → List ℕ
record_bytes to s at = objects_in s at ∷ steps_in s at ∷ (two_bytes (head_size + length (body_bytes to s at)) ++ body_bytes to s at)

unfoldable pub records_bytes : Form → List ℕ → ℕ → ℕ → List ℕ
records_bytes to s zero at = []
records_bytes to s (suc n) at = record_bytes to s at ++ records_bytes to s n (at + length_in s at)

unfoldable pub all_records_bytes : Form → List ℕ → List ℕ
all_records_bytes to s = records_bytes to s (sections_of s).records.count (sections_of s).records.at

-- the book, its end (bytes 14 and 15) renewed
unfoldable pub converted : Form → List ℕ → List ℕ
converted to s =
    take 14 s
    ++ two_bytes ((sections_of s).records.at + length (all_records_bytes to s))
    ++ bytes_at s header_size ((sections_of s).records.at - header_size)
    ++ all_records_bytes to s

-- ---- the job

-- rows 1 to 10 and 27, then 23 and 13; success is the new length
unfoldable pub convert : Form → List ℕ → ℕ → Answer
convert to s size = do
  _ ← look_over (not to) s
  _ ← refuse (ltb max_length (length (converted to s))) 23 0
  _ ← refuse (ltb size (length (converted to s))) 13 0
  Good (length (converted to s))

unfoldable pub convert_bytes : Form → List ℕ → List ℕ → List ℕ
convert_bytes to s out = kept (convert to s (length out)) (converted to s ++ drop (length (converted to s)) out) out
