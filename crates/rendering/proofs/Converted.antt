-- The converted book: the bytes before the records, the records, and the end renewed; and what `form_converted` answers.
use Prim.Native.Nat.{ℕ, ◌+◌, ◌-◌, ◌≤◌, ◌<◌}
use native.Mathlib.Omega.{arith}
use mathlib.Core.Path.{◌≡◌, sym, ap, ◌∙◌}
use mathlib.Core.Bool.{not}
use mathlib.Core.List.{List, [], ◌++◌, append_assoc}
use borrow.Author.Tests.{lt-ltb, le-ltb}
use lib.ListN.{length, take, drop, length-append, length-take, length-drop}
use lib.Seq.{take-add, drop-drop, length-take-le}
use Rattle.answer.specs.Answer.{Good, Refused}
use Rattle.answer.proofs.Laws.{good_refused, refuse_met, refuse_unmet}
use Rattle.output.specs.Written.{written, two_bytes}
use Rattle.terms.specs.declared.Sections.{Sections}
use Rattle.terms.specs.Sections.{sections_of}
use Rattle.limits.specs.Limits.{max_length, header_size}
use Rattle.format.specs.Form.{Form}
use Rattle.format.proofs.LookOver.{LookedOver, look_over_good}
use Rattle.jobs.specs.Convert.{bytes_at, records_bytes, all_records_bytes, converted}
use Rattle.rendering.specs.Good.{GoodBook, GoodRecords}
use Rattle.rendering.specs.Formed.{ConvertedFormed}
use Rattle.appending.proofs.Appended.{append_then, append_renewed, over_first, over_then}

module _ (form : Form) (s : List ℕ) (good : GoodBook form s) (h : Sections) (is : h ≡ sections_of s) where
  looked : LookedOver form s good.0
  looked = look_over_good form s good.0 good.1

  at_is : h.records.at ≡ (sections_of s).records.at
  at_is = rw is

  pub records_start : (header_size ≤ h.records.at) × (h.records.at ≤ length s) × (length s ≤ max_length)
  records_start =
      let g = looked.sections in
      let e = at_is in
      (omega (arith, g.offsets), omega (arith, g.offsets), g.size.most)

  pub records_good : GoodRecords form s h.records.count h.records.at
  records_good =
      rw is (record { last = length s; good = looked.records; start = looked.sections.offsets.within; near = looked.sections.size.most })

  -- ---- the bytes before the records

  abbrev old_end : List ℕ
  old_end = take 2 (drop 14 s)

  abbrev sections : List ℕ
  sections = bytes_at s header_size (h.records.at - header_size)

  abbrev records : List ℕ
  records = records_bytes (not form) s h.records.count h.records.at

  front : take h.records.at s ≡ take 14 s ++ old_end ++ sections
  unfolding bytes_at
  front =
      let l = records_start in
      let k : ℕ = h.records.at - header_size in
      let d : h.records.at ≡ 14 + (2 + k) = omega arith in
      ap (λ (n : ℕ). take n s) d ∙ take-add 14 (2 + k) s
      ∙ ap (λ (t : List ℕ). take 14 s ++ t) (take-add 2 k (drop 14 s) ∙ ap (λ (t : List ℕ). old_end ++ take k t) (drop-drop 2 14 s))
      ∙ sym (append_assoc (take 14 s) old_end (take k (drop header_size s)))

  converted_is : take 14 s ++ two_bytes (h.records.at + length records) ++ (sections ++ records) ≡ converted (not form) s
  unfolding converted all_records_bytes
  converted_is = rw is (sym (append_assoc (take 14 s ++ two_bytes ((sections_of s).records.at + length (records_bytes (not form) s (sections_of s).records.count (sections_of s).records.at))) _ _))

  abbrev first : List ℕ
  first = take h.records.at s

  drafted_is : first ++ records ≡ take 14 s ++ old_end ++ (sections ++ records)
  drafted_is = ap (λ (l : List ℕ). l ++ records) front ∙ append_assoc (take 14 s ++ old_end) sections records

  -- two bytes are renewed
  end_two : length (two_bytes (h.records.at + length records)) ≡ length old_end
  unfolding two_bytes
  end_two =
      let l = records_start in
      simp (length-take, length-drop) (omega arith)

  renewed_length : length (take 14 s ++ old_end ++ (sections ++ records)) ≡ length (take 14 s ++ two_bytes (h.records.at + length records) ++ (sections ++ records))
  renewed_length = simp length-append (omega (arith, end_two))

  whole_length : length (first ++ records) ≡ length (converted (not form) s)
  whole_length = ap length drafted_is ∙ renewed_length ∙ ap length converted_is

  module _ (old : List ℕ) (empty : old ≡ []) where
    over : (new : List ℕ) → max_length < length old + length (first ++ records) → ConvertedFormed form s new (Refused 23 0)
    over new l =
        let n = whole_length in
        let z : length old ≡ 0 = ap length empty in
        record {
          says = sym (refuse_met _ 23 0 _ (lt-ltb max_length (length (converted (not form) s)) (omega arith)));
          bytes = λ m e. good_refused m 23 0 (sym e);
        }

    pub formed_over : (new : List ℕ) → max_length < length old + length first → ConvertedFormed form s new (Refused 23 0)
    formed_over new l = over new (over_first first records old old l)

    module _ (mid : List ℕ) (p : mid ≡ old ++ first) where
      pub formed_over_then : (new : List ℕ) → max_length < length mid + length records → ConvertedFormed form s new (Refused 23 0)
      formed_over_then new l = over new (over_then first records old mid p l)

      module _ (new : List ℕ) (q : new ≡ mid ++ records) where
        drafted : new ≡ old ++ (first ++ records)
        drafted = append_then first records old mid p q

        drafted_length : length new ≡ length (first ++ records)
        drafted_length =
            let z : length old ≡ 0 = ap length empty in
            let n : length new ≡ length old + length (first ++ records) = ap length drafted ∙ length-append old (first ++ records) in
            omega arith

        pub formed_size : length new ≡ h.records.at + length records
        formed_size =
            let k = records_start in
            omega (arith, drafted_length, length-append first records, length-take-le h.records.at s k.1)

        pub formed_good : (end : ℕ) → end ≡ length new → end ≤ max_length → (new' : List ℕ) → new' ≡ written new 14 (two_bytes end) → ConvertedFormed form s new' (Good end)
        formed_good end d l new' e =
            let k = records_start in
            let z : length old ≡ 0 = ap length empty in
            let n : 14 ≡ length old + length (take 14 s) = simp (length-take-le 14 s (omega arith)) (omega arith) in
            let is : end ≡ h.records.at + length records = d ∙ formed_size in
            let t : new' ≡ old ++ (take 14 s ++ two_bytes (h.records.at + length records) ++ (sections ++ records)) =
            append_renewed (take 14 s) old_end (sections ++ records) (two_bytes (h.records.at + length records)) old 14 (drafted ∙ ap (λ (l : List ℕ). old ++ l) drafted_is) n end_two (rw is at e) in
            let bytes : new' ≡ converted (not form) s = t ∙ rw empty converted_is in
            let size : end ≡ length (converted (not form) s) = d ∙ drafted_length ∙ whole_length in
            record {
              says = ap Good size ∙ sym (refuse_unmet _ 23 0 _ (le-ltb max_length (length (converted (not form) s)) (omega arith)));
              bytes = λ m _. bytes;
            }
