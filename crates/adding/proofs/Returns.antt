-- Each return of `add`, with the lent output, put together from what the calls before it return.
use Prim.Native.Nat.{ℕ, ◌+◌, ◌≤◌, ◌<◌}
use mathlib.Core.Path.{◌≡◌, refl, sym, ◌∙◌}
use mathlib.Core.Bool.{true, false}
use mathlib.Core.List.{List}
use borrow.Author.Tests.{lt-ltb, le-ltb}
use lib.Dec.{ltb}
use lib.ListN.{length, take}
use lib.Seq.{take_at}
use Rattle.answer.specs.Answer.{Answer, Good, Refused, ◌>>=◌, refuse, is_refused, kept}
use Rattle.answer.proofs.Laws.{stays, follows, bind_assoc, refuse_met, refuse_unmet, refused_kept}
use Rattle.terms.specs.declared.Sections.{Sections}
use Rattle.terms.specs.Sections.{sections_of}
use Rattle.limits.specs.Limits.{header_size, max_length, max_records, max_relations}
use Rattle.format.specs.Form.{Form}
use Rattle.format.specs.LookOver.{look_over, all_records}
use Rattle.jobs.specs.Add.{added, add, add_bytes}
use Rattle.answer.proofs.Turns.{part_stays}
use Rattle.format.proofs.LookOver.{look_over_good}
use Rattle.output.specs.Written.{written}
use Rattle.adding.specs.Outcome.{AddOutcome}
use Rattle.output.proofs.Written.{front_written}
use Rattle.adding.proofs.Formed.{length_added}
use Rattle.adding.specs.NewHeader.{one_more}
use Rattle.adding.proofs.Kept.{header}
use Rattle.adding.proofs.OneRecord.{book_full, record_alone}

-- a book that was looked over has a whole header, and is no longer than a book may be
module _ (form : Form) (s : List ℕ) (n : ℕ) (e : Good n ≡ look_over form s) where
  pub long_enough : header_size ≤ length s
  long_enough = (look_over_good form s n (sym e)).sections.size.least

  pub short_enough : length s ≤ max_length
  short_enough = (look_over_good form s n (sym e)).sections.size.most

module _ (form : Form) (s r old : List ℕ) where
  kept_old : (a : Answer) → a ≡ add form s r (length old) → is_refused a ≡ true → AddOutcome form s r old old a
  unfolding add_bytes
  kept_old a e f = record { says = e; bytes = refused_kept _ a _ old e f }

  pub first_refused_lem : (a : Answer) → a ≡ look_over form s → is_refused a ≡ true → AddOutcome form s r old old a
  unfolding add
  first_refused_lem a e g = kept_old a (part_stays _ _ a _ e refl g) g

  module _ (n : ℕ) (e : Good n ≡ look_over form s) where
    first_good : look_over form s ≡ Good n
    first_good = sym e

    long : header_size ≤ length s
    long = long_enough form s n e

    pub too_long : max_length < length s + length r → AddOutcome form s r old old (Refused 1 0)
    unfolding add ◌>>=◌ refuse is_refused
    too_long h = kept_old _ (rw (first_good, lt-ltb max_length (length s + length r) h)) refl

    module _ (h : Sections) (is : h ≡ sections_of s) (m : length s + length r ≤ max_length) where
      pub book_is_full : max_records ≤ h.records.count → AddOutcome form s r old old (Refused 2 0)
      unfolding add ◌>>=◌ refuse is_refused
      book_is_full i = kept_old _ (rw (first_good, le-ltb max_length (length s + length r) m, book_full form s r _ first_good m (rw is at i))) refl

      -- what the memory that `form` filled holds of the new book
      module _ (i : h.records.count < max_records) (d new : List ℕ) (w : new ≡ written d 0 (added s r)) where
        pub formed : take (length s + length r) new ≡ added s r
        formed = rw (w, front_written d (added s r)) (take_at (added s r) _ (length s + length r) (length_added s r long))

        -- which has the relations of the old one
        pub known : (sections_of (take (length s + length r) new)).relations.count ≤ max_relations
        unfolding one_more
        known =
            let was = look_over_good form s _ first_good in
            rw (formed, header form s r _ was m) was.sections.counts.relations

        module _ (a : Answer) (e₂ : a ≡ all_records form (sections_of (take (length s + length r) new)) (take (length s + length r) new) 1 (length s)) where
          is₂ : look_over form (added s r) ≡ (a >>= λ k. Good (n + k))
          is₂ = rw (e₂, formed) (record_alone form s r _ first_good m (rw is at i))

          behind : (a >>= λ _. refuse (ltb (length old) (length s + length r)) 13 0 >>= λ _. Good (length s + length r)) ≡ add form s r (length old)
          unfolding add ◌>>=◌ refuse
          behind = rw (first_good, le-ltb max_length (length s + length r) m, is₂) (sym (bind_assoc a _ _))

          pub new_refused : is_refused a ≡ true → AddOutcome form s r old old a
          new_refused g = kept_old a (stays a _ g ∙ behind) g

          module _ (g : is_refused a ≡ false) where
            room : (refuse (ltb (length old) (length s + length r)) 13 0 >>= λ _. Good (length s + length r)) ≡ add form s r (length old)
            room = follows a (λ _. refuse (ltb (length old) (length s + length r)) 13 0 >>= λ _. Good (length s + length r)) g ∙ behind

            pub no_room : length old < length s + length r → AddOutcome form s r old old (Refused 13 0)
            unfolding is_refused
            no_room l = kept_old _ (sym (refuse_met _ _ _ _ (lt-ltb _ _ l)) ∙ room) refl

            pub stored : (out : List ℕ)
                → length s + length r ≤ length old
                → out ≡ written old 0 (take (length s + length r) new)
                → AddOutcome form s r old out (Good (length s + length r))
            unfolding add_bytes kept
            stored out l v =
                let says : Good (length s + length r) ≡ add form s r (length old) = sym (refuse_unmet _ _ _ _ (le-ltb _ _ l)) ∙ room in
                record {
                  says = says;
                  bytes = rw (← says, v, formed, front_written old (added s r), length_added s r long);
                }
