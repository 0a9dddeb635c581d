-- The tests of rows 21, 4 and 5, and rows 1 to 5 in order, 21 after 3, put together from what the calls in the code return.
use Prim.Native.Nat.{ℕ, ◌+◌, ◌-◌}
use mathlib.Core.Path.{◌≡◌, ◌∙◌}
use mathlib.Core.Bool.{Bool, true, false, ◌||◌, not}
use mathlib.Core.List.{List}
use lib.Dec.{eqb, ltb, leb}
use lib.ListN.{length}
use Rattle.answer.specs.Answer.{Answer, Refused, ◌>>=◌, refuse, is_refused}
use Rattle.answer.proofs.Laws.{stays, follows}
use Rattle.answer.specs.Walk.{walk}
use Rattle.input.specs.Bytes.{byte_at}
use Rattle.terms.specs.declared.Sections.{Sections}
use Rattle.limits.specs.Limits.{header_size, max_places, max_params}
use Rattle.format.specs.Header.{length_bad, counts_bad, offsets_bad, parent_bad, kind_bad, relation_bad, move_bad, parent, relation, move, sections}

pub parent_bad_by : (s : List ℕ) (at parent : ℕ) → parent ≡ byte_at s at → leb (at - header_size + 1) parent ≡ parent_bad s at
unfolding parent_bad
parent_bad_by s at parent p = rw p

module _ (s : List ℕ) (kinds at : ℕ) where
  pub relation_bad_by : (places last : ℕ) (a b : Bool)
      → places ≡ byte_at s at
      → a ≡ kind_bad s kinds (at + 1) (leb 1 places)
      → b ≡ kind_bad s kinds (at + 2) (leb 2 places)
      → last ≡ byte_at s (at + 3)
      → (ltb max_places places || a || b || not (eqb last 0)) ≡ relation_bad s kinds at
  unfolding relation_bad
  relation_bad_by places last a b p q r t = rw (q, r, t, p)

  pub move_bad_by : (params last : ℕ) (a b c d : Bool)
      → params ≡ byte_at s at
      → a ≡ kind_bad s kinds (at + 1) (leb 1 params)
      → b ≡ kind_bad s kinds (at + 2) (leb 2 params)
      → c ≡ kind_bad s kinds (at + 3) (leb 3 params)
      → d ≡ kind_bad s kinds (at + 4) (leb 4 params)
      → last ≡ byte_at s (at + 5)
      → (ltb max_params params || a || b || c || d || not (eqb last 0)) ≡ move_bad s kinds at
  unfolding move_bad
  move_bad_by params last a b c d p q r t u v = rw (q, r, t, u, v, p)

module _ (h : Sections) (s : List ℕ) where
  -- row 5, and the rows from 4 on
  abbrev row_five : Answer
  row_five = walk (move s h.kinds) h.moves.count h.moves.at

  abbrev from_four : Answer
  from_four = walk (relation s h.kinds) h.relations.count h.relations.at >>= λ next. row_five

  pub row_one : length_bad s ≡ true → Refused 1 0 ≡ sections h s
  unfolding sections ◌>>=◌ refuse
  row_one e = rw e

  module _ (one : length_bad s ≡ false) where
    pub row_two : counts_bad h ≡ true → Refused 2 0 ≡ sections h s
    unfolding sections ◌>>=◌ refuse
    row_two e = rw (one, e)

    module _ (two : counts_bad h ≡ false) where
      pub row_three : offsets_bad h (length s) ≡ true → Refused 3 0 ≡ sections h s
      unfolding sections ◌>>=◌ refuse
      row_three e = rw (one, two, e)

      module _ (three : offsets_bad h (length s) ≡ false) (p : Answer) (parents : p ≡ walk (parent s) (h.relations.at - header_size) header_size) where
        rows_on : (p >>= λ next. from_four) ≡ sections h s
        unfolding sections ◌>>=◌ refuse
        rows_on = rw (parents, one, two, three)

        pub row_twenty_one : is_refused p ≡ true → p ≡ sections h s
        row_twenty_one e = stays p _ e ∙ rows_on

        module _ (smaller : is_refused p ≡ false) (a : Answer) (is : a ≡ walk (relation s h.kinds) h.relations.count h.relations.at) where
          rows_after : (a >>= λ next. row_five) ≡ sections h s
          rows_after = rw is (follows p (λ next. from_four) smaller ∙ rows_on)

          pub row_four : is_refused a ≡ true → a ≡ sections h s
          row_four e = stays a _ e ∙ rows_after

          pub row_five_lem : is_refused a ≡ false → (b : Answer) → b ≡ row_five → b ≡ sections h s
          row_five_lem e b w = w ∙ follows a (λ next. row_five) e ∙ rows_after
