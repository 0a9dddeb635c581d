-- The list after a step that is rendered, in either form, where the states about the step are right: its facts suit and stand in order, there
-- are no more than the form allows, and read in that form it gives the state after the step. Above this file no proof looks at the form.
use Prim.Native.Nat.{ℕ, ◌≤◌}
use mathlib.Core.Path.{◌≡◌}
use mathlib.Core.Bool.{true, false}
use mathlib.Core.List.{List}
use native.Mathlib.Omega.{arith}
use lib.ListN.{length}
use Rattle.terms.specs.declared.Fact.{Fact}
use Rattle.terms.specs.Schema.{Schema, TypedObjects}
use Rattle.terms.specs.Facts.{fact_bad, no_fact}
use Rattle.format.specs.Form.{Form, most_listed, state_after}
use Rattle.format.specs.Lists.{list_at}
use Rattle.format.specs.Decode.{RecordedStep}
use Rattle.jobs.specs.Convert.{listed}
use Rattle.quantify.specs.Quantify.{Mem}
use Rattle.factsets.specs.Right.{Increasing, RightState}
use Rattle.factsets.proofs.Toggled.{toggled_increasing, toggled_back, toggled_length_bound, toggled_suits}

-- no list may have more facts than a count of two bytes tells
pub most_told : (to : Form) → most_listed to ≤ 512
unfolding most_listed
most_told true = omega arith
most_told false = omega arith

module _ (sch : Schema) (ob : TypedObjects) (f : RecordedStep) (pre : RightState sch ob f.pre) (post : RightState sch ob f.post) where
  -- its facts suit,
  pub listed_suits : (to : Form) (g : Fact) → Mem g (listed to f) → fact_bad sch ob g ≡ false
  unfolding listed
  listed_suits true g m = toggled_suits sch ob f.pre f.post pre.suits post.suits g m
  listed_suits false g m = post.suits g m

  -- stand in order,
  pub listed_increasing : (to : Form) → Increasing no_fact (listed to f)
  unfolding listed
  listed_increasing true = toggled_increasing no_fact f.pre f.post pre.increasing post.increasing
  listed_increasing false = post.increasing

  -- are not too many,
  pub listed_few : (to : Form) → length (listed to f) ≤ most_listed to
  unfolding listed most_listed
  listed_few true = omega (arith, toggled_length_bound f.pre f.post, pre.few, post.few)
  listed_few false = post.few

  -- and give the state after the step, wherever the list is read
  pub listed_after : (to : Form) (t : List ℕ) (at : ℕ) → list_at t at ≡ listed to f → state_after to t f.pre at ≡ f.post
  unfolding listed state_after
  listed_after true t at e = rw e (toggled_back no_fact f.pre f.post pre.increasing post.increasing)
  listed_after false t at e = e

-- The list of a step that was read, in the form it was read in, is the list that was there.
pub listed_again : (form : Form) (sch : Schema) (ob : TypedObjects) (s : List ℕ) (f : RecordedStep) (at : ℕ) → RightState sch ob f.pre → Increasing no_fact (list_at s at)
    → f.post ≡ state_after form s f.pre at → listed form f ≡ list_at s at
unfolding listed state_after
listed_again true sch ob s f at pre order e = rw e (toggled_back no_fact f.pre (list_at s at) pre.increasing order)
listed_again false sch ob s f at pre order e = e
