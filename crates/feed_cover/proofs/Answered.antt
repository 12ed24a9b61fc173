-- What is answered of all elements of a dimension.
use Rattle.std.proofs.Common.{◌≡◌, ◌⊎◌, inl, inr, IfSome, refl, sym, ap, ◌∙◌, subst, ℕ, zero, suc, true, Option, Some, None, List, [], ◌∷◌}
use Rattle.std.proofs.Math.ListN.{replicate}
use Rattle.std.specs.Prelude.{slice_get, slice_index_or}
use Rattle.std.specs.Option.{option_map_or}
use Rattle.cube_space.specs.Layout.{Layout, axes}
use Rattle.rule_laws.specs.declared.reference.Arg.TheVariants.{Fixed, Moved}
use Rattle.rule_model.specs.declared.area.Area.{Area}
use Rattle.rule_model.specs.BoundModel.{BoundModel}
use Rattle.cover_laws.specs.Looking.{sent, each_narrow, each_named}
use Rattle.cover_laws.specs.Covered.{has_leaves, counts_in, each_sent, are_sources}
use Rattle.feed_cover.specs.declared.answers.Answer.{Answer}
use Rattle.feed_cover.specs.declared.answers.CoverAnswers.{CoverAnswers}
use Rattle.feed_cover.specs.declared.back.Back.{Back}
use Rattle.feed_cover.specs.declared.question.Question.{Question}
use Rattle.feed_cover.specs.declared.question.Test.{Test}
use Rattle.feed_cover.specs.declared.question.Test.TheVariants.{SentBack}
use Rattle.feed_cover.specs.declared.reference_view.Counted.{Counted}
use Rattle.feed_cover.specs.declared.reference_view.ReferenceView.{ReferenceView}
use Rattle.feed_cover.specs.declared.shift.Shift.{Shift}
use Rattle.feed_cover.specs.Answers.{map_of, back_of, listed_of, passes_by, answer_by, answer_of, AreAnswers, IsQuestion, IsBackQuestion, IsSourceQuestion}
use Rattle.feed_cover.specs.Views.{counts_of, look_of}
use Rattle.feed_cover.specs.Tests.{is_sent_back}
use Rattle.feed_cover.proofs.Alone.{narrow-alone}

pub no-answer : (n k : ℕ) (answer : Answer) → slice_get (replicate {A = Option Answer} n None) k ≡ Some (Some answer) → ⊥
no-answer zero k answer at = cc
no-answer (suc n) zero answer at = cc
no-answer (suc n) (suc k) answer at = no-answer n k answer at

module _ (model : BoundModel) (view : ReferenceView) (dim place : ℕ) (by : List (Option ℕ)) (test : Test) (asked : Question) (is : IsQuestion view dim place by test asked)
    (here : slice_get view.reference.now.args place ≡ Some (Moved dim by)) where
  counted : (look_of model view).counts place ≡ has_leaves (axes model.space view.reference.now.cube) place
  counted = ap (λ (k : Counted). counts_of k model view.reference.now.cube place) is.leaves

  -- the answer is by what it asks of each element
  by-answer : (list : Option (List ℕ)) → listed_of test ≡ list
      → each_narrow (look_of model view) dim (λ e. option_map_or (passes_by model.space view.cube view.reference.now.cube dim place (back_of test) list e) (sent by e) true) ≡ answer_of model.space view.cube asked
  unfolding answer_by
  by-answer list same =
      narrow-alone (look_of model view) view.reference.now.cube dim place by counted is.whole here is.alone (λ e. option_map_or (passes_by model.space view.cube view.reference.now.cube dim place (back_of test) list e) (sent by e) true)
      ∙ moved
    where
      moved : answer_by model.space view.cube view.reference.now.cube dim place by (back_of test) list ≡ answer_of model.space view.cube asked
      moved =
          let made = is.made in
          let one = sym is.own in
          let two = sym is.dim_is in
          let three = sym is.place_is in
          let four = ap back_of (sym is.test_is) in
          let five = sym same ∙ ap listed_of (sym is.test_is) in
          ap (λ k. answer_by model.space view.cube k dim place by (back_of test) list) one
          ∙ ap (λ k. answer_by model.space view.cube asked.own k place by (back_of test) list) two
          ∙ ap (λ k. answer_by model.space view.cube asked.own asked.dim k by (back_of test) list) three
          ∙ ap (λ k. answer_by model.space view.cube asked.own asked.dim asked.place k (back_of test) list) made
          ∙ ap (λ k. answer_by model.space view.cube asked.own asked.dim asked.place (map_of asked.by) k list) four
          ∙ ap (λ k. answer_by model.space view.cube asked.own asked.dim asked.place (map_of asked.by) (back_of asked.test) k) five

-- each element is sent back
pub back-answer : (model : BoundModel) (view : ReferenceView) (dim place : ℕ) (by to : List (Option ℕ)) (shift : Shift) (asked : Question) → IsQuestion view dim place by (SentBack shift) asked
    → slice_get view.reference.now.args place ≡ Some (Moved dim by) → to ≡ map_of shift
    → each_narrow (look_of model view) dim (λ e. option_map_or (each_sent (axes model.space view.reference.now.cube) place to (λ over. counts_in (axes model.space view.cube) dim over e)) (sent by e) true)
    ≡ answer_of model.space view.cube asked
back-answer model view dim place by to shift asked is here made =
    ap (λ (m : List (Option ℕ)). each_narrow (look_of model view) dim (λ e. option_map_or (each_sent (axes model.space view.reference.now.cube) place m (λ over. counts_in (axes model.space view.cube) dim over e)) (sent by e) true)) made
    ∙ by-answer model view dim place by (SentBack shift) asked is here None refl

-- each that is named is among the sources
pub source-answer : (model : BoundModel) (view : ReferenceView) (area : Area) (place : ℕ) (asked : Question) → (is : IsSourceQuestion view area place asked)
    → slice_get view.reference.now.args place ≡ Some (slice_index_or view.reference.now.args place (Fixed 0))
    → each_named (look_of model view) (are_sources (axes model.space view.reference.now.cube) area.sets place) (slice_index_or view.reference.now.args place (Fixed 0))
    ≡ answer_of model.space view.cube asked
source-answer model view area place asked is there = each (listed_of is.test) refl
  where
    each : (list : Option (List ℕ)) → listed_of is.test ≡ list
        → each_named (look_of model view) (are_sources (axes model.space view.reference.now.cube) area.sets place) (slice_index_or view.reference.now.args place (Fixed 0)) ≡ answer_of model.space view.cube asked
    each None none = absurd (is.lists none)
    each (Some list) some =
        ap (each_named (look_of model view) (are_sources (axes model.space view.reference.now.cube) area.sets place)) is.argument
        ∙ ap (λ s. each_narrow (look_of model view) is.from (λ e. option_map_or (λ t. option_map_or (λ d. Rattle.std.specs.List.list_all (λ pair. Rattle.rule_model.specs.Areas.in_source_set d s pair.0) (Rattle.dim_weights.specs.Table.leaves_of d t)) (slice_get (axes model.space view.reference.now.cube) place) true) (sent is.by e) true)) (is.set ∙ some)
        ∙ by-answer model view is.from place is.by is.test asked is.is (there ∙ ap Some is.argument) (Some list) some

-- what is found is the answer
pub found-right : (model : BoundModel) (cube : ℕ) (answers : CoverAnswers) (asked : Question) (known : Answer) → AreAnswers model cube answers
    → ((space : Layout) (cube : ℕ) → answer_of space cube known.asked ≡ answer_of space cube asked) × ((k : ℕ) × (slice_get answers.kept k ≡ Some (Some known)))
    → known.is ≡ answer_of model.space cube asked
found-right model cube answers asked known are found = are.each found.1.0 known found.1.1 ∙ found.0 model.space cube

-- and what is kept stays right
pub kept-right : (model : BoundModel) (cube : ℕ) (old new : CoverAnswers) (known : Answer) → AreAnswers model cube old → known.is ≡ answer_of model.space cube known.asked
    → ((k : ℕ) (other : Answer) → slice_get new.kept k ≡ Some (Some other) → (slice_get old.kept k ≡ Some (Some other)) ⊎ (other ≡ known)) → AreAnswers model cube new
kept-right model cube old new known are right by = record {
  each = λ k other at. elim (by k other at) [
    | inl before ↦ are.each k other before
    | inr same ↦ subst (λ (a : Answer). a.is ≡ answer_of model.space cube a.asked) (sym same) right
  ];
}

pub back-right : (back : Back) (asked : Question) → IsBackQuestion back asked → slice_index_or back.view.reference.now.args back.place (Fixed 0) ≡ Moved back.dim back.by.now
    → slice_get back.view.reference.now.args back.place ≡ Some (slice_index_or back.view.reference.now.args back.place (Fixed 0))
    → each_narrow (look_of back.model.now back.view) back.dim (is_sent_back back) ≡ answer_of back.model.now.space back.view.cube asked
back-right back asked is argument there =
    back-answer back.model.now back.view back.dim back.place back.by.now back.to.now is.shift asked is.is (there ∙ ap Some argument) is.made

pub back-question : (back : Back) (shift : Shift) (r : Option Question) → back.to.now ≡ map_of shift → IfSome r (IsQuestion back.view back.dim back.place back.by.now (SentBack shift)) → IfSome r (IsBackQuestion back)
back-question back shift None made h = h
back-question back shift (Some asked) made h = record { shift = shift; is = h; made = made }

pub source-question : (view : ReferenceView) (area : Area) (from place : ℕ) (by : List (Option ℕ)) (test : Test) (list : List ℕ) (r : Option Question)
    → slice_index_or view.reference.now.args place (Fixed 0) ≡ Moved from by → slice_index_or area.sets place None ≡ Some list → listed_of test ≡ Some list
    → IfSome r (IsQuestion view from place by test) → IfSome r (IsSourceQuestion view area place)
source-question view area from place by test list None argument set lists h = h
source-question view area from place by test list (Some asked) argument set lists h = record {
  from = from;
  by = by;
  test = test;
  is = h;
  argument = argument;
  set = set ∙ sym lists;
  lists = λ none. (let clash : None ≡ Some list = sym none ∙ lists in cc);
}

-- where one is kept at a place, the place is there
pub kept-at : (kept : List (Option Answer)) (k : ℕ) (known : Answer) → slice_index_or kept k None ≡ Some known → slice_get kept k ≡ Some (Some known)
kept-at [] k known is = absurd (cc)
kept-at (one ∷ more) zero known is = ap Some is
kept-at (one ∷ more) (suc k) known is = kept-at more k known is
