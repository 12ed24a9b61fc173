-- What a formula gives rests on what evaluation reaches in it.
use Rattle.std.proofs.Common.{◌≡◌, refl, sym, ◌∙◌, ap, ℕ, Bool, true, false, not, List, [], ◌∷◌, ◌++◌, Option, Some, None}
use Rattle.std.specs.List.{Contains}
use Rattle.std.proofs.lemmas.List.Elements.{Contains-append_left, Contains-append_right, Contains-push}
use Rattle.cube_fixed.specs.declared.value.Value.{Value}
use Rattle.rule_laws.specs.declared.formula.Formula.{Formula}
use Rattle.rule_laws.specs.declared.formula.Formula.TheOpen.{Formula-F, Truth-F}
use Rattle.rule_laws.specs.Meaning.{formula_value, value_step, truth_step}
use Rattle.rule_laws.specs.Operation.{function_of}
use Rattle.rule_laws.proofs.Folds.{Layers, TruthLayers, by_layers}
use Rattle.cell_trace.specs.declared.item.Item.{Item}
use Rattle.cell_trace.specs.declared.item.Item.TheVariants.{Read, Children, Own, Rest}
use Rattle.cell_trace.specs.Laws.{AreOfOneCell, Agree}
use Rattle.cell_trace.specs.Visits.{Given, Visit, Test, visit, visit_step, test_step, passed}

-- ---- the meaning

module _ (g : Given) where
  IsOf : Visit → Value → Value → Type 0
  IsOf x y z = x.value ≡ y

  IsOfTest : Test → Bool → Bool → Type 0
  IsOfTest x y z = x.holds ≡ y

  means : Layers (visit_step g) test_step (value_step g.named g.others) truth_step (value_step g.named g.others) truth_step IsOf IsOfTest
  unfolding IsOf IsOfTest
  means (Formula-F.Number k) = refl
  means Formula-F.Stet = refl
  means Formula-F.Continue = refl
  means (Formula-F.Children dim) = refl
  means (Formula-F.Ref r) = refl
  means (Formula-F.Table dim table) = refl
  means (Formula-F.Binary op a b) = rw (a.holds, b.holds) refl
  means (Formula-F.Unary function a) = ap (function_of function) a.holds
  means (Formula-F.If t a b) = rw (t.holds, a.holds, b.holds) refl

  tests_mean : TruthLayers (visit_step g) test_step (value_step g.named g.others) truth_step (value_step g.named g.others) truth_step IsOf IsOfTest
  unfolding IsOf IsOfTest
  tests_mean (Truth-F.Compare rel a b) = rw (a.holds, b.holds) refl
  tests_mean (Truth-F.And a b) = rw (a.holds, b.holds) refl
  tests_mean (Truth-F.Or a b) = rw (a.holds, b.holds) refl
  tests_mean (Truth-F.Not a) = ap not a.holds

  pub meaning : (f : Formula) → (visit g f).value ≡ formula_value g.named g.others f
  unfolding IsOf
  meaning = by_layers (visit_step g) test_step (value_step g.named g.others) truth_step (value_step g.named g.others) truth_step IsOf IsOfTest means tests_mean

-- ---- two that agree

module _ (g h : Given) (cell : AreOfOneCell g h) where
  abbrev Items : Type 0
  Items = List (Option Item)

  -- what holds where evaluation reaches these items holds where it reaches some of them
  fewer : (xs ys : Items) → ((item : Option Item) → Contains xs item → Contains ys item) → Agree g h ys → Agree g h xs
  fewer xs ys among agree = record {
    reads = λ r has. agree.reads r (among (Some (Read (g.target r))) has);
    sums = λ dim has. agree.sums dim (among (Some (Children dim)) has);
    own = λ has. agree.own (among (Some Own) has);
    rest = λ has. agree.rest (among (Some Rest) has);
  }

  left : (xs ys : Items) → Agree g h (xs ++ ys) → Agree g h xs
  left xs ys = fewer xs (xs ++ ys) (λ item has. Contains-append_left xs ys item has)

  right : (xs ys : Items) → Agree g h (xs ++ ys) → Agree g h ys
  right xs ys = fewer ys (xs ++ ys) (λ item has. Contains-append_right xs ys item has)

  -- as many references stand in both, and where the two agree all is the same
  record Same (x y : Visit) : Type 0 where
    references : y.references ≡ x.references
    whole : Agree g h x.items → y ≡ x

  record SameTest (x y : Test) : Type 0 where
    references : y.references ≡ x.references
    whole : Agree g h x.items → y ≡ x

  abbrev Goes : Visit → Visit → Visit → Type 0
  Goes x y z = Same x y

  abbrev GoesTest : Test → Test → Test → Type 0
  GoesTest x y z = SameTest x y

  children : (dim : ℕ) → Same (visit_step g (Formula-F.Children dim)) (visit_step h (Formula-F.Children dim))
  children dim = record { references = refl; whole = by (g.has_components dim) refl }
    where
      by : (b : Bool) → g.has_components dim ≡ b → Agree g h (visit_step g (Formula-F.Children dim)).items → visit_step h (Formula-F.Children dim) ≡ visit_step g (Formula-F.Children dim)
      by true some agree =
          let here : Agree g h (Some (Children dim) ∷ []) = rw some at agree in
          rw (cell.components dim, some, here.sums dim (Contains-push [] (Some (Children dim)))) refl
      by false none agree =
          let here : Agree g h (None ∷ Some Own ∷ []) = rw none at agree in
          let own = here.own (Contains-push (None ∷ []) (Some Own)) in
          let value : h.others.children dim ≡ g.others.children dim = cell.other_own dim (cell.components dim ∙ none) ∙ own ∙ sym (cell.own dim none) in
          rw (cell.components dim, none, value) refl

  choice : (s t : Test) (a b x y : Visit) → SameTest s t → Same a x → Same b y → Same (visit_step g (Formula-F.If s a b)) (visit_step h (Formula-F.If t x y))
  choice s t a b x y test first second = record {
    references = rw (test.references, first.references, second.references) refl;
    whole = by s.holds refl;
  }
    where
      by : (holds : Bool) → s.holds ≡ holds → Agree g h (visit_step g (Formula-F.If s a b)).items → visit_step h (Formula-F.If t x y) ≡ visit_step g (Formula-F.If s a b)
      by true on agree =
          let here : Agree g h (s.items ++ (a.items ++ passed b.references)) = rw on at agree in
          let same = test.whole (left s.items (a.items ++ passed b.references) here) in
          let taken = first.whole (left a.items (passed b.references) (right s.items (a.items ++ passed b.references) here)) in
          rw (same, taken, second.references, on) refl
      by false off agree =
          let here : Agree g h (s.items ++ (passed a.references ++ b.items)) = rw off at agree in
          let same = test.whole (left s.items (passed a.references ++ b.items) here) in
          let taken = second.whole (right (passed a.references) b.items (right s.items (passed a.references ++ b.items) here)) in
          rw (same, taken, first.references, off) refl

  layers : Layers (visit_step g) test_step (visit_step h) test_step (visit_step h) test_step Goes GoesTest
  layers (Formula-F.Number k) = record { references = refl; whole = λ agree. refl }
  layers Formula-F.Stet = record { references = refl; whole = λ agree. rw (agree.own (Contains-push [] (Some Own))) refl }
  layers Formula-F.Continue = record { references = refl; whole = λ agree. rw (agree.rest (Contains-push [] (Some Rest))) refl }
  layers (Formula-F.Children dim) = children dim
  layers (Formula-F.Ref r) = record { references = refl; whole = λ agree. rw (cell.target r, agree.reads r (Contains-push [] (Some (Read (g.target r))))) refl }
  layers (Formula-F.Table dim table) = record { references = refl; whole = λ agree. rw (cell.elements dim) refl }
  layers (Formula-F.Binary op a b) = record {
    references = rw (a.holds.references, b.holds.references) refl;
    whole = λ agree. rw (a.holds.whole (left a.x.items b.x.items agree), b.holds.whole (right a.x.items b.x.items agree)) refl;
  }
  layers (Formula-F.Unary function a) = record { references = a.holds.references; whole = λ agree. rw (a.holds.whole agree) refl }
  layers (Formula-F.If t a b) = choice t.x t.y a.x b.x a.y b.y t.holds a.holds b.holds

  -- a condition of two, of which the second is evaluated where the first leaves it open
  both : (s t a b : Test) → SameTest s a → SameTest t b → SameTest (test_step (Truth-F.And s t)) (test_step (Truth-F.And a b))
  both s t a b first second = record {
    references = rw (first.references, second.references) refl;
    whole = by s.holds refl;
  }
    where
      by : (holds : Bool) → s.holds ≡ holds → Agree g h (test_step (Truth-F.And s t)).items → test_step (Truth-F.And a b) ≡ test_step (Truth-F.And s t)
      by true on agree =
          let here : Agree g h (s.items ++ t.items) = rw on at agree in
          rw (first.whole (left s.items t.items here), second.whole (right s.items t.items here)) refl
      by false off agree =
          let here : Agree g h (s.items ++ passed t.references) = rw off at agree in
          rw (first.whole (left s.items (passed t.references) here), off, second.references) refl

  either : (s t a b : Test) → SameTest s a → SameTest t b → SameTest (test_step (Truth-F.Or s t)) (test_step (Truth-F.Or a b))
  either s t a b first second = record {
    references = rw (first.references, second.references) refl;
    whole = by s.holds refl;
  }
    where
      by : (holds : Bool) → s.holds ≡ holds → Agree g h (test_step (Truth-F.Or s t)).items → test_step (Truth-F.Or a b) ≡ test_step (Truth-F.Or s t)
      by true on agree =
          let here : Agree g h (s.items ++ passed t.references) = rw on at agree in
          rw (first.whole (left s.items (passed t.references) here), on, second.references) refl
      by false off agree =
          let here : Agree g h (s.items ++ t.items) = rw off at agree in
          rw (first.whole (left s.items t.items here), second.whole (right s.items t.items here)) refl

  truths : TruthLayers (visit_step g) test_step (visit_step h) test_step (visit_step h) test_step Goes GoesTest
  truths (Truth-F.Compare rel a b) = record {
    references = rw (a.holds.references, b.holds.references) refl;
    whole = λ agree. rw (a.holds.whole (left a.x.items b.x.items agree), b.holds.whole (right a.x.items b.x.items agree)) refl;
  }
  truths (Truth-F.And a b) = both a.x b.x a.y b.y a.holds b.holds
  truths (Truth-F.Or a b) = either a.x b.x a.y b.y a.holds b.holds
  truths (Truth-F.Not a) = record { references = a.holds.references; whole = λ agree. rw (a.holds.whole agree) refl }

  pub alike : (f : Formula) → Agree g h (visit g f).items → visit h f ≡ visit g f
  alike f = (by_layers (visit_step g) test_step (visit_step h) test_step (visit_step h) test_step Goes GoesTest layers truths f).whole
