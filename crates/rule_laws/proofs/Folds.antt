-- Three folds over formulas give what stands in a relation, where each layer keeps it.
use Rattle.std.proofs.Common.{subst}
use Rattle.rule_laws.specs.declared.formula.Formula.{Formula}
use Rattle.rule_laws.specs.declared.formula.Formula.TheFolds.{fold-Formula, fold-Truth, fold-roll-Formula, fold-roll-Truth, ind-Formula, ind-Truth, map-Formula, map-Truth}
use Rattle.rule_laws.specs.declared.formula.Formula.TheOpen.{Formula-F, Truth-F}
use Rattle.rule_laws.specs.declared.formula.Formula.TheViews.{roll-Formula, roll-Truth}
use Rattle.rule_laws.specs.declared.formula.Truth.{Truth}

module _ {A A' B B' C C' : Type 0} (a : Formula-F A A' → A) (a' : Truth-F A A' → A') (b : Formula-F B B' → B) (b' : Truth-F B B' → B')
    (c : Formula-F C C' → C) (c' : Truth-F C C' → C') (R : A → B → C → Type 0) (R' : A' → B' → C' → Type 0) where
  -- what the folds give of a part
  pub record Given : Type 0 where
    pub x : A
    pub y : B
    pub z : C
    pub holds : R x y z

  pub record GivenTruth : Type 0 where
    pub x : A'
    pub y : B'
    pub z : C'
    pub holds : R' x y z

  abbrev Of : Formula → Type 0
  Of f = R (fold-Formula A A' a a' f) (fold-Formula B B' b b' f) (fold-Formula C C' c c' f)

  abbrev OfTruth : Truth → Type 0
  OfTruth t = R' (fold-Truth A A' a a' t) (fold-Truth B B' b b' t) (fold-Truth C C' c c' t)

  abbrev given : ((f : Formula) × Of f) → Given
  given h = record { x = fold-Formula A A' a a' h.0; y = fold-Formula B B' b b' h.0; z = fold-Formula C C' c c' h.0; holds = h.1 }

  abbrev given_truth : ((t : Truth) × OfTruth t) → GivenTruth
  given_truth h = record { x = fold-Truth A A' a a' h.0; y = fold-Truth B B' b b' h.0; z = fold-Truth C C' c c' h.0; holds = h.1 }

  -- each layer keeps the relation
  abbrev pub Layers : Type 0
  Layers = (l : Formula-F Given GivenTruth)
      → R (a (map-Formula Given GivenTruth A A' (λ g. g.x) (λ g. g.x) l)) (b (map-Formula Given GivenTruth B B' (λ g. g.y) (λ g. g.y) l)) (c (map-Formula Given GivenTruth C C' (λ g. g.z) (λ g. g.z) l))

  abbrev pub TruthLayers : Type 0
  TruthLayers = (l : Truth-F Given GivenTruth)
      → R' (a' (map-Truth Given GivenTruth A A' (λ g. g.x) (λ g. g.x) l)) (b' (map-Truth Given GivenTruth B B' (λ g. g.y) (λ g. g.y) l)) (c' (map-Truth Given GivenTruth C C' (λ g. g.z) (λ g. g.z) l))

  abbrev Held : Type 0
  Held = (f : Formula) × Of f

  abbrev HeldTruth : Type 0
  HeldTruth = (t : Truth) × OfTruth t

  module _ (layers : Layers) (truths : TruthLayers) where
    abbrev out : Formula-F Held HeldTruth → Formula-F Formula Truth
    out l = map-Formula Held HeldTruth Formula Truth (λ e. e.0) (λ e. e.0) l

    abbrev out_truth : Truth-F Held HeldTruth → Truth-F Formula Truth
    out_truth l = map-Truth Held HeldTruth Formula Truth (λ e. e.0) (λ e. e.0) l

    rolled : (x : Formula-F Formula Truth)
        → R (a (map-Formula Formula Truth A A' (fold-Formula A A' a a') (fold-Truth A A' a a') x))
        (b (map-Formula Formula Truth B B' (fold-Formula B B' b b') (fold-Truth B B' b b') x))
        (c (map-Formula Formula Truth C C' (fold-Formula C C' c c') (fold-Truth C C' c c') x))
        → Of (roll-Formula x)
    rolled x h = rw (fold-roll-Formula A A' a a' x, fold-roll-Formula B B' b b' x, fold-roll-Formula C C' c c' x) h

    rolled_truth : (x : Truth-F Formula Truth)
        → R' (a' (map-Truth Formula Truth A A' (fold-Formula A A' a a') (fold-Truth A A' a a') x))
        (b' (map-Truth Formula Truth B B' (fold-Formula B B' b b') (fold-Truth B B' b b') x))
        (c' (map-Truth Formula Truth C C' (fold-Formula C C' c c') (fold-Truth C C' c c') x))
        → OfTruth (roll-Truth x)
    rolled_truth x h = rw (fold-roll-Truth A A' a a' x, fold-roll-Truth B B' b b' x, fold-roll-Truth C C' c c' x) h

    layer : (l : Formula-F Held HeldTruth) → Of (roll-Formula (out l))
    layer (Formula-F.Number k) = rolled (Formula-F.Number k) (layers (Formula-F.Number k))
    layer Formula-F.Stet = rolled Formula-F.Stet (layers Formula-F.Stet)
    layer Formula-F.Continue = rolled Formula-F.Continue (layers Formula-F.Continue)
    layer (Formula-F.Children dim) = rolled (Formula-F.Children dim) (layers (Formula-F.Children dim))
    layer (Formula-F.Ref r) = rolled (Formula-F.Ref r) (layers (Formula-F.Ref r))
    layer (Formula-F.Table dim table) = rolled (Formula-F.Table dim table) (layers (Formula-F.Table dim table))
    layer (Formula-F.Binary op f g) = rolled (Formula-F.Binary op f.0 g.0) (layers (Formula-F.Binary op (given f) (given g)))
    layer (Formula-F.Unary function f) = rolled (Formula-F.Unary function f.0) (layers (Formula-F.Unary function (given f)))
    layer (Formula-F.If t f g) = rolled (Formula-F.If t.0 f.0 g.0) (layers (Formula-F.If (given_truth t) (given f) (given g)))

    truth_layer : (l : Truth-F Held HeldTruth) → OfTruth (roll-Truth (out_truth l))
    truth_layer (Truth-F.Compare rel f g) = rolled_truth (Truth-F.Compare rel f.0 g.0) (truths (Truth-F.Compare rel (given f) (given g)))
    truth_layer (Truth-F.And s t) = rolled_truth (Truth-F.And s.0 t.0) (truths (Truth-F.And (given_truth s) (given_truth t)))
    truth_layer (Truth-F.Or s t) = rolled_truth (Truth-F.Or s.0 t.0) (truths (Truth-F.Or (given_truth s) (given_truth t)))
    truth_layer (Truth-F.Not t) = rolled_truth (Truth-F.Not t.0) (truths (Truth-F.Not (given_truth t)))

    pub by_layers : (f : Formula) → Of f
    by_layers = ind-Formula Of OfTruth (λ x l is. subst (λ z. Of (roll-Formula z)) is (layer l)) (λ x l is. subst (λ z. OfTruth (roll-Truth z)) is (truth_layer l))

    pub by_layers_truth : (t : Truth) → OfTruth t
    by_layers_truth = ind-Truth Of OfTruth (λ x l is. subst (λ z. Of (roll-Formula z)) is (layer l)) (λ x l is. subst (λ z. OfTruth (roll-Truth z)) is (truth_layer l))
