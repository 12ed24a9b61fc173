-- A formula reads only its precedents, STET, CONTINUE and the cell's elements.
use Rattle.std.proofs.Common.{◌≡◌, refl, ap, not, List, [], ◌++◌}
use Rattle.std.specs.List.{Contains}
use Rattle.std.proofs.lemmas.List.Elements.{Contains-append_left, Contains-append_right, Contains-push}
use Rattle.cube_fixed.specs.declared.value.Value.{Value}
use Rattle.rule_laws.specs.declared.reference.Reference.{Reference}
use Rattle.rule_laws.specs.declared.formula.Formula.{Formula}
use Rattle.rule_laws.specs.declared.formula.Formula.TheOpen.{Formula-F, Truth-F}
use Rattle.cube_fixed.specs.declared.value.Value.TheVariants.{Num}
use Rattle.rule_laws.specs.Tables.{number_of}
use Rattle.rule_laws.specs.Operation.{function_of}
use Rattle.rule_laws.specs.Meaning.{Others, value_step, truth_step, formula_value, Precedent, Named, Components, precedents_step, truth_precedents_step, precedents}
use Rattle.rule_laws.proofs.Folds.{Layers, TruthLayers, by_layers}

-- a test of precedents that holds of all of two lists holds of each
pub each_left : {X : Type 0} (P : X → Type 0) (xs ys : List X) → ((x : X) → Contains (xs ++ ys) x → P x) → (x : X) → Contains xs x → P x
each_left P xs ys each x has = each x (Contains-append_left xs ys x has)

pub each_right : {X : Type 0} (P : X → Type 0) (xs ys : List X) → ((x : X) → Contains (xs ++ ys) x → P x) → (x : X) → Contains ys x → P x
each_right P xs ys each x has = each x (Contains-append_right xs ys x has)

-- the two give the same for a precedent
abbrev pub Alike : (Reference → Value) → (Reference → Value) → Others → Others → Precedent → Type 0
Alike named other xs ys (Named r) = named r ≡ other r
Alike named other xs ys (Components dim) = xs.children dim ≡ ys.children dim

module _ (named other : Reference → Value) (xs ys : Others) (stet : xs.stet ≡ ys.stet) (rest : xs.rest ≡ ys.rest) (own : xs.own ≡ ys.own) where
  abbrev alike : Precedent → Type 0
  alike = Alike named other xs ys

  abbrev Agree : List Precedent → Type 0
  Agree ps = (p : Precedent) → Contains ps p → alike p

  abbrev Same : {V : Type 0} → List Precedent → V → V → Type 0
  Same ps v u = Agree ps → v ≡ u

  layers : Layers precedents_step truth_precedents_step (value_step named xs) truth_step (value_step other ys) truth_step Same Same
  layers (Formula-F.Number k) agree = refl
  layers Formula-F.Stet agree = stet
  layers Formula-F.Continue agree = rest
  layers (Formula-F.Children dim) agree = agree (Components dim) (Contains-push [] (Components dim))
  layers (Formula-F.Ref r) agree = agree (Named r) (Contains-push [] (Named r))
  layers (Formula-F.Table dim table) agree = ap (λ o. Num (number_of table (o dim))) own
  layers (Formula-F.Binary op a b) agree = rw (a.holds (each_left alike a.x b.x agree), b.holds (each_right alike a.x b.x agree)) refl
  layers (Formula-F.Unary function a) agree = ap (function_of function) (a.holds agree)
  layers (Formula-F.If t a b) agree =
      let front = each_left alike (t.x ++ a.x) b.x agree in
      rw (t.holds (each_left alike t.x a.x front), a.holds (each_right alike t.x a.x front), b.holds (each_right alike (t.x ++ a.x) b.x agree)) refl

  truths : TruthLayers precedents_step truth_precedents_step (value_step named xs) truth_step (value_step other ys) truth_step Same Same
  truths (Truth-F.Compare rel a b) agree = rw (a.holds (each_left alike a.x b.x agree), b.holds (each_right alike a.x b.x agree)) refl
  truths (Truth-F.And a b) agree = rw (a.holds (each_left alike a.x b.x agree), b.holds (each_right alike a.x b.x agree)) refl
  truths (Truth-F.Or a b) agree = rw (a.holds (each_left alike a.x b.x agree), b.holds (each_right alike a.x b.x agree)) refl
  truths (Truth-F.Not a) agree = ap not (a.holds agree)

  pub formula_value-agree : (f : Formula) → Agree (precedents f) → formula_value named xs f ≡ formula_value other ys f
  formula_value-agree f = by_layers precedents_step truth_precedents_step (value_step named xs) truth_step (value_step other ys) truth_step Same Same layers truths f
