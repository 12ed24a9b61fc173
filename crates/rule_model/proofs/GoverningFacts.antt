-- The statements of a cube as those of the model's system.
use Rattle.std.proofs.Common.{◌≡◌, eqb, ℕ, zero, suc, ◌+◌, ◌<◌, Bool, true, false, ◌&&◌, ◌||◌, List, [], ◌∷◌, length, map, drop, get_or, Option, Some, None, refl, sym, ap, ◌∙◌, subst, arith, All}
use Rattle.std.specs.Prelude.{is_some, option_map, option_and_then, slice_get, slice_index_or, IfSome}
use Rattle.std.specs.Bool.{if◌then◌else◌}
use Rattle.std.specs.List.{AllZip, position, position_or_len}
use Rattle.std.specs.List.Sorted.{IsStrictlyIncreasing}
use Rattle.std.specs.Option.{option_copied, option_map_or}
use Rattle.std.proofs.lemmas.Bool.{eq-eqb}
use Rattle.std.proofs.lemmas.List.{length-map}
use denote.Bor.{Bor}
use Rattle.cube_space.specs.Layout.{Layout, sizes}
use Rattle.cube_space.specs.Cells.{cube_of, elements_of, is_leaf_cell, is_place}
use Rattle.cube_space.proofs.Radix.{digits-length}
use Rattle.cube_space.proofs.Places.{is_place-parts}
use Rattle.rule_laws.specs.declared.formula.Formula.{Formula}
use Rattle.rule_laws.specs.RuleSystem.{Rule, part_of, part_at}
use Rattle.rule_laws.proofs.StatementFacts.{from-some}
use Rattle.cube_fixed.specs.Arithmetic.{zero_value}
use Rattle.rule_model.specs.declared.rules.Statement.{Statement}
use Rattle.rule_model.specs.declared.rules.CubeRules.{CubeRules}
use Rattle.rule_model.specs.BoundModel.{BoundModel, rules_of}
use Rattle.rule_model.specs.Areas.{in_sets}
use Rattle.rule_model.specs.Conditions.{IsSet, AreCubeRules}
use Rattle.rule_model.specs.System.{system_of, rule_of}
use Rattle.rule_model.specs.Governing.{governing_from, has_part, formula_at}
use Rattle.rule_model.specs.Input.{is_open, is_input, has_stet, has_continue}
use Rattle.rule_model.specs.Inside.Parts.{HaveSets, part_of_kind, part_for, first_part, is_open_by}
use Rattle.rule_model.proofs.Statements.{own_system}

-- ---- the areas of a cube's statements

as_many : (ns : List ℕ) (sets : List (Option (List ℕ))) → AllZip IsSet ns sets → length sets ≡ length ns
as_many [] [] all = refl
as_many [] (set ∷ sets) all = absurd all
as_many (n ∷ ns) [] all = absurd all
as_many (n ∷ ns) (set ∷ sets) all = ap suc (as_many ns sets all.1)

one_rising : (n : ℕ) (set : Option (List ℕ)) → IsSet n set → IfSome set IsStrictlyIncreasing
one_rising n None is = tt
one_rising n (Some listed) is = is.0

are_rising : (ns : List ℕ) (sets : List (Option (List ℕ))) → AllZip IsSet ns sets → All (λ set. IfSome set IsStrictlyIncreasing) sets
are_rising [] [] all k d low = absurd (omega (arith, low))
are_rising [] (set ∷ sets) all k d low = absurd all
are_rising (n ∷ ns) [] all k d low = absurd all
are_rising (n ∷ ns) (set ∷ sets) all zero d low = one_rising n set all.0
are_rising (n ∷ ns) (set ∷ sets) all (suc k) d low = are_rising ns sets all.1 k d (omega arith)

pub have_sets : (space : Layout) (cube : ℕ) (rules : CubeRules) (elements : List ℕ) → AreCubeRules space cube rules → is_place space cube elements ≡ true → HaveSets (length elements) rules.statements
have_sets space cube rules elements are there k d low =
    let area = (are.statements k d low).area in
    let long = digits-length (sizes space cube) elements (is_place-parts space cube elements there).digits in
    record {
      each = as_many (sizes space cube) (slice_index_or rules.statements k d).area.sets area ∙ sym long;
      rising = are_rising (sizes space cube) (slice_index_or rules.statements k d).area.sets area;
    }

-- ---- the part of a statement

kind_same : (space : Layout) (cube : ℕ) (s : Statement) (leaf : Bool) → part_of (rule_of space cube s) leaf ≡ part_of_kind s leaf
kind_same space cube s true = refl
kind_same space cube s false = refl

module _ (model : BoundModel) (cell : ℕ) where
  abbrev rule : Statement → Rule
  rule s = rule_of model.space (cube_of model.space cell) s

  abbrev own : Statement → Option Formula
  own s = part_for s (elements_of model.space cell) (is_leaf_cell model.space cell)

  pub part_same : (s : Statement) → part_at (system_of model) cell (rule s) ≡ own s
  unfolding system_of part_for
  part_same s =
      let same : eqb (cube_of model.space cell) (cube_of model.space cell) ≡ true = eq-eqb (cube_of model.space cell) (cube_of model.space cell) refl in
      rw (same, kind_same model.space (cube_of model.space cell) s (is_leaf_cell model.space cell)) refl

  drop-map : (place : ℕ) (ss : List Statement) → drop place (map rule ss) ≡ map rule (drop place ss)
  drop-map zero ss = refl
  drop-map (suc place) [] = refl
  drop-map (suc place) (s ∷ ss) = drop-map place ss

  place_same : (ss : List Statement) → position_or_len (has_part model cell) (map rule ss) ≡ position_or_len (λ s. is_some (own s)) ss
  place_same [] = refl
  place_same (s ∷ ss) = rw (part_same s, place_same ss) refl

  position_same : (ss : List Statement) → position (has_part model cell) (map rule ss) ≡ position (λ s. is_some (own s)) ss
  position_same ss = rw (place_same ss, length-map ss rule) refl

  pub governing_same : (place : ℕ)
      → first_part (rules_of model (cube_of model.space cell)).statements (elements_of model.space cell) (is_leaf_cell model.space cell) place ≡ governing_from model cell place
  unfolding governing_from first_part
  governing_same place =
      sym (ap (λ rs. option_map (λ k. place + k) (position (has_part model cell) rs)) (drop-map place (rules_of model (cube_of model.space cell)).statements)
      ∙ ap (option_map (λ k. place + k)) (position_same (drop place (rules_of model (cube_of model.space cell)).statements)))

  open_by : (ss : List Statement) → is_leaf_cell model.space cell ≡ true → is_open_by ss (elements_of model.space cell) ≡ is_open model cell (map rule ss)
  open_by [] leaf = refl
  open_by (s ∷ ss) leaf =
      rw (part_same s, ← open_by ss leaf)
      (ap (λ b. option_map_or (λ f. has_stet f || (has_continue f && is_open_by ss (elements_of model.space cell))) (part_for s (elements_of model.space cell) b) (is_open_by ss (elements_of model.space cell))) (sym leaf))

  pub open_same : is_leaf_cell model.space cell ≡ true → is_open_by (rules_of model (cube_of model.space cell)).statements (elements_of model.space cell) ≡ is_input model cell
  unfolding is_input
  open_same leaf = rw leaf (open_by (rules_of model (cube_of model.space cell)).statements leaf)

  pub never_open : is_leaf_cell model.space cell ≡ false → false ≡ is_input model cell
  unfolding is_input
  never_open off = rw off refl

  -- a statement that governs has a formula
  formula_there : (from place : ℕ) → governing_from model cell from ≡ Some place → (f : Formula) × (formula_at model cell place ≡ Some f)
  unfolding governing_from
  formula_there from place some = let found = from-some (own_system model cell) cell (λ k. None) (λ k. zero_value) from place some in (found.0, found.1)

  own_kind : (s : Statement) (f : Formula) → own s ≡ Some f → part_of_kind s (is_leaf_cell model.space cell) ≡ Some f
  unfolding part_for
  own_kind s f is = by (in_sets s.area.sets (elements_of model.space cell)) is
    where
      by : (b : Bool) → (if b then part_of_kind s (is_leaf_cell model.space cell) else None) ≡ Some f → part_of_kind s (is_leaf_cell model.space cell) ≡ Some f
      by true is = is
      by false is = absurd (cc is)

  formula_kind : (ss : List Statement) (place : ℕ) (s : Statement) (f : Formula) → s ≡ get_or ss place s → place < length ss
      → option_and_then (part_at (system_of model) cell) (slice_get (map rule ss) place) ≡ Some f → part_of_kind s (is_leaf_cell model.space cell) ≡ Some f
  formula_kind [] place s f is low has = absurd (omega (arith, low))
  formula_kind (x ∷ ss) zero s f is low has = own_kind s f (sym (part_same s) ∙ ap (λ y. part_at (system_of model) cell (rule y)) is ∙ has)
  formula_kind (x ∷ ss) (suc place) s f is low has = formula_kind ss place s f is (omega (arith, low)) has

  pub formula_is : (from place : ℕ) (s : Statement) → governing_from model cell from ≡ Some place → s ≡ get_or (rules_of model (cube_of model.space cell)).statements place s
      → place < length (rules_of model (cube_of model.space cell)).statements
      → (f : Formula) × (formula_at model cell place ≡ Some f) × (part_of_kind s (is_leaf_cell model.space cell) ≡ Some f)
  formula_is from place s some is low =
      let (f, has) = formula_there from place some in
      (f, has, formula_kind (rules_of model (cube_of model.space cell)).statements place s f is low has)

-- the same of a cube
pub formula_in : (model : BoundModel) (cube cell from place : ℕ) (s : Statement) (leaf : Bool) → cube_of model.space cell ≡ cube → is_leaf_cell model.space cell ≡ leaf → governing_from model cell from ≡ Some place
    → s ≡ get_or (rules_of model cube).statements place s → place < length (rules_of model cube).statements → (f : Formula) × (formula_at model cell place ≡ Some f) × (part_of_kind s leaf ≡ Some f)
formula_in model cube cell from place s leaf own kind some is low =
    let (f, has, part) =
    formula_is model cell from place s some (subst (λ k. s ≡ get_or (rules_of model k).statements place s) (sym own) is) (subst (λ k. place < length (rules_of model k).statements) (sym own) low) in
    (f, has, ap (part_of_kind s) (sym kind) ∙ part)

pub some_copied : {X : Type 0} (o : Option (Bor X)) (x : X) → option_copied o ≡ Some x → is_some o ≡ true
some_copied None x is = absurd (cc is)
some_copied (Some b) x is = refl
