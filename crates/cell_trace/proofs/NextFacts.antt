-- A statement that has a part for the cell, and the numbers of its references.
use Rattle.std.proofs.Common.{◌≡◌, refl, sym, ap, ◌∙◌, subst, ℕ, ◌+◌, ◌<◌, ◌≤◌, ◌^◌, arith, Bool, true, false, List, length, get_or, Option, Some, None}
use Rattle.std.specs.Prelude.{option_map, option_and_then, slice_get, if◌then◌else◌}
use Rattle.std.proofs.lemmas.Option.{same_Some as some-same, slice_get-get_or, slice_get-map}
use Rattle.cube_space.specs.Cells.{cube_of, is_leaf_cell}
use Rattle.cube_space.specs.Layout.{Layout}
use Rattle.rule_laws.specs.declared.formula.Formula.{Formula}
use Rattle.rule_laws.specs.Meaning.{precedents}
use Rattle.rule_laws.specs.RuleSystem.{applies, part_at, part_of}
use Rattle.rule_model.specs.declared.rules.Form.{Form}
use Rattle.rule_model.specs.declared.rules.Form.TheVariants.{Both, LeafFirst, ConsFirst}
use Rattle.rule_model.specs.declared.rules.Statement.{Statement}
use Rattle.rule_model.specs.BoundModel.{BoundModel, rules_of}
use Rattle.rule_model.specs.Conditions.{AreCubeRules, AreRules, IsStatement, read_count}
use Rattle.rule_model.specs.Governing.{formula_at}
use Rattle.rule_model.specs.System.{rule_of, system_of}
use Rattle.rule_model.specs.Inside.Parts.{part_of_kind}
use Rattle.cell_trace.specs.declared.next.Next.{Next}
use Rattle.cell_trace.specs.Trace.{first_number}
use Rattle.cell_trace.specs.Inside.Chain.{IsPart}
use Rattle.cell_trace.specs.Inside.Place.{Place}

of_some : {X : Type 0} (b : Bool) (o : Option X) (x : X) → (if b then o else None) ≡ Some x → o ≡ Some x
of_some true o x is = is
of_some false o x is = cc

kind_same : (space : Layout) (cube : ℕ) (st : Statement) (leaf : Bool) → part_of (rule_of space cube st) leaf ≡ part_of_kind st leaf
kind_same space cube st true = refl
kind_same space cube st false = refl

read_some : (part : Option Formula) (f : Formula) → part ≡ Some f → read_count part ≡ length (precedents f)
read_some part f is = ap read_count is

-- the numbers of the references of a part fit
few : (st : Statement) (form : Form) → st.form ≡ form → (leaf : Bool) (f : Formula) → part_of_kind st leaf ≡ Some f
    → read_count st.leaf + read_count st.cons < 2 ^ 32 → first_number leaf st + length (precedents f) ≤ 2 ^ 32
few st Both form true f is low = let own = read_some st.leaf f is in rw form (omega (arith, own, low))
few st Both form false f is low = let own = read_some st.cons f is in rw form (omega (arith, own, low))
few st LeafFirst form true f is low = let own = read_some st.leaf f is in rw form (omega (arith, own, low))
few st LeafFirst form false f is low = let own = read_some st.cons f is in rw form (omega (arith, own, low))
few st ConsFirst form true f is low = let own = read_some st.leaf f is in rw form (omega (arith, own, low))
few st ConsFirst form false f is low = let own = read_some st.cons f is in rw form (omega (arith, own, low))

-- they are counted from 1
from_one : (st : Statement) (form : Form) → st.form ≡ form → (leaf : Bool) → 0 < first_number leaf st
from_one st Both form leaf = rw form (omega arith)
from_one st LeafFirst form true = rw form (omega arith)
from_one st LeafFirst form false = rw form (omega arith)
from_one st ConsFirst form true = rw form (omega arith)
from_one st ConsFirst form false = rw form (omega arith)

module _ (m : BoundModel) (rules : AreRules m.space m.rules) (cube : ℕ) (there : cube < length m.space.cubes) where
  abbrev all : List Statement
  all = (rules_of m cube).statements

  are : AreCubeRules m.space cube (rules_of m cube)
  are = rules.cube cube there

  pub few_statements : length all < 2 ^ 32
  few_statements = are.few_statements

  pub few_read : (place : ℕ) (st : Statement) → place < length all → st ≡ get_or all place st → read_count st.leaf + read_count st.cons < 2 ^ 32
  few_read place st within is =
      let of : IsStatement m.space cube st = subst (IsStatement m.space cube) (sym is) (are.statements place st within) in
      of.few_read

module _ (p : Place) (rules : AreRules p.version.model.space p.version.model.rules) (there : cube_of p.version.model.space p.cell < length p.version.model.space.cubes) where
  abbrev m : BoundModel
  m = p.version.model

  abbrev own_cube : ℕ
  own_cube = cube_of m.space p.cell

  formula-is : (st : Statement) (f : Formula) → part_at (system_of m) p.cell (rule_of m.space own_cube st) ≡ Some f → part_of_kind st (is_leaf_cell m.space p.cell) ≡ Some f
  unfolding system_of
  formula-is st f is =
      sym (kind_same m.space own_cube st (is_leaf_cell m.space p.cell)) ∙ of_some (applies (system_of m) p.cell (rule_of m.space own_cube st)) _ f is

  pub is_part : (next : Next) (st : Statement) → formula_at m p.cell next.place ≡ Some next.formula.now → next.place < length (rules_of m own_cube).statements
      → st ≡ get_or (rules_of m own_cube).statements next.place st → next.first ≡ first_number (is_leaf_cell m.space p.cell) st → IsPart p next
  is_part next st formula within here first =
      let sts = (rules_of m own_cube).statements in
      let is : slice_get sts next.place ≡ Some st = slice_get-get_or sts next.place st within ∙ ap Some (sym here) in
      let own : part_at (system_of m) p.cell (rule_of m.space own_cube st) ≡ Some next.formula.now =
      sym (ap (option_and_then (part_at (system_of m) p.cell)) (slice_get-map (rule_of m.space own_cube) sts next.place ∙ ap (option_map (rule_of m.space own_cube)) is)) ∙ formula in
      let low = few st st.form refl (is_leaf_cell m.space p.cell) next.formula.now (formula-is st next.formula.now own) (few_read m rules own_cube there next.place st within here) in
      record {
        formula = formula;
        first = λ other is'. first ∙ ap (first_number (is_leaf_cell m.space p.cell)) (some-same st other (sym is ∙ is'));
        within = within;
        few_statements = few_statements m rules own_cube there;
        from_one = subst (λ n. 0 < n) (sym first) (from_one st st.form refl (is_leaf_cell m.space p.cell));
        few_references = subst (λ n. n + length (precedents next.formula.now) ≤ 2 ^ 32) (sym first) low;
      }
