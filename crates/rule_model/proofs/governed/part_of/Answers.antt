use Rattle.std.proofs.Common.{◌≡◌, ℕ, List, ◌∙◌, sym, ap, Some, slice_index_or}
use Rattle.cube_space.specs.Cells.{cube_of, is_leaf_cell}
use Rattle.rule_laws.specs.declared.formula.Formula.{Formula}
use Rattle.rule_model.specs.declared.rules.CubeRules.{CubeRules}
use Rattle.rule_model.specs.declared.rules.Statement.{Statement}
use Rattle.rule_model.specs.Governing.{governing_from, formula_at}
use Rattle.rule_model.specs.Inside.Parts.{part_of_kind}
use Rattle.rule_model.proofs.GoverningFacts.{formula_in, some_copied}
use Rattle.rule_model.proofs.governed.part_of.Goals as goal

found : (c : goal.After-part_of_kind) (cell from : ℕ) → cube_of c.args.model.now.space cell ≡ c.args.cube → is_leaf_cell c.args.model.now.space cell ≡ c.args.is_leaf
    → governing_from c.args.model.now cell from ≡ Some c.args.statement
    → (f : Formula) × (formula_at c.args.model.now cell c.args.statement ≡ Some f) × (part_of_kind c.index-as_slice-statement.result c.args.is_leaf ≡ Some f)
found c cell from own kind some =
    let list = c.as_slice.ensures ∙ ap (λ (r : CubeRules). r.statements) c.rules.ensures in
    formula_in c.args.model.now c.args.cube cell from c.args.statement c.index-as_slice-statement.result c.args.is_leaf own kind some
    (c.index-as_slice-statement.is ∙ ap (λ (ss : List Statement). slice_index_or ss c.args.statement c.index-as_slice-statement.result) list) c.requires.statement

pub returns-clause-value : goal.returns-clause-value
returns-clause-value c = λ cell from own kind some. (let (f, has, part) = found c cell from own kind some in c.part_of_kind.ensures ∙ part ∙ sym has)

pub returns-clause-there : goal.returns-clause-there
returns-clause-there c = λ cell from own kind some. (let (f, has, part) = found c cell from own kind some in some_copied c.part_of_kind.result f (c.part_of_kind.ensures ∙ part))
