use Rattle.std.proofs.Common.{◌≡◌, sym, ◌∙◌, ap, subst, true, ℤ}
use Rattle.cube_fixed.specs.declared.value.Value.TheVariants.{Num}
use Rattle.cube_space.specs.Layout.{Layout}
use Rattle.cube_space.specs.Cells.{is_leaf_cell}
use Rattle.rule_laws.specs.RuleSystem.{base}
use Rattle.rule_model.specs.System.{system_of}
use Rattle.stored_laws.specs.Stored.{stored_in}
use Rattle.stored_laws.proofs.Stored.{base-leaf}
use Rattle.rule_dense.specs.Inside.Plain.{PlainTable, table_of}
use Rattle.rule_dense.proofs.plain.Plain.base_of.Goals as goal

pub returns-then-is_leaf : goal.returns-then-is_leaf
returns-then-is_leaf c =
    let leaf : is_leaf_cell c.self.inside.model.now.space c.args.cell ≡ true = ap (λ (s : Layout). is_leaf_cell s c.args.cell) (sym c.space.ensures.space) ∙ sym c.is_leaf.ensures ∙ c.if-is_leaf.true in
    subst (λ (p : PlainTable). Num c.get.result ≡ base (system_of p.model) (stored_in p.entries) (table_of p.values) c.args.cell) c.self.view_is
    (ap (λ (z : ℤ). Num z) c.get.ensures ∙ sym (base-leaf c.self.inside.model.now c.self.inside.store.now (table_of c.self.inside.values.now) c.args.cell leaf))
