use Rattle.std.proofs.Common.{rules, ◌≡◌, ◌<◌, None, true, sym, ap, ◌∙◌}
use Rattle.cube_fixed.specs.declared.value.Value.TheVariants.{Num}
use Rattle.cube_space.specs.Cells.{size_of, is_leaf_cell}
use Rattle.rule_model.specs.Governing.{governing_from}
use Rattle.stored_laws.specs.Stored.{stored_in}
use Rattle.memo_cases.proofs.StoredLeaf.{is-cell, leaf-value}
use Rattle.memo_cases.proofs.leaf.leaf_value.Goals as goal

pub returns-in-None : goal.returns-in-None
returns-in-None c =
    λ version model stored.
    let m = c.args.model.now in
    let entries = c.args.store.now in
    let cell = c.args.cell in
    let below : cell < size_of m.space = search rules in
    let leaf : is_leaf_cell m.space cell ≡ true = search rules in
    let none : governing_from m cell 0 ≡ None = sym c.governing.ensures.value ∙ c.in-None.is in
    let value = leaf-value version m entries cell model stored
    (λ table. c.statements_of_the_cube_decide.ensures.all m (stored_in entries) table cell (is-cell m cell below) ∙
    (c.statements_of_the_cube_give_in_turn.ensures.none m (stored_in entries) table cell 0 none ∙
    c.sums_over_entries_are_sums_below.ensures.leaf m entries table cell leaf)) in
    ap Num c.get.ensures ∙ sym value
