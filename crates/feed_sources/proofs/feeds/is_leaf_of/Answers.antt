use Rattle.std.proofs.Common.{◌≡◌, ◌∙◌, refl, sym, ap, Bool, true, false, not, nat_eq, w64, of_z, pos}
use Rattle.std.specs.Prelude.{◌↔◌}
use Rattle.std.specs.List.{Contains}
use Rattle.rule_laws.specs.Feeding.{leaves_of}
use Rattle.rule_model.specs.System.{system_of}
use Rattle.std.proofs.lemmas.Bool.{eqb-true, eq-eqb}
use Rattle.cube_space.specs.Cells.{is_leaf_cell}
use Rattle.feed_sources.proofs.BelowFacts.{leaf-stands, stands-leaf}
use Rattle.feed_sources.proofs.FedParts.{weighs-below, below-weighs, word-zero}
use Rattle.feed_sources.proofs.feeds.is_leaf_of.Goals as goal

pub returns-then-is_leaf : goal.returns-then-is_leaf
returns-then-is_leaf c =
    let own : is_leaf_cell c.args.model.now.space c.args.total ≡ true = (let here = sym c.is_leaf.ensures ∙ c.if-is_leaf.true in rw c.space.ensures.space at here) in
    (λ same. leaf-stands c.args.model.now c.args.total own c.args.cell (eqb-true c.args.total c.args.cell same), λ has. eq-eqb c.args.total c.args.cell (stands-leaf c.args.model.now c.args.total own c.args.cell has))

pub returns : goal.returns
returns c =
    let total : is_leaf_cell c.args.model.now.space c.args.total ≡ false = (let here = sym c.is_leaf.ensures ∙ c.if-is_leaf.false in rw c.space.ensures.space at here) in
    by (nat_eq (of_z w64 c.weight.result) 0) refl total
  where
    by : (b : Bool) → nat_eq (of_z w64 c.weight.result) 0 ≡ b → is_leaf_cell c.args.model.now.space c.args.total ≡ false
        → (not b ≡ true) ↔ Contains (leaves_of (system_of c.args.model.now) c.args.total) c.args.cell
    by true none total = (
      λ off. absurd (let clash : false ≡ true = off in cc),
      λ has. absurd (below-weighs c.args.model.now c.args.total c.args.cell total has
          (sym (rw c.model.ensures at c.weight.ensures.value) ∙ word-zero c.weight.result c.weight.ensures.size (eqb-true (of_z w64 c.weight.result) 0 none))),
    )
    by false some total = (
      λ _. weighs-below c.args.model.now c.args.total c.args.cell total c.requires.cell c.requires.leaf
          (λ none. let zero : c.weight.result ≡ pos 0 = rw c.model.ensures at c.weight.ensures.value ∙ none in
          let clash : true ≡ false = sym (eq-eqb (of_z w64 c.weight.result) 0 (ap (of_z w64) zero)) ∙ some in cc),
      λ _. refl,
    )
