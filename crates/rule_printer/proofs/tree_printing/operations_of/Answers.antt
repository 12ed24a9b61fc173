use Rattle.std.proofs.Common.{◌≡◌, [], ◌∷◌, ◌++◌, sym, ap, ◌∙◌, subst}
use Rattle.rule_printer.proofs.Spines.{spine_more}
use Rattle.rule_printer.specs.Spelled.{rank_of}
use Rattle.rule_printer.specs.Inside.Spine.{Spine}
use Rattle.rule_tree.specs.declared.tree.Tree.TheVariants as trees
use Rattle.rule_printer.proofs.tree_printing.operations_of.Goals as goal

pub down-preserved : goal.down-preserved
down-preserved c =
    let is : c.down.head.now ≡ trees.Binary c.in-Binary.op c.in-Binary.left c.get.result.now = c.in-Binary.is ∙ ap (λ r. trees.Binary c.in-Binary.op c.in-Binary.left r) (sym c.get.ensures) in
    let rank : rank_of c.in-Binary.op ≡ c.args.level = sym c.rank_of.ensures ∙ c.if-rank_of-level.false in
    let spine : Spine c.args.level c.args.tree.now (c.down.operations.items ++ (c.in-Binary.op, c.get.result) ∷ []) c.in-Binary.left =
    spine_more c.args.level c.down.operations.items c.args.tree.now c.down.head.now c.in-Binary.left c.in-Binary.op c.get.result c.down.invariant is rank in
    subst (λ l. Spine c.args.level c.args.tree.now l c.get-head.result.now) (sym c.in_ok-push.ensures.items)
    (subst (λ e. Spine c.args.level c.args.tree.now (c.down.operations.items ++ (c.in-Binary.op, c.get.result) ∷ []) e) (sym c.get-head.ensures) spine)
