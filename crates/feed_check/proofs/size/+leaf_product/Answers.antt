use Rattle.std.proofs.Common.{rules, ◌≡◌, ◌<◌, ◌∙◌, ◌+◌, ◌*◌, arith, refl, sym, ap, length}
use Rattle.cube_space.specs.Layout.{axes}
use Rattle.order_laws.proofs.CellFacts.{axes-sizes}
use Rattle.cover_laws.proofs.Pairs.{arg-there}
use Rattle.feed_check.specs.Inside.Leaves.{leaf_elements}
use Rattle.feed_check.proofs.Products.{leaves-step, product-room}
use Rattle.feed_check.proofs.size.+leaf_product.Goals as goal

pub overflow_mul-result : goal.overflow_mul-result
overflow_mul-result t c =
    let low : c.args.dim < length (axes c.args.model.now.space c.args.cube) = search rules in
    let equal : c.from.result ≡ c.leaf_elements.result = search rules in
    let room = product-room c.args.model.now.space c.args.cube c.args.dim (c.args.dim + 1) c.from.result c.leaf_product.result c.space-space.ensures.valid c.requires.cube c.requires.some (omega (arith, low, axes-sizes c.args.model.now.space c.args.cube)) refl (omega (arith, equal, c.leaf_elements.ensures.size)) c.leaf_product.ensures.size in
    omega (arith, room.1)

pub returns-clause-value : goal.returns-clause-value
returns-clause-value t c =
    let low : c.args.dim < length (axes c.args.model.now.space c.args.cube) = search rules in
    let equal : c.from.result ≡ c.leaf_elements.result = search rules in
    let (d, at) = arg-there (axes c.args.model.now.space c.args.cube) c.args.dim low in
    ap (λ n. n * c.leaf_product.result) (equal ∙ c.leaf_elements.ensures.value d at) ∙ ap (λ n. leaf_elements d * n) c.leaf_product.ensures.value
    ∙ sym (leaves-step (axes c.args.model.now.space c.args.cube) c.args.dim (c.args.dim + 1) d at refl)
