use Rattle.std.proofs.Common.{◌≡◌, ◌∙◌, ap, arith, [], length, replicate}
use Rattle.order_find.specs.Numbers.{count_of}
use Rattle.order_find.specs.Filing.{looked_by}
use Rattle.order_find.proofs.LookedAt.{none-filed}
use Rattle.order_find.proofs.filing.file_sources.Goals as goal

pub each-init : goal.each-init
each-init c =
    let numbering = c.args.numbering.now in
    let cubes : c.len.result ≡ length c.args.model.now.space.cubes = omega (arith, c.len.ensures, numbering.firsts.ok, c.requires.numbering.firsts) in
    let nodes : c.len-2.result ≡ count_of numbering = omega (arith, c.len-2.ensures, numbering.places.ok) in
    none-filed (looked_by c.args.model.now numbering c.args.sources.now (record { of_cubes = c.in_ok-of_cubes.of_cubes; of_nodes = c.in_ok-of_nodes.of_nodes }))
    (c.in_ok-of_cubes.ensures ∙ ap (λ n. replicate n []) cubes) (c.in_ok-of_nodes.ensures ∙ ap (λ n. replicate n []) nodes)
