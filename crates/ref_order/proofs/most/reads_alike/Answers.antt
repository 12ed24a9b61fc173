use Rattle.std.proofs.Common.{◌≡◌, sym, subst, ◌<◌, length, ℕ, Bool, true, false}
use Rattle.order_laws.specs.Scales.{scale_of}
use Rattle.ref_order.specs.Reads.{precedent_of}
use Rattle.ref_order.proofs.Args.{read-low}
use Rattle.ref_order.proofs.most.reads_alike.Goals as goal

pub kind_alike-requires : goal.kind_alike-requires
kind_alike-requires c =
    subst (λ (k : ℕ). k < length c.args.cells.model.now.space.cubes) (sym c.read_cube-cube.ensures)
    (read-low c.args.cells.model.now.space c.args.cells.cube (precedent_of c.args.asked.read) c.requires.cells.cube c.requires.read)

pub returns : goal.returns
returns c =
    λ on.
    let model = c.args.cells.model.now in
    let place = c.args.asked.place in
    let cube = c.read_cube-cube.result in
    subst (λ (k : ℕ). scale_of model k false place ≡ scale_of model k true place) c.read_cube-cube.ensures
    (sym (subst (λ (b : Bool). scale_of model cube b place ≡ scale_of model cube false place) on c.kind_alike.ensures))
