use Rattle.std.proofs.Common.{All, sym, subst}
use Rattle.cube_space.specs.Layout.{Layout}
use Rattle.model_bind.specs.Inside.Linked.{IsLinked}
use Rattle.model_bind.proofs.Walks.{of-circle}
use Rattle.model_bind.proofs.circles.circle_fault.Goals as goal

pub link_names-requires : goal.link_names-requires
link_names-requires c =
    subst (λ (s : Layout). All (IsLinked s) c.args.links.now) (sym c.space.ensures.space) (of-circle c.args.model.now c.space.ensures.valid c.args.links.now c.requires.circle)
