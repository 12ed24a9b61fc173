use Rattle.std.proofs.Common.{rules}
use Rattle.std.proofs.lemmas.List.Folds.{list_any_at}
use Rattle.cube_space.specs.Layout.{axes}
use Rattle.cover_laws.specs.Covered.{counts_in}
use Rattle.feed_cover.proofs.source.is_own_source.Goals as goal

pub returns-in-Ok : goal.returns-in-Ok
returns-in-Ok c =
    λ on. list_any_at (λ element. counts_in (axes c.args.model.now.space c.args.cube) c.args.place element c.args.leaf) c.args.listed.now c.in-Ok.k 0
    (search rules) (search rules)
