use Rattle.std.proofs.Common.{◌<◌, ◌∙◌, ℕ, List, All, ap, sym, subst}
use Rattle.std.specs.Prelude.{slice_get, slice_index_or, option_and_then}
use Rattle.cube_space.specs.Layout.{axes, sizes}
use Rattle.feed_turn.specs.Leaves.{over}
use Rattle.feed_turn.proofs.Overs.{area-leaves-below}
use Rattle.feed_turn.proofs.area.worked_over.Goals as goal

pub over_of-requires-clause-leaves : goal.over_of-requires-clause-leaves
over_of-requires-clause-leaves c =
    let space = c.args.model.now.space in
    subst (λ (xs : List ℕ). All (λ leaf. leaf < slice_index_or (sizes space c.args.cube) c.args.place 0) xs) (sym (c.deref.ensures.value ∙ c.in_ok-leaves.ensures))
    (area-leaves-below space c.args.cube c.args.area.now c.args.place c.requires.area c.requires.place)

pub returns : goal.returns
returns c =
    c.over_of.ensures ∙ ap (λ (xs : List ℕ). option_and_then (λ d. over d xs) (slice_get (axes c.args.model.now.space c.args.cube) c.args.place)) (c.deref.ensures.value ∙ c.in_ok-leaves.ensures)
