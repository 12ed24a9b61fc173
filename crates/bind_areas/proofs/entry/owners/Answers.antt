use Rattle.std.proofs.Common.{◌++◌, ◌∷◌, [], ◌∙◌, ap, if◌then◌else◌}
use Rattle.cube_space.specs.Layout.{axes}
use Rattle.bind_areas.specs.Areas.{owns, places_where}
use Rattle.rule_tree.specs.declared.rule.EntryText.{EntryText}
use Rattle.bind_areas.proofs.EntryFacts.{places_more}
use Rattle.bind_areas.proofs.entry.owners.Goals as goal

pub loop-place-preserved : goal.loop-place-preserved
loop-place-preserved c =
    let entry : EntryText = record { dim = c.args.dim.now; elements = c.args.names.now } in
    places_more (owns entry) c.loop-place.places.items c.push_if.new.places.items (places_where (owns entry) 0 (axes c.args.space.now c.args.cube)) c.loop-place.place (axes c.args.space.now c.args.cube)
    c.axis.result.now c.axis.ensures
    (c.in_ok-push_if.ensures ∙ ap (λ b. if b then c.loop-place.places.items ++ c.loop-place.place ∷ [] else c.loop-place.places.items) c.owns-is_owner.ensures) c.loop-place.invariant
