use Rattle.std.proofs.Common.{◌≡◌, ◌≤◌, ◌<◌, ◌∙◌, length, get_or, sym, ap, subst, arith}
use Rattle.cube_space.specs.Layout.{axes}
use Rattle.rule_tree.specs.declared.rule.EntryText.{EntryText}
use Rattle.bind_areas.proofs.EntryFacts.{place_within}
use Rattle.bind_areas.proofs.entry.place_of.Goals as goal

pub returns-in-len1-clause-within : goal.returns-in-len1-clause-within
returns-in-len1-clause-within c =
    let entry : EntryText = record { dim = c.args.dim.now; elements = c.args.names.now } in
    let e = c.as_slice.ensures.value ∙ c.in_ok-places.ensures in
    subst (λ l. get_or l 0 0 < length (axes c.args.space.now c.args.cube)) (sym e) (place_within entry (axes c.args.space.now c.args.cube) (omega (arith, ap length e, c.in-len1.len_at_least)))
