use Rattle.std.proofs.Common.{◌<◌, ◌∙◌, ℕ, List, length, ap, sym, subst, arith}
use Rattle.rule_model.specs.BoundModel.{BoundModel, no_rules, rules_of}
use Rattle.feed_sources.specs.Inside.Tables.{AreSpans, AreSpansOf}
use Rattle.feed_sources.proofs.SourceFacts.{zip-at, zip-length}
use Rattle.feed_sources.proofs.source_model.SourceModel.span_end.Goals.{After-as_slice, After-space-space}
use Rattle.feed_sources.proofs.source_model.SourceModel.span_end.Goals as goal

-- the cube has rules
low-of : (c : After-space-space) → c.args.cube < length c.self.inside.model.rules
low-of c = omega (arith, c.requires.cube, c.space-space.ensures.rules.each_cube, ap (λ (m : BoundModel). length m.space.cubes) c.self.view_is)

pub index-ends-requires : goal.index-ends-requires
index-ends-requires c =
    omega (arith, low-of (goal.at.index-ends-requires c).After-space-space, zip-length AreSpansOf c.self.inside.model.rules c.self.inside.ends.items c.self.invariant.spans)

-- the spans of its feeders
spans-of : (c : After-as_slice) → c.args.cube < length c.self.inside.model.rules → AreSpans (rules_of c.args.self.now c.args.cube).feeders c.as_slice.result.now
spans-of c low =
    let own = zip-at AreSpansOf c.self.inside.model.rules c.self.inside.ends.items c.args.cube no_rules c.index-ends.result.now c.self.invariant.spans low in
    subst (λ (m : BoundModel). AreSpans (rules_of m c.args.cube).feeders c.as_slice.result.now) c.self.view_is
    (subst (λ (ends : List ℕ). AreSpans (rules_of c.self.inside.model c.args.cube).feeders ends) (sym (c.as_slice.ensures ∙ c.index-ends.ensures)) own)

pub bounds-as_slice-place : goal.bounds-as_slice-place
bounds-as_slice-place c =
    let at = goal.at.bounds-as_slice-place c in
    let spans = spans-of at.After-as_slice (low-of at.After-space-space) in
    omega (arith, c.requires.place, spans.whole)

pub returns : goal.returns
returns c =
    let at = goal.at.returns c in
    (spans-of at.After-as_slice (low-of at.After-space-space)).each c.args.place c.requires.place
