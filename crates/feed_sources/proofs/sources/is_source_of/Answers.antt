use Rattle.std.proofs.Common.{◌≡◌, ◌∙◌, sym, ap, subst, ℕ, List, true}
use Rattle.cube_space.specs.Layout.{axes}
use Rattle.cube_space.specs.Cells.{is_place, cube_of, elements_of}
use Rattle.cube_space.proofs.Places.{cell-place, is_place-from}
use Rattle.rule_model.specs.Areas.{in_source_sets}
use Rattle.feed_sources.proofs.FeederFacts.{has-source, source-has}
use Rattle.feed_sources.proofs.sources.is_source_of.Goals as goal

pub is_source-requires-clause-place : goal.is_source-requires-clause-place
is_source-requires-clause-place c =
    let own = is_place-from c.args.model.now.space (cube_of c.args.model.now.space c.args.cell) (elements_of c.args.model.now.space c.args.cell) (cell-place c.args.model.now.space c.args.cell c.requires.cell).place in
    subst (λ (es : List ℕ). is_place c.args.model.now.space c.args.cube es ≡ true) c.requires.elements
    (subst (λ (k : ℕ). is_place c.args.model.now.space k (elements_of c.args.model.now.space c.args.cell) ≡ true) c.requires.cube own)

pub returns : goal.returns
returns c =
    let is = rw c.get.ensures at c.is_source.ensures in
    let same = ap (λ (es : List ℕ). in_source_sets (axes c.args.model.now.space c.args.cube) c.args.feeder.now.area.sets es) c.requires.elements in (
      λ sure. has-source c.args.model.now c.args.cell c.args.cube c.args.feeder.now c.requires.leaf c.requires.cube (same ∙ sym is ∙ sure),
      λ has. is ∙ sym same ∙ source-has c.args.model.now c.args.cell c.args.cube c.args.feeder.now c.requires.leaf c.requires.cube has,
    )
