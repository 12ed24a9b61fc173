use Rattle.std.proofs.Common.{◌≡◌, ◌∙◌, ap, subst, sym, Some, []}
use Rattle.operand_cover.proofs.Named.{mapped-at, on-ok}
use Rattle.std.specs.Prelude.{slice_index_or}
use Rattle.cube_space.specs.Layout.{cube_names}
use Rattle.feed_print.specs.FeederTexts.{feeder_text}
use Rattle.operand_cover.specs.Cover.{AddsText}
use Rattle.operand_cover.proofs.lines.push_feeder.Goals as goal

pub returns-in-Some : goal.returns-in-Some
returns-in-Some c =
    let space = c.args.space.now in
    let cube = c.args.cube in
    let old = c.args.lines.now.items in
    let new = c.push_text.new.lines.items in
    let name : c.shown.result.now ≡ slice_index_or (cube_names space) cube [] =
    c.shown.ensures.value ∙ sym (mapped-at (λ shape. shape.name) space.cubes cube c.shape.result.now [] c.shape.ensures) in
    let text : Some c.in-Some.text ≡ feeder_text space cube c.args.feeder.now = sym c.in-Some.is ∙ c.in_ok-text.ensures.text in
    on-ok c.push_text.result
    (λ adds. subst (λ bytes. AddsText bytes (feeder_text space cube c.args.feeder.now) old new) name
    (subst (λ found. AddsText c.shown.result.now found old new) text adds))
    c.push_text.ensures
