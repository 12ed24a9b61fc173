use Rattle.std.proofs.Common.{sym, ◌∙◌, rules, w64, SFits}
use Rattle.std.proofs.lemmas.List.{take_more}
use Rattle.std.proofs.lemmas.Slice.Zip.{all_zipped_more}
use Rattle.std.proofs.Math.Facts.{to_z-of_z}
use Rattle.dim_core.specs.Draft.{IsResolvedPart}
use Rattle.dim_core.proofs.resolve.resolve.Goals as goal

pub loop-name-preserved : goal.loop-name-preserved
loop-name-preserved c =
    let item = take_more c.args.parts.now c.loop-name.name-index c.loop-name-item.result c.loop-name-test.true in
    let fits : SFits w64 c.loop-name-item.result.1 = search rules in
    rw (item, ← c.loop-name-item.is, c.in_ok-push.ensures.items)
    (all_zipped_more (IsResolvedPart c.args.names.now.keys) _ _ _ _ c.loop-name.invariant (sym c.get_index_of.ensures.index ∙ c.unwrap-index.ensures, to_z-of_z fits))
