use Rattle.std.proofs.Common.{◌≡◌, ◌∙◌, ◌<◌, ap, [], w64, FitsSigned, get_or, length, pos, rules, arith, unsigned_abs}
use Rattle.std.proofs.lemmas.Int.{to_z-of_z}
use Rattle.lists.proofs.Places.{get_or_within}
use Rattle.dim_weights.specs.Table.{share, leaves_in}
use Rattle.dim_weights.proofs.SumFacts.{parts-room, parts-step}
use Rattle.dim_weights.proofs.rows.add_parts.Goals as goal

pub add_row-requires-clause-room : goal.add_row-requires-clause-room
add_row-requires-clause-room c leaf =
    let before = ap unsigned_abs (c.loop-part.invariant.added leaf) in
    let most = parts-room (length c.args.sums.now) c.args.rows.now c.args.parts.now c.loop-part.part-index leaf c.requires.rows c.requires.parts in
    omega arith

pub loop-part-preserved : goal.loop-part-preserved
loop-part-preserved c = record {
  whole = omega (arith, c.in_ok-add_row.ensures.length, c.loop-part.invariant.whole);
  added = λ leaf.
      let part = get_or c.args.parts.now c.loop-part.part-index (0, pos 0) in
      let there : c.loop-part.part-index < length c.args.parts.now = c.loop-part-test.true in
      let fits : FitsSigned w64 part.1 = search rules in
      let weight = to_z-of_z w64 part.1 fits in
      let inside : part.0 < length c.args.rows.now = omega (arith, c.requires.parts.within c.loop-part.part-index (0, pos 0) there, c.requires.whole) in
      let row : c.as_slice.result.now ≡ leaves_in c.args.rows.now part.0 = c.as_slice.ensures ∙ (c.index-rows-part.is ∙ get_or_within c.args.rows.now part.0 _ [] inside) in
      let new = c.in_ok-add_row.ensures.added leaf in
      parts-step (λ x. share (leaves_in c.args.rows.now x) leaf) c.args.parts.now c.loop-part.part-index _ _ there (c.loop-part.invariant.added leaf) (rw (weight, row) at new);
}
