use Rattle.std.proofs.Common.{w64, ◌<◌, ◌^◌, ◌*◌, ◌∙◌, arith, ap, refl, unsigned_abs, slice_index_or}
use Rattle.std.proofs.Math.Nat.{min-le_right}
use Rattle.std.proofs.lemmas.Int.{to_z-of_z, fits_signed_from_abs}
use Rattle.std.proofs.lemmas.Slice.Zip.{AllZip-long}
use Rattle.dim_weights.specs.Table.{IsWeightsOf}
use Rattle.model_bind.proofs.Greatest.{dim-there, product-turn}
use Rattle.model_bind.proofs.products.weight_product.Goals as goal

pub bounds-weights-dim : goal.bounds-weights-dim
bounds-weights-dim c =
    let space = c.args.space.now in
    let there = dim-there space c.args.cube c.shape.result.now c.as_slice-dims.result.now c.loop-dim.dim-index c.size-cells.ensures.valid c.requires.cube c.shape.ensures c.as_slice-dims.ensures c.loop-dim-test.true in
    omega (arith, there, AllZip-long IsWeightsOf space.dimensions c.args.weights.now c.requires.weights)

pub loop-dim-preserved : goal.loop-dim-preserved
loop-dim-preserved c =
    let space = c.args.space.now in
    let dims = c.as_slice-dims.result.now in
    let i = c.loop-dim.dim-index in
    let there = dim-there space c.args.cube c.shape.result.now dims i c.size-cells.ensures.valid c.requires.cube c.shape.ensures c.as_slice-dims.ensures c.loop-dim-test.true in
    let small : unsigned_abs c.greatest.result < 2 ^ 63 = omega (arith, ap unsigned_abs c.greatest.ensures.greatest, c.greatest.ensures.within) in
    let word = to_z-of_z w64 c.greatest.result (fits_signed_from_abs w64 c.greatest.result small) in
    record {
      fits = omega (arith, c.saturating_mul-product.ensures, min-le_right (c.loop-dim.product * c.unsigned_abs.result) 18446744073709551615);
      rest = product-turn space.dimensions c.args.weights.now dims i (slice_index_or dims i 0) c.loop-dim.product c.unsigned_abs.result _ _ _ c.index-weights-dim.result c.requires.weights there c.loop-dim-test.true refl c.index-weights-dim.is
          (c.unsigned_abs.ensures.value ∙ ap unsigned_abs (word ∙ c.greatest.ensures.greatest)) c.saturating_mul-product.ensures c.loop-dim.invariant.rest;
    }
