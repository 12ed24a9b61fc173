use Rattle.std.proofs.Common.{◌≡◌, ◌<◌, ◌+◌, ◌++◌, ◌∷◌, [], ◌∙◌, List, length, arith, sym, ap, take, subst, All, refl}
use Rattle.std.proofs.lemmas.List.{take_more, map-append}
use Rattle.std.proofs.lemmas.List.Elements.{All-push}
use Rattle.dim_core.specs.Outline.{Outline, IsDimension}
use Rattle.cube_space.proofs.numbering.element_counts.Goals as goal

pub loop-dimension-preserved : goal.loop-dimension-preserved
loop-dimension-preserved c =
    let i = c.loop-dimension.dimension-index in
    let item = c.dimension-item.result in
    let h : i < length c.args.dimensions.now = omega (arith, c.loop-dimension-test.true) in
    let more : take (i + 1) c.args.dimensions.now ≡ take i c.args.dimensions.now ++ item ∷ [] = take_more c.args.dimensions.now i item h ∙ ap (λ x. take i c.args.dimensions.now ++ x ∷ []) (sym c.dimension-item.is) in
    let P : List Outline → Type 0 = All IsDimension in
    record {
      counts = rw (c.in_ok-push.ensures.items, more, map-append (λ (d : Outline). length d.elements) (take i c.args.dimensions.now) (item ∷ []), c.loop-dimension.invariant.counts, c.len.ensures.len) refl;
      valid = subst P (sym more) (All-push IsDimension (take i c.args.dimensions.now) item c.loop-dimension.invariant.valid c.len.ensures.valid);
    }
