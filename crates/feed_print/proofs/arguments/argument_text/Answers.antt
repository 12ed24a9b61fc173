use Rattle.std.proofs.Common.{◌≡◌, ◌∙◌, ◌==◌, ◌&&◌, length, true, false, sym, ap, subst, slice_index_or}
use Rattle.std.proofs.lemmas.Bool.{and_from}
use Rattle.std.proofs.lemmas.Option.{get_or_from_slice_get}
use Rattle.std.proofs.lemmas.Result.{IfOk-weaker}
use Rattle.dim_core.specs.Outline.{Outline, name_of}
use Rattle.cube_space.specs.Layout.{dims_of, sizes}
use Rattle.rule_model.specs.Conditions.{IsArg}
use Rattle.bind_arguments.specs.Bound.{dimension_at}
use Rattle.feed_print.specs.FeederTexts.{argument_text, fits, map_text, name_text}
use Rattle.feed_print.proofs.Lists.{moved_long, opened, shut}
use Rattle.feed_print.proofs.arguments.argument_text.Goals as goal
use Rattle.feed_print.proofs.arguments.argument_text.Goals.{else-is_dimension_at-via-then-is_dimension_at+else-fits, else-is_dimension_at-via-else-is_dimension_at}

pub map_text-requires-clause-size : goal.map_text-requires-clause-size
map_text-requires-clause-size c =
    let space = c.args.space.now in
    let here : dimension_at space c.args.dim ≡ c.dimension-dimension.result.now = get_or_from_slice_get space.dimensions c.args.dim c.dimension-dimension.result.now _ c.dimension-dimension.ensures in
    let size = length (dimension_at space c.args.dim).elements in
    moved_long space c.args.cube c.args.dim size c.in-Moved.from c.in-Moved.to c.size-cells.ensures.valid c.requires.cube (subst (IsArg (sizes space c.args.cube) size) c.in-Moved.is c.requires.arg) (sym c.if-is_dimension_at.ensures)
    ∙ ap (λ (d : Outline). length d.elements) here ∙ sym c.len.ensures.len

pub returns-in-Fixed-clause-text : goal.returns-in-Fixed-clause-text
unfolding argument_text
returns-in-Fixed-clause-text c =
    let space = c.args.space.now in
    let here : dimension_at space c.args.dim ≡ c.dimension-dimension.result.now = get_or_from_slice_get space.dimensions c.args.dim c.dimension-dimension.result.now _ c.dimension-dimension.ensures in
    IfOk-weaker c.name_text.result _ _
    (λ found is. is ∙ ap name_text (c.name_of.ensures ∙ ap (λ d. name_of d c.in-Fixed.element) (sym here)) ∙ sym (ap (argument_text space c.args.cube c.args.dim) c.in-Fixed.is)) c.name_text.ensures.text

pub returns-then-fits-clause-text : goal.returns-then-fits-clause-text
unfolding argument_text
returns-then-fits-clause-text c =
    let space = c.args.space.now in
    let here : dimension_at space c.args.dim ≡ c.dimension-dimension.result.now = get_or_from_slice_get space.dimensions c.args.dim c.dimension-dimension.result.now _ c.dimension-dimension.ensures in
    let name : c.name-then-fits.result.now ≡ (dimension_at space c.args.dim).name = c.name-then-fits.ensures ∙ ap (λ (d : Outline). d.name) (sym here) in
    let tested : c.name.result.now ≡ (dimension_at space c.args.dim).name = c.name.ensures ∙ ap (λ (d : Outline). d.name) (sym here) in
    let short : fits (dimension_at space c.args.dim).name ≡ true = sym (ap fits tested) ∙ sym c.if-fits.ensures.fits in
    let test = and_from (slice_index_or (dims_of space c.args.cube) c.in-Moved.from 0 == c.args.dim) (fits (dimension_at space c.args.dim).name) (sym c.if-is_dimension_at.ensures) short in
    IfOk-weaker c.map_text.result _ _
    (λ found is. is ∙ ap (λ n. map_text n c.in-Moved.to) name
    ∙ opened ((slice_index_or (dims_of space c.args.cube) c.in-Moved.from 0 == c.args.dim) && fits (dimension_at space c.args.dim).name) (map_text (dimension_at space c.args.dim).name c.in-Moved.to) test
    ∙ sym (ap (argument_text space c.args.cube c.args.dim) c.in-Moved.is)) c.map_text.ensures.text

pub returns-else-is_dimension_at-clause-text : goal.returns-else-is_dimension_at-clause-text
unfolding argument_text
returns-else-is_dimension_at-clause-text c =
    let space = c.args.space.now in
    let here : dimension_at space c.args.dim ≡ c.dimension-dimension.result.now = get_or_from_slice_get space.dimensions c.args.dim c.dimension-dimension.result.now _ c.dimension-dimension.ensures in
    let b = slice_index_or (dims_of space c.args.cube) c.in-Moved.from 0 == c.args.dim in
    let none = λ (off : (b && fits (dimension_at space c.args.dim).name) ≡ false).
    shut (b && fits (dimension_at space c.args.dim).name) (map_text (dimension_at space c.args.dim).name c.in-Moved.to) off ∙ sym (ap (argument_text space c.args.cube c.args.dim) c.in-Moved.is) in
    elim c.else-is_dimension_at.branch [
      | else-is_dimension_at-via-then-is_dimension_at+else-fits w ↦ none (
          ap (λ t. b && t) (ap fits (ap (λ (d : Outline). d.name) here ∙ sym w.name.ensures) ∙ sym w.if-fits.ensures.fits) ∙ ap (λ t. t && false) (sym w.if-is_dimension_at.ensures))
      | else-is_dimension_at-via-else-is_dimension_at w ↦ none (ap (λ t. t && fits (dimension_at space c.args.dim).name) (sym w.if-is_dimension_at.ensures))
    ]
