use Rattle.std.proofs.Common.{rules, ◌≡◌, ap, sym, ◌∙◌, subst, Some, None, Err, map, length, pos, codes, bytes_eq, true, false, w64, ◌<◌, IfSome, drop, arith}
use Rattle.std.proofs.lemmas.Result.{err_from_is_err_and}
use Rattle.std.proofs.lemmas.Bool.{le-leb}
use Rattle.std.proofs.lemmas.List.{length-map, take_rest}
use Rattle.std.specs.Option.{option_copied, option_map, option_and_then, ok_or}
use Rattle.std.proofs.lemmas.Int.{to_z-of_z}
use mir.Val.{SFits}
use Rattle.bind_arguments.specs.Written.{Quoted, Element, Current, argument_of_part, name_call, index_call, attribute_call, call_part, at_index, number_part, part_in, related, relative_called, relative_call}
use Rattle.bind_arguments.specs.Argument.{IsAnsweredBy}
use Rattle.bind_arguments.specs.Bound.{name_in, dimension_at, dimension_named, attribute_named}
use Rattle.bind_arguments.specs.Inside.Reading.{shift_in, at_moved}
use Rattle.bind_arguments.specs.declared.bound_argument.BoundArgument.TheVariants as bound
use Rattle.bind_arguments.specs.declared.fault.ArgumentFault.TheVariants.{UnknownName}
use Rattle.bind_arguments.proofs.Parts.{part_number, part_text, part_current, part_call, part_binary, no_argument, no_place, no_index}
use Rattle.bind_arguments.proofs.PartsBound.{answers, dynamic, text_bound, same_part, other_count, other_call, same_argument, relative_count, relative_textless, relative_unknown, relative_is, parts_behind, both_behind, place_call, unplaced, call_as_index, operation_moved, operation_unmoved, name_count, index_count, attribute_count, name_textless, index_textless, attribute_textless, attribute_nameless, two_parts, three_parts, three_first}
use Rattle.bind_arguments.proofs.Around.{placed_refused, placed_known, placed_within, attribute_refused, attribute_known, attribute_within, relative_refused, relative_known, relative_within, within_text, found_dimension}
use Rattle.bind_arguments.proofs.binding.+bind.Goals as goal

pub bind_at_index-returns-then-arguments-ne2-clause-answered : goal.bind_at_index-returns-then-arguments-ne2-clause-answered
bind_at_index-returns-then-arguments-ne2-clause-answered t c =
    dynamic c.args.space.now c.args.cube (name_call (map part_in c.args.arguments.now)) (name_count (map part_in c.args.arguments.now) (other_count c.args.arguments.now 2 c.if-arguments-ne2.true))

pub bind_at_index-returns-in-None-clause-answered : goal.bind_at_index-returns-in-None-clause-answered
bind_at_index-returns-in-None-clause-answered t c =
    let (q, is) = two_parts c.args.arguments.now c.index-arguments-0.result c.if-arguments-ne2.false c.index-arguments-0.is in
    dynamic c.args.space.now c.args.cube (name_call (map part_in c.args.arguments.now))
    (ap (λ l. argument_of_part (name_call l)) is ∙ name_textless (part_in c.index-arguments-0.result) q (sym c.text_of.ensures ∙ ap option_copied c.in-None.is))

pub bind_place-returns-then-arguments-ne2-clause-answered : goal.bind_place-returns-then-arguments-ne2-clause-answered
bind_place-returns-then-arguments-ne2-clause-answered t c =
    dynamic c.args.space.now c.args.cube (at_moved c.args.dim.now (index_call (map part_in c.args.arguments.now)) c.args.shift)
    (index_count c.args.dim.now c.args.shift (map part_in c.args.arguments.now) (other_count c.args.arguments.now 2 c.if-arguments-ne2.true))

pub bind_place-returns-in-None-clause-answered : goal.bind_place-returns-in-None-clause-answered
bind_place-returns-in-None-clause-answered t c =
    let (q, is) = two_parts c.args.arguments.now c.index-arguments-0.result c.if-arguments-ne2.false c.index-arguments-0.is in
    dynamic c.args.space.now c.args.cube (at_moved c.args.dim.now (index_call (map part_in c.args.arguments.now)) c.args.shift)
    (ap (λ l. argument_of_part (at_moved c.args.dim.now (index_call l) c.args.shift)) is ∙ index_textless c.args.dim.now c.args.shift (part_in c.index-arguments-0.result) q (sym c.text_of.ensures ∙ ap option_copied c.in-None.is))

pub bind_attribute-returns-then-arguments-ne3-clause-answered : goal.bind_attribute-returns-then-arguments-ne3-clause-answered
bind_attribute-returns-then-arguments-ne3-clause-answered t c =
    dynamic c.args.space.now c.args.cube (attribute_call (map part_in c.args.arguments.now)) (attribute_count (map part_in c.args.arguments.now) (other_count c.args.arguments.now 3 c.if-arguments-ne3.true))

pub bind_call-returns-else-eq-2-clause-answered : goal.bind_call-returns-else-eq-2-clause-answered
bind_call-returns-else-eq-2-clause-answered t c =
    let dimnm : bytes_eq c.args.function.now (codes "DIMNM") ≡ false = ap (bytes_eq c.args.function.now) (sym c.as_slice.ensures) ∙ sym c.eq.ensures ∙ c.if-eq.false in
    let attrs : bytes_eq c.args.function.now (codes "ATTRS") ≡ false = ap (bytes_eq c.args.function.now) (sym c.as_slice-else-eq.ensures) ∙ sym c.eq-else-eq.ensures ∙ c.if-eq-2.false in
    let parts = map part_in c.args.arguments.now in
    same_argument c.args.space.now c.args.cube (relative_call c.args.function.now parts) (call_part c.args.function.now parts) c.bind_relative.result (other_call c.args.function.now parts dimnm attrs) c.bind_relative.ensures.answered

pub bind_relative-returns-then-arguments-lt2-clause-answered : goal.bind_relative-returns-then-arguments-lt2-clause-answered
bind_relative-returns-then-arguments-lt2-clause-answered t c =
    let parts = map part_in c.args.arguments.now in
    let few : length parts < 2 = omega (arith, length-map c.args.arguments.now part_in, c.if-arguments-lt2.true) in
    dynamic c.args.space.now c.args.cube (relative_call c.args.function.now parts) (relative_count c.args.function.now parts few)

pub bind_relative-returns-in-Some-relative_called-clause-answered : goal.bind_relative-returns-in-Some-relative_called-clause-answered
bind_relative-returns-in-Some-relative_called-clause-answered t c =
    let rest = ap (λ l. relative_called c.args.function.now (map part_in l)) (sym (take_rest c.args.arguments.now 2)) in
    let is = both_behind c.args.arguments.now c.index-arguments-0.result c.index-arguments-1.result (omega (arith, c.if-arguments-lt2.false)) c.index-arguments-0.is c.index-arguments-1.is in
    same_part c.args.space.now c.args.cube (related c.in-Some.dim.now (argument_of_part (part_in c.index-arguments-1.result)) c.in-Some-relative_called.relative) (relative_call c.args.function.now (map part_in c.args.arguments.now)) c.bind_relative_of.result
    (sym (ap (relative_call c.args.function.now) is
    ∙ relative_is c.args.function.now c.in-Some.dim.now (part_in c.index-arguments-0.result) (part_in c.index-arguments-1.result) (map part_in (drop 2 c.args.arguments.now)) c.in-Some-relative_called.relative
    (sym c.text_of.ensures ∙ ap option_copied c.in-Some.is) (rest ∙ sym c.relative_called.ensures ∙ c.in-Some-relative_called.is)))
    c.bind_relative_of.ensures.answered

pub bind_relative-returns-in-None-relative_called-clause-answered : goal.bind_relative-returns-in-None-relative_called-clause-answered
bind_relative-returns-in-None-relative_called-clause-answered t c =
    let rest = ap (λ l. relative_called c.args.function.now (map part_in l)) (sym (take_rest c.args.arguments.now 2)) in
    let (q, is) = parts_behind c.args.arguments.now c.index-arguments-0.result (omega (arith, c.if-arguments-lt2.false)) c.index-arguments-0.is in
    dynamic c.args.space.now c.args.cube (relative_call c.args.function.now (map part_in c.args.arguments.now))
    (ap (λ l. argument_of_part (relative_call c.args.function.now l)) is
    ∙ relative_unknown c.args.function.now (part_in c.index-arguments-0.result) q (map part_in (drop 2 c.args.arguments.now)) (rest ∙ sym c.relative_called.ensures ∙ c.in-None-relative_called.is))

pub bind_relative-returns-in-None-clause-answered : goal.bind_relative-returns-in-None-clause-answered
bind_relative-returns-in-None-clause-answered t c =
    let (q, is) = parts_behind c.args.arguments.now c.index-arguments-0.result (omega (arith, c.if-arguments-lt2.false)) c.index-arguments-0.is in
    dynamic c.args.space.now c.args.cube (relative_call c.args.function.now (map part_in c.args.arguments.now))
    (ap (λ l. argument_of_part (relative_call c.args.function.now l)) is
    ∙ relative_textless c.args.function.now (part_in c.index-arguments-0.result) q (map part_in (drop 2 c.args.arguments.now)) (sym c.text_of.ensures ∙ ap option_copied c.in-None.is))

pub bind_relative_of-returns-in_err-of-clause-answered : goal.bind_relative_of-returns-in_err-of-clause-answered
bind_relative_of-returns-in_err-of-clause-answered t c =
    let p = err_from_is_err_and c.from_residual.result c.from_residual.ensures.1 in
    rw (p.1, p.2) (relative_refused c.args.space.now c.args.cube c.args.dim.now c.args.relative (part_in c.args.of.now) c.in_err-of.field-0.0 c.in_err-of.ensures.answered)

pub bind_relative_of-returns-clause-answered : goal.bind_relative_of-returns-clause-answered
bind_relative_of-returns-clause-answered t c =
    relative_known c.args.space.now c.args.cube c.args.dim.now c.args.relative (part_in c.args.of.now) c.in_ok-of.of c.in_ok-dim.dim c.relative_of.result
    c.in_ok-dim.ensures.named c.in_ok-of.ensures.answered c.relative_of.ensures

pub bind_relative_of-returns-clause-within : goal.bind_relative_of-returns-clause-within
bind_relative_of-returns-clause-within t c =
    relative_within c.args.space.now c.args.cube c.in_ok-dim.dim c.in_ok-of.of c.args.relative c.relative_of.result c.in_ok-dim.ensures.within c.in_ok-of.ensures.within c.relative_of.ensures

pub bind_element-returns-in_ok-name_in-in-Text-clause-answered : goal.bind_element-returns-in_ok-name_in-in-Text-clause-answered
bind_element-returns-in_ok-name_in-in-Text-clause-answered t c =
    let name : c.in_ok-name_in-in-Text.field-0 ≡ name_in c.in-Text.text = c.in_ok-name_in-in-Text.ensures ∙ ap name_in c.as_slice.ensures in
    same_part c.args.space.now c.args.cube (Element (Quoted c.in-Text.text)) (part_in c.args.tree.now) _ (sym (part_text c.args.tree.now c.in-Text.text c.in-Text.is))
    (text_bound c.args.space.now c.args.cube c.in-Text.text c.in_ok-name_in-in-Text.field-0 name)

pub bind_element-returns-in_ok-name_in-in-Text-clause-within : goal.bind_element-returns-in_ok-name_in-in-Text-clause-within
bind_element-returns-in_ok-name_in-in-Text-clause-within t c = within_text c.args.space.now c.args.cube _

pub bind_element-returns-in-Current-clause-answered : goal.bind_element-returns-in-Current-clause-answered
bind_element-returns-in-Current-clause-answered t c =
    same_part c.args.space.now c.args.cube (Element (Current c.in-Current.name)) (part_in c.args.tree.now) _ (sym (part_current c.args.tree.now c.in-Current.name c.in-Current.is)) c.bind_current.ensures.answered

pub bind_element-returns-in-Call-clause-answered : goal.bind_element-returns-in-Call-clause-answered
bind_element-returns-in-Call-clause-answered t c =
    same_part c.args.space.now c.args.cube (call_part c.as_slice-in-Call.result.now (map part_in c.as_slice-in-Call-2.result.now)) (part_in c.args.tree.now) c.bind_call.result
    (ap (λ f. call_part f (map part_in c.as_slice-in-Call-2.result.now)) c.as_slice-in-Call.ensures ∙ ap (λ l. call_part c.in-Call.function (map part_in l)) c.as_slice-in-Call-2.ensures
    ∙ sym (part_call c.args.tree.now c.in-Call.function c.in-Call.arguments c.in-Call.is)) c.bind_call.ensures.answered

pub bind_element-returns-in_default : goal.bind_element-returns-in_default
bind_element-returns-in_default t c =
    record {
      answered = dynamic c.args.space.now c.args.cube (part_in c.args.tree.now) (no_argument c.args.tree.now c.in_default.not-Text c.in_default.not-Current c.in_default.not-Call);
      within = tt;
    }

pub bind_index-returns-in-Number-clause-answered : goal.bind_index-returns-in-Number-clause-answered
bind_index-returns-in-Number-clause-answered t c =
    same_part c.args.space.now c.args.cube (at_index c.args.dim.now (number_part c.in-Number.number)) (at_index c.args.dim.now (part_in c.args.index.now)) _
    (ap (at_index c.args.dim.now) (sym (part_number c.args.index.now c.in-Number.number c.in-Number.is))) c.bind_number.ensures.answered

pub bind_index-returns-in-Call-clause-answered : goal.bind_index-returns-in-Call-clause-answered
bind_index-returns-in-Call-clause-answered t c =
    let is = part_call c.args.index.now c.in-Call.field-0 c.in-Call.field-1 c.in-Call.is in
    same_part c.args.space.now c.args.cube (at_moved c.args.dim.now (part_in c.args.index.now) (pos 0)) (at_index c.args.dim.now (part_in c.args.index.now)) c.bind_moved.result
    (ap (λ p. at_moved c.args.dim.now p (pos 0)) is ∙ sym (call_as_index c.args.dim.now c.in-Call.field-0 (map part_in c.in-Call.field-1)) ∙ ap (at_index c.args.dim.now) (sym is)) c.bind_moved.ensures.answered

pub bind_index-returns-in-Some-clause-answered : goal.bind_index-returns-in-Some-clause-answered
bind_index-returns-in-Some-clause-answered t c =
    let is = part_binary c.args.index.now c.in-Binary.op c.in-Binary.left c.in-Binary.right c.in-Binary.is in
    let shift : shift_in c.in-Binary.op (part_in c.in-Binary.right) ≡ Some c.in-Some.shift = ap (λ r. shift_in c.in-Binary.op (part_in r)) (sym c.get.ensures) ∙ sym c.in-Some.ensures.value in
    let fits : SFits w64 c.in-Some.shift = search rules in
    let word = to_z-of_z w64 c.in-Some.shift fits in
    same_part c.args.space.now c.args.cube (at_moved c.args.dim.now (part_in c.get-in-Some.result.now) c.in-Some.shift) (at_index c.args.dim.now (part_in c.args.index.now)) c.bind_moved-in-Some.result
    (ap (λ l. at_moved c.args.dim.now (part_in l) c.in-Some.shift) c.get-in-Some.ensures
    ∙ sym (operation_moved c.args.dim.now c.in-Binary.op (part_in c.in-Binary.left) (part_in c.in-Binary.right) c.in-Some.shift shift) ∙ ap (at_index c.args.dim.now) (sym is))
    (rw word at c.bind_moved-in-Some.ensures.answered)

pub bind_index-returns-in-None-clause-answered : goal.bind_index-returns-in-None-clause-answered
bind_index-returns-in-None-clause-answered t c =
    let is = part_binary c.args.index.now c.in-Binary.op c.in-Binary.left c.in-Binary.right c.in-Binary.is in
    let shift : shift_in c.in-Binary.op (part_in c.in-Binary.right) ≡ None = ap (λ r. shift_in c.in-Binary.op (part_in r)) (sym c.get.ensures) ∙ sym c.in-None.ensures.value in
    dynamic c.args.space.now c.args.cube (at_index c.args.dim.now (part_in c.args.index.now))
    (ap (λ p. argument_of_part (at_index c.args.dim.now p)) is ∙ operation_unmoved c.args.dim.now c.in-Binary.op (part_in c.in-Binary.left) (part_in c.in-Binary.right) shift)

pub bind_index-returns-in_default : goal.bind_index-returns-in_default
bind_index-returns-in_default t c =
    record {
      answered = dynamic c.args.space.now c.args.cube (at_index c.args.dim.now (part_in c.args.index.now)) (no_index c.args.index.now c.args.dim.now c.in_default.not-Number c.in_default.not-Call c.in_default.not-Binary);
      within = tt;
    }

pub bind_moved-returns-then-eq-clause-answered : goal.bind_moved-returns-then-eq-clause-answered
bind_moved-returns-then-eq-clause-answered t c =
    let fits : SFits w64 c.args.shift = search rules in
    let word = to_z-of_z w64 c.args.shift fits in
    let dimix : bytes_eq c.in-Call.function (codes "DIMIX") ≡ true = ap (λ f. bytes_eq f (codes "DIMIX")) (sym c.as_slice.ensures) ∙ ap (bytes_eq c.as_slice.result.now) (sym c.as_slice-in-Call.ensures) ∙ sym c.eq.ensures ∙ c.if-eq.true in
    same_part c.args.space.now c.args.cube (at_moved c.args.dim.now (index_call (map part_in c.as_slice-then-eq.result.now)) c.args.shift) (at_moved c.args.dim.now (part_in c.args.index.now) c.args.shift) c.bind_place.result
    (ap (λ l. at_moved c.args.dim.now (index_call (map part_in l)) c.args.shift) c.as_slice-then-eq.ensures
    ∙ ap (λ p. at_moved c.args.dim.now p c.args.shift) (sym (place_call c.in-Call.function (map part_in c.in-Call.arguments) dimix) ∙ sym (part_call c.args.index.now c.in-Call.function c.in-Call.arguments c.in-Call.is)))
    (rw word at c.bind_place.ensures.answered)

pub bind_moved-returns-else-eq-clause-answered : goal.bind_moved-returns-else-eq-clause-answered
bind_moved-returns-else-eq-clause-answered t c =
    let dimix : bytes_eq c.in-Call.function (codes "DIMIX") ≡ false = ap (λ f. bytes_eq f (codes "DIMIX")) (sym c.as_slice.ensures) ∙ ap (bytes_eq c.as_slice.result.now) (sym c.as_slice-in-Call.ensures) ∙ sym c.eq.ensures ∙ c.if-eq.false in
    dynamic c.args.space.now c.args.cube (at_moved c.args.dim.now (part_in c.args.index.now) c.args.shift)
    (ap (λ p. argument_of_part (at_moved c.args.dim.now p c.args.shift)) (part_call c.args.index.now c.in-Call.function c.in-Call.arguments c.in-Call.is)
    ∙ unplaced c.args.dim.now c.in-Call.function c.args.shift (map part_in c.in-Call.arguments) dimix)

pub bind_moved-returns-in_default : goal.bind_moved-returns-in_default
bind_moved-returns-in_default t c =
    record {
      answered = dynamic c.args.space.now c.args.cube (at_moved c.args.dim.now (part_in c.args.index.now) c.args.shift) (no_place c.args.index.now c.args.dim.now c.args.shift c.in_default.not-Call);
      within = tt;
    }

pub bind_at_place-returns-in_err-of-clause-answered : goal.bind_at_place-returns-in_err-of-clause-answered
bind_at_place-returns-in_err-of-clause-answered t c =
    let p = err_from_is_err_and c.from_residual.result c.from_residual.ensures.1 in
    rw (p.1, p.2) (placed_refused c.args.space.now c.args.cube c.args.dim.now c.args.source.now (part_in c.args.of.now) c.args.shift c.in_err-of.field-0.0 c.in_err-of.ensures.answered)

pub bind_at_place-returns-clause-answered : goal.bind_at_place-returns-clause-answered
bind_at_place-returns-clause-answered t c =
    let fits : SFits w64 c.args.shift = search rules in
    let word = to_z-of_z w64 c.args.shift fits in
    placed_known c.args.space.now c.args.cube c.args.dim.now c.args.source.now (part_in c.args.of.now) c.args.shift c.in_ok-of.of c.in_ok-dim.dim c.in_ok-source.source c.at_place.result
    c.in_ok-dim.ensures.named c.in_ok-source.ensures.named c.in_ok-of.ensures.answered (rw word at c.at_place.ensures)

pub bind_at_place-returns-clause-within : goal.bind_at_place-returns-clause-within
bind_at_place-returns-clause-within t c =
    let fits : SFits w64 c.args.shift = search rules in
    let word = to_z-of_z w64 c.args.shift fits in
    placed_within c.args.space.now c.args.cube c.in_ok-dim.dim c.in_ok-source.source c.args.shift c.in_ok-of.of c.at_place.result c.in_ok-dim.ensures.within c.in_ok-source.ensures.within
    (le-leb _ _ c.requires.shift) c.in_ok-of.ensures.within (rw word at c.at_place.ensures)

pub bind_attribute_of-returns-in_err-of-clause-answered : goal.bind_attribute_of-returns-in_err-of-clause-answered
bind_attribute_of-returns-in_err-of-clause-answered t c =
    let p = err_from_is_err_and c.from_residual.result c.from_residual.ensures.1 in
    rw (p.1, p.2) (attribute_refused c.args.space.now c.args.cube c.args.dim.now c.args.attribute.now (part_in c.args.of.now) c.in_err-of.field-0.0 c.in_err-of.ensures.answered)

pub bind_attribute_of-returns-in-None-clause-answered : goal.bind_attribute_of-returns-in-None-clause-answered
bind_attribute_of-returns-in-None-clause-answered t c =
    let dim : dimension_named c.args.space.now c.args.dim.now ≡ None = sym c.in_ok-dim.ensures.named ∙ c.in-None.is in
    answers _ (Err UnknownName) (attribute_known c.args.space.now c.args.cube c.args.dim.now c.args.attribute.now (part_in c.args.of.now) c.in_ok-of.of c.in_ok-of.ensures.answered
    ∙ ap (λ o. ok_or (option_and_then (λ d. option_map (λ name. bound.AttributeOf d c.in_ok-of.of name) (attribute_named (dimension_at c.args.space.now d) c.args.attribute.now)) o) UnknownName) dim)

pub bind_attribute_of-returns-in_ok-attribute-in-Some-clause-answered : goal.bind_attribute_of-returns-in_ok-attribute-in-Some-clause-answered
bind_attribute_of-returns-in_ok-attribute-in-Some-clause-answered t c =
    let dim : dimension_named c.args.space.now c.args.dim.now ≡ Some c.in-Some.dim = sym c.in_ok-dim.ensures.named ∙ c.in-Some.is in
    let at : dimension_at c.args.space.now c.in-Some.dim ≡ c.dimension.result.now = found_dimension c.args.space.now c.in-Some.dim c.dimension.result.now c.dimension.ensures in
    let attribute : attribute_named (dimension_at c.args.space.now c.in-Some.dim) c.args.attribute.now ≡ c.in_ok-attribute-in-Some.attribute = ap (λ d. attribute_named d c.args.attribute.now) at ∙ sym c.in_ok-attribute-in-Some.ensures in
    subst (λ e. IsAnsweredBy e c.attribute_of.result)
    (sym (attribute_known c.args.space.now c.args.cube c.args.dim.now c.args.attribute.now (part_in c.args.of.now) c.in_ok-of.of c.in_ok-of.ensures.answered
    ∙ ap (λ o. ok_or (option_and_then (λ d. option_map (λ name. bound.AttributeOf d c.in_ok-of.of name) (attribute_named (dimension_at c.args.space.now d) c.args.attribute.now)) o) UnknownName) dim
    ∙ ap (λ o. ok_or (option_map (λ name. bound.AttributeOf c.in-Some.dim c.in_ok-of.of name) o) UnknownName) attribute))
    c.attribute_of.ensures

pub bind_attribute_of-returns-in_ok-attribute-in-Some-clause-within : goal.bind_attribute_of-returns-in_ok-attribute-in-Some-clause-within
bind_attribute_of-returns-in_ok-attribute-in-Some-clause-within t c =
    let low : c.in-Some.dim < length c.args.space.now.dimensions = subst (λ o. IfSome o (λ dim. dim < length c.args.space.now.dimensions)) c.in-Some.is c.in_ok-dim.ensures.within in
    attribute_within c.args.space.now c.args.cube c.in-Some.dim c.in_ok-of.of c.in_ok-attribute-in-Some.attribute c.attribute_of.result low c.in_ok-of.ensures.within c.attribute_of.ensures

pub bind_attribute-returns-in-None-clause-answered : goal.bind_attribute-returns-in-None-clause-answered
bind_attribute-returns-in-None-clause-answered t c =
    let (q, r, is) = three_first c.args.arguments.now c.index-arguments-0.result c.if-arguments-ne3.false c.index-arguments-0.is in
    dynamic c.args.space.now c.args.cube (attribute_call (map part_in c.args.arguments.now))
    (ap (λ l. argument_of_part (attribute_call l)) is ∙ attribute_textless (part_in c.index-arguments-0.result) q r (sym c.text_of.ensures ∙ ap option_copied c.in-None.is))

pub bind_attribute-returns-in-None-text_of-clause-answered : goal.bind_attribute-returns-in-None-text_of-clause-answered
bind_attribute-returns-in-None-text_of-clause-answered t c =
    let (q, is) = three_parts c.args.arguments.now c.index-arguments-0.result c.index-arguments-2.result c.if-arguments-ne3.false c.index-arguments-0.is c.index-arguments-2.is in
    dynamic c.args.space.now c.args.cube (attribute_call (map part_in c.args.arguments.now))
    (ap (λ l. argument_of_part (attribute_call l)) is ∙ attribute_nameless (part_in c.index-arguments-0.result) q (part_in c.index-arguments-2.result) (sym c.text_of-in-Some.ensures ∙ ap option_copied c.in-None-text_of.is))
