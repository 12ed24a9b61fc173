use Rattle.std.proofs.Common.{◌<◌, arith, sym, eqb-true, length, refl, Some, None}
use Rattle.std.proofs.lemmas.List.{nil_from_length as nothing}
use Rattle.cube_lex.proofs.Steps.{numbers, passing-init, passing-stops, passing-blank, passing-found}
use Rattle.cube_lex.proofs.found.found_from.Goals as goal

pub split_at-requires : goal.split_at-requires
split_at-requires c = (numbers c.args.text.now c.args.start c.args.first c.args.left c.requires.0 c.requires.1.0).0

pub parts-init : goal.parts-init
parts-init c = rw c.split_at.ensures.back (passing-init c.args.text.now c.args.start c.args.first c.args.left c.requires)

pub returns-in_default : goal.returns-in_default
returns-in_default c =
    let some : 0 < c.args.left = omega (arith, c.if-left-eq0.false) in
    absurd (passing-stops c.args.text.now c.args.start c.args.first c.args.left c.parts.at c.parts.line c.parts.rest.now c.parts.invariant some c.requires (Some c.in_default.field-0) c.in_default.ensures)

pub returns-in-Some : goal.returns-in-Some
returns-in-Some c =
    let some : 0 < c.args.left = omega (arith, c.if-left-eq0.false) in
    let is = rw c.in-Some.is at (c.in-Ok.ensures.1) in
    rw c.line_ends.ensures
    (passing-found c.args.text.now c.args.start c.args.first c.args.left c.parts.at c.parts.line c.parts.rest.now c.parts.invariant some c.in-Ok.front.bytes.now c.in-Ok.front.after.now c.in-Ok.ensures.0
    (record { kind = c.in-Some.kind; piece = c.in-Ok.front.bytes; start = c.parts.at; line = c.parts.line }) is refl refl refl)

pub parts-preserved : goal.parts-preserved
parts-preserved c =
    let some : 0 < c.args.left = omega (arith, c.if-left-eq0.false) in
    let is = rw c.in_default-kind.is at (c.in-Ok.ensures.1) in
    rw c.line_ends.ensures
    (passing-blank c.args.text.now c.args.start c.args.first c.args.left c.parts.at c.parts.line c.parts.rest.now c.parts.invariant some c.in-Ok.front.bytes.now c.in-Ok.front.after.now c.in-Ok.ensures.0 is)

pub returns : goal.returns
returns c =
    let some : 0 < c.args.left = omega (arith, c.if-left-eq0.false) in
    absurd (passing-stops c.args.text.now c.args.start c.args.first c.args.left c.parts.at c.parts.line c.parts.rest.now c.parts.invariant some c.requires None
    (nothing c.parts.rest.now (eqb-true (length c.parts.rest.now) 0 (sym c.parts-test.ensures))))
