use Rattle.std.proofs.Common.{◌≡◌, ◌∙◌, ◌+◌, ◌-◌, ◌++◌, arith, ap, sym, refl, suc, List, [], length, Some}
use Rattle.std.specs.Prelude.{slice_get}
use Rattle.std.specs.List.{flat_map, range_with_len}
use Rattle.std.specs.Option.{option_map_or}
use Rattle.std.proofs.lemmas.Option.{slice_get_read}
use Rattle.rule_model.specs.declared.rules.CubeRules.{CubeRules}
use Rattle.rule_model.specs.declared.rules.Statement.{Statement}
use Rattle.rule_model.specs.BoundModel.{rules_of}
use Rattle.rule_notes.specs.Inside.Listed.{statement_notes, notes_at, cube_notes}
use Rattle.rule_notes.proofs.Ranges.{items-more, items-done}
use Rattle.rule_notes.proofs.notes.add_cube.Goals as goal

pub each-init : goal.each-init
each-init c =
    let count = length (rules_of c.args.model.now c.args.cube).statements in
    let all : count - 0 ≡ count = omega arith in
    record { notes = ap (λ n. c.args.notes.now.items ++ flat_map (notes_at c.args.model.now c.args.cube) (range_with_len 0 n)) all; known = c.none-known.ensures c.args.model.now c.args.cube }

pub each-preserved : goal.each-preserved
each-preserved c =
    let m = c.args.model.now in
    let cube = c.args.cube in
    let ss = (rules_of m cube).statements in
    let count = length ss in
    let all : c.as_slice-statements.result.now ≡ ss = c.as_slice-statements.ensures ∙ ap (λ (r : CubeRules). r.statements) c.rules.ensures in
    let more : count - c.each.place ≡ suc (count - (c.each.place + 1)) = omega (arith, c.each-test.true, ap (λ (l : List Statement). length l) all) in
    let here : slice_get ss c.each.place ≡ Some c.index-statements-place.result =
    ap (λ (l : List Statement). slice_get l c.each.place) (sym all) ∙ slice_get_read c.as_slice-statements.result.now _ c.each.place c.index-statements-place.result refl c.each-test.true c.index-statements-place.is in
    record {
      notes = items-more (notes_at m cube) c.each.notes.items c.add_statement.new.notes.items _ (statement_notes m cube c.each.place c.index-statements-place.result) c.each.place (count - c.each.place) (count - (c.each.place + 1)) more
          c.in_ok-add_statement.ensures.notes (sym (ap (λ at. option_map_or (statement_notes m cube c.each.place) at []) here)) c.each.invariant.notes;
      known = c.in_ok-add_statement.ensures.known;
    }

pub returns : goal.returns
unfolding cube_notes
returns c =
    let m = c.args.model.now in
    let cube = c.args.cube in
    let ss = (rules_of m cube).statements in
    let count = length ss in
    let all : c.as_slice-statements.result.now ≡ ss = c.as_slice-statements.ensures ∙ ap (λ (r : CubeRules). r.statements) c.rules.ensures in
    let none : count - c.each.place ≡ 0 = omega (arith, c.each-test.false, ap (λ (l : List Statement). length l) all) in
    items-done (notes_at m cube) c.each.notes.items _ c.each.place (count - c.each.place) none c.each.invariant.notes
