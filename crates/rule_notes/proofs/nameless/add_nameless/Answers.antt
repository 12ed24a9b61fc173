use Rattle.std.proofs.Common.{◌≡◌, ◌∙◌, ◌+◌, ◌-◌, ◌++◌, arith, ap, sym, refl, suc, length, map, [], Some}
use Rattle.std.specs.Prelude.{slice_get, option_map}
use Rattle.std.specs.List.{flat_map, range_with_len}
use Rattle.std.specs.Option.{option_map_or}
use Rattle.std.proofs.lemmas.List.{length-map}
use Rattle.std.proofs.lemmas.Option.{slice_get_read, slice_get-map}
use Rattle.rule_notes.specs.Inside.Named.{counted_view, nameless, nameless_at, IsReadOf}
use Rattle.rule_notes.proofs.Ranges.{items-more, items-done}
use Rattle.rule_notes.proofs.ReadFacts.{read-at}
use Rattle.rule_notes.proofs.nameless.add_nameless.Goals as goal

pub each-init : goal.each-init
each-init c =
    let its = map counted_view c.args.reads.now in
    let all : length its - 0 ≡ length its = omega arith in
    record {
      notes = ap (λ n. c.args.notes.now.items ++ flat_map (nameless_at c.args.view.model.now c.args.view.cube c.args.place c.args.area.now its) (range_with_len 0 n)) all;
      known = c.has_cells-has.ensures.known;
    }

pub add_one-requires-clause-read : goal.add_one-requires-clause-read
add_one-requires-clause-read c =
    let here : slice_get c.args.reads.now c.each.k ≡ Some c.index-reads-k.result = slice_get_read c.args.reads.now _ c.each.k c.index-reads-k.result refl c.each-test.true c.index-reads-k.is in
    read-at (IsReadOf c.args.view.model.now.space c.args.view.cube) (map counted_view c.args.reads.now) c.each.k (counted_view c.index-reads-k.result) (slice_get-map counted_view c.args.reads.now c.each.k ∙ ap (option_map counted_view) here) c.requires.reads

pub each-preserved : goal.each-preserved
each-preserved c =
    let m = c.args.view.model.now in
    let cube = c.args.view.cube in
    let its = map counted_view c.args.reads.now in
    let f = nameless_at m cube c.args.place c.args.area.now its in
    let long = length-map c.args.reads.now counted_view in
    let more : length its - c.each.k ≡ suc (length its - (c.each.k + 1)) = omega (arith, c.each-test.true, long) in
    let here : slice_get c.args.reads.now c.each.k ≡ Some c.index-reads-k.result = slice_get_read c.args.reads.now _ c.each.k c.index-reads-k.result refl c.each-test.true c.index-reads-k.is in
    let own = slice_get-map counted_view c.args.reads.now c.each.k ∙ ap (option_map counted_view) here in
    record {
      notes = items-more f c.each.notes.items c.add_one.new.notes.items _ (nameless m cube c.args.place c.args.area.now c.each.k (counted_view c.index-reads-k.result)) c.each.k (length its - c.each.k) (length its - (c.each.k + 1)) more
          c.in_ok-add_one.ensures.notes (sym (ap (λ at. option_map_or (nameless m cube c.args.place c.args.area.now c.each.k) at []) own)) c.each.invariant.notes;
      known = c.in_ok-add_one.ensures.known;
    }

pub returns-clause-notes : goal.returns-clause-notes
returns-clause-notes c =
    let its = map counted_view c.args.reads.now in
    let none : length its - c.each.k ≡ 0 = omega (arith, c.each-test.false, length-map c.args.reads.now counted_view) in
    items-done (nameless_at c.args.view.model.now c.args.view.cube c.args.place c.args.area.now its) c.each.notes.items _ c.each.k (length its - c.each.k) none c.each.invariant.notes
