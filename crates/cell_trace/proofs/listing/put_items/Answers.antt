use Rattle.std.proofs.Common.{arith, ◌≡◌, ◌+◌, ◌<◌, ◌++◌, ◌∷◌, None, Option, List, drop, get_or, length, suc, sym, ap, ◌∙◌, subst}
use Rattle.std.proofs.Math.ListN.{drop_of_length-le}
use Rattle.std.proofs.Math.Seq.{drop-cons}
use Rattle.std.proofs.lemmas.List.{append-nil}
use Rattle.cell_trace.specs.declared.item.Item.{Item}
use Rattle.cell_trace.specs.Inside.Items.{AreSameDimensions, item_lines_at, numbered}
use Rattle.cell_trace.specs.Trace.{dimensions_in}
use Rattle.cell_trace.proofs.ListingFacts.{after_item, after_number, after_seen, no_items}
use Rattle.cell_trace.proofs.listing.put_items.Goals as goal

pub loop-item-preserved : goal.loop-item-preserved
loop-item-preserved c =
    let p = c.args.here.now in
    let xs : List (Option Item) = c.args.visited.now in
    let k = c.loop-item.item-index in
    let x : Option Item = get_or xs k None in
    let rest : List (Option Item) = drop (k + 1) xs in
    let n = c.loop-item.number in
    let seen = c.loop-item.seen.items in
    let before = c.loop-item.lines.items in
    let whole = c.args.lines.now.items ++ item_lines_at p c.args.seen.now.items c.args.first xs in
    let dimensions = dimensions_in xs ++ c.args.seen.now.items in
    let low : k < length xs = omega arith in
    let next : suc k ≡ k + 1 = omega arith in
    let here : drop k xs ≡ x ∷ rest = drop-cons xs k None low ∙ ap (λ m. x ∷ drop m xs) next in
    let ahead = subst (λ ys. before ++ item_lines_at p seen n ys ≡ whole) here c.loop-item.invariant.lines in
    let dims = subst (λ ys. AreSameDimensions (dimensions_in ys ++ seen) dimensions) here c.loop-item.invariant.seen in
    record {
      lines = subst (λ m. c.put_item.new.lines.items ++ item_lines_at p c.put_item.new.seen.items m rest ≡ whole) (sym c.number_after-number.ensures)
          (after_item p x rest n seen c.put_item.new.seen.items before c.put_item.new.lines.items whole ahead c.in_ok-put_item.ensures.lines c.in_ok-put_item.ensures.seen);
      seen = after_seen x rest seen c.put_item.new.seen.items dimensions dims c.in_ok-put_item.ensures.seen;
      numbers = ap (λ m. m + numbered rest) c.number_after-number.ensures ∙ after_number n x rest ∙ ap (λ ys. n + numbered ys) (sym here)
          ∙ c.loop-item.invariant.numbers;
      ready = c.in_ok-put_item.ensures.ready;
    }

pub returns-clause-lines : goal.returns-clause-lines
returns-clause-lines c =
    let p = c.args.here.now in
    let n = c.loop-item.number in
    let seen = c.loop-item.seen.items in
    let lines = c.loop-item.lines.items in
    let end = drop_of_length-le c.args.visited.now c.loop-item-test.false in
    sym (ap (λ ls. lines ++ ls) (ap (item_lines_at p seen n) end ∙ no_items p seen n) ∙ append-nil lines) ∙ c.loop-item.invariant.lines
