use Rattle.std.proofs.Common.{arith, ◌≡◌, ◌++◌, [], Some, sym, ap, ◌∙◌, subst}
use Rattle.std.specs.Prelude.{reverse}
use Rattle.std.proofs.lemmas.List.{append-nil, nil_from_length}
use Rattle.std.proofs.lemmas.List.Elements.{All-pop}
use Rattle.cell_trace.specs.Inside.Items.{AreSameDimensions, IsListable, entered_lines_at, item_lines_at}
use Rattle.cell_trace.specs.Trace.{dimensions_in}
use Rattle.cell_trace.proofs.ListingFacts.{after_entered, no_entered, reverse-popped}
use Rattle.cell_trace.proofs.listing.put_entered.Goals as goal

pub loop-one-preserved : goal.loop-one-preserved
loop-one-preserved c =
    let p = c.args.here.now in
    let one = c.in-Some.one in
    let rest = reverse c.pop.new.self.items in
    let seen = c.loop-one.seen.items in
    let before = c.loop-one.lines.items in
    let whole = c.args.lines.now.items ++ entered_lines_at p [] (reverse c.args.entered.items) in
    let popped = reverse-popped c.loop-one.left.items c.pop.new.self.items one c.in-Some.ensures.items in
    let ahead = subst (λ es. before ++ entered_lines_at p seen es ≡ whole) popped c.loop-one.invariant.lines in
    let own = subst (λ xs. c.put_items.new.lines.items ≡ c.put.new.lines.items ++ item_lines_at p seen one.first xs) c.as_slice-visited.ensures c.in_ok-put_items.ensures.lines in
    let dims = subst (λ xs. AreSameDimensions c.put_items.new.seen.items (dimensions_in xs ++ seen)) c.as_slice-visited.ensures c.in_ok-put_items.ensures.seen in
    record {
      lines = after_entered p one rest seen c.put_items.new.seen.items before c.put.new.lines.items c.put_items.new.lines.items whole ahead c.in_ok-put.ensures own dims;
      listable = (All-pop (IsListable p) c.loop-one.left.items c.pop.new.self.items (Some one) c.in-Some.ensures.items c.loop-one.invariant.listable).0;
      ready = c.in_ok-put_items.ensures.ready;
    }

pub returns-clause-lines : goal.returns-clause-lines
returns-clause-lines c =
    let p = c.args.here.now in
    let lines = c.loop-one.lines.items in
    let seen = c.loop-one.seen.items in
    let end = nil_from_length c.loop-one.left.items (omega (arith, c.loop-one.left.ok.0, c.in_default.ensures.cases.0)) in
    sym (ap (λ ls. lines ++ ls) (ap (λ es. entered_lines_at p seen (reverse es)) end ∙ no_entered p seen) ∙ append-nil lines) ∙ c.loop-one.invariant.lines
