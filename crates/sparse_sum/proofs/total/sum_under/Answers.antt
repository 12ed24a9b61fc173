-- One more leaf cell is asked for, and its value added.
use Rattle.std.proofs.Common.{◌≡◌, ◌∙◌, refl, sym, ap, arith, ◌+◌, length, map, [], ◌∷◌, ◌++◌}
use Rattle.std.specs.Prelude.{Ok}
use Rattle.std.proofs.lemmas.List.{length-map}
use Rattle.cell_store.specs.Entries.{cells_of}
use Rattle.cube_fixed.specs.Total.{no_terms, with_term}
use Rattle.sparse_sum.specs.Live.{live_below, live_from}
use Rattle.sparse_sum.specs.Walking.{left}
use Rattle.sparse_sum.proofs.Placed.{word-is}
use Rattle.sparse_sum.proofs.Totals.{fold-push, firsts-push, terms-are, lengths-are, all-left, count-is}
use Rattle.sparse_sum.proofs.total.sum_under.Goals as goal

pub leaves-init : goal.leaves-init
leaves-init g c =
    let stored = cells_of c.args.stored.now in
    let fed = g.W.CellSet.cells c.args.fed.now in
    record {
      answered = [];
      front = ap (left c.args.space.now stored fed) c.at-walk.ensures ∙ all-left c.args.space.now stored fed c.args.cell;
      asked = refl;
      total = ap (λ w. w.total) c.at-walk.ensures;
      cell = ap (λ w. w.cell) c.at-walk.ensures;
    }

pub add-requires-clause-room : goal.add-requires-clause-room
add-requires-clause-room g c =
    let stored = cells_of c.args.stored.now in
    let fed = g.W.CellSet.cells c.args.fed.now in
    let answered = c.leaves.invariant.answered in
    let same = ap (λ t. t.terms) c.step.ensures.total in
    let total = ap (λ t. t.terms) c.leaves.invariant.total in
    let terms = terms-are answered no_terms in
    let lengths = lengths-are answered (left c.args.space.now stored fed c.leaves.walk) in
    let front = ap length c.leaves.invariant.front in
    let more = ap length c.in-Some.ensures.left in
    let few = c.live_cells_are_few.ensures c.args.space.now stored fed c.args.cell in
    let cells = length-map c.args.stored.now (λ e. e.cell) in
    let most = c.requires.few in
    omega (arith, same, total, terms, lengths, front, more, few, cells, most)

pub leaves-preserved : goal.leaves-preserved
leaves-preserved g c =
    let stored = cells_of c.args.stored.now in
    let fed = g.W.CellSet.cells c.args.fed.now in
    let answered = c.leaves.invariant.answered in
    let word = word-is c.in-Some.leaf.weight c.in-Some.ensures.size in
    let rest : left c.args.space.now stored fed c.add.new.self ≡ left c.args.space.now stored fed c.step.new.self =
    ap (λ cell. live_from c.args.space.now stored fed cell c.add.new.self.from) c.add.ensures.cell ∙ ap (λ from. live_from c.args.space.now stored fed c.step.new.self.cell from) c.add.ensures.from in
    record {
      answered = answered ++ ((c.in-Some.leaf.cell, c.in-Some.leaf.weight), c.in-Ok.value) ∷ [];
      front = firsts-push answered (c.in-Some.leaf.cell, c.in-Some.leaf.weight) c.in-Ok.value (left c.args.space.now stored fed c.add.new.self)
          ∙ ap (λ xs. map (λ one. one.0) answered ++ (c.in-Some.leaf.cell, c.in-Some.leaf.weight) ∷ xs) rest
          ∙ ap (λ xs. map (λ one. one.0) answered ++ xs) (sym c.in-Some.ensures.left)
          ∙ c.leaves.invariant.front;
      asked = c.in-Ok.ensures
          ∙ ap (λ calls. g.L.Leaves.after_call calls c.in-Some.leaf.cell (Ok c.in-Ok.value)) c.leaves.invariant.asked
          ∙ sym (fold-push (λ calls one. g.L.Leaves.after_call calls one.0.0 (Ok one.1)) (g.L.Leaves.calls c.args.leaves.now) answered ((c.in-Some.leaf.cell, c.in-Some.leaf.weight), c.in-Ok.value));
      total = c.add.ensures.total
          ∙ ap (λ z. with_term c.step.new.self.total z c.in-Ok.value) word
          ∙ ap (λ t. with_term t c.in-Some.leaf.weight c.in-Ok.value) (c.step.ensures.total ∙ c.leaves.invariant.total)
          ∙ sym (fold-push (λ total one. with_term total one.0.1 one.1) no_terms answered ((c.in-Some.leaf.cell, c.in-Some.leaf.weight), c.in-Ok.value));
      cell = c.add.ensures.cell ∙ c.step.ensures.cell ∙ c.leaves.invariant.cell;
    }

pub returns-clause-counted : goal.returns-clause-counted
returns-clause-counted g c =
    let stored = cells_of c.args.stored.now in
    let fed = g.W.CellSet.cells c.args.fed.now in
    let answered = c.leaves.invariant.answered in
    let before = g.L.Leaves.calls c.args.leaves.now in
    let lengths = lengths-are answered (left c.args.space.now stored fed c.leaves.walk) in
    let front = ap length c.leaves.invariant.front in
    let ended = ap length c.in_default.ensures.left in
    let many : length answered ≡ length (live_below c.args.space.now stored fed c.args.cell) = omega (arith, lengths, front, ended) in
    ap g.L.Leaves.count c.leaves.invariant.asked
    ∙ count-is g.L.Leaves.after_call g.L.Leaves.count g.met.L.Leaves.counted answered before
    ∙ ap (λ n. g.L.Leaves.count before + n) many
