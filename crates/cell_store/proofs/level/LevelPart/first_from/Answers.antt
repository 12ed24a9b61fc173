-- The first node that ends at or above the cell has the entry.
use Rattle.std.proofs.Common.{◌≡◌, None, Some, ap, sym, ◌∙◌}
use Rattle.std.specs.List.{slice_get}
use Rattle.cell_store.specs.declared.node.Node.{Node}
use Rattle.cell_store.specs.Inside.Order.{at_least_by, first_from}
use Rattle.cell_store.specs.Inside.Levels.{entries_under, level_entries, IsNode}
use Rattle.cell_store.proofs.Levels.{last_of, nodes_end}
use Rattle.cell_store.proofs.Parts.{shared_rising, more_rising, found_rising, found_is, first-in_part, first-in_more}
use Rattle.cell_store.proofs.level.LevelPart.first_from.Goals as goal

pub at_least-requires : goal.at_least-requires
at_least-requires g c =
    let level = c.args.self.now in
    rw c.deref.ensures.value (shared_rising g.E.Placed.cell last_of (entries_under g.T.Part.entries) level.nodes.items (g.T.Part.entries level.last) (nodes_end g.E.Placed.cell g.T.Part.entries g.T.Part.is_sized g.T.Part.size g.T.Part.half level.nodes.items c.requires.sized.nodes) c.requires.rising)

pub first_from-requires-clause-sized : goal.first_from-requires-clause-sized
first_from-requires-clause-sized g c =
    let level = c.args.self.now in
    let whole = ap (λ nodes. at_least_by last_of nodes c.args.cell) c.deref.ensures.value in
    let found : slice_get (at_least_by last_of level.nodes.items c.args.cell) 0 ≡ Some c.in-Some.node.now = ap (λ nodes. slice_get nodes 0) (sym (c.at_least.ensures ∙ whole)) ∙ sym c.in-Some.ensures.value in
    let is : IsNode g.E.Placed.cell g.T.Part.entries g.T.Part.is_sized g.T.Part.size g.T.Part.half c.in-Some.node.now = found_is (λ (node : Node g.row.T.Denot). IsNode g.E.Placed.cell g.T.Part.entries g.T.Part.is_sized g.T.Part.size g.T.Part.half node) last_of level.nodes.items c.args.cell c.in-Some.node.now c.requires.sized.nodes found in
    rw c.deref-in-Some.ensures is.sized

pub first_from-requires-clause-rising : goal.first_from-requires-clause-rising
first_from-requires-clause-rising g c =
    let level = c.args.self.now in
    let whole = ap (λ nodes. at_least_by last_of nodes c.args.cell) c.deref.ensures.value in
    let found : slice_get (at_least_by last_of level.nodes.items c.args.cell) 0 ≡ Some c.in-Some.node.now = ap (λ nodes. slice_get nodes 0) (sym (c.at_least.ensures ∙ whole)) ∙ sym c.in-Some.ensures.value in
    rw c.deref-in-Some.ensures (found_rising g.E.Placed.cell last_of (entries_under g.T.Part.entries) level.nodes.items (g.T.Part.entries level.last) (nodes_end g.E.Placed.cell g.T.Part.entries g.T.Part.is_sized g.T.Part.size g.T.Part.half level.nodes.items c.requires.sized.nodes) c.requires.rising c.args.cell c.in-Some.node.now found)

pub first_from-requires-in-None-clause-rising : goal.first_from-requires-in-None-clause-rising
first_from-requires-in-None-clause-rising g c =
    let level = c.args.self.now in
    more_rising g.E.Placed.cell last_of (entries_under g.T.Part.entries) level.nodes.items (g.T.Part.entries level.last) (nodes_end g.E.Placed.cell g.T.Part.entries g.T.Part.is_sized g.T.Part.size g.T.Part.half level.nodes.items c.requires.sized.nodes) c.requires.rising

pub returns-in-Some : goal.returns-in-Some
returns-in-Some g c =
    let level = c.args.self.now in
    let whole = ap (λ nodes. at_least_by last_of nodes c.args.cell) c.deref.ensures.value in
    let found : slice_get (at_least_by last_of level.nodes.items c.args.cell) 0 ≡ Some c.in-Some.node.now = ap (λ nodes. slice_get nodes 0) (sym (c.at_least.ensures ∙ whole)) ∙ sym c.in-Some.ensures.value in
    let here : first_from g.E.Placed.cell (g.T.Part.entries c.deref-in-Some.result.now) c.args.cell ≡ first_from g.E.Placed.cell (level_entries g.T.Part.entries level) c.args.cell = rw c.deref-in-Some.ensures (first-in_part g.E.Placed.cell last_of (entries_under g.T.Part.entries) level.nodes.items (g.T.Part.entries level.last) (nodes_end g.E.Placed.cell g.T.Part.entries g.T.Part.is_sized g.T.Part.size g.T.Part.half level.nodes.items c.requires.sized.nodes) c.requires.rising c.args.cell c.in-Some.node.now found) in
    c.first_from.ensures ∙ here

pub returns-in-None : goal.returns-in-None
returns-in-None g c =
    let level = c.args.self.now in
    let whole = ap (λ nodes. at_least_by last_of nodes c.args.cell) c.deref.ensures.value in
    let found : slice_get (at_least_by last_of level.nodes.items c.args.cell) 0 ≡ None = ap (λ nodes. slice_get nodes 0) (sym (c.at_least.ensures ∙ whole)) ∙ sym c.in-None.ensures.value in
    c.first_from-in-None.ensures ∙ first-in_more g.E.Placed.cell last_of (entries_under g.T.Part.entries) level.nodes.items (g.T.Part.entries level.last) (nodes_end g.E.Placed.cell g.T.Part.entries g.T.Part.is_sized g.T.Part.size g.T.Part.half level.nodes.items c.requires.sized.nodes) c.requires.rising c.args.cell found
