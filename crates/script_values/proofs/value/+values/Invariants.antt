use Rattle.std.proofs.Common.{◌≡◌, ◌+◌, ◌*◌, max, map, drop}
use Rattle.script_bound.proofs.term.Term.TheLaws.{the_size}
use Rattle.script_values.specs.Values.{value_of, each_text}
use Rattle.lists.proofs.Found.{behind}
use Rattle.script_values.proofs.value.+values.Given as goal

abbrev pub invariant-texts_of-each : goal.invariant-texts_of-each
invariant-texts_of-each g l =
    (behind l.texts.items (each_text (map value_of (drop l.term-index l.terms)) l.sight (g.C.WorkCells.store l.cells) (g.C.WorkCells.writes l.cells))
    ≡ each_text (map value_of l.terms) l.sight (g.C.WorkCells.store l.initial.cells) (g.C.WorkCells.writes l.initial.cells))
    × (g.C.WorkCells.store l.cells ≡ g.C.WorkCells.store l.initial.cells)
    × (g.C.WorkCells.writes l.cells ≡ g.C.WorkCells.writes l.initial.cells)

-- a call that goes no deeper ranks below its caller
abbrev pub decreases-value_of : goal.decreases-value_of
decreases-value_of g l = 4 * goal.size-value_of g l

abbrev pub decreases-two_texts : goal.decreases-two_texts
decreases-two_texts g l = 4 * max (the_size l.left.now) (the_size l.right.now) + 2

abbrev pub decreases-two_truths : goal.decreases-two_truths
decreases-two_truths g l = 4 * max (the_size l.left.now) (the_size l.right.now) + 2

abbrev pub decreases-texts_of : goal.decreases-texts_of
decreases-texts_of g l = 4 * goal.size-texts_of g l + 2

abbrev pub decreases-value_in_cell : goal.decreases-value_in_cell
decreases-value_in_cell g l = 4 * goal.size-value_in_cell g l + 3

abbrev pub decreases-amount_of : goal.decreases-amount_of
decreases-amount_of g l = 4 * goal.size-amount_of g l + 1

abbrev pub decreases-truth_of : goal.decreases-truth_of
decreases-truth_of g l = 4 * goal.size-truth_of g l + 1

abbrev pub decreases-text_at : goal.decreases-text_at
decreases-text_at g l = 4 * goal.size-text_at g l + 1

abbrev pub decreases-operated : goal.decreases-operated
decreases-operated g l = 4 * max (the_size l.left.now) (the_size l.right.now) + 2

abbrev pub decreases-compared : goal.decreases-compared
decreases-compared g l = 4 * max (the_size l.left.now) (the_size l.right.now) + 2

abbrev pub decreases-cut_at : goal.decreases-cut_at
decreases-cut_at g l = 4 * max (the_size l.inner.now) (max (the_size l.start.now) (the_size l.count.now)) + 2

abbrev pub decreases-written_at : goal.decreases-written_at
decreases-written_at g l = 4 * max (the_size l.inner.now) (max (the_size l.width.now) (the_size l.decimals.now)) + 2

abbrev pub decreases-element_name : goal.decreases-element_name
decreases-element_name g l = 4 * max (the_size l.dimension.now) (the_size l.place.now) + 2

abbrev pub decreases-asked_of : goal.decreases-asked_of
decreases-asked_of g l = 4 * goal.size-asked_of g l + 3

abbrev pub decreases-updateable_at : goal.decreases-updateable_at
decreases-updateable_at g l = 4 * goal.size-updateable_at g l + 3
