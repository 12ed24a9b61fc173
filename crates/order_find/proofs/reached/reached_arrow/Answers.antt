use Rattle.std.proofs.Common.{◌≡◌, ◌<◌, ◌≤◌, ◌∙◌, sym, ap, subst}
use Rattle.std.specs.Prelude.{slice_index_or}
use Rattle.cube_space.specs.Layout.{sizes}
use Rattle.order_laws.specs.Scales.{set_count, set_element}
use Rattle.ref_order.proofs.Sums.{element-below}
use Rattle.read_sources.specs.Ways.{SentOver, way_of}
use Rattle.order_find.specs.Slots.{reached_from, reached_by}
use Rattle.order_find.proofs.Held.{held, set_in, size_in, reached-held, reached-past}
use Rattle.order_find.proofs.reached.reached_arrow.Goals as goal

pub reached_from-requires-clause-element : goal.reached_from-requires-clause-element
reached_from-requires-clause-element c =
    let p = c.args.graph.now in
    let s = c.args.source in
    let i = c.in-Over.dim in
    let size : c.len-size.result ≡ size_in p s i = c.len-size.ensures.len ∙ sym c.axis.ensures.size ∙ ap (λ m. slice_index_or (sizes m.space s.cube) i 0) c.model-model.ensures.model in
    let count : c.count.result ≡ set_count (size_in p s i) c.set_of-set.result.now = c.count.ensures ∙ ap (λ n. set_count n c.set_of-set.result.now) size in
    let low = subst (λ n. c.args.slot < n) count c.if-slot-count.true in
    subst (λ n. n < size_in p s i) (sym c.element_at-element.ensures)
    (element-below p.model.space s.cube i c.args.slot s.area.now c.set_of-set.result.now c.requires.source.area c.set_of-set.ensures low)

pub returns-then-slot-count-clause-arrow : goal.returns-then-slot-count-clause-arrow
returns-then-slot-count-clause-arrow c =
    let p = c.args.graph.now in
    let s = c.args.source in
    let i = c.in-Over.dim in
    let to = c.in-Over.to.now in
    let way : SentOver i to ≡ way_of p.model s = c.in-Over.ensures.follows ∙ ap (λ m. way_of m s) c.model-model.ensures.model in
    let size : c.len-size.result ≡ size_in p s i = c.len-size.ensures.len ∙ sym c.axis.ensures.size ∙ ap (λ m. slice_index_or (sizes m.space s.cube) i 0) c.model-model.ensures.model in
    let count : c.count.result ≡ set_count (size_in p s i) (set_in s i) = c.count.ensures ∙ ap (λ n. set_count n c.set_of-set.result.now) size ∙ ap (set_count (size_in p s i)) c.set_of-set.ensures in
    let low = subst (λ n. c.args.slot < n) count c.if-slot-count.true in
    let element : c.element_at-element.result ≡ set_element (set_in s i) c.args.slot = c.element_at-element.ensures ∙ ap (λ set. set_element set c.args.slot) c.set_of-set.ensures in
    c.reached_from.ensures.arrow ∙ ap (reached_from p s c.args.gives i to) element ∙ sym (reached-held p s c.args.gives i to c.args.slot low)
    ∙ ap (λ w. held (reached_by p s c.args.gives w) c.args.slot) way

pub returns-else-slot-count-clause-arrow : goal.returns-else-slot-count-clause-arrow
returns-else-slot-count-clause-arrow c =
    let p = c.args.graph.now in
    let s = c.args.source in
    let i = c.in-Over.dim in
    let to = c.in-Over.to.now in
    let way : SentOver i to ≡ way_of p.model s = c.in-Over.ensures.follows ∙ ap (λ m. way_of m s) c.model-model.ensures.model in
    let size : c.len-size.result ≡ size_in p s i = c.len-size.ensures.len ∙ sym c.axis.ensures.size ∙ ap (λ m. slice_index_or (sizes m.space s.cube) i 0) c.model-model.ensures.model in
    let count : c.count.result ≡ set_count (size_in p s i) (set_in s i) = c.count.ensures ∙ ap (λ n. set_count n c.set_of-set.result.now) size ∙ ap (set_count (size_in p s i)) c.set_of-set.ensures in
    let past = subst (λ n. n ≤ c.args.slot) count c.if-slot-count.false in
    sym (reached-past p s c.args.gives i to c.args.slot past) ∙ ap (λ w. held (reached_by p s c.args.gives w) c.args.slot) way
