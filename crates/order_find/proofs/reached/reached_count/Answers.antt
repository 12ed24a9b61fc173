use Rattle.std.proofs.Common.{◌≡◌, ◌∙◌, sym, ap, arith, length}
use Rattle.std.specs.Prelude.{slice_index_or}
use Rattle.cube_space.specs.Layout.{sizes}
use Rattle.order_laws.specs.Scales.{set_count}
use Rattle.order_laws.proofs.SetFacts.{set-at}
use Rattle.read_sources.specs.Ways.{SentOver, way_of}
use Rattle.order_find.specs.Slots.{reached_by}
use Rattle.order_find.proofs.Held.{set_in, size_in, reached-length, set-few}
use Rattle.order_find.proofs.reached.reached_count.Goals as goal

pub returns-in-Over-clause-count : goal.returns-in-Over-clause-count
returns-in-Over-clause-count c = λ gives.
    let p = c.args.graph.now in
    let s = c.args.source in
    let i = c.in-Over.dim in
    let to = c.in-Over.field-1.now in
    let way : SentOver i to ≡ way_of p.model s = c.in-Over.ensures.follows ∙ ap (λ m. way_of m s) c.model-model.ensures.model in
    let size : c.len-size.result ≡ size_in p s i = c.len-size.ensures.len ∙ sym c.axis.ensures.size ∙ ap (λ m. slice_index_or (sizes m.space s.cube) i 0) c.model-model.ensures.model in
    c.count.ensures ∙ ap (λ n. set_count n c.set_of.result.now) size ∙ ap (set_count (size_in p s i)) c.set_of.ensures
    ∙ sym (reached-length p s gives i to) ∙ ap (λ w. length (reached_by p s gives w)) way

pub returns-in-Over-clause-few : goal.returns-in-Over-clause-few
returns-in-Over-clause-few c =
    let p = c.args.graph.now in
    let s = c.args.source in
    let i = c.in-Over.dim in
    let size : c.len-size.result ≡ size_in p s i = c.len-size.ensures.len ∙ sym c.axis.ensures.size ∙ ap (λ m. slice_index_or (sizes m.space s.cube) i 0) c.model-model.ensures.model in
    let count : c.count.result ≡ set_count (size_in p s i) (set_in s i) = c.count.ensures ∙ ap (λ n. set_count n c.set_of.result.now) size ∙ ap (set_count (size_in p s i)) c.set_of.ensures in
    let few = set-few (size_in p s i) (set_in s i) (set-at (sizes p.model.space s.cube) s.area.now.sets i c.requires.area) in
    omega (arith, few, count, size, c.len-size.ensures.len, c.len-size.ensures.valid.few)
