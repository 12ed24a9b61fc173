use Rattle.std.proofs.Common.{◌<◌, ◌∙◌, sym, subst}
use Rattle.std.specs.Prelude.{slice_index_or}
use Rattle.cube_space.specs.Layout.{sizes}
use Rattle.read_sources.specs.Ways.{precedent}
use Rattle.order_find.proofs.Area.{from-area, in-area}
use Rattle.order_find.proofs.tables.reads_here.Goals as goal

pub returns-then-is_for-clause-element : goal.returns-then-is_for-clause-element
returns-then-is_for-clause-element c = λ h.
    let m = c.args.model.now in
    let s = c.args.source in
    let e = c.args.place.element in
    let low = (in-area m s.cube s.area.now c.last_of.result e (from-area m s.cube s.area.now s.kind (precedent s) s.its c.last_of.result e (sym c.reads_from.ensures ∙ h))).0 in
    subst (λ i. e < slice_index_or (sizes m.space s.cube) i 0) c.last_of.ensures.last low
