-- Each write takes the place of those of its cell.
use Rattle.std.proofs.Common.{◌≡◌, ◌∷◌, [], ◌++◌, take, ap, ◌∙◌, arith}
use Rattle.cell_store.specs.Inside.Order.{below_by}
use Rattle.cell_store.proofs.LastWrites.{last-none, last-next}
use Rattle.cell_store.proofs.writes.last_sorted.Goals as goal

pub loop-write-init : goal.loop-write-init
loop-write-init g c = rw c.in_ok-last.ensures.items (last-none g.E.Placed.cell c.args.writes.now)

pub count_below-below-requires : goal.count_below-below-requires
count_below-below-requires g c = rw c.deref.ensures.value c.loop-write.invariant.rising

pub loop-write-preserved : goal.loop-write-preserved
loop-write-preserved g c =
    let cell = g.E.Placed.cell in
    let write = c.write-item.result in
    let last = c.loop-write.last.items in
    let below : take c.count_below-below.result last ≡ below_by cell last (cell write) = rw (c.deref.ensures.value, c.cell.ensures) at c.count_below-below.ensures.front in
    let next : c.push.new.self.items ≡ below_by cell last (cell write) ++ write ∷ [] = c.in_ok-push.ensures.items ∙ ap (λ xs. xs ++ write ∷ []) (c.truncate.ensures.items ∙ below) in
    last-next cell c.args.writes.now c.loop-write.write-index last c.push.new.self.items write c.requires (omega arith) c.write-item.is next c.loop-write.invariant
