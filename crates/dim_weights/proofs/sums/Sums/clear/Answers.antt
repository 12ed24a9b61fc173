use Rattle.std.proofs.Common.{pos, false}
use Rattle.dim_weights.specs.Inside.Sums.{ArePut}
use Rattle.dim_weights.proofs.Marks.{IsTouched-cleared, cleared-zero, touched-within}
use Rattle.dim_weights.proofs.sums.Sums.clear.Goals as goal

pub clear-requires-clause-within : goal.clear-requires-clause-within
clear-requires-clause-within c =
    rw c.deref.ensures.value (touched-within c.self.inside.sums.items c.self.inside.marked.items c.self.inside.touched.items c.self.invariant)

pub invariant_of-self : goal.invariant_of-self
invariant_of-self c =
    let sums : ArePut c.self.inside.touched.items (pos 0) c.self.inside.sums.items c.clear.new.sums.items = rw c.deref.ensures.value at c.clear.ensures.sums in
    let marks : ArePut c.self.inside.touched.items false c.self.inside.marked.items c.clear.new.marked.items = rw c.deref.ensures.value at c.clear.ensures.marked in
    rw c.clear-2.ensures.items (IsTouched-cleared c.self.inside.sums.items _ c.self.inside.marked.items _ c.self.inside.touched.items c.self.invariant sums marks)

pub returns-clause-zero : goal.returns-clause-zero
returns-clause-zero c =
    let sums : ArePut c.self.inside.touched.items (pos 0) c.self.inside.sums.items c.clear.new.sums.items = rw c.deref.ensures.value at c.clear.ensures.sums in
    let marks : ArePut c.self.inside.touched.items false c.self.inside.marked.items c.clear.new.marked.items = rw c.deref.ensures.value at c.clear.ensures.marked in
    cleared-zero c.self.inside.sums.items _ c.self.inside.marked.items _ c.self.inside.touched.items c.self.invariant sums marks
