use Rattle.dim_weights.proofs.Marks.{IsTouched-add}
use Rattle.dim_weights.proofs.sums.Sums.add.Goals as goal

pub invariant_of-self-2 : goal.invariant_of-self-2
invariant_of-self-2 c =
    rw (c.in_ok-mark.ensures.marked, c.in_ok-mark.ensures.touched) (IsTouched-add c.self.inside.sums.items c.self.inside.marked.items c.self.inside.touched.items c.args.leaf _ (rw c.self.view_is c.requires.within) c.self.invariant)
