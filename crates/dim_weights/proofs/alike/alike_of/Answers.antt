use Rattle.std.proofs.Common.{sym, ap, ◌∙◌, subst, ℕ, List, length, arith, length-append}
use Rattle.dim_weights.specs.Inside.Alike.{MayStandIn, stand_in}
use Rattle.dim_weights.proofs.StandIns.{alike-push}
use Rattle.dim_weights.proofs.alike.alike_of.Goals as goal

pub loop-element-preserved : goal.loop-element-preserved
loop-element-preserved c = record {
  whole = ap length c.in_ok-push.ensures.items ∙ simp length-append (omega (arith, c.loop-element.invariant.whole));
  each = λ k low.
      let P : List ℕ → Type 0 = λ xs. MayStandIn c.args.dimension.now (stand_in xs k) k in
      let Q : ℕ → Type 0 = MayStandIn c.args.dimension.now c.alike_or_itself.result in
      subst P (sym c.in_ok-push.ensures.items)
      (alike-push c.args.dimension.now c.loop-element.alike.items c.alike_or_itself.result
      (λ j before. c.loop-element.invariant.each j (omega (arith, before, c.loop-element.invariant.whole)))
      (subst Q (sym c.loop-element.invariant.whole) c.alike_or_itself.ensures) k (omega (arith, low, c.loop-element.invariant.whole)));
}

pub returns : goal.returns
returns c element here = c.loop-element.invariant.each element (omega (arith, here, c.loop-element-test.false, c.len-element-end.ensures.len))
