use Rattle.std.proofs.Common.{ℕ, Option, option_map, Ok, Vec, Global, sym, subst}
use Rattle.dim_order.proofs.LoopLemmas.{first_on_loop-ordered}
use Rattle.dim_core.specs.declared.fault.DimFault.TheVariants.{Loop}
use Rattle.dim_core.specs.Refusal.{IsAnsweredBy}
use Rattle.dim_core.proofs.builder.order_and_levels.Goals as goal

pub returns-in-Some-clause-answered : goal.returns-in-Some-clause-answered
returns-in-Some-clause-answered c =
    let P : Option ℕ → Type 0 = λ o. IsAnsweredBy {T = Vec ℕ Global × Vec ℕ Global} (option_map Loop o) (Ok (c.in-Some.order, c.in_ok-levels.levels)) in
    subst P (sym (first_on_loop-ordered c.args.lists.now c.in-Some.order.items (rw c.in-Some.is at c.in_ok-order.ensures.order))) tt
