use Rattle.std.proofs.Common.{◌≡◌, ◌∙◌, sym, subst, true}
use Rattle.std.proofs.lemmas.Option.{IfSome_then}
use Rattle.std.proofs.lemmas.Result.{IfOk-weaker}
use Rattle.bind_order.specs.Ranks.{are_writable}
use Rattle.bind_order.specs.Inside.Given.{AreWithin}
use Rattle.bind_order.proofs.ListedFacts.{listed_within}
use Rattle.bind_order.proofs.listed.given_ranks.Goals as goal

pub returns-then-are_writable-clause-small : goal.returns-then-are_writable-clause-small
returns-then-are_writable-clause-small c =
    let writable : are_writable c.args.list.now ≡ true = sym c.are_writable.ensures ∙ c.if-are_writable.true in
    IfOk-weaker c.listed_ranks.result _ _ (λ found is. IfSome_then found is (λ given same. subst AreWithin (sym same) (listed_within c.args.dimension.now c.args.list.now writable))) c.listed_ranks.ensures.given
