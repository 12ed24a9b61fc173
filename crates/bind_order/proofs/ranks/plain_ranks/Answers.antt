use Rattle.std.proofs.Common.{◌≡◌, ◌∙◌, length, map, ap, sym, subst, true, false, Some, None, unwrap_or, if◌then◌else◌, IfSome, IfNone}
use Rattle.std.proofs.lemmas.List.FromFn.{length-map-range_with_len}
use Rattle.rule_model.specs.Conditions.{AreRanks}
use Rattle.bind_order.specs.Ranks.{listed_rank, listed_ranks, is_list_of, plain_ranks}
use Rattle.bind_order.specs.Inside.Given.{AreWithin}
use Rattle.bind_order.proofs.RankFacts.{given-are}
use Rattle.bind_order.proofs.ranks.plain_ranks.Goals as goal

pub returns-in_ok-ranks-in-Some-clause-bound : goal.returns-in_ok-ranks-in-Some-clause-bound
unfolding plain_ranks
returns-in_ok-ranks-in-Some-clause-bound c =
    let d = c.args.dimension.now in
    let list = c.args.list.now in
    let given = c.deref.ensures.value ∙ subst (λ o. IfSome o (λ given. given.items ≡ listed_ranks d list)) c.in-Some.is c.in_ok-given.ensures.given in
    let listed : is_list_of d c.args.totals list ≡ true = subst (λ o. IfSome o (λ _. is_list_of d c.args.totals list ≡ true)) c.in-Some.is c.in_ok-given.ensures.listed in
    ap Some (c.in_ok-ranks-in-Some.ensures ∙ ap (λ g. map (λ rank. unwrap_or rank 0) g) given)
    ∙ sym (ap (λ b. if b then Some (map (λ rank. unwrap_or rank 0) (listed_ranks d list)) else None) listed)

pub returns-in_ok-ranks-in-Some-clause-valid : goal.returns-in_ok-ranks-in-Some-clause-valid
returns-in_ok-ranks-in-Some-clause-valid c =
    let d = c.args.dimension.now in
    let list = c.args.list.now in
    let given = c.deref.ensures.value ∙ subst (λ o. IfSome o (λ given. given.items ≡ listed_ranks d list)) c.in-Some.is c.in_ok-given.ensures.given in
    let whole = ap length given ∙ length-map-range_with_len (listed_rank d list) 0 (length d.elements) in
    let small = subst AreWithin (sym c.deref.ensures.value) (subst (λ o. IfSome o (λ given. AreWithin given.items)) c.in-Some.is c.in_ok-given.ensures.small) in
    subst (AreRanks d) (sym c.in_ok-ranks-in-Some.ensures) (given-are d c.deref.result.now whole small)

pub returns-in-None-clause-bound : goal.returns-in-None-clause-bound
unfolding plain_ranks
returns-in-None-clause-bound c =
    let d = c.args.dimension.now in
    let list = c.args.list.now in
    let bad : is_list_of d c.args.totals list ≡ false = subst (λ o. IfNone o (is_list_of d c.args.totals list ≡ false)) c.in-None.is c.in_ok-given.ensures.bad in
    sym (ap (λ b. if b then Some (map (λ rank. unwrap_or rank 0) (listed_ranks d list)) else None) bad)
