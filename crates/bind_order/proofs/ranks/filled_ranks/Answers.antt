use Rattle.std.proofs.Common.{◌≡◌, ◌∙◌, length, map, ap, sym, subst, true, false, Some, None, if◌then◌else◌, IfSome, IfNone}
use Rattle.std.specs.List.{range_with_len}
use Rattle.std.proofs.lemmas.List.FromFn.{length-map-range_with_len}
use Rattle.bind_order.specs.Ranks.{listed_rank, listed_ranks, is_list_of, filled_rank, filled_ranks}
use Rattle.bind_order.proofs.ranks.filled_ranks.Goals as goal

pub all_filled-requires-clause-whole : goal.all_filled-requires-clause-whole
all_filled-requires-clause-whole c =
    ap length (c.deref.ensures.value ∙ subst (λ o. IfSome o (λ given. given.items ≡ listed_ranks c.args.dimension.now c.args.list.now)) c.in-Some.is c.in_ok-given.ensures.given)
    ∙ length-map-range_with_len (listed_rank c.args.dimension.now c.args.list.now) 0 (length c.args.dimension.now.elements)

pub returns-in_ok-ranks-in-Some-clause-bound : goal.returns-in_ok-ranks-in-Some-clause-bound
unfolding filled_ranks
returns-in_ok-ranks-in-Some-clause-bound c =
    let d = c.args.dimension.now in
    let list = c.args.list.now in
    let all = range_with_len 0 (length d.elements) in
    let given = c.deref.ensures.value ∙ subst (λ o. IfSome o (λ given. given.items ≡ listed_ranks d list)) c.in-Some.is c.in_ok-given.ensures.given in
    let listed : is_list_of d true list ≡ true = subst (λ o. IfSome o (λ _. is_list_of d true list ≡ true)) c.in-Some.is c.in_ok-given.ensures.listed in
    ap Some (c.in_ok-ranks-in-Some.ensures.bound ∙ ap (λ g. map (filled_rank d g) all) given)
    ∙ sym (ap (λ b. if b then Some (map (filled_rank d (listed_ranks d list)) all) else None) listed)

pub returns-in-None-clause-bound : goal.returns-in-None-clause-bound
unfolding filled_ranks
returns-in-None-clause-bound c =
    let d = c.args.dimension.now in
    let list = c.args.list.now in
    let bad : is_list_of d true list ≡ false = subst (λ o. IfNone o (is_list_of d true list ≡ false)) c.in-None.is c.in_ok-given.ensures.bad in
    sym (ap (λ b. if b then Some (map (filled_rank d (listed_ranks d list)) (range_with_len 0 (length d.elements))) else None) bad)
