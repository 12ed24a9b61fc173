use Rattle.std.proofs.Common.{◌≡◌, ◌∙◌, length, ap, sym, subst, true, false, not, ◌==◌, None, if◌then◌else◌, IfSome, IfNone, IfOk}
use Rattle.std.proofs.lemmas.List.FromFn.{length-map-range_with_len}
use Rattle.bind_order.specs.Ranks.{listed_rank, listed_ranks, is_list_of, ranks_of, list_ranks}
use Rattle.bind_order.proofs.ranks.list_ranks.Goals as goal

pub ranks_of-requires-clause-whole : goal.ranks_of-requires-clause-whole
ranks_of-requires-clause-whole c =
    ap length (c.deref.ensures.value ∙ subst (λ o. IfSome o (λ given. given.items ≡ listed_ranks c.args.dimension.now c.args.list.now)) c.in-Some.is c.in_ok-given.ensures.given)
    ∙ length-map-range_with_len (listed_rank c.args.dimension.now c.args.list.now) 0 (length c.args.dimension.now.elements)

pub returns-in-Some-clause-bound : goal.returns-in-Some-clause-bound
unfolding list_ranks
returns-in-Some-clause-bound c =
    let d = c.args.dimension.now in
    let list = c.args.list.now in
    let given = c.deref.ensures.value ∙ subst (λ o. IfSome o (λ given. given.items ≡ listed_ranks d list)) c.in-Some.is c.in_ok-given.ensures.given in
    let listed : is_list_of d (not (c.args.version == 1)) list ≡ true = subst (λ o. IfSome o (λ _. is_list_of d (not (c.args.version == 1)) list ≡ true)) c.in-Some.is c.in_ok-given.ensures.listed in
    let path : ranks_of d c.deref.result.now ≡ list_ranks c.args.version list d = ap (ranks_of d) given ∙ sym (ap (λ b. if b then ranks_of d (listed_ranks d list) else None) listed) in
    subst (λ x. IfOk c.ranks_of.result (λ found. found ≡ x)) path c.ranks_of.ensures.bound

pub returns-in-None-clause-bound : goal.returns-in-None-clause-bound
unfolding list_ranks
returns-in-None-clause-bound c =
    let d = c.args.dimension.now in
    let list = c.args.list.now in
    let bad : is_list_of d (not (c.args.version == 1)) list ≡ false = subst (λ o. IfNone o (is_list_of d (not (c.args.version == 1)) list ≡ false)) c.in-None.is c.in_ok-given.ensures.bad in
    sym (ap (λ b. if b then ranks_of d (listed_ranks d list) else None) bad)
