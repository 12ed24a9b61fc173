use Rattle.std.proofs.Common.{◌≡◌, ◌∙◌, ◌++◌, ◌∷◌, ◌+◌, ◌<◌, length, ap, sym, take, drop, refl, [], Some, arith}
use Rattle.std.proofs.lemmas.List.{drop_more, take_more}
use Rattle.std.proofs.lemmas.List.FromFn.{length-map-range_with_len}
use Rattle.bind_order.specs.Ranks.{listed_rank, listed_ranks, entry_element}
use Rattle.bind_order.proofs.ListedFacts.{given_more, listed_more}
use Rattle.bind_order.proofs.listed.listed_ranks.Goals as goal

pub entry_element-requires : goal.entry_element-requires
entry_element-requires c =
    ap length (c.deref.ensures.value ∙ c.loop-entry.invariant.given)
    ∙ length-map-range_with_len (listed_rank c.args.dimension.now (take c.loop-entry.entry-index c.args.list.now)) 0 (length c.args.dimension.now.elements)

pub loop-entry-preserved : goal.loop-entry-preserved
loop-entry-preserved c =
    let d = c.args.dimension.now in
    let list = c.args.list.now in
    let i = c.loop-entry.entry-index in
    let entry = c.entry-item.result in
    let low : i < length list = omega (arith, c.loop-entry-test.true, c.loop-entry.auto.entry-index-end) in
    let front : take (i + 1) list ≡ take i list ++ entry ∷ [] = take_more list i entry low ∙ ap (λ e. take i list ++ e ∷ []) (sym c.entry-item.is) in
    let back : drop i list ≡ entry ∷ drop (i + 1) list = drop_more list i entry low ∙ ap (λ e. e ∷ drop (i + 1) list) (sym c.entry-item.is) in
    let lists : entry_element d c.args.totals (take i list) entry.0 ≡ Some c.in-Some.element = sym (c.entry_element.ensures.element (take i list) (c.deref.ensures.value ∙ c.loop-entry.invariant.given)) ∙ c.in-Some.is in
    record {
      given = given_more d c.args.totals (take i list) entry c.in-Some.element c.loop-entry.given.items _ c.loop-entry.invariant.given lists refl ∙ ap (listed_ranks d) (sym front);
      listed = listed_more d c.args.totals c.in-Some.element (take i list) (take (i + 1) list) (drop i list) (drop (i + 1) list) entry _ back front lists c.loop-entry.invariant.listed;
    }
