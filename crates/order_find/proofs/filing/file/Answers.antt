use Rattle.std.proofs.Common.{◌≡◌, ◌∙◌, ◌+◌, ◌==◌, sym, ap, subst, arith, suc, Some, length}
use Rattle.std.specs.Prelude.{slice_index_or}
use Rattle.std.specs.List.{list_any}
use Rattle.std.proofs.lemmas.List.{with_items_is}
use Rattle.std.proofs.lemmas.Result.{on_ok_weaker}
use Rattle.order_find.specs.Numbers.{firsts_of}
use Rattle.order_find.specs.Filing.{Adds, AreFiled}
use Rattle.order_find.proofs.LookedAt.{IsListOf, list-of, rows-there, source-at, plan, filed-whole, filed-listed}
use Rattle.order_find.proofs.filing.file.Goals as goal

listed : (c : goal.After-as_slice-in-Some) → IsListOf c.args.model.now c.index-sources-k.result c.as_slice-in-Some.result.now
listed c =
    let (source, at) = source-at c.args.model.now c.args.sources.now c.args.k c.index-sources-k.result c.requires.sources c.requires.k c.index-sources-k.is in
    list-of c.args.model.now c.index-sources-k.result c.last_of-last.result c.set_of.result.now c.as_slice-in-Some.result.now source c.last_of-last.ensures.last c.set_of.ensures
    (c.in-Some.is ∙ ap Some (sym c.as_slice-in-Some.ensures))

pub add_each-requires-clause-rising : goal.add_each-requires-clause-rising
add_each-requires-clause-rising c = (listed c).rising

pub add_each-requires-clause-within : goal.add_each-requires-clause-within
add_each-requires-clause-within c = λ k d low.
    let m = c.args.model.now in
    let s = c.index-sources-k.result in
    let (source, at) = source-at m c.args.sources.now c.args.k s c.requires.sources c.requires.k c.index-sources-k.is in
    let begins = c.first_of-first.ensures ∙ ap (λ kind. slice_index_or (firsts_of c.args.numbering.now kind) s.cube 0) c.own_kind.ensures in
    let there = rows-there m c.args.numbering.now s c.first_of-first.result c.as_slice-in-Some.result.now c.requires.numbering source.cube begins (listed c).within k d low in
    omega (arith, there, ap length c.deref_mut.ensures.value, c.requires.filed.nodes)

pub returns-in-Some : goal.returns-in-Some
returns-in-Some c =
    let m = c.args.model.now in
    let numbering = c.args.numbering.now in
    let sources = c.args.sources.now in
    let filing = c.args.filing.now in
    let s = c.index-sources-k.result in
    let first = c.first_of-first.result in
    let those = c.as_slice-in-Some.result.now in
    let (source, at) = source-at m sources c.args.k s c.requires.sources c.requires.k c.index-sources-k.is in
    let begins = c.first_of-first.ensures ∙ ap (λ kind. slice_index_or (firsts_of numbering kind) s.cube 0) c.own_kind.ensures in
    let is = list-of m s c.last_of-last.result c.set_of.result.now those source c.last_of-last.ensures.last c.set_of.ensures (c.in-Some.is ∙ ap Some (sym c.as_slice-in-Some.ensures)) in
    on_ok_weaker c.add_each.result
    (λ added.
    let adds = subst (λ rows. Adds (λ n. list_any (λ element. first + element == n) those) c.args.k rows c.add_each.new.rows) c.deref_mut.ensures.value added in
    let long : length c.add_each.new.rows ≡ filing.of_nodes.len = omega (arith, adds.rows, filing.of_nodes.ok) in
    subst (λ rows. AreFiled (plan m numbering sources filing.of_cubes.items rows) (suc c.args.k)) (sym (with_items_is filing.of_nodes c.add_each.new.rows long))
    (filed-listed m numbering sources filing.of_cubes.items filing.of_nodes.items c.args.k s at c.requires.filed first those c.add_each.new.rows c.requires.numbering source.cube begins is.set is.within adds))
    c.add_each.ensures

pub returns-in_default : goal.returns-in_default
returns-in_default c =
    let m = c.args.model.now in
    let numbering = c.args.numbering.now in
    let sources = c.args.sources.now in
    let filing = c.args.filing.now in
    let s = c.index-sources-k.result in
    let (source, at) = source-at m sources c.args.k s c.requires.sources c.requires.k c.index-sources-k.is in
    on_ok_weaker c.add.result
    (λ added.
    let adds = subst (λ rows. Adds (λ n. s.cube == n) c.args.k rows c.add.new.rows) c.deref_mut-in_default.ensures.value added in
    let long : length c.add.new.rows ≡ filing.of_cubes.len = omega (arith, adds.rows, filing.of_cubes.ok) in
    subst (λ rows. AreFiled (plan m numbering sources rows filing.of_nodes.items) (suc c.args.k)) (sym (with_items_is filing.of_cubes c.add.new.rows long))
    (filed-whole m numbering sources filing.of_cubes.items filing.of_nodes.items c.args.k s at c.requires.filed c.add.new.rows adds))
    c.add.ensures
