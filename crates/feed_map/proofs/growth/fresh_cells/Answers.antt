use Rattle.std.proofs.Common.{◌≡◌, ◌∙◌, sym, subst, ℕ, List}
use Rattle.std.proofs.lemmas.List.Sorted.{IsNonDecreasingBy-from_sort}
use Rattle.feed_map.specs.Inside.Gains.{AreFresh}
use Rattle.feed_map.proofs.Fresh.{fresh-permuted}
use Rattle.feed_map.proofs.growth.fresh_cells.Goals as goal

pub returns-then-are_fresh : goal.returns-then-are_fresh
returns-then-are_fresh c =
    let known = c.args.known.now in
    let found = c.args.found.now.items in
    let are = c.are_fresh.ensures c.if-are_fresh.true in
    let whole : AreFresh known found found = rw c.deref.ensures.value at are in
    let same : c.in_ok-fresh.fresh.items ≡ found = c.in_ok-fresh.ensures.items ∙ c.deref-then-are_fresh.ensures.value in
    subst (λ (xs : List ℕ). AreFresh known found xs) (sym same) whole

pub unknown_cells-requires : goal.unknown_cells-requires
unknown_cells-requires c = rw c.deref-2.ensures.value (IsNonDecreasingBy-from_sort (λ (n : ℕ). n) _ c.in_ok-sort.ensures.sorted)

pub returns : goal.returns
returns c =
    let are = rw c.deref-2.ensures.value at c.in_ok-fresh-2.ensures in
    fresh-permuted c.args.known.now c.args.found.now.items c.sort.new.self.items c.in_ok-fresh-2.fresh.items c.in_ok-sort.ensures.permutation are
