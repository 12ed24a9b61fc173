use Rattle.std.proofs.Common.{◌≡◌, ◌∙◌, ◌<◌, ap, subst, ℕ, ℤ, List, length, Option, Some, None, Result, Ok, Err, IfOk, IfSome, IfNone, SomeIndex, unsigned_abs}
use Rattle.std.specs.List.{range_with_len}
use Rattle.std.proofs.lemmas.List.Sorted.{IsNonDecreasingBy-from_sort}
use Rattle.dim_weights.specs.Inside.Sums.{sum_at}
use Rattle.dim_weights.specs.Table.{nonzero_among}
use Rattle.dim_weights.proofs.Marks.{IsTouched-permuted, touched-within, touched-pairs, large-pair}
use Rattle.dim_weights.proofs.sums.Sums.pairs.Goals as goal

pub pairs_of-requires : goal.pairs_of-requires
pairs_of-requires c =
    let is = IsTouched-permuted c.self.inside.sums.items c.self.inside.marked.items c.self.inside.touched.items c.sort.new.self.items c.in_ok-sort.ensures.permutation c.self.invariant in
    rw (c.deref.ensures.value, c.deref-2.ensures.value) (touched-within c.self.inside.sums.items c.self.inside.marked.items c.sort.new.self.items is)

if_none : {V E : Type 0} (r : Result (Option V) E) (P Q : Type 0) → (P → Q) → IfOk r (λ found. IfNone found P) → IfOk r (λ found. IfNone found Q)
if_none (Ok None) P Q f h = f h
if_none (Ok (Some x)) P Q f h = tt
if_none (Err e) P Q f h = tt

pub returns-clause-pairs : goal.returns-clause-pairs
returns-clause-pairs c =
    let sums = c.self.inside.sums.items in
    let is = IsTouched-permuted sums c.self.inside.marked.items c.self.inside.touched.items c.sort.new.self.items c.in_ok-sort.ensures.permutation c.self.invariant in
    let all = touched-pairs sums c.self.inside.marked.items c.sort.new.self.items is (IsNonDecreasingBy-from_sort (λ x. x) c.sort.new.self.items c.in_ok-sort.ensures.sorted) in
    let view : sums ≡ c.args.self.now = c.self.view_is in
    let same : nonzero_among (sum_at c.deref-2.result.now) c.deref.result.now ≡ nonzero_among (sum_at c.args.self.now) (range_with_len 0 (length c.args.self.now)) =
    rw (c.deref.ensures.value, c.deref-2.ensures.value) (all ∙ ap (λ (s : List ℤ). nonzero_among (sum_at s) (range_with_len 0 (length s))) view) in
    let P : List (ℕ × ℤ) → Type 0 = λ xs. IfOk c.pairs_of.result (λ found. IfSome found (λ pairs. pairs.items ≡ xs)) in
    subst P same c.pairs_of.ensures.pairs

pub returns-clause-large : goal.returns-clause-large
returns-clause-large c =
    let view : c.self.inside.sums.items ≡ c.args.self.now = c.self.view_is in
    let same : c.deref-2.result.now ≡ c.args.self.now = c.deref-2.ensures.value ∙ view in
    let P : List ℤ → Type 0 = λ s. IfOk c.pairs_of.result (λ found. IfNone found (SomeIndex s (λ leaf. 1000000000 < unsigned_abs (sum_at s leaf)))) in
    if_none c.pairs_of.result _ _ (large-pair c.args.self.now) (subst P same c.pairs_of.ensures.large)
