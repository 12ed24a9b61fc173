-- What a binary search by leaf finds.
use Rattle.std.proofs.Common.{◌≡◌, ◌≢◌, ◌⊎◌, inl, inr, ℕ, ◌+◌, ◌<◌, ◌≤◌, ℤ, pos, List, length, get_or, sym, ◌∙◌, ap, arith, All}
use Rattle.std.specs.List.{HoldsAt}
use Rattle.std.specs.List.Sorted.{IsPartitionPoint, IsNonDecreasingBy, IsSortedBy}
use Rattle.std.specs.Ordering.{nat_cmp, is_lt, ordering_index}
use Rattle.std.specs.declared.cmp.Ordering.TheVariants.{Less, Equal, Greater}
use Rattle.std.proofs.lemmas.Bool.{cases_lt}
use Rattle.std.proofs.lemmas.Bool.Decides.{nat_tests}
use Rattle.std.proofs.lemmas.Cmp.{ranked, nat_cmp_total}
use Rattle.std.proofs.lemmas.List.Sorted.{searchable_from_sorted}
use Rattle.std.proofs.lemmas.List.{get_or-map, length-map}
use Rattle.dim_weights.specs.Table.{share, IsRising}
use Rattle.dim_weights.proofs.Pairs.{RisesFrom-rising, share-at, share-none}

pub found : (ps : List (ℕ × ℤ)) (leaf k : ℕ) (d : ℕ × ℤ) → IsRising ps → k < length ps → HoldsAt (λ (y : ℕ × ℤ). nat_cmp y.0 leaf ≡ Equal) ps k → (get_or ps k d).1 ≡ share ps leaf
found ps leaf k d rising within at =
    let same : (get_or ps k d).0 ≡ leaf = ranked (get_or ps k d).0 leaf Equal (sym (at d)) in
    sym (share-at 0 ps (RisesFrom-rising ps rising) k d within) ∙ ap (share ps) same

sorted : (ps : List (ℕ × ℤ)) → IsRising ps → IsSortedBy (λ (a : ℕ × ℤ) (b : ℕ × ℤ). is_lt (nat_cmp a.0 b.0)) ps
sorted ps rising k d low within =
    let one = get_or-map (λ (p : ℕ × ℤ). p.0) ps k d 0 (omega arith) in
    let two = get_or-map (λ (p : ℕ × ℤ). p.0) ps (k + 1) d 0 within in
    let less = rising k (omega (arith, length-map ps (λ (p : ℕ × ℤ). p.0))) in
    let up : (get_or ps k d).0 < (get_or ps (k + 1) d).0 = omega arith in
    grind (arith, nat_tests)

pub missed : (ps : List (ℕ × ℤ)) (leaf i : ℕ) → IsRising ps
    → (IsNonDecreasingBy (λ (y : ℕ × ℤ). ordering_index (nat_cmp y.0 leaf)) ps → IsPartitionPoint (λ (y : ℕ × ℤ). nat_cmp y.0 leaf ≡ Less) (λ (y : ℕ × ℤ). nat_cmp y.0 leaf ≡ Greater) ps i)
    → pos 0 ≡ share ps leaf
missed ps leaf i rising at = sym (share-none ps leaf none)
  where
    point : IsPartitionPoint (λ (y : ℕ × ℤ). nat_cmp y.0 leaf ≡ Less) (λ (y : ℕ × ℤ). nat_cmp y.0 leaf ≡ Greater) ps i
    point = at (searchable_from_sorted nat_cmp_total (λ (y : ℕ × ℤ). y.0) ps leaf (sorted ps rising))

    none : All (λ p. p.0 ≢ leaf) ps
    none k d within same = by (cases_lt k i)
      where
        by : (k < i) ⊎ (i ≤ k) → ⊥
        by (inl before) = let less : (get_or ps k d).0 < leaf = ranked (get_or ps k d).0 leaf Less (sym (point.0 k d (omega arith) before)) in omega arith
        by (inr after) = let more : leaf < (get_or ps k d).0 = ranked (get_or ps k d).0 leaf Greater (sym (point.1 k d after within)) in omega arith
