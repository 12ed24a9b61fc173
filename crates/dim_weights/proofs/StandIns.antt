-- Elements by what stands in for them.
use Rattle.std.proofs.Common.{◌≡◌, ◌⊎◌, inl, inr, ℕ, ◌+◌, ◌<◌, ◌≤◌, ℤ, List, [], ◌∷◌, ◌++◌, length, get_or, refl, ap, sym, subst, arith, All}
use Rattle.std.proofs.lemmas.Bool.{cases_lt}
use Rattle.std.proofs.lemmas.List.{get_or_append_left, get_or_push, length-map}
use Rattle.std.proofs.lemmas.List.Elements.{All-head, All-tail, All-map}
use Rattle.dim_core.specs.Outline.{Outline, IsWeight}
use Rattle.dim_weights.specs.Coefficients.{weighted_sum}
use Rattle.dim_weights.specs.Table.{share, leaves_in}
use Rattle.dim_weights.specs.Inside.Alike.{MayStandIn, stand_in, stood_in, HaveSameRows}
use Rattle.dim_weights.specs.Inside.Rows.{AreParts}

-- one more element
pub alike-push : (d : Outline) (alike : List ℕ) (other : ℕ) → ((k : ℕ) → k < length alike → MayStandIn d (stand_in alike k) k) → MayStandIn d other (length alike)
    → (k : ℕ) → k < length alike + 1 → MayStandIn d (stand_in (alike ++ other ∷ []) k) k
alike-push d alike other before here k low = by (cases_lt k (length alike))
  where
    by : (k < length alike) ⊎ (length alike ≤ k) → MayStandIn d (stand_in (alike ++ other ∷ []) k) k
    by (inl front) =
        let same : get_or (alike ++ other ∷ []) k k ≡ get_or alike k k = get_or_append_left alike (other ∷ []) k k front in
        let P : ℕ → Type 0 = λ x. MayStandIn d x k in
        subst P (sym same) (before k front)
    by (inr last) =
        let at : k ≡ length alike = omega (arith, low, last) in
        let same : get_or (alike ++ other ∷ []) (length alike) (length alike) ≡ other = get_or_push alike other (length alike) (length alike) refl in
        let P : ℕ → Type 0 = λ x. MayStandIn d x (length alike) in
        let Q : ℕ → Type 0 = λ x. MayStandIn d (stand_in (alike ++ other ∷ []) x) x in
        subst Q (sym at) (subst P (sym same) here)

stood-sum : (f : ℕ → ℤ) (alike : List ℕ) (parts : List (ℕ × ℤ)) → All (λ part. f (stand_in alike part.0) ≡ f part.0) parts → weighted_sum f (stood_in alike parts) ≡ weighted_sum f parts
stood-sum f alike [] same = refl
stood-sum f alike (part ∷ parts) same =
    let here : f (stand_in alike part.0) ≡ f part.0 = All-head (λ part. f (stand_in alike part.0) ≡ f part.0) part parts same in
    let rest = stood-sum f alike parts (All-tail (λ part. f (stand_in alike part.0) ≡ f part.0) part parts same) in
    rw (here, rest) refl

-- a leaf counts the same in what stands in
pub same-sum : (rows : List (List (ℕ × ℤ))) (alike : List ℕ) (parts : List (ℕ × ℤ)) → HaveSameRows rows alike parts → (leaf : ℕ)
    → weighted_sum (λ part. share (leaves_in rows part) leaf) (stood_in alike parts) ≡ weighted_sum (λ part. share (leaves_in rows part) leaf) parts
same-sum rows alike parts same leaf =
    stood-sum (λ part. share (leaves_in rows part) leaf) alike parts (λ k d within. ap (λ (ps : List (ℕ × ℤ)). share ps leaf) (same k d within).1)

pub stood-parts : (n : ℕ) (rows : List (List (ℕ × ℤ))) (alike : List ℕ) (parts : List (ℕ × ℤ)) → length rows ≡ n → HaveSameRows rows alike parts → AreParts n parts → AreParts n (stood_in alike parts)
stood-parts n rows alike parts whole same are = record {
  within = All-map (λ part. (part.0 < n) × IsWeight part.1) (λ (part : ℕ × ℤ). (stand_in alike part.0, part.1)) parts
      (λ k d there. (omega (arith, whole, (same k d there).0), (are.within k d there).1));
  few = omega (arith, are.few, length-map {B = ℕ × ℤ} parts (λ (part : ℕ × ℤ). (stand_in alike part.0, part.1)));
}
