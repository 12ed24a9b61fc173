-- All cells in the order of their depth, and a table that is filled in this order.
use Rattle.std.proofs.Common.{◌≡◌, refl, sym, ◌∙◌, ap, subst, arith, ℕ, ◌+◌, ◌<◌, ◌≤◌, Bool, true, false, List, length, get_or, set, eqb, inl, inr, ◌⊎◌}
use Rattle.std.specs.Prelude.{All, Contains}
use Rattle.std.specs.List.{range_with_len}
use Rattle.std.specs.List.Sorted.{IsNonDecreasingBy, IsPermutation}
use Rattle.std.proofs.lemmas.List.Elements.{All-map}
use Rattle.std.proofs.lemmas.List.Sorted.{All-permutation, Contains-permutation}
use Rattle.std.proofs.lemmas.List.{get_or-set_same, get_or-set_other, get_or_default, length-set}
use Rattle.std.proofs.lemmas.Bool.{cases_lt, eqb-true, eq-eqb}
use Rattle.cube_space.specs.Cells.{IsSpace, IsCell, size_of}
use Rattle.rule_laws.specs.RuleSystem.{Stored, depth, dense_value, right_side}
use Rattle.rule_laws.specs.Ordered.{IsWellFormed, IsOrdered}
use Rattle.rule_laws.specs.OrderByPlace.{IsOrderedByPlace}
use Rattle.rule_laws.proofs.PlaceFacts.{ordered-by_place}
use Rattle.rule_laws.proofs.SystemFacts.{right_side-grounded, dense_value-solves}
use Rattle.cube_fixed.specs.declared.value.Value.{Value}
use Rattle.cube_fixed.specs.Arithmetic.{zero_value}
use Rattle.rule_model.specs.BoundModel.{BoundModel}
use Rattle.rule_model.specs.Conditions.{AreRules}
use Rattle.rule_model.specs.System.{system_of, positions_of}
use Rattle.model_laws.proofs.Formed.{well_formed}
use Rattle.model_laws.proofs.Ranks.{ranked}
use Rattle.model_laws.proofs.Below.{range-below}
use Rattle.rule_dense.specs.Inside.Depths.{with_depth, AreDeep, IsByDepth, AreDense}
use Rattle.rule_dense.specs.Inside.Plain.{table_of}
use Rattle.rule_dense.proofs.Ranges.{map-contains}

module _ (m : BoundModel) where
  abbrev IsDeep : ℕ × ℕ → Type 0
  IsDeep pair = IsCell m.space pair.1 × (pair.0 ≡ depth (system_of m) pair.1)

  all-deep : (pairs : List (ℕ × ℕ)) → AreDeep m pairs → All IsDeep pairs
  all-deep pairs are =
      subst (All IsDeep) (sym are) (All-map IsDeep (with_depth m) (range_with_len 0 (size_of m.space)) (λ k d less. (range-below (size_of m.space) k d less, refl)))

  pub IsByDepth-sorted : (pairs sorted : List (ℕ × ℕ)) → AreDeep m pairs → IsPermutation pairs sorted → IsNonDecreasingBy (λ pair. pair.0) sorted → IsByDepth m sorted
  IsByDepth-sorted pairs sorted are same rising = record {
    deep = All-permutation IsDeep pairs sorted same (all-deep pairs are);
    each = λ cell is_cell.
        Contains-permutation pairs sorted (with_depth m cell) same
        (subst (λ (xs : List (ℕ × ℕ)). Contains xs (with_depth m cell)) (sym are) (map-contains (with_depth m) (size_of m.space) cell is_cell));
    rising = rising;
  }

-- ---- the table

-- the first cells have their dense values
pub record AreDenseUpTo (m : BoundModel) (stored : Stored) (pairs : List (ℕ × ℕ)) (values : List Value) (i : ℕ) : Type 0 where
  pub long : length values ≡ size_of m.space
  pub so_far : (k : ℕ) (d : ℕ × ℕ) → k < i → k < length pairs → table_of values (get_or pairs k d).1 ≡ dense_value (system_of m) stored (get_or pairs k d).1

module _ (m : BoundModel) (stored : Stored) (valid : IsSpace m.space) (rules : AreRules m.space m.rules) (by_place : IsOrderedByPlace (system_of m) (positions_of m))
    (pairs : List (ℕ × ℕ)) (by : IsByDepth m pairs) where
  formed : IsWellFormed (system_of m)
  formed = well_formed m valid rules

  ordered : IsOrdered (system_of m)
  ordered = ordered-by_place (system_of m) (positions_of m) formed (ranked m) by_place

  -- what a right side reads has its dense value already
  module _ (values : List Value) (i : ℕ) (filled : AreDenseUpTo m stored pairs values i) (e : ℕ × ℕ) (low : i < length pairs) where
    abbrev cell : ℕ
    cell = (get_or pairs i e).1

    earlier : (x : ℕ) → IsCell m.space x → depth (system_of m) x < depth (system_of m) cell → table_of values x ≡ dense_value (system_of m) stored x
    earlier x here less = found (by.each x here)
      where
        found : Contains pairs (with_depth m x) → table_of values x ≡ dense_value (system_of m) stored x
        found (k, within, is) = at (cases_lt k i)
          where
            at : (k < i) ⊎ (i ≤ k) → table_of values x ≡ dense_value (system_of m) stored x
            at (inl before) =
                let known = filled.so_far k (with_depth m x) before within in
                subst (λ (c : ℕ). table_of values c ≡ dense_value (system_of m) stored c) (ap (λ (p : ℕ × ℕ). p.1) is) known
            at (inr after) =
                let up = by.rising i k (with_depth m x) after within in
                let deep = (by.deep i (with_depth m x) low).1 in
                let same : depth (system_of m) (get_or pairs i (with_depth m x)).1 ≡ depth (system_of m) cell = ap (λ (p : ℕ × ℕ). depth (system_of m) p.1) (get_or_default pairs i (with_depth m x) e low) in
                let own : (get_or pairs k (with_depth m x)).0 ≡ depth (system_of m) x = ap (λ (p : ℕ × ℕ). p.0) is in
                absurd (omega (arith, up, deep, same, own, less))

    right-dense : right_side (system_of m) stored (table_of values) cell ≡ dense_value (system_of m) stored cell
    unfolding system_of
    right-dense =
        let here = (by.deep i e low).0 in
        right_side-grounded (system_of m) formed stored ordered (table_of values) (dense_value (system_of m) stored) cell here earlier
        ∙ sym (dense_value-solves (system_of m) formed stored ordered cell here)

    pub dense-more : (v : Value) → v ≡ right_side (system_of m) stored (table_of values) cell → AreDenseUpTo m stored pairs (set values cell v) (i + 1)
    dense-more v is = record {
      long = length-set values cell v ∙ filled.long;
      so_far = λ k d before within. at k d before within (eqb (get_or pairs k d).1 cell) refl;
    }
      where
        at : (k : ℕ) (d : ℕ × ℕ) → k < i + 1 → k < length pairs → (b : Bool) → eqb (get_or pairs k d).1 cell ≡ b → table_of (set values cell v) (get_or pairs k d).1 ≡ dense_value (system_of m) stored (get_or pairs k d).1
        at k d before within true same =
            let one = eqb-true (get_or pairs k d).1 cell same in
            subst (λ (c : ℕ). table_of (set values cell v) c ≡ dense_value (system_of m) stored c) (sym one)
            (get_or-set_same values cell v zero_value (let inside = (by.deep i e low).0 in omega (arith, inside, filled.long)) ∙ is ∙ right-dense)
        at k d before within false other =
            let apart : (get_or pairs k d).1 ≡ cell → ⊥ = λ one. (let t = eq-eqb (get_or pairs k d).1 cell one in let clash : true ≡ false = sym t ∙ other in cc) in
            let earlier : k < i = least_of (cases_lt k i) in
            get_or-set_other values cell (get_or pairs k d).1 v zero_value apart ∙ filled.so_far k d earlier within
          where
            least_of : (k < i) ⊎ (i ≤ k) → k < i
            least_of (inl less) = less
            least_of (inr least) =
                let last : k ≡ i = omega (arith, before, least) in
                let one : (get_or pairs k d).1 ≡ cell = ap (λ n. (get_or pairs n d).1) last ∙ ap (λ (p : ℕ × ℕ). p.1) (get_or_default pairs i d e low) in
                absurd (let t = eq-eqb (get_or pairs k d).1 cell one in let clash : true ≡ false = sym t ∙ other in cc)

  pub dense-all : (values : List Value) (i : ℕ) → AreDenseUpTo m stored pairs values i → length pairs ≤ i → AreDense m stored values
  dense-all values i filled end cell here = found (by.each cell here)
    where
      found : Contains pairs (with_depth m cell) → table_of values cell ≡ dense_value (system_of m) stored cell
      found (k, within, is) =
          subst (λ (c : ℕ). table_of values c ≡ dense_value (system_of m) stored c) (ap (λ (p : ℕ × ℕ). p.1) is)
          (filled.so_far k (with_depth m cell) (omega (arith, within, end)) within)

pub dense-none : (m : BoundModel) (stored : Stored) (pairs : List (ℕ × ℕ)) (values : List Value) → length values ≡ size_of m.space → AreDenseUpTo m stored pairs values 0
dense-none m stored pairs values long = record { long = long; so_far = λ k d before within. absurd (omega (arith, before)) }
