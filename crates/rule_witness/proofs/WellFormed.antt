-- The system is well formed.
use Rattle.std.proofs.Common.{◌≡◌, refl, subst, lit<, arith, ℕ, zero, suc, ◌<◌, ◌≤◌, ℤ, pos, negsuc, Bool, true, false, ◌&&◌, Some, None, List, [], ◌∷◌}
use Rattle.std.specs.Prelude.{nat_lt, ◌==◌}
use Rattle.std.specs.List.{All}
use Rattle.std.proofs.lemmas.Bool.Decides.{nat_tests}
use Rattle.std.proofs.lemmas.List.Elements.{All-cons, All-nil}
use Rattle.rule_laws.specs.declared.reference.Reference.{Reference}
use Rattle.rule_laws.specs.declared.reference.Arg.{Arg}
use Rattle.rule_laws.specs.declared.reference.Arg.TheVariants.{Fixed, Moved}
use Rattle.rule_laws.specs.RuleSystem.{IsCell, IsLeafCell}
use Rattle.rule_laws.specs.Ordered.{IsWellFormed}
use Rattle.rule_laws.proofs.SystemFacts.{both}
use Rattle.rule_witness.specs.Replenishment.{replenishment, opening, reserved, available, available_cells, named_cell, cube_of_cell}

named-below : (cube : ℕ) (args : List Arg) (t : ℕ) → named_cell cube args ≡ Some t → t < 5
named-below cube [] t e = cc
named-below cube (Fixed k ∷ []) t e = by (nat_lt k 5 && (cube_of_cell k == cube)) refl
  where
    by : (b : Bool) → (nat_lt k 5 && (cube_of_cell k == cube)) ≡ b → t < 5
    by true within =
        let found : Some k ≡ Some t = rw within at e in
        let same : k ≡ t = cc in
        let below : nat_lt k 5 ≡ true = (both (nat_lt k 5) (cube_of_cell k == cube) within).0 in
        let less : k < 5 = grind (arith, nat_tests) in
        subst (λ (n : ℕ). n < 5) same less
    by false out = let no : None ≡ Some t = rw out at e in cc
named-below cube (Fixed k ∷ (x ∷ xs)) t e = cc
named-below cube (Moved from places ∷ xs) t e = cc

pub formed : IsWellFormed replenishment
formed =
    record {
      leaves_below = below;
      target_cell = target;
      component_cells = cells;
      leaf_level = leaf;
      total_level = above;
    }
  where
    below : (c : ℕ) → IsCell replenishment c → All (λ pair. IsLeafCell replenishment pair.0 × (replenishment.rank pair.0 ≤ replenishment.rank c)) (replenishment.below c)
    below zero cell = All-nil _
    below (suc zero) cell = All-nil _
    below (suc (suc zero)) cell = All-nil _
    below (suc (suc (suc zero))) cell =
        let P : ℕ × ℤ → Type 0 = λ pair. IsLeafCell replenishment pair.0 × (replenishment.rank pair.0 ≤ replenishment.rank available) in
        let first : P (opening, pos 1) = ((lit< tt, refl), omega arith) in
        let second : P (reserved, negsuc 0) = ((lit< tt, refl), omega arith) in
        All-cons P (opening, pos 1) ((reserved, negsuc 0) ∷ []) first (All-cons P (reserved, negsuc 0) [] second (All-nil P))
    below (suc (suc (suc (suc zero)))) cell = All-nil _
    below (suc (suc (suc (suc (suc n))))) cell = absurd (omega (arith, cell))

    target : (r : Reference) (c t : ℕ) → IsCell replenishment c → replenishment.target r c ≡ Some t → IsCell replenishment t
    target r c t cell names = named-below r.cube r.args t names

    cells : (c dim : ℕ) (pairs : List (ℕ × ℤ)) → IsCell replenishment c → replenishment.components c dim ≡ Some pairs
        → All (λ pair. IsCell replenishment pair.0 × (replenishment.level pair.0 < replenishment.level c)) pairs
    cells zero dim pairs cell is = cc
    cells (suc zero) dim pairs cell is = cc
    cells (suc (suc zero)) dim pairs cell is = cc
    cells (suc (suc (suc zero))) zero pairs cell is =
        let P : ℕ × ℤ → Type 0 = λ pair. IsCell replenishment pair.0 × (replenishment.level pair.0 < replenishment.level available) in
        let listed : Some available_cells ≡ Some pairs = is in
        let same : available_cells ≡ pairs = cc in
        let first : P (opening, pos 1) = (lit< tt, lit< tt) in
        let second : P (reserved, negsuc 0) = (lit< tt, lit< tt) in
        subst (λ (ps : List (ℕ × ℤ)). All P ps) same
        (All-cons P (opening, pos 1) ((reserved, negsuc 0) ∷ []) first (All-cons P (reserved, negsuc 0) [] second (All-nil P)))
    cells (suc (suc (suc zero))) (suc dim) pairs cell is =
        let off : (suc dim == 0) ≡ false = grind (arith, nat_tests) in
        let no : None ≡ Some pairs = rw off at is in cc
    cells (suc (suc (suc (suc zero)))) dim pairs cell is = cc
    cells (suc (suc (suc (suc (suc n))))) dim pairs cell is = absurd (omega (arith, cell))

    leaf : (c : ℕ) → IsLeafCell replenishment c → replenishment.level c ≡ 0
    leaf zero here = refl
    leaf (suc zero) here = refl
    leaf (suc (suc zero)) here = refl
    leaf (suc (suc (suc zero))) here = let no : false ≡ true = here.1 in cc
    leaf (suc (suc (suc (suc zero)))) here = refl
    leaf (suc (suc (suc (suc (suc n))))) here = absurd (omega (arith, here.0))

    above : (c : ℕ) → IsCell replenishment c → replenishment.is_leaf c ≡ false → 0 < replenishment.level c
    above zero cell other = cc
    above (suc zero) cell other = cc
    above (suc (suc zero)) cell other = cc
    above (suc (suc (suc zero))) cell is = lit< tt
    above (suc (suc (suc (suc zero)))) cell other = cc
    above (suc (suc (suc (suc (suc n))))) cell is = absurd (omega (arith, cell))
