-- The right sides of an ordered system are grounded.
use Rattle.std.proofs.Common.{◌≡◌, refl, sym, ◌∙◌, ap, arith, ℕ, ◌+◌, ◌*◌, ◌<◌, ◌≤◌, ℤ, pos, Bool, true, false, List, [], ◌∷◌, get_or, Option, None, Some, inl, inr, ◌⊎◌, ◌+ℤ◌, ◌*ℤ◌}
use Rattle.std.specs.Prelude.{fold}
use Rattle.std.specs.Ordering.{int_eq}
use Rattle.std.specs.List.{All, Contains}
use Rattle.std.proofs.lemmas.Bool.Decides.{Decides-int_eq}
use Rattle.std.proofs.lemmas.Int.{ints}
use Rattle.std.proofs.lemmas.List.Elements.{All-head, All-tail, All-contains, All-weaker, Contains-get_or}
use Rattle.equations.specs.Equations.{IsGrounded, Outlasts}
use Rattle.equations.proofs.RoundsFacts.{table_by_rounds-solves, table_by_rounds-only}
use Rattle.cube_fixed.specs.declared.value.Value.{Value}
use Rattle.cube_fixed.specs.declared.value.Value.TheVariants.{Num, Over}
use Rattle.cube_fixed.specs.Arithmetic.{zero_value}
use Rattle.cube_fixed.specs.Total.{Total, no_terms, with_term, value_of}
use Rattle.rule_laws.specs.declared.reference.Reference.{Reference}
use Rattle.rule_laws.specs.declared.formula.Formula.{Formula}
use Rattle.rule_laws.specs.Meaning.{Others, Precedent, Named, Components, precedents}
use Rattle.rule_laws.specs.RuleSystem.{RuleSystem, Rule, Stored, IsCell, IsLeafCell, part_of, applies, part_at, weighted_sum, base, children_value, named, others, value_by, right_side, SolvesRules, depth, dense_value}
use Rattle.rule_laws.specs.Ordered.{IsWellFormed, IsCellOf, HasPrecedent, Throughout, IsOrderedRule, IsOrdered}
use Rattle.rule_laws.proofs.FormulaFacts.{Alike, formula_value-agree}
pub use Rattle.std.proofs.lemmas.Bool.{and_parts as both}

-- ---- lists

pub each : {X : Type 0} (xs : List X) (P : X → Type 0) → ((x : X) → Contains xs x → P x) → All P xs
each xs P holds k d less = holds (get_or xs k d) (Contains-get_or xs k d less)

-- ---- the weighted sum

-- one more pair of the list
abbrev pub add_pair : (ℕ → Value) → Total → ℕ × ℤ → Total
add_pair table total pair = with_term total pair.1 (table pair.0)

-- a pair counts alike: it has the weight 0, or the same value
abbrev pub CountsAlike : (ℕ → Value) → (ℕ → Value) → ℕ × ℤ → Type 0
CountsAlike S T pair = (pair.1 ≡ pos 0) ⊎ (S pair.0 ≡ T pair.0)

counts_alike : (S T : ℕ → Value) (pair : ℕ × ℤ) → ((pair.1 ≡ pos 0 → ⊥) → S pair.0 ≡ T pair.0) → CountsAlike S T pair
counts_alike S T pair same = by (int_eq pair.1 (pos 0)) refl
  where
    by : (b : Bool) → int_eq pair.1 (pos 0) ≡ b → CountsAlike S T pair
    by true zero = inl ((Decides-int_eq pair.1 (pos 0)).0 zero)
    by false other = inr (same (λ e. let clash : true ≡ false = sym ((Decides-int_eq pair.1 (pos 0)).1 e) ∙ other in cc))

nothing : (total : Total) (v : Value) → with_term total (pos 0) v ≡ record { exact = total.exact; over = total.over; terms = total.terms + 1 }
nothing total (Num z) = by (total.exact) (total.over) refl
  where
    by : (exact : ℤ) (over : Bool) → total.over ≡ over → with_term total (pos 0) (Num z) ≡ record { exact = total.exact; over = total.over; terms = total.terms + 1 }
    by exact true is = let same : (total.exact +ℤ (pos 0 *ℤ z)) ≡ total.exact = omega (arith, ints) in rw (is, same) refl
    by exact false is = let same : (total.exact +ℤ (pos 0 *ℤ z)) ≡ total.exact = omega (arith, ints) in rw (is, same) refl
nothing total Over = by total.over refl
  where
    by : (over : Bool) → total.over ≡ over → with_term total (pos 0) Over ≡ record { exact = total.exact; over = total.over; terms = total.terms + 1 }
    by true is = let same : (total.exact +ℤ pos 0) ≡ total.exact = omega (arith, ints) in rw (is, same) refl
    by false is = let same : (total.exact +ℤ pos 0) ≡ total.exact = omega (arith, ints) in rw (is, same) refl

term-agree : (S T : ℕ → Value) (total : Total) (pair : ℕ × ℤ) → CountsAlike S T pair → add_pair S total pair ≡ add_pair T total pair
term-agree S T total pair (inl none) = ap (λ (weight : ℤ). with_term total weight (S pair.0)) none ∙ nothing total (S pair.0) ∙ sym (nothing total (T pair.0)) ∙ ap (λ (weight : ℤ). with_term total weight (T pair.0)) (sym none)
term-agree S T total pair (inr same) = ap (with_term total pair.1) same

fold-agree : (S T : ℕ → Value) (pairs : List (ℕ × ℤ)) (total : Total) → All (CountsAlike S T) pairs
    → fold (add_pair S) total pairs ≡ fold (add_pair T) total pairs
fold-agree S T [] total agree = refl
fold-agree S T (pair ∷ pairs) total agree =
    ap (λ (sum : Total). fold (add_pair S) sum pairs) (term-agree S T total pair (All-head (CountsAlike S T) pair pairs agree))
    ∙ fold-agree S T pairs (add_pair T total pair) (All-tail (CountsAlike S T) pair pairs agree)

pub weighted_sum-agree : (S T : ℕ → Value) (pairs : List (ℕ × ℤ)) → All (CountsAlike S T) pairs → weighted_sum S pairs ≡ weighted_sum T pairs
weighted_sum-agree S T pairs agree = ap value_of (fold-agree S T pairs no_terms agree)

-- ---- the part of a rule

pub part_at-given : (w : RuleSystem) (c : ℕ) (rule : Rule) (f : Formula) → part_at w c rule ≡ Some f
    → (applies w c rule ≡ true) × (part_of rule (w.is_leaf c) ≡ Some f)
part_at-given w c rule f e = by (applies w c rule) refl
  where
    by : (b : Bool) → applies w c rule ≡ b → (applies w c rule ≡ true) × (part_of rule (w.is_leaf c) ≡ Some f)
    by true on = (on, rw on at e)
    by false off = let no : None ≡ Some f = rw off at e in cc

-- ---- grounded

-- two tables that agree on all cells less deep than this one
abbrev pub AgreeBelow : RuleSystem → (ℕ → Value) → (ℕ → Value) → ℕ → Type 0
AgreeBelow w S T c = (x : ℕ) → IsCell w x → depth w x < depth w c → S x ≡ T x

module _ (w : RuleSystem) (formed : IsWellFormed w) where
  -- a leaf cell is less deep than a total that ranks no lower
  less_deep : (x c : ℕ) → IsLeafCell w x → IsCell w c → w.is_leaf c ≡ false → w.rank x ≤ w.rank c → depth w x < depth w c
  less_deep x c leaf cell total below =
      let none : w.level x ≡ 0 = formed.leaf_level x leaf in
      let some : 0 < w.level c = formed.total_level c cell total in
      more (w.levels) (w.rank x) (w.rank c) below none some
    where
      more : (n a b : ℕ) → a ≤ b → w.level x ≡ 0 → 0 < w.level c → n * a + w.level x < n * b + w.level c
      more n a b at_most none some = grind arith

  -- what lies below a consolidated cell lies less deep
  pub below-depth : (c : ℕ) → IsCell w c → w.is_leaf c ≡ false
      → All (λ pair. IsLeafCell w pair.0 × (depth w pair.0 < depth w c)) (w.below c)
  below-depth c cell total =
      All-weaker (λ pair. IsLeafCell w pair.0 × (w.rank pair.0 ≤ w.rank c)) (λ pair. IsLeafCell w pair.0 × (depth w pair.0 < depth w c))
      (λ pair h. (h.0, less_deep pair.0 c h.0 cell total h.1))
      (w.below c) (formed.leaves_below c cell)

  module _ (stored : Stored) (S T : ℕ → Value) (c : ℕ) (cell : IsCell w c) (agree : AgreeBelow w S T c) where
    base-agree : base w stored S c ≡ base w stored T c
    base-agree = by_kind (w.is_leaf c) refl
      where
        by_kind : (kind : Bool) → w.is_leaf c ≡ kind → base w stored S c ≡ base w stored T c
        by_kind true leaf = rw leaf refl
        by_kind false total =
            let same : weighted_sum S (w.below c) ≡ weighted_sum T (w.below c) =
            weighted_sum-agree S T (w.below c)
            (All-weaker (λ pair. IsLeafCell w pair.0 × (depth w pair.0 < depth w c)) (CountsAlike S T)
            (λ pair h. inr (agree pair.0 h.0.0 h.1)) (w.below c) (below-depth c cell total)) in
            rw total same

    named-agree : (r : Reference) → ((t : ℕ) → w.target r c ≡ Some t → depth w t < depth w c) → named w S c r ≡ named w T c r
    named-agree r less = by_target (w.target r c) refl
      where
        by_target : (o : Option ℕ) → w.target r c ≡ o → named w S c r ≡ named w T c r
        by_target None none = rw none refl
        by_target (Some t) some = rw some (agree t (formed.target_cell r c t cell some) (less t some))

    children-agree : (dim : ℕ) → ((t : ℕ) → HasPrecedent w (Components dim) c t → depth w t < depth w c)
        → children_value w stored S c dim ≡ children_value w stored T c dim
    children-agree dim less = by_components (w.components c dim) refl
      where
        by_components : (o : Option (List (ℕ × ℤ))) → w.components c dim ≡ o → children_value w stored S c dim ≡ children_value w stored T c dim
        by_components None none = rw none base-agree
        by_components (Some pairs) some =
            let cells = formed.component_cells c dim pairs cell some in
            let alike : (pair : ℕ × ℤ) → Contains pairs pair → CountsAlike S T pair =
            λ pair has.
            let here = All-contains (λ pair. IsCell w pair.0 × (w.level pair.0 < w.level c)) pairs pair cells has in
            counts_alike S T pair (λ counted. agree pair.0 here.0 (less pair.0 (pairs, some, (pair.1, has, counted)))) in
            rw some (weighted_sum-agree S T pairs (each pairs (CountsAlike S T) alike))

    precedent-agree : (v u : Value) (p : Precedent) → ((t : ℕ) → HasPrecedent w p c t → depth w t < depth w c)
        → Alike (named w S c) (named w T c) (others w stored S c v) (others w stored T c u) p
    precedent-agree v u (Named r) less = named-agree r less
    precedent-agree v u (Components dim) less = children-agree dim less

    value_by-agree : (rules : List Rule) → All (IsOrderedRule w) rules → value_by w stored S c rules ≡ value_by w stored T c rules
    value_by-agree [] ordered = base-agree
    value_by-agree (rule ∷ rules) ordered = by_part (value_by-agree rules (All-tail (IsOrderedRule w) rule rules ordered)) (part_at w c rule) refl
      where
        by_part : value_by w stored S c rules ≡ value_by w stored T c rules
            → (o : Option Formula) → part_at w c rule ≡ o → value_by w stored S c (rule ∷ rules) ≡ value_by w stored T c (rule ∷ rules)
        by_part later None none = rw none later
        by_part later (Some f) some =
            let given = part_at-given w c rule f some in
            let here : IsCellOf w rule (w.is_leaf c) c = record { cell = cell; kind_is = refl; applied = given.0 } in
            let earlier : All (λ p. Throughout w rule (w.is_leaf c) p (λ c t. depth w t < depth w c)) (precedents f) =
            All-head (IsOrderedRule w) rule rules ordered (w.is_leaf c) f given.1 in
            let less : (p : Precedent) → Contains (precedents f) p → (t : ℕ) → HasPrecedent w p c t → depth w t < depth w c =
            λ p has t precedes. All-contains (λ p. Throughout w rule (w.is_leaf c) p (λ c t. depth w t < depth w c)) (precedents f) p earlier has c t here precedes in
            let xs : Others = others w stored S c (value_by w stored S c rules) in
            let ys : Others = others w stored T c (value_by w stored T c rules) in
            let same : (p : Precedent) → Contains (precedents f) p → Alike (named w S c) (named w T c) xs ys p =
            λ p has. precedent-agree (value_by w stored S c rules) (value_by w stored T c rules) p (less p has) in
            rw some (formula_value-agree (named w S c) (named w T c) xs ys base-agree later refl f same)

  pub right_side-grounded : (stored : Stored) → IsOrdered w → IsGrounded (IsCell w) (depth w) (right_side w stored)
  right_side-grounded stored ordered S T c cell agree = value_by-agree stored S T c cell agree w.rules ordered

  rounds-outlast : Outlasts (IsCell w) (λ c. depth w c + 1) (depth w)
  rounds-outlast c cell = omega arith

  -- ---- the dense values are the one solution

  pub dense_value-solves : (stored : Stored) → IsOrdered w → SolvesRules w stored (dense_value w stored)
  dense_value-solves stored ordered =
      table_by_rounds-solves (IsCell w) (depth w) (right_side w stored) (right_side-grounded stored ordered) zero_value (λ c. depth w c + 1) rounds-outlast

  pub dense_value-only : (stored : Stored) → IsOrdered w → (table : ℕ → Value) → SolvesRules w stored table
      → (c : ℕ) → IsCell w c → table c ≡ dense_value w stored c
  dense_value-only stored ordered =
      table_by_rounds-only (IsCell w) (depth w) (right_side w stored) (right_side-grounded stored ordered) zero_value (λ c. depth w c + 1) rounds-outlast
