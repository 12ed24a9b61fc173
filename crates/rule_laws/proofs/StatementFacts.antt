-- The statements of a cell, one after the other: which governs, and what the others give.
use Rattle.std.proofs.Common.{◌≡◌, refl, sym, ◌∙◌, ap, arith, ℕ, zero, suc, ◌+◌, subst, List, [], ◌∷◌, drop, Option, None, Some}
use Rattle.std.specs.Prelude.{option_and_then, slice_get}
use Rattle.std.specs.List.{position}
use Rattle.std.specs.Option.{option_map_or}
use Rattle.cube_fixed.specs.declared.value.Value.{Value}
use Rattle.rule_laws.specs.declared.formula.Formula.{Formula}
use Rattle.rule_laws.specs.RuleSystem.{RuleSystem, Rule, Stored, part_at, base, value_at, value_by, governing, governing_from, value_from, formula_at}
use Rattle.std.proofs.lemmas.Option.{same_Some as some-same}
use Rattle.rule_laws.proofs.StatementRuns.{some-none, governs, run, run-none, run-some}

pub slice_get-drop_at : {X : Type 0} (xs : List X) (n k : ℕ) → slice_get (drop n xs) k ≡ slice_get xs (n + k)
slice_get-drop_at xs zero k = let e : 0 + k ≡ k = omega arith in rw e refl
slice_get-drop_at [] (suc n) k = refl
slice_get-drop_at (x ∷ xs) (suc n) k = let e : suc n + k ≡ suc (n + k) = omega arith in rw e (slice_get-drop_at xs n k)

pub drop_after : {X : Type 0} (xs : List X) (n k : ℕ) → drop (suc k) (drop n xs) ≡ drop (suc (n + k)) xs
drop_after xs zero k = let e : suc (0 + k) ≡ suc k = omega arith in rw e refl
drop_after [] (suc n) k = refl
drop_after (x ∷ xs) (suc n) k = let e : suc (suc n + k) ≡ suc (suc (n + k)) = omega arith in rw e (drop_after xs n k)

module _ (w : RuleSystem) (c : ℕ) where
  abbrev step : Stored → (ℕ → Value) → List Rule → Value → Formula → Value
  step stored table later rest f = value_at w stored table c rest f

  value-runs : (stored : Stored) (table : ℕ → Value) (rules : List Rule) → value_by w stored table c rules ≡ run w c (base w stored table c) (step stored table) rules
  value-runs stored table [] = refl
  value-runs stored table (rule ∷ rules) = ap (λ x. option_map_or (value_at w stored table c x) (part_at w c rule) x) (value-runs stored table rules)

  -- the first that has a part for the cell
  abbrev Governed : Stored → (ℕ → Value) → List Rule → ℕ → Type 0
  Governed stored table rules k =
      (f : Formula) × (option_and_then (part_at w c) (slice_get rules k) ≡ Some f)
      × (value_by w stored table c rules ≡ value_at w stored table c (value_by w stored table c (drop (suc k) rules)) f)

  one-governs : (stored : Stored) (table : ℕ → Value) (rules : List Rule) (k : ℕ) → position (governs w c) rules ≡ Some k → Governed stored table rules k
  one-governs stored table rules k some =
      let ran = run-some w c (base w stored table c) (step stored table) rules k some in
      (ran.0, ran.1, value-runs stored table rules ∙ ran.2 ∙ ap (λ x. value_at w stored table c x ran.0) (sym (value-runs stored table (drop (suc k) rules))))

  -- from place n on
  pub from-none : (stored : Stored) (table : ℕ → Value) (n : ℕ) → governing_from w c n ≡ None → value_from w stored table c n ≡ base w stored table c
  from-none stored table n none = by (position (governs w c) (drop n w.rules)) refl
    where
      by : (p : Option ℕ) → position (governs w c) (drop n w.rules) ≡ p → value_from w stored table c n ≡ base w stored table c
      by (Some k) place = absurd (some-none (n + k) (rw place at none))
      by None place = value-runs stored table (drop n w.rules) ∙ run-none w c (base w stored table c) (step stored table) (drop n w.rules) place

  abbrev GovernedFrom : Stored → (ℕ → Value) → ℕ → ℕ → Type 0
  GovernedFrom stored table n m =
      (f : Formula) × (formula_at w c m ≡ Some f)
      × (value_from w stored table c n ≡ value_at w stored table c (value_from w stored table c (suc m)) f)

  pub from-some : (stored : Stored) (table : ℕ → Value) (n m : ℕ) → governing_from w c n ≡ Some m
      → (f : Formula) × (formula_at w c m ≡ Some f)
      × (value_from w stored table c n ≡ value_at w stored table c (value_from w stored table c (suc m)) f)
  from-some stored table n m some = by (position (governs w c) (drop n w.rules)) refl
    where
      by : (p : Option ℕ) → position (governs w c) (drop n w.rules) ≡ p → GovernedFrom stored table n m
      by None place = absurd (some-none m (sym (rw place at some)))
      by (Some k) place =
          let is : n + k ≡ m = some-same (n + k) m (rw place at some) in
          let first = one-governs stored table (drop n w.rules) k place in
          let at : slice_get (drop n w.rules) k ≡ slice_get w.rules (n + k) = slice_get-drop_at w.rules n k in
          let after : drop (suc k) (drop n w.rules) ≡ drop (suc (n + k)) w.rules = drop_after w.rules n k in
          subst (GovernedFrom stored table n) is (
            first.0,
            ap (option_and_then (part_at w c)) (sym at) ∙ first.1,
            first.2 ∙ ap (λ (later : List Rule). value_at w stored table c (value_by w stored table c later) first.0) after,
          )

pub value_by-ungoverned : (w : RuleSystem) (stored : Stored) (table : ℕ → Value) (c : ℕ) → governing w c ≡ None → value_by w stored table c w.rules ≡ base w stored table c
value_by-ungoverned w stored table c none = from-none w c stored table 0 none
