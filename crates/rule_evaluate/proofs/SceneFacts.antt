-- The statements of the cell that is evaluated, one after the other.
use Rattle.std.proofs.Common.{IsSome, false, arith, subst, ◌≡◌, refl, sym, ◌∙◌, ap, ℕ, suc, ◌+◌, add-one, Bool, true, ◌&&◌, List, [], ◌∷◌, drop, Option, None, Some}
use Rattle.std.specs.Prelude.{option_and_then, slice_get, if◌then◌else◌}
use Rattle.std.specs.Option.{option_map_or}
use Rattle.std.specs.Borrow.{Bor}
use Rattle.std.specs.List.{position}
use Rattle.cube_fixed.specs.declared.value.Value.{Value}
use Rattle.rule_laws.specs.declared.formula.Formula.{Formula}
use Rattle.rule_laws.specs.RuleSystem.{RuleSystem, Rule, part_at}
use Rattle.rule_laws.proofs.SystemFacts.{both}
use Rattle.rule_model.specs.Governing.{rules_for, has_part, governing_from, formula_at}
use Rattle.rule_model.specs.System.{system_of}
use Rattle.rule_evaluate.specs.declared.ask.Ask.{Ask}
use Rattle.rule_evaluate.specs.declared.ask.Ask.TheVariants.{Base as of_base}
use Rattle.rule_evaluate.specs.Readings.{Readings, statements_value, formula_by}
use Rattle.rule_evaluate.specs.Course.{course_before, passes, entered, sources_of}
use Rattle.rule_evaluate.specs.Inside.Scene.{Scene, IsGoverning, sources_at, course_from, value_from, passes_from, entered_from, entered_on, entered_after, IsReady}
use Rattle.rule_evaluate.proofs.CourseFacts.{course_is}
use Rattle.rule_evaluate.proofs.FormulaWeights.{weight}
use Rattle.lists.proofs.Found.{some_same}
use Rattle.rule_laws.proofs.StatementFacts.{slice_get-drop_at, drop_after}
use Rattle.rule_laws.proofs.StatementRuns.{run, run-none, run-some}

-- how much there is to evaluate of the statements from a place on
abbrev cost_step : List Rule → ℕ → Formula → ℕ
cost_step rules cost f = 4 + (weight f + cost)

unfoldable pub cost_from : Scene → ℕ → ℕ
cost_from s from = run (system_of s.model) s.cell 0 cost_step (drop from (rules_for s.model s.cell))

module _ (s : Scene) where
  abbrev w : RuleSystem
  w = system_of s.model

  abbrev rules : List Rule
  rules = rules_for s.model s.cell

  abbrev first : ℕ → Option ℕ
  first from = position (has_part s.model s.cell) (drop from rules)

  none-first : (from : ℕ) → governing_from s.model s.cell from ≡ None → first from ≡ None
  unfolding governing_from
  none-first from is = by (first from) refl
    where
      by : (o : Option ℕ) → first from ≡ o → first from ≡ None
      by None e = e
      by (Some k) e = let clash : Some (from + k) ≡ None = rw e at is in cc

  some-first : (from p : ℕ) → governing_from s.model s.cell from ≡ Some p → (k : ℕ) × (first from ≡ Some k) × (from + k ≡ p)
  unfolding governing_from
  some-first from p is = by (first from) refl
    where
      by : (o : Option ℕ) → first from ≡ o → (k : ℕ) × (first from ≡ Some k) × (from + k ≡ p)
      by None e = let clash : None ≡ Some p = rw e at is in cc
      by (Some k) e = let same : Some (from + k) ≡ Some p = rw e at is in (k, e, cc)

  module _ {X : Type 0} (none : X) (step : List Rule → X → Formula → X) where
    abbrev from_place : ℕ → X
    from_place from = run w s.cell none step (drop from rules)

    pub place-none : (from : ℕ) → governing_from s.model s.cell from ≡ None → from_place from ≡ none
    place-none from is = run-none w s.cell none step (drop from rules) (none-first from is)

    place-some : (from : ℕ) (found : ℕ × Bor Formula) → IsGoverning s from found
        → from_place from ≡ step (drop (found.0 + 1) rules) (from_place (found.0 + 1)) found.1.now
    place-some from found governs =
        let (k, here, add) = some-first from found.0 governs.first in
        let there : option_and_then (part_at w s.cell) (slice_get (drop from rules) k) ≡ Some found.1.now =
        ap (option_and_then (part_at w s.cell)) (slice_get-drop_at rules from k ∙ ap (slice_get rules) add) ∙ governs.part in
        let after : drop (suc k) (drop from rules) ≡ drop (found.0 + 1) rules = drop_after rules from k ∙ ap (λ n. drop n rules) (ap (λ n. suc n) add ∙ sym (add-one found.0)) in
        let ran = run-some w s.cell none step (drop from rules) k here in
        let same : ran.0 ≡ found.1.now = some_same (sym ran.1 ∙ there) in
        subst (λ f. from_place from ≡ step (drop (suc k) (drop from rules)) (run w s.cell none step (drop (suc k) (drop from rules))) f) same ran.2
        ∙ ap (λ later. step later (run w s.cell none step later) found.1.now) after

  pub cost-some : (from : ℕ) (found : ℕ × Bor Formula) → IsGoverning s from found
      → cost_from s from ≡ 4 + (weight found.1.now + cost_from s (found.0 + 1))
  unfolding cost_from
  cost-some from found governs = place-some 0 cost_step from found governs

  module _ (t : Readings) where
    value_step : List Rule → Value → Formula → Value
    value_step later x f = formula_by w t s.cell x f

    value-runs : (rs : List Rule) → statements_value w t s.cell rs ≡ run w s.cell (t.base s.cell) value_step rs
    unfolding value_step
    value-runs [] = refl
    value-runs (rule ∷ rs) = ap (λ x. option_map_or (formula_by w t s.cell x) (part_at w s.cell rule) x) (value-runs rs)

    pub value-none : (from : ℕ) → governing_from s.model s.cell from ≡ None → (sources_at s t).stet.value ≡ value_from s t from
    unfolding value_from sources_of
    value-none from is = sym (value-runs (drop from rules) ∙ place-none (t.base s.cell) value_step from is)

    pub value-some : (from : ℕ) (found : ℕ × Bor Formula) → IsGoverning s from found
        → (course_from s t (found.0 + 1) found.1.now).value ≡ value_from s t from
    unfolding value_from value_step
    value-some from found governs =
        let rest = drop (found.0 + 1) rules in
        (course_is w t s.cell (statements_value w t s.cell rest) found.1.now).1
        ∙ ap (λ x. formula_by w t s.cell x found.1.now) (value-runs rest)
        ∙ sym (value-runs (drop from rules) ∙ place-some (t.base s.cell) value_step from found governs)

    entered_step : List Rule → ℕ → Formula → ℕ
    entered_step later x f = suc (entered_on (course_before w t s.cell later f) x)

    entered-runs : (rs : List Rule) → entered w t s.cell rs ≡ run w s.cell 0 entered_step rs
    unfolding entered_step
    entered-runs [] = refl
    entered-runs (rule ∷ rs) = ap (λ x. option_map_or (λ f. suc (entered_on (course_before w t s.cell rs f) x)) (part_at w s.cell rule) x) (entered-runs rs)

    pub entered-none : (from : ℕ) → governing_from s.model s.cell from ≡ None → entered_from s t from ≡ 0
    unfolding entered_from
    entered-none from is = entered-runs (drop from rules) ∙ place-none 0 entered_step from is

    pub entered-some : (from : ℕ) (found : ℕ × Bor Formula) → IsGoverning s from found
        → entered_from s t from ≡ suc (entered_after s t (found.0 + 1) found.1.now)
    unfolding entered_from entered_step value_from
    entered-some from found governs =
        let rest = drop (found.0 + 1) rules in
        entered-runs (drop from rules) ∙ place-some 0 entered_step from found governs
        ∙ ap (λ x. suc (entered_on (course_before w t s.cell rest found.1.now) x)) (sym (entered-runs rest))

    module _ (may : Ask → Bool) where
      passes_step : List Rule → Bool → Formula → Bool
      passes_step later x f = (course_before w t s.cell later f).passes may && (if (course_before w t s.cell later f).goes_on then x else true)

      passes-runs : (rs : List Rule) → passes w t s.cell may rs ≡ run w s.cell (may (of_base s.cell)) passes_step rs
      unfolding passes_step
      passes-runs [] = refl
      passes-runs (rule ∷ rs) =
          ap (λ x. option_map_or (λ f. (course_before w t s.cell rs f).passes may && (if (course_before w t s.cell rs f).goes_on then x else true)) (part_at w s.cell rule) x) (passes-runs rs)

      pub passes-none : (from : ℕ) → governing_from s.model s.cell from ≡ None → passes_from s t may from ≡ true → (sources_at s t).stet.passes may ≡ true
      unfolding passes_from sources_of
      passes-none from is p = sym (passes-runs (drop from rules) ∙ place-none (may (of_base s.cell)) passes_step from is) ∙ p

      when_on : (b x : Bool) → (if b then x else true) ≡ true → b ≡ true → x ≡ true
      when_on b x e on = rw on at e

      pub passes-some : (from : ℕ) (found : ℕ × Bor Formula) → IsGoverning s from found → passes_from s t may from ≡ true → IsReady s t may (found.0 + 1) found.1.now
      unfolding passes_from passes_step value_from
      passes-some from found governs ok =
          let rest = drop (found.0 + 1) rules in
          let x = course_before w t s.cell rest found.1.now in
          let e = passes-runs (drop from rules) ∙ place-some (may (of_base s.cell)) passes_step from found governs
          ∙ ap (λ b. x.passes may && (if x.goes_on then b else true)) (sym (passes-runs rest)) in
          let (own, later) = both (x.passes may) (if x.goes_on then passes w t s.cell may rest else true) (sym e ∙ ok) in
          record { passes = own; rest = when_on x.goes_on (passes w t s.cell may rest) later }

abbrev any_step : List Rule → Bool → Formula → Bool
any_step later x f = true

some-part : (s : Scene) (rs : List Rule) → IsSome (option_and_then (part_at (system_of s.model) s.cell) (slice_get rs 0))
    → run (system_of s.model) s.cell false any_step rs ≡ true
some-part s [] some = let clash : false ≡ true = some in absurd (cc clash)
some-part s (rule ∷ rs) some = by (part_at (system_of s.model) s.cell rule) refl
  where
    by : (o : Option Formula) → part_at (system_of s.model) s.cell rule ≡ o → run (system_of s.model) s.cell false any_step (rule ∷ rs) ≡ true
    by None is = let clash : false ≡ true = rw is at some in absurd (cc clash)
    by (Some f) is = rw is refl

-- a statement that has a part for the cell is the first from its own place on
pub part-governs : (s : Scene) (place : ℕ) → IsSome (formula_at s.model s.cell place) → IsSome (governing_from s.model s.cell place)
part-governs s place part = by (governing_from s.model s.cell place) refl
  where
    there : slice_get (drop place (rules_for s.model s.cell)) 0 ≡ slice_get (rules_for s.model s.cell) place
    there = slice_get-drop_at (rules_for s.model s.cell) place 0 ∙ ap (slice_get (rules_for s.model s.cell)) (omega arith)

    by : (o : Option ℕ) → governing_from s.model s.cell place ≡ o → IsSome (governing_from s.model s.cell place)
    by None is =
        let off = place-none s false any_step place is in
        let on = some-part s (drop place (rules_for s.model s.cell)) (subst (λ o. IsSome (option_and_then (part_at (system_of s.model) s.cell) o)) (sym there) part) in
        let clash : true ≡ false = sym on ∙ off in
        absurd (cc clash)
    by (Some k) is = subst IsSome (sym is) refl
