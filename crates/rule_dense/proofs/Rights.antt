-- The right side of a cell's equation, by the statement that governs it.
use Rattle.std.proofs.Common.{◌≡◌, refl, sym, ◌∙◌, ap, ℕ, zero, suc, true, List, [], ◌∷◌, drop, Some, None}
use Rattle.std.specs.Prelude.{slice_get, IsSome}
use Rattle.std.proofs.lemmas.Bool.{lt-ltb}
use Rattle.std.proofs.lemmas.Option.{option_and_then_some}
use Rattle.cube_fixed.specs.declared.value.Value.{Value}
use Rattle.cube_fixed.specs.Arithmetic.{zero_value}
use Rattle.cube_space.specs.Cells.{IsCell, size_of}
use Rattle.rule_laws.specs.Meaning.{Precedent, Named, Components}
use Rattle.rule_laws.specs.RuleSystem.{Rule, Stored, base, part_at, value_at, value_by, right_side}
use Rattle.rule_model.specs.BoundModel.{BoundModel}
use Rattle.rule_model.specs.System.{system_of}
use Rattle.rule_model.specs.Governing.{rules_for, governing_from, formula_at}
use Rattle.model_laws.specs.Statements.{value_by_cube}
use Rattle.model_laws.proofs.Statements.{split, value-all, turn-none, turn-some}
use Rattle.rule_evaluate.specs.Readings.{readings_of, statements_value}
use Rattle.rule_evaluate.specs.Course.{MayRead, passes}
use Rattle.rule_evaluate.proofs.TableReadings.{readings-same}
use Rattle.rule_evaluate.proofs.AskedFacts.{all-pass}
use Rattle.rule_dense.specs.Inside.Plain.{PlainTable, plain_readings, may_be_asked}

first-of : {X : Type 0} (xs : List X) (k : ℕ) (x : X) → slice_get xs k ≡ Some x → drop k xs ≡ x ∷ drop (suc k) xs
first-of [] k x is = absurd (cc)
first-of (y ∷ xs) zero x is = let same : y ≡ x = cc in ap (λ z. z ∷ xs) same
first-of (y ∷ xs) (suc k) x is = first-of xs k x is

-- a statement that governs a cell has a part for it
pub part-there : (m : BoundModel) (c k : ℕ) → governing_from m c 0 ≡ Some k → IsSome (formula_at m c k)
part-there m c k governs = let (f, has, gives) = turn-some m (λ x. None) (λ x. zero_value) c 0 k governs in rw has refl

module _ (m : BoundModel) (stored : Stored) (table : ℕ → Value) (c : ℕ) (is_cell : IsCell m.space c) where
  by_cube : right_side (system_of m) stored table c ≡ value_by_cube m stored table c 0
  unfolding system_of
  by_cube = value-all m c (split m c is_cell) stored table

  pub right-ungoverned : governing_from m c 0 ≡ None → right_side (system_of m) stored table c ≡ base (system_of m) stored table c
  right-ungoverned none = by_cube ∙ turn-none m stored table c 0 none

  -- from the statement that governs the cell on, its statements give it what all of them give
  from-governing : (k : ℕ) → governing_from m c 0 ≡ Some k → value_by (system_of m) stored table c (drop k (rules_for m c)) ≡ right_side (system_of m) stored table c
  from-governing k governs =
      let (f, has, gives) = turn-some m stored table c 0 k governs in
      option_and_then_some (part_at (system_of m) c) (slice_get (rules_for m c) k) f has
      (λ rule at part.
      let here : value_by (system_of m) stored table c (rule ∷ drop (suc k) (rules_for m c)) ≡ value_at (system_of m) stored table c (value_by_cube m stored table c (suc k)) f = rw part refl in
      ap (value_by (system_of m) stored table c) (first-of (rules_for m c) k rule at) ∙ here ∙ sym gives ∙ sym by_cube)

  pub right-governed : (k : ℕ) → governing_from m c 0 ≡ Some k
      → statements_value (system_of m) (readings_of (system_of m) stored table) c (drop k (rules_for m c)) ≡ right_side (system_of m) stored table c
  right-governed k governs = readings-same (system_of m) stored table c (drop k (rules_for m c)) ∙ from-governing k governs

-- a table may be asked all that statements ask of a cell
pub asked-of_cell : (p : PlainTable) (c : ℕ) → IsCell p.model.space c → (rules : List Rule) → passes (system_of p.model) (plain_readings p) c (may_be_asked p) rules ≡ true
asked-of_cell p c is_cell rules =
    all-pass (system_of p.model) (plain_readings p) c (may_be_asked p) (lt-ltb c (size_of p.model.space) is_cell) rules (λ rule f has part q reads. may q)
  where
    may : (q : Precedent) → MayRead (system_of p.model) (may_be_asked p) c q
    may (Named r) = λ x names. refl
    may (Components dim) = λ some. lt-ltb c (size_of p.model.space) is_cell
