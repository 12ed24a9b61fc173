-- A leaf cell that is neither stored nor fed is 0, so it changes neither a sum nor the parts that are listed.
use Rattle.std.proofs.Common.{◌≡◌, refl, ap, ℕ, ◌≤◌, Bool, true, false, not, ℤ, List, [], ◌∷◌, filter}
use Rattle.std.specs.List.{All}
use Rattle.std.proofs.lemmas.List.Elements.{All-head, All-tail, All-weaker}
use Rattle.accepted.specs.Checks.{IsAccepted}
use Rattle.cell_store.specs.Entries.{cells_of}
use Rattle.cell_values.specs.Reading.{value_on}
use Rattle.cell_values.specs.Inside.Questions.{base_on, leaves_on}
use Rattle.cell_values.specs.Inside.Sums.{sum_on}
use Rattle.cell_values.proofs.SumFacts.{base-sum}
use Rattle.cell_values.proofs.Values.{formed, quiet-value}
use Rattle.cell_versions.specs.Versions.{NumberedVersion}
use Rattle.cube_fixed.specs.Arithmetic.{is_zero}
use Rattle.cube_space.specs.Cells.{IsSpace, IsCell, is_leaf_cell}
use Rattle.feed_map.specs.FedCells.{AreFedCells}
use Rattle.rule_laws.specs.RuleSystem.{IsLeafCell, weighted_sum}
use Rattle.rule_model.specs.Conditions.{AreRules}
use Rattle.rule_model.specs.System.{system_of}
use Rattle.rule_model.specs.Weights.{leaves_below}
use Rattle.sparse_sum.specs.Live.{is_live, live_below}
use Rattle.sparse_sum.specs.Walking.{Progress, left}

-- what passes one of two tests needs the other alone
filter-first : {X : Type 0} (p q : X → Bool) (xs : List X) → All (λ x. p x ≡ false → q x ≡ false) xs → filter q (filter p xs) ≡ filter q xs
filter-first {X} p q [] all = refl
filter-first {X} p q (x ∷ xs) all = by (p x) refl (q x) refl (filter-first p q xs (All-tail (λ x. p x ≡ false → q x ≡ false) x xs all))
  where
    by : (a : Bool) → p x ≡ a → (b : Bool) → q x ≡ b → filter q (filter p xs) ≡ filter q xs → filter q (filter p (x ∷ xs)) ≡ filter q (x ∷ xs)
    by true on true is rest = rw (on, is) (ap (λ (ys : List X). x ∷ ys) rest)
    by true on false is rest = rw (on, is) rest
    by false off true is rest = let clash = All-head (λ x. p x ≡ false → q x ≡ false) x xs all off in absurd (cc)
    by false off false is rest = rw (off, is) rest

-- the stored or fed leaf cells below a cell, and those of them that a walk has left
abbrev pub live : NumberedVersion → ℕ → List (ℕ × ℤ)
live v c = live_below v.model.space (cells_of v.stored) v.fed c

abbrev pub live_left : NumberedVersion → Progress → List (ℕ × ℤ)
live_left v walk = left v.model.space (cells_of v.stored) v.fed walk

module _ (v : NumberedVersion) (valid : IsSpace v.model.space) (rules : AreRules v.model.space v.model.rules) (accepted : IsAccepted v.model) (fed : AreFedCells v.model v.stored v.fed)
    (c : ℕ) (is_cell : IsCell v.model.space c) where
  pub live-sum : is_leaf_cell v.model.space c ≡ false → weighted_sum (value_on v) (live v c) ≡ weighted_sum (value_on v) (leaves_below v.model.space c)
  unfolding base_on leaves_on sum_on system_of
  live-sum total = rw total at (base-sum v valid rules accepted fed c is_cell total)

  pub live-parts : filter (λ pair. not (is_zero (value_on v pair.0))) (live v c) ≡ filter (λ pair. not (is_zero (value_on v pair.0))) (leaves_below v.model.space c)
  unfolding system_of
  live-parts =
      filter-first (λ pair. is_live (cells_of v.stored) v.fed pair.0) (λ pair. not (is_zero (value_on v pair.0))) (leaves_below v.model.space c)
      (All-weaker (λ pair. IsLeafCell (system_of v.model) pair.0 × ((system_of v.model).rank pair.0 ≤ (system_of v.model).rank c)) (λ pair. is_live (cells_of v.stored) v.fed pair.0 ≡ false → not (is_zero (value_on v pair.0)) ≡ false)
      (λ pair leaf quiet. ap (λ value. not (is_zero value)) (quiet-value v valid rules accepted pair.0 leaf.0.0 fed leaf.0.1 quiet))
      (leaves_below v.model.space c) ((formed v valid rules accepted).leaves_below c is_cell))
