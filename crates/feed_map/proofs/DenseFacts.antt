-- Which cubes are dense.
use Rattle.std.proofs.Common.{◌≡◌, refl, sym, ap, ◌∙◌, subst, ℕ, ◌+◌, ◌<◌, ◌≤◌, ◌⊎◌, inl, inr, Bool, true, false, not, ◌&&◌, List, [], ◌∷◌, length, eqb, arith}
use Rattle.std.specs.Prelude.{◌==◌}
use Rattle.std.specs.List.{Any, list_any, flat_map}
use Rattle.std.proofs.lemmas.Bool.{cases_lt, eqb-true, eq-eqb, ne_eqb}
use Rattle.std.proofs.lemmas.List.Folds.{Any-from_list_any, list_any-from_Any}
use Rattle.cube_space.specs.Cells.{cube_of}
use Rattle.cube_space.proofs.Places.{cell-place}
use Rattle.rule_laws.specs.RuleSystem.{Rule}
use Rattle.rule_laws.specs.Feeding.{is_dense, IsDenseCell}
use Rattle.rule_model.specs.declared.rules.CubeRules.{CubeRules}
use Rattle.rule_model.specs.declared.rules.Statement.{Statement}
use Rattle.rule_model.specs.BoundModel.{BoundModel, rules_of}
use Rattle.rule_model.specs.System.{system_of, rule_of, cube_rules, cubes_of}
use Rattle.feed_map.specs.Inside.Follows.{IsDenseBelow, IsDenseOf}
use Rattle.feed_sources.proofs.Members.{some-front, some-of-lists, list-of-some, some-mapped, some-unmapped}
use Rattle.feed_sources.proofs.FeederFacts.{range-has}

module _ (m : BoundModel) (cube : ℕ) where
  abbrev Own : Rule → Type 0
  Own rule = (rule.cube == cube) ≡ true

  ruled : (ss : List Statement) → (rules_of m cube).statements ≡ ss → list_any (λ rule. rule.cube == cube) (flat_map (cube_rules m) (cubes_of m)) ≡ true
      → eqb (length ss) 0 ≡ false
  ruled [] is some =
      let found = list-of-some Own (cube_rules m) (cubes_of m) (Any-from_list_any (λ (rule : Rule). rule.cube == cube) (flat_map (cube_rules m) (cubes_of m)) some) in
      let one = some-unmapped Own (rule_of m.space found.0) (rules_of m found.0).statements found.1 in
      let same : found.0 ≡ cube = eqb-true found.0 cube one.4 in
      let none : (rules_of m found.0).statements ≡ [] = ap (λ (k : ℕ). (rules_of m k).statements) same ∙ is in
      absurd (omega (arith, one.2, ap length none))
  ruled (s ∷ ss) is some = ne_eqb (length (s ∷ ss)) 0 (λ e. omega (arith, e))

  unruled : (ss : List Statement) → (rules_of m cube).statements ≡ ss → cube < length m.space.cubes → eqb (length ss) 0 ≡ false
      → list_any (λ rule. rule.cube == cube) (flat_map (cube_rules m) (cubes_of m)) ≡ true
  unruled [] is there on = absurd (cc)
  unruled (s ∷ ss) is there on =
      let own : Any Own (cube_rules m cube) = some-mapped Own (rule_of m.space cube) (rules_of m cube).statements
      (subst (λ (xs : List Statement). Any (λ (x : Statement). (cube == cube) ≡ true) xs) (sym is) (some-front (λ (x : Statement). (cube == cube) ≡ true) s ss (eq-eqb cube cube refl))) in
      list_any-from_Any (λ (rule : Rule). rule.cube == cube) (flat_map (cube_rules m) (cubes_of m))
      (some-of-lists Own (cube_rules m) (cubes_of m) cube (range-has (length m.space.cubes) cube there) own)

  -- a cube is dense where it has statements and does not say SKIPCHECK
  pub dense-is : cube < length m.space.cubes → (not (rules_of m cube).skipcheck && not (eqb (length (rules_of m cube).statements) 0)) ≡ is_dense (system_of m) cube
  unfolding system_of
  dense-is there = ap (λ (b : Bool). not (rules_of m cube).skipcheck && b) (by (list_any (λ rule. rule.cube == cube) (flat_map (cube_rules m) (cubes_of m))) refl (eqb (length (rules_of m cube).statements) 0) refl)
    where
      by : (b : Bool) → list_any (λ rule. rule.cube == cube) (flat_map (cube_rules m) (cubes_of m)) ≡ b → (e : Bool) → eqb (length (rules_of m cube).statements) 0 ≡ e
          → not (eqb (length (rules_of m cube).statements) 0) ≡ list_any (λ rule. rule.cube == cube) (flat_map (cube_rules m) (cubes_of m))
      by true some e empty = rw some (ap not (ruled (rules_of m cube).statements refl some))
      by false none true empty = rw none (ap not empty)
      by false none false empty = absurd (let some = unruled (rules_of m cube).statements refl there empty in cc)

  -- by the tests of the code
  pub dense-open : cube < length m.space.cubes → (r : CubeRules) → r ≡ rules_of m cube → r.skipcheck ≡ false → (xs : List Statement) → xs ≡ r.statements → (b : Bool) → b ≡ (length xs == 0)
      → not b ≡ is_dense (system_of m) cube
  dense-open there r is off xs own b empty =
      let skips : (rules_of m cube).skipcheck ≡ false = ap (λ (x : CubeRules). x.skipcheck) (sym is) ∙ off in
      let same : b ≡ eqb (length (rules_of m cube).statements) 0 = empty ∙ ap (λ (ys : List Statement). eqb (length ys) 0) (own ∙ ap (λ (x : CubeRules). x.statements) is) in
      ap not same ∙ sym (ap (λ (skip : Bool). not skip && not (eqb (length (rules_of m cube).statements) 0)) skips) ∙ dense-is there

  pub dense-shut : cube < length m.space.cubes → (r : CubeRules) → r ≡ rules_of m cube → r.skipcheck ≡ true → not r.skipcheck ≡ is_dense (system_of m) cube
  dense-shut there r is on =
      let skips : (rules_of m cube).skipcheck ≡ true = ap (λ (x : CubeRules). x.skipcheck) (sym is) ∙ on in
      ap not on ∙ sym (ap (λ (skip : Bool). not skip && not (eqb (length (rules_of m cube).statements) 0)) skips) ∙ dense-is there

module _ (m : BoundModel) where
  pub dense-none : (c : ℕ) → IsDenseBelow m 0 c → ⊥
  dense-none c (is, low) = omega (arith, low)

  pub dense-before : (cube c : ℕ) → IsDenseBelow m cube c → IsDenseBelow m (cube + 1) c
  dense-before cube c (is, low) = (is, omega (arith, low))

  pub dense-here : (cube c : ℕ) → IsDenseOf m cube c → IsDenseBelow m (cube + 1) c
  unfolding system_of
  dense-here cube c ((cell, leaf, own), on) =
      (((cell, leaf), ap (is_dense (system_of m)) own ∙ on), omega (arith, own))

  pub dense-parts : (cube c : ℕ) → IsDenseBelow m (cube + 1) c → IsDenseBelow m cube c ⊎ IsDenseOf m cube c
  unfolding system_of
  dense-parts cube c (((cell, leaf), on), low) =
      elim (cases_lt (cube_of m.space c) cube) [
        | inl before ↦ inl (((cell, leaf), on), before)
        | inr past ↦ (let own : cube_of m.space c ≡ cube = omega (arith, past, low) in inr ((cell, leaf, own), ap (is_dense (system_of m)) (sym own) ∙ on))
      ]

  pub dense-all : (c : ℕ) → IsDenseCell (system_of m) c → IsDenseBelow m (length m.space.cubes) c
  unfolding system_of
  dense-all c is = (is, (cell-place m.space c is.0.0).place.there)

  pub dense-whole : (cubes : ℕ) → length m.space.cubes ≤ cubes → (c : ℕ) → IsDenseCell (system_of m) c → IsDenseBelow m cubes c
  dense-whole cubes few c is = let below = dense-all c is in (is, omega (arith, below.1, few))
