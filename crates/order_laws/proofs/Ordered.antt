-- A model is ordered just where each statement is, dimension by dimension.
use Rattle.std.proofs.Common.{◌≡◌, arith, subst, ℕ, zero, suc, ◌+◌, ◌<◌, ◌≤◌, ◌⊎◌, Bool, true, false, Some, IfSome, List, [], ◌∷◌, ◌++◌, length, map, get_or, All, inl, inr}
use Rattle.std.specs.List.{flat_map, range_with_len}
use Rattle.std.proofs.lemmas.Bool.{cases_lt}
use Rattle.std.proofs.lemmas.List.Elements.{All-append}
use Rattle.cube_space.specs.Cells.{IsSpace}
use Rattle.rule_laws.specs.declared.formula.Formula.{Formula}
use Rattle.rule_laws.specs.Meaning.{precedents}
use Rattle.rule_laws.specs.RuleSystem.{Rule, part_of}
use Rattle.rule_laws.specs.OrderByPlace.{IsDecidedByPosition, IsDecidedByLevel, IsOrderedByPlace}
use Rattle.rule_model.specs.declared.rules.Statement.{Statement}
use Rattle.rule_model.specs.BoundModel.{BoundModel, rules_of}
use Rattle.rule_model.specs.System.{system_of, positions_of, rule_of, cube_rules}
use Rattle.rule_model.specs.Conditions.{IsPrecedent, IsStatement, AreRules}
use Rattle.order_laws.specs.Earlier.{IsEarlierStatement, IsOrderedByDimension}
use Rattle.order_laws.proofs.Earlier.{earlier-decided, decided-earlier}

module _ {X : Type 0} (P : X → Type 0) where
  all-first : (xs ys : List X) → All P (xs ++ ys) → All P xs
  all-first [] ys all k d low = absurd (omega arith)
  all-first (x ∷ xs) ys all zero d low = all 0 d (omega arith)
  all-first (x ∷ xs) ys all (suc k) d low = all-first xs ys (λ j e l. all (suc j) e (omega arith)) k d (omega arith)

  all-second : (xs ys : List X) → All P (xs ++ ys) → All P ys
  all-second [] ys all = all
  all-second (x ∷ xs) ys all = all-second xs ys (λ j e l. all (suc j) e (omega arith))

  -- all of the lists of so many numbers
  pub flat-parts : (f : ℕ → List X) (a n : ℕ) → All P (flat_map f (range_with_len a n)) → (k : ℕ) → a ≤ k → k < a + n → All P (f k)
  flat-parts f a zero all k from low = absurd (omega (arith, from, low))
  flat-parts f a (suc n) all k from low = elim (cases_lt a k) [
    | inl after ↦ flat-parts f (a + 1) n (all-second (f a) (flat_map f (range_with_len (a + 1) n)) all) k (omega (arith, after)) (omega (arith, low))
    | inr before ↦ let same : a ≡ k = omega (arith, before, from) in subst (λ j. All P (f j)) same (all-first (f a) (flat_map f (range_with_len (a + 1) n)) all)
  ]

  pub parts-flat : (f : ℕ → List X) (a n : ℕ) → ((k : ℕ) → a ≤ k → k < a + n → All P (f k)) → All P (flat_map f (range_with_len a n))
  parts-flat f a zero each = λ k d low. absurd (omega (arith, low))
  parts-flat f a (suc n) each = All-append P (f a) (flat_map f (range_with_len (a + 1) n)) (each a (omega arith) (omega arith)) (parts-flat f (a + 1) n (λ k from low. each k (omega (arith, from)) (omega (arith, low))))

  -- all of the images
  pub map-parts : {Y : Type 0} (f : Y → X) (ys : List Y) → All P (map f ys) → All (λ y. P (f y)) ys
  map-parts f [] all k d low = absurd (omega arith)
  map-parts f (y ∷ ys) all zero d low = all 0 (f d) (omega arith)
  map-parts f (y ∷ ys) all (suc k) d low = map-parts f ys (λ j e l. all (suc j) e (omega arith)) k d (omega arith)

  pub parts-map : {Y : Type 0} (f : Y → X) (ys : List Y) → All (λ y. P (f y)) ys → All P (map f ys)
  parts-map f [] all k d low = absurd (omega arith)
  parts-map f (y ∷ ys) all zero d low = all 0 y (omega arith)
  parts-map f (y ∷ ys) all (suc k) d low = parts-map f ys (λ j e l. all (suc j) e (omega arith)) k d (omega arith)

module _ (m : BoundModel) (valid : IsSpace m.space) (ruled : AreRules m.space m.rules) where
  abbrev IsOrderedRule : Rule → Type 0
  IsOrderedRule rule = (kind : Bool) (f : Formula) → part_of rule kind ≡ Some f
      → All (λ p. IsDecidedByPosition (system_of m) (positions_of m) rule kind p ⊎ IsDecidedByLevel (system_of m) (positions_of m) rule kind p) (precedents f)

  pub part-reads : (cube : ℕ) (s : Statement) (kind : Bool) (f : Formula) → IsStatement m.space cube s → part_of (rule_of m.space cube s) kind ≡ Some f → All (IsPrecedent m.space cube) (precedents f)
  part-reads cube s true f is e = (subst (λ part. IfSome part (Rattle.rule_model.specs.Conditions.IsLeafPart m.space cube)) e is.leaf).0
  part-reads cube s false f is e = subst (λ part. IfSome part (Rattle.rule_model.specs.Conditions.IsConsolidatedPart m.space cube)) e is.consolidated

  earlier-rule : (cube : ℕ) → cube < length m.space.cubes → (s : Statement) → IsStatement m.space cube s → IsEarlierStatement m cube s → IsOrderedRule (rule_of m.space cube s)
  earlier-rule cube there s is h kind f e k p low =
      earlier-decided m valid ruled cube there s is.area kind (get_or (precedents f) k p) (part-reads cube s kind f is e k p low) (h kind f e k p low)

  rule-earlier : (cube : ℕ) → cube < length m.space.cubes → (s : Statement) → IsStatement m.space cube s → IsOrderedRule (rule_of m.space cube s) → IsEarlierStatement m cube s
  rule-earlier cube there s is h kind f e k p low =
      decided-earlier m valid ruled cube there s is.area kind (get_or (precedents f) k p) (part-reads cube s kind f is e k p low) (h kind f e k p low)

  statement-at : (cube : ℕ) → cube < length m.space.cubes → All (IsStatement m.space cube) (rules_of m cube).statements
  statement-at cube there = (ruled.cube cube there).statements

  pub dimension-place : IsOrderedByDimension m → IsOrderedByPlace (system_of m) (positions_of m)
  unfolding system_of
  dimension-place h = parts-flat IsOrderedRule (cube_rules m) 0 (length m.space.cubes) each
    where
      each : (cube : ℕ) → 0 ≤ cube → cube < 0 + length m.space.cubes → All IsOrderedRule (cube_rules m cube)
      each cube from low =
          let there : cube < length m.space.cubes = omega (arith, low) in
          parts-map IsOrderedRule (rule_of m.space cube) (rules_of m cube).statements
          (λ k s l. earlier-rule cube there (get_or (rules_of m cube).statements k s) (statement-at cube there k s l) (h cube there k s l))

  pub place-dimension : IsOrderedByPlace (system_of m) (positions_of m) → IsOrderedByDimension m
  unfolding system_of
  place-dimension h cube there k s l =
      rule-earlier cube there (get_or (rules_of m cube).statements k s) (statement-at cube there k s l)
      (map-parts IsOrderedRule (rule_of m.space cube) (rules_of m cube).statements (flat-parts IsOrderedRule (cube_rules m) 0 (length m.space.cubes) h cube (omega arith) (omega (arith, there))) k s l)
