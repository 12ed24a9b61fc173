-- What the first fault of a cube and of a model is, and that a model without one is covered.
use Rattle.std.proofs.Common.{◌≡◌, refl, sym, ap, ◌∙◌, arith, subst, ℕ, zero, suc, ◌+◌, ◌^◌, ◌<◌, ◌≤◌, ◌⊎◌, Bool, true, false, not, ◌||◌, Some, None, Result, Ok, Err, List, [], ◌∷◌, length, map, take, get_or, ◌==◌, if◌then◌else◌, All, Contains, inl, inr}
use Rattle.std.specs.Prelude.{slice_get, OnOk, OnErr}
use Rattle.std.specs.List.{flat_map, range_with_len, list_any}
use Rattle.std.proofs.lemmas.Bool.{eq-eqb, cases_lt, and_parts, and_from, or_right}
use Rattle.std.proofs.lemmas.Bool.Decides.{Decides-eqb}
use Rattle.std.proofs.lemmas.List.Elements.{All-nil, All-cons}
use Rattle.std.proofs.lemmas.List.{length-map}
use Rattle.std.proofs.lemmas.List.Folds.{list_any-append}
use Rattle.cube_space.specs.Cells.{IsSpace}
use Rattle.rule_laws.specs.declared.reference.Reference.{Reference}
use Rattle.rule_laws.specs.declared.formula.Formula.{Formula}
use Rattle.rule_laws.specs.Meaning.{Named, precedents, each_reference}
use Rattle.rule_laws.specs.RuleSystem.{Rule}
use Rattle.rule_laws.specs.Feeding.{is_dense}
use Rattle.rule_laws.specs.ZeroTest.{zero_test, blamed, zero_verdict}
use Rattle.rule_laws.specs.Cover.{TellsCover, IsCoveredRule, IsCovered}
use Rattle.rule_model.specs.declared.rules.Statement.{Statement}
use Rattle.rule_model.specs.BoundModel.{BoundModel, rules_of}
use Rattle.rule_model.specs.System.{system_of, rule_of, cube_rules}
use Rattle.rule_model.specs.Conditions.{IsStatement, IsLeafPart, IsPrecedent, IsReference, AreRules}
use Rattle.order_laws.proofs.Ordered.{flat-parts, parts-flat}
use Rattle.cover_laws.specs.Covered.{is_covered}
use Rattle.cover_laws.proofs.Covered.{decided-covered, covered-decided}
use Rattle.feed_check.specs.declared.fault.FeedCheckFault.{FeedCheckFault}
use Rattle.feed_check.specs.declared.fault.FeedCheckFault.TheVariants.{NotFed, DenseTooLarge}
use Rattle.feed_check.specs.Inside.References.{is_reference}
use Rattle.feed_check.specs.Sizes.{leaf_count, most_dense, AreSmall}
use Rattle.feed_check.specs.Verdict.{IsBlamed, IsSound, IsFaultOf, IsFirstFault}
use Rattle.feed_check.proofs.References.{is-reference}
use Rattle.lists.proofs.Found.{found_holds as slice-holds, same_truth as true-both}

-- ---- a statement

module _ (m : BoundModel) (valid : IsSpace m.space) (ruled : AreRules m.space m.rules) (cube : ℕ) (there : cube < length m.space.cubes)
    (s : Statement) (is : IsStatement m.space cube s) (f : Formula) (leaf : s.leaf ≡ Some f) where
  part : IsLeafPart m.space cube f
  part = subst (λ o. Rattle.std.specs.Prelude.IfSome o (IsLeafPart m.space cube)) leaf is.leaf

  read-reference : (r : Reference) → Contains (precedents f) (Named r) → IsReference m.space cube r
  read-reference r c = subst (IsPrecedent m.space cube) c.2 (part.0 c.0 (Named r) c.1)

  pub known : (each : ((r : Reference) → Contains (precedents f) (Named r) → is_reference m.space cube r ≡ true) → each_reference (is_reference m.space cube) f ≡ true) → each_reference (is_reference m.space cube) f ≡ true
  known each = each (λ r c. is-reference m.space cube r (read-reference r c))

  pub tells : TellsCover (system_of m) (rule_of m.space cube s) f (is_covered m cube s.area)
  tells r c = (decided-covered m valid ruled cube there s is.area r (read-reference r c), covered-decided m valid ruled cube there s is.area r (read-reference r c))

  pub few : Rattle.rule_laws.specs.ZeroTest.operands f < 2 ^ 32
  few = let count : Rattle.rule_model.specs.Conditions.operand_count s.leaf ≡ Rattle.rule_laws.specs.ZeroTest.operands f = ap Rattle.rule_model.specs.Conditions.operand_count leaf in omega (arith, count, is.few_operands)

  abbrev verdict : Bool → ℕ → Result (Unit {0}) ℕ
  verdict t k = if t then Ok tt else Err k

  passes : (t : Bool) (k : ℕ) → verdict t k ≡ Ok tt → t ≡ true
  passes true k e = refl
  passes false k e = absurd (cc)

  fails-with : (t : Bool) (k n : ℕ) → verdict t k ≡ Err n → (t ≡ false) × (n ≡ k)
  fails-with true k n e = absurd (cc)
  fails-with false k n e = let same : k ≡ n = cc in (refl, sym same)

  pub verdict-covered : zero_verdict (is_covered m cube s.area) f ≡ Ok tt → IsCoveredRule (system_of m) (rule_of m.space cube s)
  verdict-covered h g skips own =
      let same : f ≡ g = (let e : Some f ≡ Some g = sym leaf ∙ own in cc) in (
        is_covered m cube s.area,
        subst (λ g. TellsCover (system_of m) (rule_of m.space cube s) g (is_covered m cube s.area)) same tells,
        subst (λ g. zero_test (is_covered m cube s.area) g ≡ true) same (passes (zero_test (is_covered m cube s.area) f) _ h),
      )

  pub verdict-blamed : ((covers other : Reference → Bool) → ((r : Reference) → Contains (precedents f) (Named r) → covers r ≡ other r) → zero_test covers f ≡ zero_test other f)
      → (rules_of m cube).skipcheck ≡ true → (n : ℕ) → zero_verdict (is_covered m cube s.area) f ≡ Err n → IsBlamed (system_of m) (rule_of m.space cube s) n
  unfolding system_of
  verdict-blamed rest skips n h =
      let both = fails-with (zero_test (is_covered m cube s.area) f) (blamed (is_covered m cube s.area) f) n h in
      record {
        fails = λ covered. (
            let (covers, told, passed) = covered f skips leaf in
            let same = rest (is_covered m cube s.area) covers (λ r c. true-both (is_covered m cube s.area r) (covers r) (λ e. (told r c).1 ((tells r c).0 e)) (λ e. (tells r c).1 ((told r c).0 e))) in
            let clash : false ≡ true = sym both.0 ∙ same ∙ passed in cc);
        formula = f;
        leaf_part = leaf;
        covers = is_covered m cube s.area;
        tells = tells;
        operand_is = both.1;
      }

-- ---- a cube

pub rule-at : (m : BoundModel) (cube n : ℕ) (s : Statement) → slice_get (rules_of m cube).statements n ≡ Some s → slice_get (cube_rules m cube) n ≡ Some (rule_of m.space cube s)
rule-at m cube n s h = by (rules_of m cube).statements n h
  where
    by : (ss : List Statement) (n : ℕ) → slice_get ss n ≡ Some s → slice_get (map (rule_of m.space cube) ss) n ≡ Some (rule_of m.space cube s)
    by [] n h = absurd (cc)
    by (x ∷ ss) zero h = let same : x ≡ s = cc in ap (λ s. Some (rule_of m.space cube s)) same
    by (x ∷ ss) (suc n) h = by ss n h

pub all-next : {X : Type 0} (P : X → Type 0) (xs : List X) (n j : ℕ) (x : X) → slice_get xs n ≡ Some x → j ≡ n + 1 → P x → All P (take n xs) → All P (take j xs)
all-next P [] n j x at e p all = absurd (cc)
all-next P (y ∷ xs) zero zero x at e p all = absurd (omega (arith, e))
all-next P (y ∷ xs) zero (suc j) x at e p all =
    let same : y ≡ x = cc in
    let none : j ≡ 0 = omega (arith, e) in
    All-cons P y (take j xs) (subst P (sym same) p) (subst (λ j. All P (take j xs)) (sym none) (All-nil P))
all-next P (y ∷ xs) (suc n) zero x at e p all = absurd (omega (arith, e))
all-next P (y ∷ xs) (suc n) (suc j) x at e p all =
    All-cons P y (take j xs) (all 0 y (omega arith)) (all-next P xs n j x at (omega (arith, e)) p (λ k d low. all (suc k) d (omega (arith, low))))

pub all-taken : {X : Type 0} (P : X → Type 0) (xs : List X) (n : ℕ) → length xs ≤ n → All P (take n xs) → All P xs
all-taken P [] n low all = All-nil P
all-taken P (x ∷ xs) zero low all = absurd (omega (arith, low))
all-taken P (x ∷ xs) (suc n) low all = All-cons P x xs (all 0 x (omega arith)) (all-taken P xs n (omega (arith, low)) (λ k d l. all (suc k) d (omega (arith, l))))

either : (t u : Bool) → t || u ≡ true → (t ≡ true) ⊎ (u ≡ true)
either true u h = inl refl
either false u h = inr h

module _ (m : BoundModel) (cube : ℕ) where
  -- whether a rule is one of the cube
  abbrev IsOwn : Rule → Bool
  IsOwn rule = rule.cube == cube

  own-one : (k : ℕ) (ss : List Statement) → list_any IsOwn (map (rule_of m.space k) ss) ≡ true → (k ≡ cube) × (0 < length ss)
  own-one k [] h = absurd (cc)
  own-one k (s ∷ ss) h = elim (either (k == cube) (list_any IsOwn (map (rule_of m.space k) ss)) h) [
    | inl here ↦ ((Decides-eqb k cube).0 here, omega arith)
    | inr more ↦ ((own-one k ss more).0, omega arith)
  ]

  one-own : (ss : List Statement) → 0 < length ss → list_any IsOwn (map (rule_of m.space cube) ss) ≡ true
  one-own [] some = absurd (omega (arith, some))
  one-own (s ∷ ss) some = ap (λ t. t || list_any IsOwn (map (rule_of m.space cube) ss)) (eq-eqb cube cube refl)

  own-some : (a n : ℕ) → list_any IsOwn (flat_map (cube_rules m) (range_with_len a n)) ≡ true → 0 < length (rules_of m cube).statements
  own-some a zero h = absurd (cc)
  own-some a (suc n) h = elim (either (list_any IsOwn (cube_rules m a)) (list_any IsOwn (flat_map (cube_rules m) (range_with_len (a + 1) n))) (sym (list_any-append IsOwn (cube_rules m a) (flat_map (cube_rules m) (range_with_len (a + 1) n))) ∙ h)) [
    | inl here ↦ let (same, some) = own-one a (rules_of m a).statements here in subst (λ k. 0 < length (rules_of m k).statements) same some
    | inr more ↦ own-some (a + 1) n more
  ]

  some-own : 0 < length (rules_of m cube).statements → (a n : ℕ) → a ≤ cube → cube < a + n → list_any IsOwn (flat_map (cube_rules m) (range_with_len a n)) ≡ true
  some-own some a zero from low = absurd (omega (arith, from, low))
  some-own some a (suc n) from low = list_any-append IsOwn (cube_rules m a) (flat_map (cube_rules m) (range_with_len (a + 1) n)) ∙ elim (cases_lt a cube) [
    | inl before ↦ or_right (list_any IsOwn (cube_rules m a)) _ (some-own some (a + 1) n (omega (arith, before)) (omega (arith, low)))
    | inr after ↦ let same : cube ≡ a = omega (arith, from, after) in
        ap (λ t. t || list_any IsOwn (flat_map (cube_rules m) (range_with_len (a + 1) n))) (ap (λ k. list_any IsOwn (cube_rules m k)) (sym same) ∙ one-own (rules_of m cube).statements some)
  ]

  pub dense-some : (rules_of m cube).skipcheck ≡ false → 0 < length (rules_of m cube).statements → cube < length m.space.cubes → is_dense (system_of m) cube ≡ true
  unfolding system_of
  dense-some skips some there = and_from _ _ (ap not skips) (some-own some 0 (length m.space.cubes) (omega arith) (omega (arith, there)))

  -- a cube is sound where it says SKIPCHECK and each rule is covered, where it has no statement, and where it is small
  pub sound-skips : (rules_of m cube).skipcheck ≡ true → All (IsCoveredRule (system_of m)) (cube_rules m cube) → IsSound m cube
  unfolding system_of
  sound-skips skips all = record { small = λ dense. absurd (let clash : false ≡ true = ap not (sym skips) ∙ (and_parts _ _ dense).0 in cc); covered = all }

  pub sound-empty : length (rules_of m cube).statements ≡ 0 → IsSound m cube
  unfolding system_of
  sound-empty none = record {
    small = λ dense. absurd (let some = own-some 0 (length m.space.cubes) (and_parts _ _ dense).1 in omega (arith, some, none));
    covered = by (rules_of m cube).statements none;
  }
    where
      by : (ss : List Statement) → length ss ≡ 0 → All (IsCoveredRule (system_of m)) (map (rule_of m.space cube) ss)
      by [] e = All-nil (IsCoveredRule (system_of m))
      by (s ∷ ss) e = absurd (omega (arith, e))

  pub sound-small : (rules_of m cube).skipcheck ≡ false → leaf_count m.space cube ≤ most_dense → IsSound m cube
  unfolding system_of
  sound-small skips low = record { small = λ dense. low; covered = by (rules_of m cube).statements }
    where
      by : (ss : List Statement) → All (IsCoveredRule (system_of m)) (map (rule_of m.space cube) ss)
      by [] = All-nil (IsCoveredRule (system_of m))
      by (s ∷ ss) = All-cons (IsCoveredRule (system_of m)) (rule_of m.space cube s) (map (rule_of m.space cube) ss) (λ f on leaf. absurd (let clash : false ≡ true = sym skips ∙ on in cc)) (by ss)

-- ---- the model

module _ (m : BoundModel) where
  pub sound-covered : ((cube : ℕ) → cube < length m.space.cubes → IsSound m cube) → IsCovered (system_of m)
  unfolding system_of
  sound-covered h = parts-flat (IsCoveredRule (system_of m)) (cube_rules m) 0 (length m.space.cubes) (λ cube from low. (h cube (omega (arith, low))).covered)

  pub sound-are_small : ((cube : ℕ) → cube < length m.space.cubes → IsSound m cube) → AreSmall m
  sound-are_small h cube low = (h cube low).small

  pub fault-refused : (fault : FeedCheckFault) → IsFirstFault m fault → IsCovered (system_of m) → AreSmall m → ⊥
  unfolding system_of
  fault-refused (NotFed own statement operand) (cube, low, (same, (place, at, first)), before) covered small =
      first.is_blamed.fails (slice-holds (IsCoveredRule (system_of m)) (cube_rules m cube) place first.rule (flat-parts (IsCoveredRule (system_of m)) (cube_rules m) 0 (length m.space.cubes) covered cube (omega arith) (omega (arith, low))) first.here)
  fault-refused (DenseTooLarge own count) (cube, low, (same, dense, is, large), before) covered small = (let few = small cube low dense in omega (arith, few, large, is))

  pub blamed-fault : (cube n j operand : ℕ) (s : Statement) → slice_get (rules_of m cube).statements n ≡ Some s → IsBlamed (system_of m) (rule_of m.space cube s) operand
      → All (IsCoveredRule (system_of m)) (take n (cube_rules m cube)) → j ≡ n + 1 → IsFaultOf m cube (NotFed cube j operand)
  blamed-fault cube n j operand s at blames before next =
      (refl, (n, (let e : j ≡ suc n = omega (arith, next) in e), record { rule = rule_of m.space cube s; here = rule-at m cube n s at; is_blamed = blames; before = before }))

  pub next-covered : (cube n j : ℕ) (s : Statement) → slice_get (rules_of m cube).statements n ≡ Some s → IsCoveredRule (system_of m) (rule_of m.space cube s)
      → All (IsCoveredRule (system_of m)) (take n (cube_rules m cube)) → j ≡ n + 1 → All (IsCoveredRule (system_of m)) (take j (cube_rules m cube))
  next-covered cube n j s at covered before next = all-next (IsCoveredRule (system_of m)) (cube_rules m cube) n j (rule_of m.space cube s) (rule-at m cube n s at) next covered before

  pub all-covered : (cube n : ℕ) → length (rules_of m cube).statements ≤ n → All (IsCoveredRule (system_of m)) (take n (cube_rules m cube)) → All (IsCoveredRule (system_of m)) (cube_rules m cube)
  all-covered cube n low before = all-taken (IsCoveredRule (system_of m)) (cube_rules m cube) n (omega (arith, low, length-map (rules_of m cube).statements (rule_of m.space cube))) before

  -- each cube before this one is sound, and this one is
  pub next-sound : (cube j : ℕ) → ((k : ℕ) → k < cube → IsSound m k) → IsSound m cube → j ≡ cube + 1 → (k : ℕ) → k < j → IsSound m k
  next-sound cube j before sound next k low = elim (cases_lt k cube) [
    | inl less ↦ before k less
    | inr high ↦ let same : cube ≡ k = omega (arith, low, next, high) in subst (IsSound m) same sound
  ]

-- a statement without an N part is covered
pub no-part : (m : BoundModel) (cube : ℕ) (s : Statement) → s.leaf ≡ None → IsCoveredRule (system_of m) (rule_of m.space cube s)
no-part m cube s none f skips leaf = absurd (let clash : None ≡ Some f = sym none ∙ leaf in cc)

pub statement-at : (m : BoundModel) (cube n : ℕ) (ss : List Statement) (s : Statement) → ss ≡ (rules_of m cube).statements → n < length ss → s ≡ get_or ss n s → slice_get (rules_of m cube).statements n ≡ Some s
statement-at m cube n ss s same low is = ap (λ (ss : List Statement). slice_get ss n) (sym same) ∙ found ss n low ∙ ap Some (sym is)
  where
    found : (ss : List Statement) (n : ℕ) → n < length ss → slice_get ss n ≡ Some (get_or ss n s)
    found [] n low = absurd (omega (arith, low))
    found (x ∷ ss) zero low = refl
    found (x ∷ ss) (suc n) low = found ss n (omega (arith, low))

pub ok-holds : (r : Result (Unit {0}) FeedCheckFault) (P Q : Type 0) → OnOk r P → (P → Q) → OnOk r Q
ok-holds (Ok x) P Q h f = f h
ok-holds (Err e) P Q h f = h

pub err-holds : (r : Result (Unit {0}) FeedCheckFault) (P : Type 0) → P → OnErr r P
err-holds (Ok x) P h = tt
err-holds (Err e) P h = h
