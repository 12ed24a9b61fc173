-- That a reference names no total which a statement governs is decided by dimension.
use Rattle.std.proofs.Common.{◌≡◌, refl, sym, ap, ◌∙◌, arith, subst, ℕ, suc, ◌+◌, ◌<◌, ◌≤◌, ◌⊎◌, Bool, true, false, not, ◌&&◌, ◌||◌, Option, Some, None, List, [], ◌∷◌, length, get_or, nat_lt, cond, if◌then◌else◌, inl, inr}
use Rattle.std.specs.Prelude.{slice_index_or, is_none, is_some, option_map}
use Rattle.std.specs.List.{list_all, position, position_or_len}
use Rattle.std.proofs.lemmas.Bool.{and_parts, eq-eqb, ltb-true, lt-ltb, cases_lt, false_from_ne_true as not-true}
use Rattle.std.proofs.lemmas.List.Folds.{list_all-map}
use Rattle.std.proofs.lemmas.List.Sums.{AllPass-from_list_all, list_all-from_AllPass}
use Rattle.cube_space.specs.Layout.{axes, sizes}
use Rattle.cube_space.specs.Cells.{IsSpace, IsCell, cube_of, elements_of, is_leaf_cell}
use Rattle.rule_laws.specs.declared.reference.Reference.{Reference}
use Rattle.rule_laws.specs.declared.formula.Formula.{Formula}
use Rattle.rule_laws.specs.RuleSystem.{Rule, part_at, governing}
use Rattle.rule_laws.specs.Ordered.{IsCellOf}
use Rattle.rule_laws.specs.Cover.{NamesNoGovernedTotal}
use Rattle.rule_model.specs.declared.area.Area.{Area}
use Rattle.rule_model.specs.declared.rules.Statement.{Statement}
use Rattle.rule_model.specs.BoundModel.{BoundModel, rules_of}
use Rattle.rule_model.specs.Areas.{in_set, in_sets, in_area}
use Rattle.rule_model.specs.Targets.{target}
use Rattle.rule_model.specs.System.{system_of, rule_of, cube_rules}
use Rattle.rule_model.specs.Conditions.{IsArea, IsSet, IsArg, IsReference, AreRules}
use Rattle.rule_model.specs.Governing.{rules_for, has_part}
use Rattle.rule_model.specs.Governing as model
use Rattle.model_laws.proofs.Statements.{governing-all, split}
use Rattle.model_laws.specs.Statements.{statements_before}
use Rattle.order_laws.specs.Scales.{is_leaf_element}
use Rattle.order_laws.proofs.SumFacts.{all_from, zip-each}
use Rattle.order_laws.proofs.SetFacts.{zip-long}
use Rattle.order_laws.proofs.CellFacts.{IsAt, IsOf, axes-sizes, leaf-all}
use Rattle.order_laws.proofs.Decided as decided
use Rattle.cover_laws.specs.Looking.{Look, is_possible}
use Rattle.cover_laws.specs.Covered.{look_within, names_no_total, names_no_governed}
use Rattle.cover_laws.proofs.Pairs as pairs
use Rattle.cover_laws.proofs.Pairs.{named-long, all-at, all-of}
use Rattle.cover_laws.proofs.Named as naming

first-of : (t u : Bool) → t || not u ≡ true → u ≡ true → t ≡ true
first-of true u h e = refl
first-of false true h e = absurd (cc)
first-of false false h e = absurd (cc)

either-way : (t u : Bool) → (u ≡ true → t ≡ true) → t || not u ≡ true
either-way true u h = refl
either-way false true h = absurd (let clash = h refl in cc)
either-way false false h = refl

-- ---- the first place that passes

none-passes : {X : Type 0} (p : X → Bool) (xs : List X) → list_all (λ x. not (p x)) xs ≡ true → position_or_len p xs ≡ length xs
none-passes p [] h = refl
none-passes p (x ∷ xs) h = by (not (p x)) (and_parts _ _ h).0 (none-passes p xs (and_parts _ _ h).1)
  where
    by : (t : Bool) → t ≡ true → position_or_len p xs ≡ length xs → cond t (1 + position_or_len p xs) 0 ≡ suc (length xs)
    by true e rest = omega (arith, rest)
    by false e rest = absurd (cc)

length-passes : {X : Type 0} (p : X → Bool) (xs : List X) → length xs ≤ position_or_len p xs → list_all (λ x. not (p x)) xs ≡ true
length-passes p [] h = refl
length-passes p (x ∷ xs) h = by (not (p x)) h (length-passes p xs)
  where
    by : (t : Bool) → suc (length xs) ≤ cond t (1 + position_or_len p xs) 0 → (length xs ≤ position_or_len p xs → list_all (λ x. not (p x)) xs ≡ true) → t && list_all (λ x. not (p x)) xs ≡ true
    by true h rest = rest (omega (arith, h))
    by false h rest = absurd (omega (arith, h))

pub all-none : {X : Type 0} (p : X → Bool) (xs : List X) → list_all (λ x. not (p x)) xs ≡ true → position p xs ≡ None
all-none p xs h = by (cases_lt (position_or_len p xs) (length xs)) (nat_lt (position_or_len p xs) (length xs)) refl
  where
    by : (position_or_len p xs < length xs) ⊎ (length xs ≤ position_or_len p xs) → (t : Bool) → nat_lt (position_or_len p xs) (length xs) ≡ t → cond t (Some (position_or_len p xs)) None ≡ None
    by e false is = refl
    by e true is = absurd (let low = ltb-true (position_or_len p xs) (length xs) is in omega (arith, low, none-passes p xs h))

pub none-all : {X : Type 0} (p : X → Bool) (xs : List X) → position p xs ≡ None → list_all (λ x. not (p x)) xs ≡ true
none-all p xs h = by (cases_lt (position_or_len p xs) (length xs))
  where
    by : (position_or_len p xs < length xs) ⊎ (length xs ≤ position_or_len p xs) → list_all (λ x. not (p x)) xs ≡ true
    by (inl low) = absurd (let clash : Some (position_or_len p xs) ≡ None = ap (λ t. cond t (Some (position_or_len p xs)) None) (sym (lt-ltb (position_or_len p xs) (length xs) low)) ∙ h in cc)
    by (inr high) = length-passes p xs high

-- ---- a total in an area

module _ (m : BoundModel) (valid : IsSpace m.space) (ruled : AreRules m.space m.rules) (cube : ℕ) (there : cube < length m.space.cubes)
    (statement : Statement) (is_area : IsArea m.space cube statement.area) (r : Reference) (is : IsReference m.space cube r) where
  module _ (wide : 0 < length (axes m.space cube)) (governed : Area) (is_governed : IsArea m.space r.cube governed) where
    counts : ℕ → ℕ → Bool
    counts j = in_set (slice_index_or governed.sets j None)

    Below : ℕ → ℕ → ℕ → Type 0
    Below j t l = (l ≡ t) × (in_set (slice_index_or governed.sets j None) t ≡ true)

    some : (j t : ℕ) → in_set (slice_index_or governed.sets j None) t ≡ true → (l : ℕ) × ((l ≡ t) × (in_set (slice_index_or governed.sets j None) t ≡ true))
    some j t h = (t, (refl, h))

    only : (j t l : ℕ) → ((l ≡ t) × (in_set (slice_index_or governed.sets j None) t ≡ true)) → in_set (slice_index_or governed.sets j None) t ≡ true
    only j t l h = h.1

    abbrev IsPair : List ℕ → List ℕ → List ℕ → Type 0
    IsPair = pairs.IsPair m ruled cube there statement is_area r is (λ j. in_set (slice_index_or governed.sets j None)) (λ j t l. (l ≡ t) × (in_set (slice_index_or governed.sets j None) t ≡ true)) some only

    abbrev look : Look
    look = look_within m cube statement.area r governed

    args-long : length r.args ≡ length (axes m.space r.cube)
    args-long = zip-long (IsArg (sizes m.space cube)) (sizes m.space r.cube) r.args is.1 ∙ axes-sizes m.space r.cube

    sets-long : length governed.sets ≡ length (axes m.space r.cube)
    sets-long = zip-long IsSet (sizes m.space r.cube) governed.sets is_governed ∙ axes-sizes m.space r.cube

    inside-each : (ts : List ℕ) → length ts ≡ length (axes m.space r.cube) → in_sets governed.sets ts ≡ all_from (λ i e. in_set (slice_index_or governed.sets i None) e) 0 ts
    unfolding in_sets
    inside-each ts long = zip-each in_set None governed.sets ts (long ∙ sym sets-long)

    inside-at : (ts : List ℕ) (t : ℕ) → IsAt m.space r.cube ts t → length ts ≡ length (axes m.space r.cube) → in_area m.space governed t ≡ all_from (λ i e. in_set (slice_index_or governed.sets i None) e) 0 ts
    inside-at ts t at long = ap (in_sets governed.sets) at.elements ∙ inside-each ts long

    leaf-at : (ts : List ℕ) (t : ℕ) → IsAt m.space r.cube ts t → length ts ≡ length (axes m.space r.cube) → is_leaf_cell m.space t ≡ all_from (is_leaf_element (axes m.space r.cube)) 0 ts
    leaf-at ts t at long = leaf-all m.space r.cube ts t at long

    -- each cell of the area that is named is a leaf cell
    abbrev pub NamesLeaves : Type 0
    NamesLeaves = (c t : ℕ) → IsCellOf (system_of m) (rule_of m.space cube statement) true c → target m.space r c ≡ Some t → in_area m.space governed t ≡ true → is_leaf_cell m.space t ≡ true

    good : (j t : ℕ) → is_leaf_element (axes m.space r.cube) j t ≡ true → (l : ℕ) → ((l ≡ t) × (in_set (slice_index_or governed.sets j None) t ≡ true)) → is_leaf_element (axes m.space r.cube) j l ≡ true
    good j t h l below = subst (λ l. is_leaf_element (axes m.space r.cube) j l ≡ true) (sym below.0) h

    tested : (j t : ℕ) → in_set (slice_index_or governed.sets j None) t ≡ true → ((l : ℕ) → ((l ≡ t) × (in_set (slice_index_or governed.sets j None) t ≡ true)) → is_leaf_element (axes m.space r.cube) j l ≡ true) → is_leaf_element (axes m.space r.cube) j t ≡ true
    tested j t count h = h t (refl, count)

    pub total-leaves : names_no_total m cube statement.area r governed ≡ true → NamesLeaves
    unfolding names_no_total
    total-leaves h c t of named inside =
        let (at, own) = decided.cell-of m ruled cube there statement is_area true c of in
        let (ts, name, at_t, long_t) = decided.target-at m ruled cube there statement is_area r c t (elements_of m.space c) is at own.long named in
        let each = all-at (λ i e. in_set (slice_index_or governed.sets i None) e) ts (sym (inside-at ts t at_t long_t) ∙ inside) in
        let pair : IsPair (elements_of m.space c) ts ts = record { of = own; named = name; long = named-long (elements_of m.space c) r.args ts name; below = λ j low. (refl, each j (omega (arith, low, long_t, args-long))) } in
        let possible = pairs.pair-possible m ruled cube there statement is_area r is (λ j. in_set (slice_index_or governed.sets j None)) (λ j t l. (l ≡ t) × (in_set (slice_index_or governed.sets j None) t ≡ true)) some only (elements_of m.space c) ts ts pair in
        let all = first-of _ (is_possible look) h possible in
        leaf-at ts t at_t long_t ∙ all-of (is_leaf_element (axes m.space r.cube)) ts (λ j low.
        naming.named-good m ruled cube there statement is_area r is (λ j. in_set (slice_index_or governed.sets j None)) (λ j t l. (l ≡ t) × (in_set (slice_index_or governed.sets j None) t ≡ true)) some only wide
        (is_leaf_element (axes m.space r.cube)) (λ j l. is_leaf_element (axes m.space r.cube) j l ≡ true) good tested all (elements_of m.space c) ts ts pair j (omega (arith, low, long_t, args-long)))

    pub leaves-total : NamesLeaves → names_no_total m cube statement.area r governed ≡ true
    unfolding names_no_total
    leaves-total h = either-way _ (is_possible look) (λ possible.
        naming.good-named m ruled cube there statement is_area r is (λ j. in_set (slice_index_or governed.sets j None)) (λ j t l. (l ≡ t) × (in_set (slice_index_or governed.sets j None) t ≡ true)) some only wide
        (is_leaf_element (axes m.space r.cube)) (λ j l. is_leaf_element (axes m.space r.cube) j l ≡ true) good tested possible each)
      where
        each : (es ts xs : List ℕ) → IsPair es ts xs → (j : ℕ) → j < length r.args → is_leaf_element (axes m.space r.cube) j (get_or xs j 0) ≡ true
        each es ts xs pair j low =
            let (c, at, of) = decided.of-cell m ruled cube there statement is_area true es pair.of in
            let (t, named, at_t, long_t) = decided.at-target m ruled cube there statement is_area r c es ts is at pair.of.long pair.named in
            let inside = inside-at ts t at_t long_t ∙ all-of (λ i e. in_set (slice_index_or governed.sets i None) e) ts (λ j low. (pair.below j (omega (arith, low, long_t, args-long))).1) in
            let leaf = h c t of named inside in
            subst (λ l. is_leaf_element (axes m.space r.cube) j l ≡ true) (sym (pair.below j low).0)
            (all-at (is_leaf_element (axes m.space r.cube)) ts (sym (leaf-at ts t at_t long_t) ∙ leaf) j (omega (arith, low, long_t, args-long)))

  -- ---- the statements that govern

  -- whether a statement has a part for a consolidated cell of its cube
  part-is : (s : Statement) (t : ℕ) → is_leaf_cell m.space t ≡ false → has_part m t (rule_of m.space (cube_of m.space t) s) ≡ in_area m.space s.area t && is_some s.cons
  unfolding system_of
  part-is s t total =
      ap (λ b. is_some (if b && in_area m.space s.area t then part_of_kind (is_leaf_cell m.space t) else None)) (eq-eqb (cube_of m.space t) (cube_of m.space t) refl)
      ∙ by (in_area m.space s.area t) ∙ ap (λ b. in_area m.space s.area t && is_some (part_of_kind b)) total
    where
      part_of_kind : Bool → Option Formula
      part_of_kind = Rattle.rule_laws.specs.RuleSystem.part_of (rule_of m.space (cube_of m.space t) s)

      by : (b : Bool) → is_some (if b then part_of_kind (is_leaf_cell m.space t) else None) ≡ b && is_some (part_of_kind (is_leaf_cell m.space t))
      by true = refl
      by false = refl

  nothing : (place : ℕ) (o : Option ℕ) → option_map (λ k. place + k) o ≡ None → o ≡ None
  nothing place None h = refl
  nothing place (Some k) h = absurd (cc)

  -- no statement governs a consolidated cell just where none of its cube has a part for it
  governs-none : (t : ℕ) → IsCell m.space t → list_all (λ rule. not (has_part m t rule)) (rules_for m t) ≡ true → governing (system_of m) t ≡ None
  unfolding system_of statements_before model.governing_from
  governs-none t cell h =
      governing-all m t (split m t cell) ∙ ap (λ o. option_map (λ k. statements_before m t + k) (option_map (λ k. 0 + k) o)) (all-none (has_part m t) (rules_for m t) h)

  none-governs : (t : ℕ) → IsCell m.space t → governing (system_of m) t ≡ None → list_all (λ rule. not (has_part m t rule)) (rules_for m t) ≡ true
  unfolding system_of statements_before model.governing_from
  none-governs t cell h = none-all (has_part m t) (rules_for m t) (nothing 0 _ (nothing (statements_before m t) _ (sym (governing-all m t (split m t cell)) ∙ h)))

  statement-area : (k : ℕ) (d : Statement) → k < length (rules_of m r.cube).statements → IsArea m.space r.cube (get_or (rules_of m r.cube).statements k d).area
  statement-area k d low = ((ruled.cube r.cube is.0).statements k d low).area

  module _ (wide : 0 < length (axes m.space cube)) where
    pub governed-totals : names_no_governed m cube statement.area r ≡ true → NamesNoGovernedTotal (system_of m) (rule_of m.space cube statement) r
    unfolding system_of names_no_governed
    governed-totals h c t of named total = governs-none t at_t.cell (by_cube at_t.own ∙ list_all-map (λ rule. not (has_part m t rule)) (rule_of m.space r.cube) (rules_of m r.cube).statements ∙ all)
      where
        found : IsAt m.space cube (elements_of m.space c) c × IsOf m.space cube statement.area true (elements_of m.space c)
        found = decided.cell-of m ruled cube there statement is_area true c of

        reached : (ts : List ℕ) × (Rattle.rule_model.specs.Targets.elements_by (elements_of m.space c) r.args ≡ Some ts) × IsAt m.space r.cube ts t × (length ts ≡ length (axes m.space r.cube))
        reached = decided.target-at m ruled cube there statement is_area r c t (elements_of m.space c) is found.0 found.1.long named

        at_t : IsAt m.space r.cube reached.0 t
        at_t = reached.2

        by_cube : cube_of m.space t ≡ r.cube → list_all (λ rule. not (has_part m t rule)) (cube_rules m (cube_of m.space t)) ≡ list_all (λ rule. not (has_part m t rule)) (cube_rules m r.cube)
        by_cube e = ap (λ k. list_all (λ rule. not (has_part m t rule)) (cube_rules m k)) e

        off : (b : Bool) (o : Option Formula) → is_none o || b ≡ true → (a : Bool) → (b ≡ true → a ≡ false) → not (a && is_some o) ≡ true
        off b None h true k = refl
        off b None h false k = refl
        off b (Some f) h a k = ap (λ a. not (a && true)) (k h)

        each : (s : Statement) → IsArea m.space r.cube s.area → is_none s.cons || names_no_total m cube statement.area r s.area ≡ true → not (has_part m t (rule_of m.space r.cube s)) ≡ true
        each s area h =
            ap (λ k. not (has_part m t (rule_of m.space k s))) (sym at_t.own) ∙ ap not (part-is s t total)
            ∙ off (names_no_total m cube statement.area r s.area) s.cons h (in_area m.space s.area t) (λ none. not-true (in_area m.space s.area t) (λ inside.
            (let leaf = total-leaves wide s.area area none c t of named inside in let clash = sym total ∙ leaf in cc)))

        all : list_all (λ s. not (has_part m t (rule_of m.space r.cube s))) (rules_of m r.cube).statements ≡ true
        all = list_all-from_AllPass _ (rules_of m r.cube).statements (λ k d low. each (get_or (rules_of m r.cube).statements k d) (statement-area k d low) (AllPass-from_list_all _ (rules_of m r.cube).statements h k d low))

    pub totals-governed : NamesNoGovernedTotal (system_of m) (rule_of m.space cube statement) r → names_no_governed m cube statement.area r ≡ true
    unfolding system_of names_no_governed
    totals-governed h = list_all-from_AllPass _ (rules_of m r.cube).statements (λ k d low. each k d low (get_or (rules_of m r.cube).statements k d) refl)
      where
        clash : (a : Bool) (o : Option Formula) (f : Formula) → o ≡ Some f → a ≡ true → not (a && is_some o) ≡ true → ⊥
        clash a o f e is h = (let none : false ≡ true = ap (λ o. not (true && is_some o)) (sym e) ∙ ap (λ a. not (a && is_some o)) (sym is) ∙ h in cc)

        leaves : (k : ℕ) (d : Statement) → k < length (rules_of m r.cube).statements → (f : Formula) → (get_or (rules_of m r.cube).statements k d).cons ≡ Some f
            → (c t : ℕ) → IsCellOf (system_of m) (rule_of m.space cube statement) true c → target m.space r c ≡ Some t → in_area m.space (get_or (rules_of m r.cube).statements k d).area t ≡ true → is_leaf_cell m.space t ≡ true
        leaves k d low f e c t of named inside = by (is_leaf_cell m.space t) refl
          where
            found : IsAt m.space cube (elements_of m.space c) c × IsOf m.space cube statement.area true (elements_of m.space c)
            found = decided.cell-of m ruled cube there statement is_area true c of

            reached : (ts : List ℕ) × (Rattle.rule_model.specs.Targets.elements_by (elements_of m.space c) r.args ≡ Some ts) × IsAt m.space r.cube ts t × (length ts ≡ length (axes m.space r.cube))
            reached = decided.target-at m ruled cube there statement is_area r c t (elements_of m.space c) is found.0 found.1.long named

            by : (b : Bool) → is_leaf_cell m.space t ≡ b → b ≡ true
            by true e = refl
            by false total =
                let none = none-governs t reached.2.cell (h c t of named total) in
                let own = ap (λ k. list_all (λ rule. not (has_part m t rule)) (cube_rules m k)) (sym reached.2.own) ∙ none in
                let all = sym (list_all-map (λ rule. not (has_part m t rule)) (rule_of m.space r.cube) (rules_of m r.cube).statements) ∙ own in
                let here = AllPass-from_list_all (λ s. not (has_part m t (rule_of m.space r.cube s))) (rules_of m r.cube).statements all k d low in
                absurd (clash (in_area m.space (get_or (rules_of m r.cube).statements k d).area t) (get_or (rules_of m r.cube).statements k d).cons f e inside
                (ap not (sym (part-is (get_or (rules_of m r.cube).statements k d) t total)) ∙ ap (λ n. not (has_part m t (rule_of m.space n (get_or (rules_of m r.cube).statements k d)))) reached.2.own ∙ here))

        each : (k : ℕ) (d : Statement) → k < length (rules_of m r.cube).statements → (s : Statement) → get_or (rules_of m r.cube).statements k d ≡ s → is_none s.cons || names_no_total m cube statement.area r s.area ≡ true
        each k d low s same = by s.cons refl
          where
            by : (o : Option Formula) → s.cons ≡ o → is_none o || names_no_total m cube statement.area r s.area ≡ true
            by None e = refl
            by (Some f) e = subst (λ (s : Statement). names_no_total m cube statement.area r s.area ≡ true) same
                (leaves-total wide (get_or (rules_of m r.cube).statements k d).area (statement-area k d low) (leaves k d low f (ap (λ (s : Statement). s.cons) same ∙ e)))
