-- Which statements govern a leaf cell below a cell.
use Rattle.std.proofs.Common.{◌≡◌, refl, sym, ap, ◌∙◌, arith, ℕ, zero, suc, ◌+◌, ◌*◌, ◌<◌, ◌≤◌, ◌⊎◌, inl, inr, mul-pos, Bool, true, false, ◌&&◌, ◌||◌, ltb, eqb, List, [], ◌∷◌, length, map, get_or, Option, Some, None, All, ℤ}
use Rattle.std.specs.Prelude.{is_some, option_map}
use Rattle.std.specs.List.{AllZip, list_any, position, position_or_len}
use Rattle.std.proofs.lemmas.Bool.{lt-ltb, cases_lt, eq-eqb}
use Rattle.std.proofs.lemmas.Bool.Decides.{nat_tests}
use Rattle.std.proofs.lemmas.List.Elements.{All-head, All-tail}
use Rattle.dim_core.specs.Outline.{Outline}
use Rattle.dim_weights.specs.Table.{leaves_of}
use Rattle.cube_space.specs.Layout.{axes, sizes_of}
use Rattle.cube_space.specs.Cells.{IsSpace, IsCell, cube_of, elements_of, is_leaf_cell}
use Rattle.rule_laws.specs.RuleSystem.{Rule, part_at}
use Rattle.rule_model.specs.declared.rules.Statement.{Statement}
use Rattle.rule_model.specs.BoundModel.{BoundModel, rules_of}
use Rattle.rule_model.specs.Areas.{in_set, in_sets}
use Rattle.rule_model.specs.Conditions.{IsSet, AreRules}
use Rattle.rule_model.specs.Governing.{governing_from, has_part}
use Rattle.rule_model.specs.System.{system_of, rule_of}
use Rattle.rule_model.specs.Weights.{weight, leaf_cells, leaves_below}
use Rattle.model_laws.proofs.Below.{among, leaf_cells-are, weight-counted}
use Rattle.cell_spread.specs.Spread.{cells_below, is_governed}
use Rattle.cell_spread.specs.Inside.Meets.{meets_in, meets, speaks_below}
use Rattle.cell_spread.proofs.Counting.{tally, any-tally, tally-same, passes, counts, below-tally}

-- ---- tests of lists

pub any-same : {X : Type 0} (p q : X → Bool) (xs : List X) → All (λ x. p x ≡ q x) xs → list_any p xs ≡ list_any q xs
any-same p q [] each = refl
any-same p q (x ∷ xs) each =
    ap (λ b. b || list_any p xs) (All-head (λ x. p x ≡ q x) x xs each) ∙ ap (λ b. q x || b) (any-same p q xs (All-tail (λ x. p x ≡ q x) x xs each))

pub any-none : {X : Type 0} (xs : List X) → list_any (λ x. false) xs ≡ false
any-none [] = refl
any-none (x ∷ xs) = any-none xs

any-or : {X : Type 0} (p q : X → Bool) (xs : List X) → list_any (λ x. p x || q x) xs ≡ (list_any p xs || list_any q xs)
any-or p q [] = refl
any-or p q (x ∷ xs) = ap (λ b. (p x || q x) || b) (any-or p q xs) ∙ turn (p x) (q x) (list_any p xs) (list_any q xs)
  where
    turn : (a b c d : Bool) → ((a || b) || (c || d)) ≡ ((a || c) || (b || d))
    turn true b c d = refl
    turn false true true d = refl
    turn false true false d = refl
    turn false false c d = refl

pub any-and : {X : Type 0} (b : Bool) (p : X → Bool) (xs : List X) → list_any (λ x. b && p x) xs ≡ (b && list_any p xs)
any-and true p xs = refl
any-and false p xs = any-none xs

-- the same, one statement after another or one cell after another
pub any-turned : {X S : Type 0} (a : S → Bool) (p : S → X → Bool) (xs : List X) (ss : List S)
    → list_any (λ x. list_any (λ s. a s && p s x) ss) xs ≡ list_any (λ s. a s && list_any (p s) xs) ss
any-turned a p xs [] = any-none xs
any-turned a p xs (s ∷ ss) =
    any-or (λ x. a s && p s x) (λ x. list_any (λ s. a s && p s x) ss) xs
    ∙ ap (λ b. b || list_any (λ x. list_any (λ s. a s && p s x) ss) xs) (any-and (a s) (p s) xs)
    ∙ ap (λ b. (a s && list_any (p s) xs) || b) (any-turned a p xs ss)

-- a place is found just where an item passes
found-any : {X : Type 0} (p : X → Bool) (xs : List X) → is_some (position p xs) ≡ list_any p xs
found-any p xs = by (cases_lt (position_or_len p xs) (length xs)) ∙ sym (within p xs)
  where
    within : {X : Type 0} (p : X → Bool) (xs : List X) → list_any p xs ≡ ltb (position_or_len p xs) (length xs)
    within p [] = refl
    within p (x ∷ xs) = at (p x) refl (within p xs)
      where
        more : (m n : ℕ) → ltb m n ≡ ltb (1 + m) (suc n)
        more m n = grind (arith, nat_tests)

        at : (b : Bool) → p x ≡ b → list_any p xs ≡ ltb (position_or_len p xs) (length xs) → list_any p (x ∷ xs) ≡ ltb (position_or_len p (x ∷ xs)) (length (x ∷ xs))
        at true on rest = rw on (sym (lt-ltb 0 (suc (length xs)) (omega arith)))
        at false off rest = rw off (rest ∙ more (position_or_len p xs) (length xs))

    by : (position_or_len p xs < length xs) ⊎ (length xs ≤ position_or_len p xs) → is_some (position p xs) ≡ ltb (position_or_len p xs) (length xs)
    by (inl low) = let on : ltb (position_or_len p xs) (length xs) ≡ true = grind (arith, nat_tests, low) in rw on refl
    by (inr past) = let off : ltb (position_or_len p xs) (length xs) ≡ false = grind (arith, nat_tests, past) in rw off refl

-- ---- one leaf cell

-- whether a statement governs leaf cells of these elements, where none before it does
abbrev speaks_of : List ℕ → Statement → Bool
speaks_of elements s = is_some s.leaf && in_sets s.area.sets elements

pub any-map : {X Y : Type 0} (p : Y → Bool) (f : X → Y) (xs : List X) → list_any p (map f xs) ≡ list_any (λ x. p (f x)) xs
any-map p f [] = refl
any-map p f (x ∷ xs) = ap (λ b. p (f x) || b) (any-map p f xs)

some-kept : (o : Option ℕ) → is_some (option_map (λ k. 0 + k) o) ≡ is_some o
some-kept None = refl
some-kept (Some k) = refl

module _ (m : BoundModel) (x : ℕ) (leaf : is_leaf_cell m.space x ≡ true) where
  abbrev its : List Statement
  its = (rules_of m (cube_of m.space x)).statements

  abbrev rule : Statement → Rule
  rule s = rule_of m.space (cube_of m.space x) s

  part-some : (s : Statement) → is_some (part_at (system_of m) x (rule s)) ≡ speaks_of (elements_of m.space x) s
  unfolding system_of
  part-some s = by (in_sets s.area.sets (elements_of m.space x)) (is_some s.leaf) refl refl
    where
      same : eqb (cube_of m.space x) (cube_of m.space x) ≡ true
      same = eq-eqb (cube_of m.space x) (cube_of m.space x) refl

      by : (b o : Bool) → in_sets s.area.sets (elements_of m.space x) ≡ b → is_some s.leaf ≡ o
          → is_some (part_at (system_of m) x (rule s)) ≡ (is_some s.leaf && in_sets s.area.sets (elements_of m.space x))
      by true true is has = rw (same, is, leaf, has) refl
      by true false is has = rw (same, is, leaf, has) refl
      by false true is has = rw (same, is, has) refl
      by false false is has = rw (same, is, has) refl

  each-speaks : (ss : List Statement) → list_any (λ s. is_some (part_at (system_of m) x (rule s))) ss ≡ list_any (speaks_of (elements_of m.space x)) ss
  each-speaks [] = refl
  each-speaks (s ∷ ss) =
      ap (λ b. b || list_any (λ s. is_some (part_at (system_of m) x (rule s))) ss) (part-some s) ∙ ap (λ b. speaks_of (elements_of m.space x) s || b) (each-speaks ss)

  governed-leaf : is_governed m x ≡ list_any (speaks_of (elements_of m.space x)) its
  unfolding governing_from
  governed-leaf =
      some-kept (position (has_part m x) (map rule its))
      ∙ found-any (has_part m x) (map rule its)
      ∙ any-map (has_part m x) rule its
      ∙ each-speaks its

-- ---- areas

in_sets-passes : (sets : List (Option (List ℕ))) (xs : List ℕ) → in_sets sets xs ≡ passes (map in_set sets) xs
unfolding in_sets
in_sets-passes [] xs = refl
in_sets-passes (set ∷ sets) [] = refl
in_sets-passes (set ∷ sets) (x ∷ xs) = ap (λ b. in_set set x && b) (in_sets-passes sets xs)

some-product : (m n : ℕ) → ltb 0 (m * n) ≡ (ltb 0 m && ltb 0 n)
some-product zero n = let e : 0 * n ≡ 0 = omega arith in ap (ltb 0) e
some-product (suc m) zero =
    let e : suc m * 0 ≡ 0 = omega arith in
    let on : ltb 0 (suc m) ≡ true = lt-ltb 0 (suc m) (omega arith) in
    rw (e, on) refl
some-product (suc m) (suc n) =
    let big : 0 < suc m * suc n = mul-pos {m = suc m} {n = suc n} (omega arith) (omega arith) in
    let a : ltb 0 (suc m * suc n) ≡ true = lt-ltb 0 (suc m * suc n) big in
    let b : ltb 0 (suc m) ≡ true = lt-ltb 0 (suc m) (omega arith) in
    let c : ltb 0 (suc n) ≡ true = lt-ltb 0 (suc n) (omega arith) in
    rw (a, b, c) refl

pub counts-meets : (ds : List Outline) (es : List ℕ) (sets : List (Option (List ℕ))) → AllZip IsSet (sizes_of ds) sets → ltb 0 (counts ds es (map in_set sets)) ≡ meets ds es sets
counts-meets [] es sets are = refl
counts-meets (d ∷ ds) [] [] are = absurd are
counts-meets (d ∷ ds) [] (set ∷ sets) are = refl
counts-meets (d ∷ ds) (e ∷ es) [] are = absurd are
counts-meets (d ∷ ds) (e ∷ es) (set ∷ sets) are =
    some-product (tally (λ (pair : ℕ × ℤ). in_set set pair.0) (leaves_of d e)) (counts ds es (map in_set sets))
    ∙ ap (λ b. b && ltb 0 (counts ds es (map in_set sets))) (sym (any-tally (λ (pair : ℕ × ℤ). in_set set pair.0) (leaves_of d e)))
    ∙ ap (λ b. meets_in d e set && b) (counts-meets ds es sets are.1)

-- ---- all leaf cells below

module _ (m : BoundModel) (valid : IsSpace m.space) (cell : ℕ) (here : IsCell m.space cell) where
  -- what is below is a leaf cell of the same cube
  abbrev IsBelow : ℕ → Type 0
  IsBelow x = (is_leaf_cell m.space x ≡ true) × (cube_of m.space cell ≡ cube_of m.space x)

  below-pairs : All (λ (pair : ℕ × ℤ). IsBelow pair.0) (leaves_below m.space cell)
  below-pairs =
      among (weight m.space cell) (λ (pair : ℕ × ℤ). IsBelow pair.0) (leaf_cells m.space)
      (λ k d less on. (let leaf = leaf_cells-are m.space k d less in (leaf.1, (weight-counted m.space cell (get_or (leaf_cells m.space) k d) on).same_cube)))

  all-firsts : (P : ℕ → Type 0) (pairs : List (ℕ × ℤ)) → All (λ (pair : ℕ × ℤ). P pair.0) pairs → All P (map (λ (pair : ℕ × ℤ). pair.0) pairs)
  all-firsts P [] all k d less = absurd (omega (arith, less))
  all-firsts P (pair ∷ pairs) all zero d less = All-head (λ (pair : ℕ × ℤ). P pair.0) pair pairs all
  all-firsts P (pair ∷ pairs) all (suc k) d less = all-firsts P pairs (All-tail (λ (pair : ℕ × ℤ). P pair.0) pair pairs all) k d (omega (arith, less))

  pub below-are : All IsBelow (cells_below m.space cell)
  below-are = all-firsts IsBelow (leaves_below m.space cell) below-pairs

  abbrev statements : List Statement
  statements = (rules_of m (cube_of m.space cell)).statements

  governed-below : (x : ℕ) → IsBelow x → is_governed m x ≡ list_any (speaks_of (elements_of m.space x)) statements
  governed-below x is =
      governed-leaf m x is.0 ∙ ap (λ k. list_any (speaks_of (elements_of m.space x)) (rules_of m k).statements) (sym is.1)

  area-below : (sets : List (Option (List ℕ))) → AllZip IsSet (sizes_of (axes m.space (cube_of m.space cell))) sets
      → list_any (λ x. in_sets sets (elements_of m.space x)) (cells_below m.space cell) ≡ meets (axes m.space (cube_of m.space cell)) (elements_of m.space cell) sets
  area-below sets are =
      any-tally (λ x. in_sets sets (elements_of m.space x)) (cells_below m.space cell)
      ∙ ap (ltb 0) (tally-same (λ x. in_sets sets (elements_of m.space x)) (λ x. passes (map in_set sets) (elements_of m.space x)) (cells_below m.space cell) (λ x. in_sets-passes sets (elements_of m.space x))
      ∙ below-tally m.space valid cell here (map in_set sets))
      ∙ counts-meets (axes m.space (cube_of m.space cell)) (elements_of m.space cell) sets are

  each-meets : (ss : List Statement) → All (λ (s : Statement). AllZip IsSet (sizes_of (axes m.space (cube_of m.space cell))) s.area.sets) ss
      → list_any (λ s. is_some s.leaf && list_any (λ x. in_sets s.area.sets (elements_of m.space x)) (cells_below m.space cell)) ss
      ≡ list_any (speaks_below (axes m.space (cube_of m.space cell)) (elements_of m.space cell)) ss
  each-meets ss are =
      any-same (λ s. is_some s.leaf && list_any (λ x. in_sets s.area.sets (elements_of m.space x)) (cells_below m.space cell))
      (speaks_below (axes m.space (cube_of m.space cell)) (elements_of m.space cell)) ss
      (λ k d less. ap (λ b. is_some (get_or ss k d).leaf && b) (area-below (get_or ss k d).area.sets (are k d less)))

  pub ruled-below : All (λ (s : Statement). AllZip IsSet (sizes_of (axes m.space (cube_of m.space cell))) s.area.sets) statements
      → list_any (is_governed m) (cells_below m.space cell) ≡ list_any (speaks_below (axes m.space (cube_of m.space cell)) (elements_of m.space cell)) statements
  ruled-below are =
      any-same (is_governed m) (λ x. list_any (speaks_of (elements_of m.space x)) statements) (cells_below m.space cell) (λ k d less. governed-below (get_or (cells_below m.space cell) k d) (below-are k d less))
      ∙ any-turned (λ (s : Statement). is_some s.leaf) (λ (s : Statement) x. in_sets s.area.sets (elements_of m.space x)) (cells_below m.space cell) statements
      ∙ each-meets statements are

-- the areas of a cube's statements
pub statements-sets : (m : BoundModel) (cube : ℕ) → AreRules m.space m.rules → cube < length m.space.cubes
    → All (λ (s : Statement). AllZip IsSet (sizes_of (axes m.space cube)) s.area.sets) (rules_of m cube).statements
statements-sets m cube are there k d less = ((are.cube cube there).statements k d less).area
