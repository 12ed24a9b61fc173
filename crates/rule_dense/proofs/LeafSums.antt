-- The sum of the leaf cells below a cell, one cell of its cube after another.
use Rattle.std.proofs.Common.{◌≡◌, refl, sym, ◌∙◌, ap, subst, arith, ℕ, zero, suc, ◌+◌, ◌-◌, ◌<◌, ◌≤◌, Bool, true, false, ℤ, pos, List, [], ◌∷◌, ◌++◌, length, get_or, take, Option, Some, None}
use Rattle.std.specs.Prelude.{fold, filter}
use Rattle.std.specs.List.{range_with_len, filter_map}
use Rattle.std.specs.Option.{option_map, option_map_or}
use Rattle.std.proofs.lemmas.List.{take_more}
use Rattle.std.proofs.lemmas.List.Elements.{filter_map-append}
use Rattle.cube_fixed.specs.declared.value.Value.{Value}
use Rattle.cube_fixed.specs.Total.{Total, no_terms, with_term}
use Rattle.cube_space.specs.Layout.{Layout, sizes}
use Rattle.cube_space.specs.Cells.{IsCell, size_of, cube_of, elements_of, first_cell, cell_count, is_leaf_cell}
use Rattle.cube_space.proofs.Places.{cell-place, run_within}
use Rattle.cube_space.proofs.Radix.{number-below}
use Rattle.dim_weights.specs.Table.{is_nonzero, nonzero_among}
use Rattle.model_laws.proofs.Placed.{weight-other}
use Rattle.model_laws.proofs.Statements.{range-split}
use Rattle.rule_laws.proofs.SystemFacts.{add_pair}
use Rattle.rule_model.specs.Weights.{weight, leaf_cells, leaves_below}
use Rattle.rule_model.specs.Targets.{with_element_at, with_components}
use Rattle.rule_dense.specs.Inside.Plain.{with_leaf}
use Rattle.std.proofs.lemmas.List.Sums.{fold-append}
use Rattle.dim_weights.proofs.Nonzero.{counts-nonzero as nonzero}

module _ (space : Layout) (table : ℕ → Value) (cell : ℕ) where
  abbrev pub with_leaves : Total → List ℕ → Total
  with_leaves = fold (with_leaf space table cell)

  -- cells that are no leaf cells, and weights that are 0, add nothing
  with_leaves-are : (total : Total) (xs : List ℕ) → fold (add_pair table) total (nonzero_among (weight space cell) (filter (is_leaf_cell space) xs)) ≡ with_leaves total xs
  unfolding with_leaf
  with_leaves-are total [] = refl
  with_leaves-are total (x ∷ xs) = by (is_leaf_cell space x) (is_nonzero (weight space cell x)) refl refl
      (λ (after : Total). with_leaves-are after xs)
    where
      by : (leaf some : Bool) → is_leaf_cell space x ≡ leaf → is_nonzero (weight space cell x) ≡ some
          → ((after : Total) → fold (add_pair table) after (nonzero_among (weight space cell) (filter (is_leaf_cell space) xs)) ≡ with_leaves after xs)
          → fold (add_pair table) total (nonzero_among (weight space cell) (filter (is_leaf_cell space) (x ∷ xs))) ≡ with_leaves total (x ∷ xs)
      by true true leaf some later = rw (leaf, some) (later (with_term total (weight space cell x) (table x)))
      by true false leaf none later = rw (leaf, none) (later total)
      by false some other any later = rw other (later total)

  pub added-none : (total : Total) (x : ℕ) → weight space cell x ≡ pos 0 → with_leaf space table cell total x ≡ total
  unfolding with_leaf
  added-none total x none = by (is_leaf_cell space x) refl
    where
      by : (b : Bool) → is_leaf_cell space x ≡ b → with_leaf space table cell total x ≡ total
      by true leaf = rw (leaf, none) refl
      by false other = rw other refl

  pub added-other : (total : Total) (x : ℕ) → is_leaf_cell space x ≡ false → with_leaf space table cell total x ≡ total
  unfolding with_leaf
  added-other total x other = rw other refl

  pub added-some : (total : Total) (x : ℕ) → is_leaf_cell space x ≡ true → (weight space cell x ≡ pos 0 → ⊥) → with_leaf space table cell total x ≡ with_term total (weight space cell x) (table x)
  unfolding with_leaf
  added-some total x leaf counted = let some = nonzero (weight space cell x) counted in rw (leaf, some) refl

  nothing-added : (total : Total) (a n : ℕ) → ((x : ℕ) → a ≤ x → x < a + n → weight space cell x ≡ pos 0) → with_leaves total (range_with_len a n) ≡ total
  nothing-added total a zero none = refl
  nothing-added total a (suc n) none =
      ap (λ (t : Total). with_leaves t (range_with_len (a + 1) n)) (added-none total a (none a (omega arith) (omega arith)))
      ∙ nothing-added total (a + 1) n (λ x from before. none x (omega (arith, from)) (omega (arith, before)))

  module _ (is_cell : IsCell space cell) where
    abbrev cube : ℕ
    cube = cube_of space cell

    -- the cells of a cube stand in its run
    in_run : (x : ℕ) → IsCell space x → cube ≡ cube_of space x → (first_cell space cube ≤ x) × (x < first_cell space cube + cell_count space cube)
    in_run x here same =
        let has = cell-place space x here in
        let below = number-below (sizes space (cube_of space x)) (elements_of space x) has.place.digits in
        subst (λ k. (first_cell space k ≤ x) × (x < first_cell space k + cell_count space k)) (sym same) (omega (arith, has.number), omega (arith, has.number, below))

    pub leaves-by_cube : fold (add_pair table) no_terms (leaves_below space cell) ≡ with_leaves no_terms (range_with_len (first_cell space cube) (cell_count space cube))
    unfolding leaf_cells
    leaves-by_cube =
        let first = first_cell space cube in
        let count = cell_count space cube in
        let within : first + count ≤ size_of space = run_within space cube (cell-place space cell is_cell).place.there in
        let rest = size_of space - (first + count) in
        let whole : size_of space ≡ first + (count + rest) = omega (arith, within) in
        let split : range_with_len 0 (size_of space) ≡ range_with_len 0 first ++ (range_with_len first count ++ range_with_len (first + count) rest) =
        ap (range_with_len 0) whole ∙ range-split 0 first (count + rest) ∙ ap (λ (k : ℕ). range_with_len 0 first ++ range_with_len k (count + rest)) (let e : 0 + first ≡ first = omega arith in e)
        ∙ ap (λ (xs : List ℕ). range_with_len 0 first ++ xs) (range-split first count rest) in
        let before : with_leaves no_terms (range_with_len 0 first) ≡ no_terms =
        nothing-added no_terms 0 first (λ x from less. weight-other space cell x (λ same. (let run = in_run x (omega (arith, less, within)) same in omega (arith, run.0, less)))) in
        let own = with_leaves no_terms (range_with_len first count) in
        let after : with_leaves own (range_with_len (first + count) rest) ≡ own =
        nothing-added own (first + count) rest (λ x from less. weight-other space cell x (λ same. (let run = in_run x (omega (arith, less, whole)) same in omega (arith, run.1, from)))) in
        with_leaves-are no_terms (range_with_len 0 (size_of space))
        ∙ ap (with_leaves no_terms) split
        ∙ fold-append (with_leaf space table cell) no_terms (range_with_len 0 first) (range_with_len first count ++ range_with_len (first + count) rest)
        ∙ ap (λ (t : Total). with_leaves t (range_with_len first count ++ range_with_len (first + count) rest)) before
        ∙ fold-append (with_leaf space table cell) no_terms (range_with_len first count) (range_with_len (first + count) rest)
        ∙ after

  -- one cell more
  pub with_leaves-more : (a n : ℕ) → with_leaves no_terms (range_with_len a (n + 1)) ≡ with_leaf space table cell (with_leaves no_terms (range_with_len a n)) (a + n)
  with_leaves-more a n =
      ap (with_leaves no_terms) (range-split a n 1) ∙ fold-append (with_leaf space table cell) no_terms (range_with_len a n) (range_with_len (a + n) 1)

-- ---- the cells of a cube, by their places in its run

pub in_run-cell : (space : Layout) (cube first count number : ℕ) → cube < length space.cubes → first ≡ first_cell space cube → count ≡ cell_count space cube → number < count → IsCell space (first + number)
in_run-cell space cube first count number there is many less = omega (arith, run_within space cube there, is, many, less)

-- ---- components

pub fold_filter_map-push : {X Y T : Type 0} (h : X → Option Y) (f : T → Y → T) (total : T) (xs : List X) (x : X)
    → fold f total (filter_map h (xs ++ x ∷ [])) ≡ option_map_or (f (fold f total (filter_map h xs))) (h x) (fold f total (filter_map h xs))
fold_filter_map-push h f total xs x =
    ap (fold f total) (filter_map-append h xs (x ∷ [])) ∙ fold-append f total (filter_map h xs) (filter_map h (x ∷ [])) ∙ by (h x) refl
  where
    by : (o : Option _) → h x ≡ o → fold f (fold f total (filter_map h xs)) (filter_map h (x ∷ [])) ≡ option_map_or (f (fold f total (filter_map h xs))) (h x) (fold f total (filter_map h xs))
    by None is = rw is refl
    by (Some y) is = rw is refl

module _ (space : Layout) (table : ℕ → Value) (cell dim : ℕ) (parts : List (ℕ × ℤ)) (i : ℕ) (d : ℕ × ℤ) (less : i < length parts) where
  abbrev part : ℕ × ℤ
  part = get_or parts i d

  abbrev so_far : Total
  so_far = fold (add_pair table) no_terms (with_components space cell dim (take i parts))

  one_part : fold (add_pair table) no_terms (with_components space cell dim (take (i + 1) parts))
      ≡ option_map_or (add_pair table so_far) (option_map (λ x. (x, part.1)) (with_element_at space cell dim part.0)) so_far
  one_part =
      ap (λ (xs : List (ℕ × ℤ)). fold (add_pair table) no_terms (with_components space cell dim xs)) (take_more parts i d less)
      ∙ fold_filter_map-push (λ part. option_map (λ x. (x, part.1)) (with_element_at space cell dim part.0)) (add_pair table) no_terms (take i parts) part

  pub parts-some : (x : ℕ) → with_element_at space cell dim part.0 ≡ Some x → fold (add_pair table) no_terms (with_components space cell dim (take (i + 1) parts)) ≡ with_term so_far part.1 (table x)
  parts-some x is = one_part ∙ rw is refl

  pub parts-none : with_element_at space cell dim part.0 ≡ None → fold (add_pair table) no_terms (with_components space cell dim (take (i + 1) parts)) ≡ so_far
  parts-none is = one_part ∙ rw is refl
