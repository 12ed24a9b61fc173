-- What a cell has of the elements of a cell that feeds it.
use Rattle.std.proofs.Common.{◌≡◌, ◌⊎◌, inl, inr, refl, sym, ap, ◌∙◌, subst, ℕ, zero, suc, Bool, true, false, ℤ, pos, List, [], ◌∷◌, length, get_or, Option, Some, None, eqb, nat_lt, arith}
use Rattle.std.specs.Prelude.{slice_get, if◌then◌else◌}
use Rattle.std.specs.List.{Contains, All}
use Rattle.std.proofs.lemmas.Bool.{and_parts, ltb-true, eqb-true}
use Rattle.std.proofs.lemmas.List.Elements.{All-head, All-tail}
use Rattle.std.proofs.lemmas.Option.{option_and_then_some}
use Rattle.dim_core.specs.Outline.{Outline, IsDimension, IsElement, components_of}
use Rattle.dim_weights.specs.Coefficients.{coef, coef_over}
use Rattle.dim_weights.specs.Table.{is_nonzero}
use Rattle.dim_weights.proofs.Equations.{coef-solves}
use Rattle.dim_weights.proofs.Nonzero.{first-factor, second-factor}
use Rattle.cube_space.specs.Radix.{are_digits}
use Rattle.cube_space.specs.Layout.{Layout, axes, sizes_of}
use Rattle.cube_space.specs.Cells.{IsSpace, IsCell, cube_of, elements_of, is_leaf, is_leaf_cell, cell_number}
use Rattle.cube_space.proofs.Places.{cell-place}
use Rattle.rule_laws.specs.declared.reference.Reference.{Reference}
use Rattle.rule_laws.specs.declared.reference.Arg.{Arg}
use Rattle.rule_laws.specs.Feeding.{leaves_of}
use Rattle.rule_model.specs.BoundModel.{BoundModel}
use Rattle.rule_model.specs.System.{system_of}
use Rattle.rule_model.specs.Named.{with_element}
use Rattle.rule_model.specs.Targets.{element_by, elements_by, target}
use Rattle.rule_model.specs.Weights.{coef_product, weight}
use Rattle.model_laws.proofs.Levels.{axes-are}
use Rattle.model_laws.proofs.Below.{weight-counted}
use Rattle.feed_sources.proofs.BelowFacts.{IsAt, number-at, below-has, stands-leaf, weight-product}

-- a leaf counts in itself alone
pub alone : (d : Outline) → IsDimension d → (leaf other : ℕ) → IsElement d leaf → components_of d leaf ≡ [] → is_nonzero (coef d leaf other) ≡ true → leaf ≡ other
alone d dim leaf other here none some = by (eqb leaf other) refl
  where
    is : coef d leaf other ≡ (if eqb leaf other then pos 1 else pos 0)
    is = coef-solves d dim other leaf here ∙ ap (coef_over other leaf (λ e. coef d e other)) none

    by : (b : Bool) → eqb leaf other ≡ b → leaf ≡ other
    by true e = eqb-true leaf other e
    by false e = absurd (let zero : coef d leaf other ≡ pos 0 = is ∙ ap (λ b. if b then pos 1 else pos 0) e in let f : false ≡ true = ap is_nonzero (sym zero) ∙ some in cc f)

pub leaf-none : (d : Outline) (e : ℕ) → is_leaf d e ≡ true → components_of d e ≡ []
leaf-none d e leaf = by (components_of d e) (eqb-true (length (components_of d e)) 0 leaf)
  where
    by : (parts : List (ℕ × ℤ)) → length parts ≡ 0 → parts ≡ []
    by [] none = refl
    by (part ∷ parts) none = absurd (omega (arith, none))

-- a leaf element of a cell is that of each leaf cell below it
counted-leaf : (ds : List Outline) (es ls : List ℕ) (k : ℕ) (d : Outline) → All IsDimension ds → are_digits (sizes_of ds) es ≡ true → is_nonzero (coef_product ds es ls) ≡ true
    → slice_get ds k ≡ Some d → is_leaf d (get_or es k 0) ≡ true → get_or es k 0 ≡ get_or ls k 0
counted-leaf [] es ls k d dims are on own leaf = absurd (cc)
counted-leaf (x ∷ ds) [] ls k d dims are on own leaf = absurd (cc)
counted-leaf (x ∷ ds) (e ∷ es) [] k d dims are on own leaf = absurd (cc)
counted-leaf (x ∷ ds) (e ∷ es) (l ∷ ls) zero d dims are on own leaf =
    let same : x ≡ d = cc in
    let low = ltb-true e (length x.elements) (and_parts (nat_lt e (length x.elements)) (are_digits (sizes_of ds) es) are).0 in
    let here : is_leaf x e ≡ true = ap (λ (o : Outline). is_leaf o e) same ∙ leaf in
    alone x (All-head IsDimension x ds dims) e l low (leaf-none x e here) (first-factor (coef x e l) (coef_product ds es ls) on)
counted-leaf (x ∷ ds) (e ∷ es) (l ∷ ls) (suc k) d dims are on own leaf =
    counted-leaf ds es ls k d (All-tail IsDimension x ds dims) (and_parts (nat_lt e (length x.elements)) (are_digits (sizes_of ds) es) are).1
    (second-factor (coef x e l) (coef_product ds es ls) on) own leaf

-- each element of a leaf cell below counts
counted-at : (ds : List Outline) (es ls : List ℕ) (k : ℕ) (d : Outline) → is_nonzero (coef_product ds es ls) ≡ true → slice_get ds k ≡ Some d
    → is_nonzero (coef d (get_or es k 0) (get_or ls k 0)) ≡ true
counted-at [] es ls k d on own = absurd (cc)
counted-at (x ∷ ds) [] ls k d on own = absurd (cc)
counted-at (x ∷ ds) (e ∷ es) [] k d on own = absurd (cc)
counted-at (x ∷ ds) (e ∷ es) (l ∷ ls) zero d on own =
    let same : x ≡ d = cc in
    ap (λ (o : Outline). is_nonzero (coef o e l)) (sym same) ∙ first-factor (coef x e l) (coef_product ds es ls) on
counted-at (x ∷ ds) (e ∷ es) (l ∷ ls) (suc k) d on own = counted-at ds es ls k d (second-factor (coef x e l) (coef_product ds es ls) on) own

module _ (m : BoundModel) (valid : IsSpace m.space) (t c : ℕ) (cell : IsCell m.space t) (has : Contains (leaves_of (system_of m) t) c) where
  below-weight : is_leaf_cell m.space t ≡ false → is_nonzero (weight m.space t c) ≡ true
  unfolding system_of
  below-weight total = (below-has m.space t c (rw total at has)).1

  pub below-cube : cube_of m.space c ≡ cube_of m.space t
  below-cube = by (is_leaf_cell m.space t) refl
    where
      by : (b : Bool) → is_leaf_cell m.space t ≡ b → cube_of m.space c ≡ cube_of m.space t
      by true leaf = ap (cube_of m.space) (sym (stands-leaf m t leaf c has))
      by false total = sym (weight-counted m.space t c (below-weight total)).same_cube

  pub below-kept : (k : ℕ) (d : Outline) → slice_get (axes m.space (cube_of m.space t)) k ≡ Some d → is_leaf d (get_or (elements_of m.space t) k 0) ≡ true
      → get_or (elements_of m.space t) k 0 ≡ get_or (elements_of m.space c) k 0
  below-kept k d own leaf = by (is_leaf_cell m.space t) refl
    where
      by : (b : Bool) → is_leaf_cell m.space t ≡ b → get_or (elements_of m.space t) k 0 ≡ get_or (elements_of m.space c) k 0
      by true same = ap (λ x. get_or (elements_of m.space x) k 0) (stands-leaf m t same c has)
      by false total =
          counted-leaf (axes m.space (cube_of m.space t)) (elements_of m.space t) (elements_of m.space c) k d (axes-are m.space valid (cube_of m.space t))
          (cell-place m.space t cell).place.digits
          (ap is_nonzero (sym (weight-product m.space t c below-cube)) ∙ below-weight total) own leaf

  -- each element of the cell is that of a leaf cell below it, or the leaf cell's counts in it
  pub below-counts : (k : ℕ) (d : Outline) → slice_get (axes m.space (cube_of m.space t)) k ≡ Some d
      → (get_or (elements_of m.space t) k 0 ≡ get_or (elements_of m.space c) k 0) ⊎ (is_nonzero (coef d (get_or (elements_of m.space t) k 0) (get_or (elements_of m.space c) k 0)) ≡ true)
  below-counts k d own = by (is_leaf_cell m.space t) refl
    where
      by : (b : Bool) → is_leaf_cell m.space t ≡ b
          → (get_or (elements_of m.space t) k 0 ≡ get_or (elements_of m.space c) k 0) ⊎ (is_nonzero (coef d (get_or (elements_of m.space t) k 0) (get_or (elements_of m.space c) k 0)) ≡ true)
      by true same = inl (ap (λ x. get_or (elements_of m.space x) k 0) (stands-leaf m t same c has))
      by false total =
          inr (counted-at (axes m.space (cube_of m.space t)) (elements_of m.space t) (elements_of m.space c) k d (ap is_nonzero (sym (weight-product m.space t c below-cube)) ∙ below-weight total) own)

-- ---- what a reference names

pub argument-names : (elements : List ℕ) (args : List Arg) (found : List ℕ) (k : ℕ) (arg : Arg) → elements_by elements args ≡ Some found → slice_get args k ≡ Some arg
    → element_by elements arg ≡ Some (get_or found k 0)
argument-names elements [] found k arg is own = absurd (cc)
argument-names elements (a ∷ args) found k arg is own = by (λ es j. argument-names elements args es j arg) (element_by elements a) (elements_by elements args) refl refl is
  where
    by : ((es : List ℕ) (j : ℕ) → elements_by elements args ≡ Some es → slice_get args j ≡ Some arg → element_by elements arg ≡ Some (get_or es j 0))
        → (o : Option ℕ) (os : Option (List ℕ)) → element_by elements a ≡ o → elements_by elements args ≡ os → with_element o os ≡ Some found → element_by elements arg ≡ Some (get_or found k 0)
    by later None os one more at = absurd (cc at)
    by later (Some e) None one more at = absurd (cc at)
    by later (Some e) (Some es) one more at = let same : e ∷ es ≡ found = cc in subst (λ (xs : List ℕ). element_by elements arg ≡ Some (get_or xs k 0)) same (at_place k own)
      where
        at_place : (k : ℕ) → slice_get (a ∷ args) k ≡ Some arg → element_by elements arg ≡ Some (get_or (e ∷ es) k 0)
        at_place zero here = let own : a ≡ arg = cc in ap (element_by elements) (sym own) ∙ one
        at_place (suc j) here = later es j more here

pub target-parts : (space : Layout) (r : Reference) (x t : ℕ) → target space r x ≡ Some t
    → (found : List ℕ) × (elements_by (elements_of space x) r.args ≡ Some found) × IsAt space r.cube found t
unfolding target
target-parts space r x t is =
    option_and_then_some (cell_number space r.cube) (elements_by (elements_of space x) r.args) t is (λ elements own number. (elements, own, number-at space r.cube elements t number))
