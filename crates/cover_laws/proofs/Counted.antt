-- The leaf cells that a cell stands for, element by element.
use Rattle.std.proofs.Common.{◌≡◌, refl, sym, ap, ◌∙◌, arith, subst, ℕ, zero, suc, ◌<◌, Bool, true, false, Option, Some, None, ℤ, pos, List, [], ◌∷◌, length, get_or, map, filter, ◌==◌, if◌then◌else◌, Contains, All, ext_get_or}
use Rattle.std.specs.Prelude.{slice_get}
use Rattle.std.specs.List.{range_with_len}
use Rattle.std.specs.Option.{option_map_or}
use Rattle.std.proofs.lemmas.Bool.{and_parts, eq-eqb, cond_both}
use Rattle.std.proofs.lemmas.Bool.Decides.{Decides-eqb}
use Rattle.std.proofs.lemmas.List.Elements.{Contains-get_or, Contains-append_right}
use Rattle.dim_core.specs.Outline.{Outline, IsDimension, IsElement, components_of}
use Rattle.dim_weights.specs.Coefficients.{coef, coef_over}
use Rattle.dim_weights.specs.Table.{is_nonzero, nonzero_among, leaves_of}
use Rattle.dim_weights.proofs.Equations.{coef-solves}
use Rattle.cube_space.specs.Layout.{axes}
use Rattle.cube_space.specs.Cells.{IsSpace, IsCell, cube_of, elements_of, size_of, is_leaf, are_leaves, is_leaf_cell, cell_number}
use Rattle.cube_space.proofs.Places.{cell_number-cell}
use Rattle.rule_model.specs.Weights.{coef_product, weight, leaf_cells, leaves_below}
use Rattle.rule_model.specs.BoundModel.{BoundModel}
use Rattle.rule_model.specs.System.{system_of}
use Rattle.rule_laws.specs.Feeding.{leaves_of as cells_of}
use Rattle.model_laws.proofs.Levels.{axis-is, element-of}
use Rattle.order_laws.proofs.CellFacts.{cell-digits, digits-long}
use Rattle.cover_laws.specs.Covered.{counts_in}
use Rattle.cover_laws.proofs.Pairs.{there-low, arg-there}
use Rattle.cover_laws.proofs.Reached.{IsLeafBelow}
pub use Rattle.dim_weights.proofs.ByLevel.{range-contains}
use Rattle.dim_weights.proofs.Nonzero.{both-factors, first-factor, second-factor}
pub use Rattle.dim_weights.proofs.Nonzero.{among-in}

-- ---- what a leaf counts in a leaf

module _ (d : Outline) (dim : IsDimension d) where
  no-parts : (e : ℕ) → is_leaf d e ≡ true → components_of d e ≡ []
  no-parts e h = by (components_of d e) h
    where
      by : (xs : List (ℕ × ℤ)) → (length xs == 0) ≡ true → xs ≡ []
      by [] h = refl
      by (x ∷ xs) h = absurd (let e = (Decides-eqb (suc (length xs)) 0).0 h in omega (arith, e))

  leaf-coef : (e l : ℕ) → IsElement d e → is_leaf d e ≡ true → coef d e l ≡ (if e == l then pos 1 else pos 0)
  leaf-coef e l here leaf = coef-solves d dim l e here ∙ ap (coef_over l e (λ x. coef d x l)) (no-parts e leaf)

  pub own-counts : (e : ℕ) → IsElement d e → is_leaf d e ≡ true → is_nonzero (coef d e e) ≡ true
  own-counts e here leaf = ap is_nonzero (leaf-coef e e here leaf) ∙ ap (λ t. is_nonzero (if t then pos 1 else pos 0)) (eq-eqb e e refl)

  pub only-own : (e l : ℕ) → IsElement d e → is_leaf d e ≡ true → is_nonzero (coef d e l) ≡ true → e ≡ l
  only-own e l here leaf h = by (e == l) refl (ap is_nonzero (sym (leaf-coef e l here leaf)) ∙ h)
    where
      by : (t : Bool) → (e == l) ≡ t → is_nonzero (if t then pos 1 else pos 0) ≡ true → e ≡ l
      by true is h = (Decides-eqb e l).0 is
      by false is h = absurd (cc)

-- ---- products

-- each element of the one counts in that of the other
abbrev pub IsUnder : List Outline → List ℕ → List ℕ → Type 0
IsUnder ds ts xs = (j : ℕ) (d : Outline) → slice_get ds j ≡ Some d → is_nonzero (coef d (get_or ts j 0) (get_or xs j 0)) ≡ true

pub under-product : (ds : List Outline) (ts xs : List ℕ) → length ts ≡ length ds → length xs ≡ length ds → IsUnder ds ts xs → is_nonzero (coef_product ds ts xs) ≡ true
under-product [] ts xs long wide h = refl
under-product (d ∷ ds) [] xs long wide h = absurd (omega arith)
under-product (d ∷ ds) (t ∷ ts) [] long wide h = absurd (omega arith)
under-product (d ∷ ds) (t ∷ ts) (x ∷ xs) long wide h =
    both-factors (coef d t x) (coef_product ds ts xs) (h 0 d refl) (under-product ds ts xs (omega arith) (omega arith) (λ j o at. h (suc j) o at))

pub product-under : (ds : List Outline) (ts xs : List ℕ) → is_nonzero (coef_product ds ts xs) ≡ true → IsUnder ds ts xs
product-under [] ts xs h j o at = absurd (cc)
product-under (d ∷ ds) [] xs h j o at = absurd (cc)
product-under (d ∷ ds) (t ∷ ts) [] h j o at = absurd (cc)
product-under (d ∷ ds) (t ∷ ts) (x ∷ xs) h zero o at =
    let same : d ≡ o = cc in subst (λ (d : Outline). is_nonzero (coef d t x) ≡ true) same (first-factor (coef d t x) (coef_product ds ts xs) h)
product-under (d ∷ ds) (t ∷ ts) (x ∷ xs) h (suc j) o at = product-under ds ts xs (second-factor (coef d t x) (coef_product ds ts xs) h) j o at

-- ---- lists with values other than 0

-- a pair of these is one of the list, with a value other than 0
abbrev IsAmong : (ℕ → ℤ) → List ℕ → ℕ × ℤ → Type 0
IsAmong f ls p = Contains ls p.0 × (is_nonzero (f p.0) ≡ true)

pub in-among : (f : ℕ → ℤ) (ls : List ℕ) → All (λ p. Contains ls p.0 × (is_nonzero (f p.0) ≡ true)) (nonzero_among f ls)
in-among f ls = Rattle.model_laws.proofs.Below.among f (λ p. Contains ls p.0 × (is_nonzero (f p.0) ≡ true)) ls (λ k d low on. (Contains-get_or ls k d low, on))

pub contained : {X : Type 0} (P : X → Type 0) (xs : List X) (x : X) → All P xs → Contains xs x → P x
contained P xs x all c = subst P c.2 (all c.0 x c.1)

-- ---- one dimension: the leaves below an element are those that count in it

module _ (ds : List Outline) where
  pub below-counts : (j t l : ℕ) → IsLeafBelow ds j t l → counts_in ds j t l ≡ true
  below-counts j t l (w, c) = by (slice_get ds j) c
    where
      by : (o : Option Outline) → Contains (option_map_or (λ d. leaves_of d t) o []) (l, w) → option_map_or (λ d. is_nonzero (coef d t l)) o false ≡ true
      by None c = absurd (let low = c.1 in omega (arith, low))
      by (Some d) c = (contained (λ p. Contains (range_with_len 0 (length d.elements)) p.0 × (is_nonzero (coef d t p.0) ≡ true)) (leaves_of d t) (l, w) (in-among (coef d t) (range_with_len 0 (length d.elements))) c).1

  pub counts-below : (j t l : ℕ) → ((d : Outline) → slice_get ds j ≡ Some d → IsElement d l) → counts_in ds j t l ≡ true → IsLeafBelow ds j t l
  counts-below j t l there h = by (slice_get ds j) refl h
    where
      by : (o : Option Outline) → slice_get ds j ≡ o → option_map_or (λ d. is_nonzero (coef d t l)) o false ≡ true → (w : ℤ) × Contains (option_map_or (λ d. leaves_of d t) o []) (l, w)
      by None e h = absurd (cc)
      by (Some d) e h = (coef d t l, among-in (coef d t) (range_with_len 0 (length d.elements)) l (range-contains (length d.elements) l (there d e)) h)

  pub under-counts : (ts xs : List ℕ) → IsUnder ds ts xs → (j : ℕ) → j < length ds → counts_in ds j (get_or ts j 0) (get_or xs j 0) ≡ true
  under-counts ts xs h j low =
      let (d, at) = arg-there ds j low in
      ap (λ o. option_map_or (λ (d : Outline). is_nonzero (coef d (get_or ts j 0) (get_or xs j 0))) o false) at ∙ h j d at

  pub counts-under : (ts xs : List ℕ) → ((j : ℕ) → j < length ds → counts_in ds j (get_or ts j 0) (get_or xs j 0) ≡ true) → IsUnder ds ts xs
  counts-under ts xs h j d at = sym (ap (λ o. option_map_or (λ (d : Outline). is_nonzero (coef d (get_or ts j 0) (get_or xs j 0))) o false) at) ∙ h j (there-low ds j d at)

-- ---- cells

pub leaf-each : (ds : List Outline) (xs : List ℕ) → are_leaves ds xs ≡ true → length xs ≡ length ds → (j : ℕ) (d : Outline) → slice_get ds j ≡ Some d → is_leaf d (get_or xs j 0) ≡ true
leaf-each [] xs h long j d at = absurd (cc)
leaf-each (o ∷ ds) [] h long j d at = absurd (omega arith)
leaf-each (o ∷ ds) (x ∷ xs) h long zero d at = let same : o ≡ d = cc in subst (λ (o : Outline). is_leaf o x ≡ true) same (and_parts _ _ h).0
leaf-each (o ∷ ds) (x ∷ xs) h long (suc j) d at = leaf-each ds xs (and_parts _ _ h).1 (omega arith) j d at

module _ (m : BoundModel) (valid : IsSpace m.space) where
  -- the leaf cells that a cell stands for are those of its cube of which each element counts in the cell's
  pub record StandsFor (t x : ℕ) : Type 0 where
    pub cell : IsCell m.space x
    pub leaf : is_leaf_cell m.space x ≡ true
    pub own : cube_of m.space x ≡ cube_of m.space t
    pub under : IsUnder (axes m.space (cube_of m.space t)) (elements_of m.space t) (elements_of m.space x)

  cell-long : (c : ℕ) → IsCell m.space c → length (elements_of m.space c) ≡ length (axes m.space (cube_of m.space c))
  cell-long c here = digits-long m.space (cube_of m.space c) (elements_of m.space c) (cell-digits m.space c here)

  element-at : (c j : ℕ) (d : Outline) → IsCell m.space c → slice_get (axes m.space (cube_of m.space c)) j ≡ Some d → IsElement d (get_or (elements_of m.space c) j 0)
  element-at c j d here at = (element-of (axes m.space (cube_of m.space c)) (elements_of m.space c) j d (cell-digits m.space c here) at).1

  leaf-at : (c j : ℕ) (d : Outline) → IsCell m.space c → is_leaf_cell m.space c ≡ true → slice_get (axes m.space (cube_of m.space c)) j ≡ Some d → is_leaf d (get_or (elements_of m.space c) j 0) ≡ true
  unfolding is_leaf_cell
  leaf-at c j d here leaf at = leaf-each (axes m.space (cube_of m.space c)) (elements_of m.space c) leaf (cell-long c here) j d at

  weighs : (t x : ℕ) → IsCell m.space t → StandsFor t x → is_nonzero (weight m.space t x) ≡ true
  unfolding weight
  weighs t x here s =
      let long : length (elements_of m.space x) ≡ length (axes m.space (cube_of m.space t)) = cell-long x s.cell ∙ ap (λ k. length (axes m.space k)) s.own in
      ap (λ b. is_nonzero (if b then coef_product (axes m.space (cube_of m.space t)) (elements_of m.space t) (elements_of m.space x) else pos 0)) (eq-eqb _ _ (sym s.own))
      ∙ under-product (axes m.space (cube_of m.space t)) (elements_of m.space t) (elements_of m.space x) (cell-long t here) long s.under

  stands : (t x : ℕ) → IsCell m.space x → is_leaf_cell m.space x ≡ true → is_nonzero (weight m.space t x) ≡ true → StandsFor t x
  unfolding weight
  stands t x cell leaf h = by (cube_of m.space t == cube_of m.space x) refl h
    where
      by : (b : Bool) → (cube_of m.space t == cube_of m.space x) ≡ b → is_nonzero (if b then coef_product (axes m.space (cube_of m.space t)) (elements_of m.space t) (elements_of m.space x) else pos 0) ≡ true → StandsFor t x
      by false e h = absurd (cc)
      by true e h = record { cell = cell; leaf = leaf; own = sym ((Decides-eqb _ _).0 e); under = product-under (axes m.space (cube_of m.space t)) (elements_of m.space t) (elements_of m.space x) h }

  -- a leaf cell stands for itself alone
  own-stands : (t : ℕ) → IsCell m.space t → is_leaf_cell m.space t ≡ true → StandsFor t t
  own-stands t here leaf = record {
    cell = here;
    leaf = leaf;
    own = refl;
    under = λ j d at. own-counts d (axis-is m.space valid (cube_of m.space t) j d at) (get_or (elements_of m.space t) j 0) (element-at t j d here at) (leaf-at t j d here leaf at);
  }

  alone : (t x : ℕ) → IsCell m.space t → is_leaf_cell m.space t ≡ true → StandsFor t x → t ≡ x
  alone t x here leaf s =
      let long : length (elements_of m.space x) ≡ length (axes m.space (cube_of m.space t)) = cell-long x s.cell ∙ ap (λ k. length (axes m.space k)) s.own in
      let same : elements_of m.space t ≡ elements_of m.space x = ext_get_or 0 (elements_of m.space t) (elements_of m.space x) (cell-long t here ∙ sym long) each in
      some-same t x (sym (cell_number-cell m.space t here) ∙ ap (λ k. cell_number m.space k (elements_of m.space t)) (sym s.own) ∙ ap (cell_number m.space (cube_of m.space x)) same ∙ cell_number-cell m.space x s.cell)
    where
      some-same : (a b : ℕ) → Some a ≡ Some b → a ≡ b
      some-same a b e = cc

      each : (j : ℕ) → j < length (elements_of m.space t) → get_or (elements_of m.space t) j 0 ≡ get_or (elements_of m.space x) j 0
      each j low =
          let (d, at) = arg-there (axes m.space (cube_of m.space t)) j (omega (arith, low, cell-long t here)) in
          only-own d (axis-is m.space valid (cube_of m.space t) j d at) (get_or (elements_of m.space t) j 0) (get_or (elements_of m.space x) j 0) (element-at t j d here at) (leaf-at t j d here leaf at) (s.under j d at)

  pub stands-contains : (t x : ℕ) → IsCell m.space t → StandsFor t x → Contains (cells_of (system_of m) t) x
  unfolding system_of leaf_cells
  stands-contains t x here s = by (is_leaf_cell m.space t) refl
    where
      single : (x : ℕ) → t ≡ x → Contains (t ∷ []) x
      single x e = (0, omega arith, e)

      mapped : (ps : List (ℕ × ℤ)) (p : ℕ × ℤ) → Contains ps p → Contains (map (λ pair. pair.0) ps) p.0
      mapped [] p c = absurd (let low = c.1 in omega (arith, low))
      mapped (q ∷ ps) p (zero, low, at) = (0, omega arith, ap (λ (q : ℕ × ℤ). q.0) at)
      mapped (q ∷ ps) p (suc k, low, at) = Contains-append_right (q.0 ∷ []) (map (λ pair. pair.0) ps) p.0 (mapped ps p (k, omega (arith, low), at))

      filtered : (test : ℕ → Bool) (xs : List ℕ) (x : ℕ) → Contains xs x → test x ≡ true → Contains (filter test xs) x
      filtered test [] x c h = absurd (let low = c.1 in omega (arith, low))
      filtered test (y ∷ xs) x (zero, low, at) h =
          let same : y ≡ x = at in
          subst (λ (zs : List ℕ). Contains zs x) (ap (λ b. if b then y ∷ filter test xs else filter test xs) (sym (ap test same ∙ h))) (0, omega arith, same)
      filtered test (y ∷ xs) x (suc k, low, at) h =
          let rest = filtered test xs x (k, omega (arith, low), at) h in
          cond_both (test y) (y ∷ filter test xs) (filter test xs) (λ (zs : List ℕ). Contains zs x) (λ on. Contains-append_right (y ∷ []) (filter test xs) x rest) (λ off. rest)

      by : (b : Bool) → is_leaf_cell m.space t ≡ b → Contains (if b then t ∷ [] else map (λ pair. pair.0) (leaves_below m.space t)) x
      by true e = single x (alone t x here e s)
      by false e = mapped (leaves_below m.space t) (x, weight m.space t x)
          (among-in (weight m.space t) (leaf_cells m.space) x (filtered (is_leaf_cell m.space) (range_with_len 0 (size_of m.space)) x (range-contains (size_of m.space) x s.cell) s.leaf) (weighs t x here s))

  pub contains-stands : (t x : ℕ) → IsCell m.space t → Contains (cells_of (system_of m) t) x → StandsFor t x
  unfolding system_of
  contains-stands t x here c = by (is_leaf_cell m.space t) refl c
    where
      single : (x : ℕ) → Contains (t ∷ []) x → t ≡ x
      single x (zero, low, at) = at
      single x (suc k, low, at) = absurd (omega (arith, low))

      unmapped : (ps : List (ℕ × ℤ)) (x : ℕ) → Contains (map (λ pair. pair.0) ps) x → (p : ℕ × ℤ) × Contains ps p × (p.0 ≡ x)
      unmapped [] x c = absurd (let low = c.1 in omega (arith, low))
      unmapped (q ∷ ps) x (zero, low, at) = (q, (0, omega arith, refl), at)
      unmapped (q ∷ ps) x (suc k, low, at) = let found = unmapped ps x (k, omega (arith, low), at) in (found.0, Contains-append_right (q ∷ []) ps found.0 found.1, found.2)

      by : (b : Bool) → is_leaf_cell m.space t ≡ b → Contains (if b then t ∷ [] else map (λ pair. pair.0) (leaves_below m.space t)) x → StandsFor t x
      by true e c = subst (StandsFor t) (single x c) (own-stands t here e)
      by false e c =
          let (p, inside, same) = unmapped (leaves_below m.space t) x c in
          let (own, on) = contained (λ p. Contains (leaf_cells m.space) p.0 × (is_nonzero (weight m.space t p.0) ≡ true)) (leaves_below m.space t) p (in-among (weight m.space t) (leaf_cells m.space)) inside in
          let (cell, leaf) = contained (λ x. IsCell m.space x × (is_leaf_cell m.space x ≡ true)) (leaf_cells m.space) p.0 (Rattle.model_laws.proofs.Below.leaf_cells-are m.space) own in
          subst (StandsFor t) same (stands t p.0 cell leaf on)
