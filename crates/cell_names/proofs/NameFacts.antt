-- Names of elements, written one by one.
use Rattle.std.proofs.Common.{◌≡◌, ◌+◌, ◌<◌, ◌≤◌, ℕ, zero, suc, List, [], ◌∷◌, ◌++◌, length, take, get_or, refl, sym, ap, ◌∙◌, subst, arith, codes}
use Rattle.std.proofs.Common.{true, Some, slice_get}
use Rattle.std.proofs.lemmas.List.{append_assoc, get_or-map, length-map}
use Rattle.std.proofs.lemmas.Option.{get_or_from_slice_get}
use Rattle.cube_space.specs.Cells.{is_place}
use Rattle.cube_space.specs.Layout.{Layout, axes, sizes}
use Rattle.cube_space.proofs.Places.{is_place-parts}
use Rattle.cube_space.proofs.Radix.{digit-below, digits-length}
use Rattle.dim_core.specs.Outline.{Outline, name_of}
use Rattle.cell_names.specs.CellNames.{listed, quoted_name}
use Rattle.cell_names.specs.Inside.Names.{lead, quoted_names}

-- one more name at the end
listed_last : (first : List ℕ) (names : List (List ℕ)) (name : List ℕ) → listed ((first ∷ names) ++ name ∷ []) ≡ listed (first ∷ names) ++ (codes ", " ++ name)
listed_last first [] name = append_assoc first (codes ", ") name
listed_last first (second ∷ names) name =
    ap (λ l. first ++ codes ", " ++ l) (listed_last second names name) ∙ sym (append_assoc (first ++ codes ", ") (listed (second ∷ names)) (codes ", " ++ name))

listed_more : (names : List (List ℕ)) (name : List ℕ) → listed (names ++ name ∷ []) ≡ listed names ++ (lead (length names) ++ name)
listed_more [] name = refl
listed_more (first ∷ names) name = listed_last first names name

names_more : (D : List Outline) (E : List ℕ) (i : ℕ) (d : Outline) (e : ℕ) → i < length D → i < length E
    → quoted_names (take (suc i) D) (take (suc i) E) ≡ quoted_names (take i D) (take i E) ++ quoted_name (name_of (get_or D i d) (get_or E i e)) ∷ []
names_more [] E i d e low there = absurd (omega arith)
names_more (x ∷ D) [] i d e low there = absurd (omega arith)
names_more (x ∷ D) (y ∷ E) zero d e low there = refl
names_more (x ∷ D) (y ∷ E) (suc i) d e low there = ap (λ l. quoted_name (name_of x y) ∷ l) (names_more D E i d e (omega arith) (omega arith))

names_count : (D : List Outline) (E : List ℕ) (i : ℕ) → i ≤ length D → i ≤ length E → length (quoted_names (take i D) (take i E)) ≡ i
names_count D E zero low there = refl
names_count [] E (suc i) low there = absurd (omega arith)
names_count (x ∷ D) [] (suc i) low there = absurd (omega arith)
names_count (x ∷ D) (y ∷ E) (suc i) low there = ap suc (names_count D E i (omega arith) (omega arith))

-- the next name of an element, behind what leads to it
pub names_next : (D : List Outline) (E : List ℕ) (i : ℕ) (d : Outline) (e : ℕ) → i < length D → i < length E
    → listed (quoted_names (take (i + 1) D) (take (i + 1) E)) ≡ listed (quoted_names (take i D) (take i E)) ++ (lead i ++ quoted_name (name_of (get_or D i d) (get_or E i e)))
names_next D E i d e low there =
    let before = quoted_names (take i D) (take i E) in
    let name = quoted_name (name_of (get_or D i d) (get_or E i e)) in
    let next : i + 1 ≡ suc i = omega arith in
    ap (λ n. listed (quoted_names (take n D) (take n E))) next
    ∙ ap listed (names_more D E i d e low there)
    ∙ listed_more before name
    ∙ ap (λ n. listed before ++ (lead n ++ name)) (names_count D E i (omega arith) (omega arith))

-- of a place, the element at an index is one of the dimension there
module _ (space : Layout) (cube : ℕ) (elements : List ℕ) (there : is_place space cube elements ≡ true) where
  pub elements_count : length elements ≡ length (axes space cube)
  elements_count = digits-length (sizes space cube) elements (is_place-parts space cube elements there).digits ∙ length-map (axes space cube) (λ d. length d.elements)

  pub element_below : (i : ℕ) (d : Outline) → i < length (axes space cube) → slice_get (axes space cube) i ≡ Some d → get_or elements i 0 < length d.elements
  element_below i d low is =
      let many : i < length (sizes space cube) = omega (arith, length-map (axes space cube) (λ (d : Outline). length d.elements)) in
      subst (λ n. get_or elements i 0 < n)
      (get_or-map (λ (d : Outline). length d.elements) (axes space cube) i d 0 low ∙ ap (λ (d : Outline). length d.elements) (get_or_from_slice_get (axes space cube) i d d is))
      (digit-below (sizes space cube) elements i 0 0 (is_place-parts space cube elements there).digits many)
