-- The cells whose elements differ in the last one alone have numbers in a row.
use Rattle.std.proofs.Common.{◌≡◌, refl, sym, ap, ◌∙◌, subst, ℕ, zero, suc, ◌+◌, ◌<◌, ◌≤◌, true, false, List, [], ◌∷◌, ◌++◌, length, drop, Option, Some, None, nat_lt, All, arith}
use Rattle.std.specs.Prelude.{slice_get, IfSome}
use Rattle.std.proofs.lemmas.Bool.{and_parts, and_from, lt-ltb}
use Rattle.dim_core.specs.Outline.{Outline}
use Rattle.cube_space.specs.declared.shape.CubeShape.{CubeShape}
use Rattle.cube_space.specs.Radix.{are_digits, number_of}
use Rattle.cube_space.specs.Layout.{Layout, axes, axes_of, dims_of, sizes_of}
use Rattle.cube_space.specs.Cells.{IsSpace, elements_of, cell_number}
use Rattle.cube_space.proofs.AxisSizes.{axes_of-cons, All-rest}
use Rattle.cube_space.proofs.CubeDims.{dims_are, dims_within}
use Rattle.cube_space.proofs.Places.{IsPlace, cell-place, cell_number-place, place-within, place_number}
use Rattle.feed_sources.proofs.Axes.{axes-past}
use Rattle.feed_sources.proofs.BelowFacts.{number-at}
use Rattle.feed_map.specs.Inside.Leaves.{axes_from, GoesOnBy, IsInRow, IsRow}
use Rattle.feed_map.proofs.LeafSteps.{some-by, by-some, number-goes, goes-number}

-- ---- digits

-- any digit that is below the size may be the last one
row-digits : (os : List Outline) (front : List ℕ) (d : Outline) (ds : List Outline) (leaf : ℕ) → drop (length front) os ≡ d ∷ ds → are_digits (sizes_of os) (front ++ 0 ∷ []) ≡ true
    → leaf < length d.elements → are_digits (sizes_of os) (front ++ leaf ∷ []) ≡ true
row-digits [] [] d ds leaf is on low = absurd (cc)
row-digits [] (x ∷ xs) d ds leaf is on low = absurd (cc)
row-digits (a ∷ os) [] d ds leaf is on low =
    let first : a ∷ os ≡ d ∷ ds = is in
    let same : a ≡ d = cc in
    let few : leaf < length a.elements = subst (λ (o : Outline). leaf < length o.elements) (sym same) low in
    and_from _ _ (lt-ltb leaf (length a.elements) few) (and_parts (nat_lt 0 (length a.elements)) (are_digits (sizes_of os) []) on).1
row-digits (a ∷ os) (x ∷ xs) d ds leaf is on low =
    let parts = and_parts (nat_lt x (length a.elements)) (are_digits (sizes_of os) (xs ++ 0 ∷ [])) on in
    and_from _ _ parts.0 (row-digits os xs d ds leaf is parts.1 low)

-- the number is as much greater as the digit
row-number : (os : List Outline) (front : List ℕ) (leaf : ℕ) → are_digits (sizes_of os) (front ++ 0 ∷ []) ≡ true
    → number_of (sizes_of os) (front ++ leaf ∷ []) ≡ number_of (sizes_of os) (front ++ 0 ∷ []) + leaf
row-number [] [] leaf on = absurd (cc)
row-number [] (x ∷ xs) leaf on = absurd (cc)
row-number (a ∷ []) [] leaf on = omega arith
row-number (a ∷ b ∷ bs) [] leaf on =
    absurd (let rest : false ≡ true = (and_parts (nat_lt 0 (length a.elements)) (are_digits (sizes_of (b ∷ bs)) []) on).1 in cc)
row-number (a ∷ os) (x ∷ xs) leaf on =
    let parts = and_parts (nat_lt x (length a.elements)) (are_digits (sizes_of os) (xs ++ 0 ∷ [])) on in
    omega (arith, row-number os xs leaf parts.1)

-- ---- the dimensions from a place on

axes-drop : (D : List Outline) (dims : List ℕ) (place : ℕ) → All (λ dim. dim < length D) dims → axes_of D (drop place dims) ≡ drop place (axes_of D dims)
axes-drop D dims zero all = refl
axes-drop D [] (suc place) all = refl
axes-drop D (dim ∷ dims) (suc place) all =
    let low = all 0 0 (omega arith) in
    axes-drop D dims place (All-rest (λ n. n < length D) dim dims all) ∙ ap (drop (suc place)) (sym (axes_of-cons D dim dims (some D dim low) low))
  where
    some : (D : List Outline) (dim : ℕ) → dim < length D → Outline
    some [] dim low = absurd (omega (arith, low))
    some (d ∷ ds) dim low = d

shape-there : (cubes : List CubeShape) (cube : ℕ) → cube < length cubes → (shape : CubeShape) × (slice_get cubes cube ≡ Some shape)
shape-there [] cube low = absurd (omega (arith, low))
shape-there (s ∷ cubes) zero low = (s, refl)
shape-there (s ∷ cubes) (suc cube) low = shape-there cubes cube (omega (arith, low))

axes-behind : (space : Layout) (cube place : ℕ) → IsSpace space → cube < length space.cubes → axes_from space cube place ≡ drop place (axes space cube)
axes-behind space cube place valid low =
    let shape = shape-there space.cubes cube low in
    let all = subst (λ (dims : List ℕ). All (λ dim. dim < length space.dimensions) dims) (sym (dims_are space cube shape.0 valid shape.1)) (dims_within space cube shape.0 valid shape.1) in
    axes-drop space.dimensions (dims_of space cube) place all

-- ---- the cells of a row

pub row-cells : (space : Layout) (cube place first : ℕ) (front : List ℕ) → IsSpace space → length (dims_of space cube) ≤ place + 1 → length front ≡ place
    → cell_number space cube (front ++ 0 ∷ []) ≡ Some first → IsRow space cube place front first
row-cells space cube place first front valid last long is d ds leaf axis low =
    let at = number-at space cube (front ++ 0 ∷ []) first is in
    let has = cell-place space first at.cell in
    let own : IsPlace space cube (front ++ 0 ∷ []) = subst (λ (es : List ℕ). IsPlace space cube es) at.its (subst (λ (k : ℕ). IsPlace space k (elements_of space first)) at.own has.place) in
    let begun : place_number space cube (front ++ 0 ∷ []) ≡ first =
    ap (place_number space cube) (sym at.its) ∙ ap (λ (k : ℕ). place_number space k (elements_of space first)) (sym at.own) ∙ has.number in
    let behind : drop (length front) (axes space cube) ≡ d ∷ ds = ap (λ (n : ℕ). drop n (axes space cube)) long ∙ sym (axes-behind space cube place valid own.there) ∙ axis in
    let there : IsPlace space cube (front ++ leaf ∷ []) = record { there = own.there; digits = row-digits (axes space cube) front d ds leaf behind own.digits low } in
    let more : place_number space cube (front ++ leaf ∷ []) ≡ first + leaf = omega (arith, row-number (axes space cube) front leaf own.digits, begun) in
    record {
      last = last;
      small = omega (arith, place-within space cube (front ++ leaf ∷ []) there, more, valid.size);
      number = cell_number-place space cube (front ++ leaf ∷ []) there ∙ ap Some more;
    }

-- the number of its first cell, if it has one, is the row's
pub row-told : (space : Layout) (cube place : ℕ) (front at : List ℕ) (told : Option ℕ) → IsSpace space → length (dims_of space cube) ≤ place + 1 → length front ≡ place
    → at ≡ front ++ 0 ∷ [] → told ≡ cell_number space cube at → IfSome told (IsRow space cube place front)
row-told space cube place front at None valid last long own is = tt
row-told space cube place front at (Some first) valid last long own is =
    row-cells space cube place first front valid last long (ap (cell_number space cube) (sym own) ∙ sym is)

-- what a row says of the leaf that was chosen, if there is one
pub row-leaf : (space : Layout) (cube place : ℕ) (front : List ℕ) (row leaf : Option ℕ) (d : Outline) (ds : List Outline) → IfSome row (IsRow space cube place front)
    → axes_from space cube place ≡ d ∷ ds → IfSome leaf (λ l. l < length d.elements) → IfSome row (λ first. IfSome leaf (IsInRow space cube place front first))
row-leaf space cube place front None leaf d ds rows axis low = tt
row-leaf space cube place front (Some first) None d ds rows axis low = tt
row-leaf space cube place front (Some first) (Some l) d ds rows axis low = rows d ds l axis low

pub row-of : (space : Layout) (cube place : ℕ) (front : List ℕ) (row choice : Option ℕ) (first leaf : ℕ) → row ≡ Some first → choice ≡ Some leaf
    → IfSome row (λ f. IfSome choice (IsInRow space cube place front f)) → IsInRow space cube place front first leaf
row-of space cube place front row choice first leaf is own told =
    subst (λ (o : Option ℕ). IfSome o (IsInRow space cube place front first)) own (subst (λ (o : Option ℕ). IfSome o (λ f. IfSome choice (IsInRow space cube place front f))) is told)

-- the cell of the row is the one that goes on by the leaf
module _ (space : Layout) (cube : ℕ) (roots : List ℕ) (place : ℕ) (front : List ℕ) (first leaf : ℕ) (choice : Option ℕ) (is : choice ≡ Some leaf) (row : IsInRow space cube place front first leaf) where
  abbrev ds : List Outline
  ds = axes_from space cube (place + 1)

  none : ds ≡ []
  none = axes-past space.dimensions (dims_of space cube) (place + 1) row.last

  pub row-by : (x : ℕ) → first + leaf ≡ x → GoesOnBy space cube roots place ds front choice x
  row-by x same =
      some-by space cube roots place ds front (front ++ leaf ∷ []) leaf choice is refl x
      (number-goes space space cube roots (place + 1) ds (front ++ leaf ∷ []) refl none x (row.number ∙ ap Some same))

  pub by-row : (x : ℕ) → GoesOnBy space cube roots place ds front choice x → first + leaf ≡ x
  by-row x goes =
      let number = goes-number space space cube roots (place + 1) ds (front ++ leaf ∷ []) refl none x (by-some space cube roots place ds front (front ++ leaf ∷ []) leaf choice is refl x goes) in
      let same : Some (first + leaf) ≡ Some x = sym row.number ∙ number in
      cc
