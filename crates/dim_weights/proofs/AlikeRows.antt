-- Rows of elements that are alike.
use Rattle.std.proofs.Common.{◌≡◌, ◌≢◌, ◌⊎◌, inl, inr, ℕ, zero, suc, ◌+◌, ◌-◌, ◌<◌, ◌≤◌, true, ℤ, List, [], ◌∷◌, length, take, get_or, refl, ap, sym, ◌∙◌, subst, arith}
use Rattle.std.proofs.lemmas.Bool.{cases_lt}
use Rattle.lists.proofs.Places.{get_or_within}
use Rattle.dim_order.specs.Levels.{level_over}
use Rattle.dim_order.specs.Members.{is_among}
use Rattle.dim_order.proofs.Depths.{among-front}
use Rattle.dim_core.specs.Outline.{Outline, IsDimension, IsElement, components_of, level}
use Rattle.dim_core.proofs.LevelLaws.{levels-solve, component-lower}
use Rattle.dim_weights.specs.Coefficients.{coef, coef_over, coef_side}
use Rattle.dim_weights.specs.Table.{leaves_of, leaves_in}
use Rattle.dim_weights.specs.Inside.Alike.{IsAlike, MayStandIn, AreAlike, stand_in, HaveSameRows, HasSameRow}
use Rattle.dim_weights.specs.Inside.Levels.{IsByLevel}
use Rattle.dim_weights.specs.Inside.Rows.{Rows, AreRowsOf}
use Rattle.dim_weights.proofs.Equations.{coef-solves}
use Rattle.dim_weights.proofs.MadeRows.{lower-before, row-is}
use Rattle.dim_weights.proofs.Pairs.{agree-range}

module _ (d : Outline) (dim : IsDimension d) where
  -- elements that are alike have the same level
  same-level : (other element : ℕ) → IsElement d element → IsAlike d other element → level d other ≡ level d element
  same-level other element here is =
      let first = levels-solve d dim other (omega (arith, is.earlier, here)) in
      let second = levels-solve d dim element here in
      first ∙ (ap (level_over (level d)) is.same ∙ sym second)

  -- and the same leaves
  same-leaves : (other element : ℕ) → IsElement d element → IsAlike d other element → leaves_of d other ≡ leaves_of d element
  same-leaves other element here is =
      agree-range (coef d other) (coef d element) (length d.elements)
      (λ leaf low. coef-solves d dim leaf other (omega (arith, is.earlier, here)) ∙ (side leaf ∙ sym (coef-solves d dim leaf element here)))
      (length d.elements) 0 (omega arith)
    where
      over : (parts : List (ℕ × ℤ)) → parts ≢ [] → (leaf : ℕ) (table : ℕ → ℤ) → coef_over leaf other table parts ≡ coef_over leaf element table parts
      over [] some leaf table = absurd (some refl)
      over (part ∷ parts) some leaf table = refl

      side : (leaf : ℕ) → coef_side d leaf (λ x. coef d x leaf) other ≡ coef_side d leaf (λ x. coef d x leaf) element
      side leaf = ap (coef_over leaf other (λ x. coef d x leaf)) is.same ∙ over (components_of d element) is.some leaf (λ x. coef d x leaf)

  module _ (elements : List ℕ) (by : IsByLevel d elements) where
    -- those of one level rise
    rises : (i m j : ℕ) → j ≡ i + m → j < length elements → level d (get_or elements i 0) ≡ level d (get_or elements j 0) → get_or elements i 0 ≤ get_or elements j 0
    rises i zero j at within same = let e : j ≡ i = omega arith in rw e (omega arith)
    rises i (suc m) j at within same =
        let e : (i + m) + 1 ≡ j = omega arith in
        let low = by.rising i (i + m) 0 (omega arith) (omega (arith, at, within)) in
        let high = by.rising (i + m) j 0 (omega (arith, at)) within in
        let middle : level d (get_or elements i 0) ≡ level d (get_or elements (i + m) 0) = omega (arith, low, high, same) in
        let rest = rises i m (i + m) refl (omega (arith, at, within)) middle in
        let last : level d (get_or elements (i + m) 0) ≡ level d (get_or elements ((i + m) + 1) 0) = rw e (omega (arith, middle, same)) in
        let next : get_or elements (i + m) 0 ≤ get_or elements ((i + m) + 1) 0 = by.ties (i + m) 0 (omega (arith, at, within)) last in
        let there : get_or elements (i + m) 0 ≤ get_or elements j 0 = rw e at next in
        omega (arith, rest, there)

    -- so one of the same level and a smaller index comes before
    earlier-before : (i other : ℕ) → i < length elements → other < get_or elements i 0 → level d other ≡ level d (get_or elements i 0) → is_among (take i elements) other ≡ true
    earlier-before i other within less same =
        let here : get_or elements i 0 < length d.elements = by.within i 0 within in
        let place = by.each other (omega (arith, here, less)) in
        let at : get_or elements place.0 0 ≡ other = get_or_within elements place.0 0 _ place.1 ∙ place.2 in
        decide place.0 at place.1 (cases_lt place.0 i)
      where
        decide : (j : ℕ) → get_or elements j 0 ≡ other → j < length elements → (j < i) ⊎ (i ≤ j) → is_among (take i elements) other ≡ true
        decide j at long (inl front) = subst (λ (x : ℕ). is_among (take i elements) x ≡ true) at (among-front elements i j front long)
        decide j at long (inr after) =
            let levels : level d (get_or elements j 0) ≡ level d other = ap (level d) at in
            let up = rises i (j - i) j (omega arith) long (omega (arith, levels, same)) in
            absurd (omega (arith, up, at, less))

    module _ (alike : List ℕ) (are : AreAlike d alike) (made : Rows) (i : ℕ) (within : i < length elements) (rows : AreRowsOf d (take i elements) made) where
      -- what stands in for the components has the same rows
      pub same-rows : HaveSameRows made.rows alike (components_of d (get_or elements i 0))
      same-rows k e there =
          let here = by.within i 0 within in
          let inside : (get_or (components_of d (get_or elements i 0)) k e).0 < length d.elements = (dim.parts (get_or elements i 0) k e there).0 in
          let lower = component-lower d dim (get_or elements i 0) here k e there in
          decide (get_or (components_of d (get_or elements i 0)) k e).0 inside lower (are (get_or (components_of d (get_or elements i 0)) k e).0 inside)
        where
          decide : (part : ℕ) → IsElement d part → level d part < level d (get_or elements i 0) → MayStandIn d (stand_in alike part) part
              → (stand_in alike part < length made.rows) × (leaves_in made.rows (stand_in alike part) ≡ leaves_in made.rows part)
          decide part inside lower (inl itself) = (omega (arith, itself, inside, rows.whole), ap (leaves_in made.rows) itself)
          decide part inside lower (inr is) =
              let same = same-level (stand_in alike part) part inside is in
              let first = rows.each (stand_in alike part) (lower-before d dim elements by i (stand_in alike part) within (omega (arith, is.earlier, inside)) (omega (arith, same, lower))) in
              let second = rows.each part (lower-before d dim elements by i part within inside lower) in
              (omega (arith, is.earlier, inside, rows.whole), first ∙ (same-leaves (stand_in alike part) part inside is ∙ sym second))

      -- and what stands in for the element has its row
      pub same-row : HasSameRow (length d.elements) made.rows alike (get_or elements i 0) (components_of d (get_or elements i 0))
      same-row = decide (by.within i 0 within) (are (get_or elements i 0) (by.within i 0 within))
        where
          decide : IsElement d (get_or elements i 0) → MayStandIn d (stand_in alike (get_or elements i 0)) (get_or elements i 0)
              → HasSameRow (length d.elements) made.rows alike (get_or elements i 0) (components_of d (get_or elements i 0))
          decide here (inl itself) = inl itself
          decide here (inr is) =
              let among = earlier-before i (stand_in alike (get_or elements i 0)) within is.earlier (same-level (stand_in alike (get_or elements i 0)) (get_or elements i 0) here is) in
              let first = rows.each (stand_in alike (get_or elements i 0)) among in
              inr (
                omega (arith, is.earlier, here, rows.whole),
                first ∙ (same-leaves (stand_in alike (get_or elements i 0)) (get_or elements i 0) here is ∙ sym (row-is d dim elements by made.rows i within rows.each)),
              )
