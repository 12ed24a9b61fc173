-- The cells of an area and what they have on a scale, by the lists of their elements.
use Rattle.std.proofs.Common.{◌≡◌, refl, sym, ap, ◌∙◌, arith, subst, ℕ, zero, suc, ◌+◌, ◌<◌, Bool, true, false, ◌&&◌, not, Some, None, List, [], ◌∷◌, length, nat_lt, if◌then◌else◌, inl, inr, ℤ, Option}
use Rattle.std.specs.Prelude.{slice_get, slice_index_or}
use Rattle.std.specs.List.{zip}
use Rattle.std.proofs.lemmas.Bool.{cases_lt}
use Rattle.std.proofs.lemmas.List.{length-map, get_or_past as get_or-past}
use Rattle.std.specs.Prelude.{sum_by}
use Rattle.dim_core.specs.Outline.{Outline, level}
use Rattle.cube_space.specs.Radix.{are_digits}
use Rattle.cube_space.proofs.Radix.{digits-length}
use Rattle.cube_space.specs.Layout.{Layout, axes, sizes}
use Rattle.cube_space.specs.Cells.{IsCell, Cell, cube_of, elements_of, is_leaf, are_leaves, is_leaf_cell, cell_number}
use Rattle.cube_space.proofs.Places.{IsPlace, cell-place, place_number, place-within, cell_at-place, cell_number-place}
use Rattle.rule_model.specs.declared.area.Area.{Area}
use Rattle.rule_model.specs.declared.order.Position.TheVariants.{Constant, Ranks}
use Rattle.rule_model.specs.BoundModel.{BoundModel, rules_of}
use Rattle.rule_model.specs.Areas.{in_set, in_sets}
use Rattle.rule_model.specs.Conditions.{IsSet, IsArea, AreRules, IsPosition}
use Rattle.rule_model.specs.Order.{most_positions, positions_for, position_of, number_by, number_at, cell_level}
use Rattle.order_laws.specs.Greatest.{any_from, sum_from, only}
use Rattle.order_laws.specs.Scales.{scale_of, position_scale, level_scale, level_in, is_total, is_leaf_element}
use Rattle.order_laws.proofs.SumFacts.{all_from, all-and, any-not, all-shift, sum-only, digits-each, zip-each}
use Rattle.order_laws.proofs.ReferenceFacts.{reading, added, position-reading, levels-reading}
use Rattle.order_laws.proofs.SetFacts.{is_in, zip-long}

-- these are the elements of a cell of this cube
pub record IsAt (space : Layout) (cube : ℕ) (es : List ℕ) (c : ℕ) : Type 0 where
  pub cell : IsCell space c
  pub own : cube_of space c ≡ cube
  pub elements : elements_of space c ≡ es

pub axes-sizes : (space : Layout) (cube : ℕ) → length (sizes space cube) ≡ length (axes space cube)
axes-sizes space cube = length-map (axes space cube) (λ d. length d.elements)

-- a place has a cell, and each cell has a place
pub cell-there : (space : Layout) (cube : ℕ) (es : List ℕ) → cube < length space.cubes → are_digits (sizes space cube) es ≡ true
    → (c : ℕ) × IsAt space cube es c × (cell_number space cube es ≡ Some c)
cell-there space cube es there digits =
    let place : IsPlace space cube es = record { there = there; digits = digits } in
    let at = cell_at-place space cube es place in (
      place_number space cube es,
      record {
        cell = place-within space cube es place;
        own = ap (λ (c : Cell). c.cube) at;
        elements = ap (λ (c : Cell). c.elements) at;
      },
      cell_number-place space cube es place,
    )

pub number-there : (space : Layout) (cube : ℕ) (es : List ℕ) (t : ℕ) → cube < length space.cubes → are_digits (sizes space cube) es ≡ true
    → cell_number space cube es ≡ Some t → IsAt space cube es t
number-there space cube es t there digits is =
    let found = cell-there space cube es there digits in
    let same : found.0 ≡ t = cc in
    subst (IsAt space cube es) same found.1

pub cell-digits : (space : Layout) (c : ℕ) → IsCell space c → are_digits (sizes space (cube_of space c)) (elements_of space c) ≡ true
cell-digits space c h = (cell-place space c h).place.digits

pub cell-cube : (space : Layout) (c : ℕ) → IsCell space c → cube_of space c < length space.cubes
cell-cube space c h = (cell-place space c h).place.there

pub digits-long : (space : Layout) (cube : ℕ) (es : List ℕ) → are_digits (sizes space cube) es ≡ true → length es ≡ length (axes space cube)
digits-long space cube es h = digits-length (sizes space cube) es h ∙ axes-sizes space cube

pub not-not : (t : Bool) → not (not t) ≡ t
not-not true = refl
not-not false = refl

-- leaf cells have leaves alone, and no consolidated element
leaves-each : (dims : List Outline) (es : List ℕ) → length es ≡ length dims → are_leaves dims es ≡ all_from (is_leaf_element dims) 0 es
leaves-each [] [] h = refl
leaves-each [] (e ∷ es) h = absurd (omega arith)
leaves-each (d ∷ dims) [] h = absurd (omega arith)
leaves-each (d ∷ dims) (e ∷ es) h =
    ap (λ t. is_leaf d e && t) (leaves-each dims es (omega arith) ∙ sym (all-shift (is_leaf_element (d ∷ dims)) 0 es))
    ∙ ap (λ t. t && all_from (is_leaf_element (d ∷ dims)) 1 es) (sym (not-not (is_leaf d e)))

pub leaf-all : (space : Layout) (cube : ℕ) (es : List ℕ) (c : ℕ) → IsAt space cube es c → length es ≡ length (axes space cube) → is_leaf_cell space c ≡ all_from (is_leaf_element (axes space cube)) 0 es
unfolding is_leaf_cell
leaf-all space cube es c at long =
    ap (λ k. are_leaves (axes space k) (elements_of space c)) at.own ∙ ap (are_leaves (axes space cube)) at.elements ∙ leaves-each (axes space cube) es long

pub leaf-is : (space : Layout) (cube : ℕ) (es : List ℕ) (c : ℕ) → IsAt space cube es c → length es ≡ length (axes space cube) → is_leaf_cell space c ≡ not (any_from (is_total (axes space cube)) 0 es)
leaf-is space cube es c at long = leaf-all space cube es c at long ∙ sym (any-not (is_total (axes space cube)) 0 es)

-- an element of an area in a dimension
abbrev pub is_in_area : Layout → ℕ → Area → ℕ → ℕ → Bool
is_in_area space cube area i e = is_in (slice_index_or (sizes space cube) i 0) (slice_index_or area.sets i None) e

pub area-each : (space : Layout) (cube : ℕ) (area : Area) (es : List ℕ) → IsArea space cube area → length es ≡ length (axes space cube)
    → all_from (is_in_area space cube area) 0 es ≡ are_digits (sizes space cube) es && in_sets area.sets es
unfolding in_sets
area-each space cube area es is_area long =
    let as_many : length es ≡ length (sizes space cube) = omega (arith, long, axes-sizes space cube) in
    let as_sets : length es ≡ length area.sets = omega (arith, as_many, zip-long IsSet (sizes space cube) area.sets is_area) in
    all-and (λ i e. nat_lt e (slice_index_or (sizes space cube) i 0)) (λ i e. in_set (slice_index_or area.sets i None) e) 0 es
    ∙ ap (λ t. t && all_from (λ i e. in_set (slice_index_or area.sets i None) e) 0 es) (sym (digits-each (sizes space cube) es as_many))
    ∙ ap (λ t. are_digits (sizes space cube) es && t) (sym (zip-each in_set None area.sets es as_sets))

-- the sum of numbers of elements of an area is there where they are those of one of its cells
pub kept-sum : (space : Layout) (cube : ℕ) (area : Area) (f : ℕ → ℕ → Option ℤ) (es : List ℕ) → IsArea space cube area → length es ≡ length (axes space cube)
    → sum_from (λ i e. only (is_in_area space cube area i e) (f i e)) 0 es ≡ only (are_digits (sizes space cube) es && in_sets area.sets es) (sum_from f 0 es)
kept-sum space cube area f es is_area long =
    sum-only (is_in_area space cube area) f 0 es ∙ ap (λ t. only t (sum_from f 0 es)) (area-each space cube area es is_area long)

-- these are the elements of a cell of this kind of an area of a cube
pub record IsOf (space : Layout) (cube : ℕ) (area : Area) (kind : Bool) (es : List ℕ) : Type 0 where
  pub long : length es ≡ length (axes space cube)
  pub digits : are_digits (sizes space cube) es ≡ true
  pub inside : in_sets area.sets es ≡ true
  pub kind_is : any_from (is_total (axes space cube)) 0 es ≡ not kind

pub leaves-of : (space : Layout) (cube : ℕ) (area : Area) (kind : Bool) (es : List ℕ) → IsOf space cube area kind es → all_from (is_leaf_element (axes space cube)) 0 es ≡ kind
leaves-of space cube area kind es of = sym (any-not (is_total (axes space cube)) 0 es) ∙ ap not of.kind_is ∙ not-not kind

pub of-leaves : (space : Layout) (cube : ℕ) (kind : Bool) (es : List ℕ) → all_from (is_leaf_element (axes space cube)) 0 es ≡ kind → any_from (is_total (axes space cube)) 0 es ≡ not kind
of-leaves space cube kind es h = sym (not-not (any_from (is_total (axes space cube)) 0 es)) ∙ ap not (any-not (is_total (axes space cube)) 0 es ∙ h)

-- what a cell has at a position, and as its level at the place after the last one
abbrev pub measure : BoundModel → ℕ → ℕ → ℕ
measure m q c = if nat_lt q most_positions then number_at m q c else cell_level m.space c

position-there : (m : BoundModel) (cube q : ℕ) (kind : Bool) (dim : ℕ) (ranks : List ℕ) → AreRules m.space m.rules → cube < length m.space.cubes → position_of m cube kind q ≡ Ranks dim ranks
    → dim < length (axes m.space cube)
position-there m cube q kind dim ranks ruled there is = elim (cases_lt q (length (positions_for kind (rules_of m cube).order))) [
  | inl low ↦ within (subst (IsPosition (axes m.space cube)) is ((ruled.cube cube there).order.each kind q (Constant 0) low))
  | inr high ↦ absurd (let none : position_of m cube kind q ≡ Constant 0 = get_or-past (positions_for kind (rules_of m cube).order) q (Constant 0) high in let wrong : Constant 0 ≡ Ranks dim ranks = sym none ∙ is in cc)
]
  where
    found : (ds : List Outline) (k : ℕ) (d : Outline) → slice_get ds k ≡ Some d → k < length ds
    found [] k d e = absurd (cc)
    found (x ∷ ds) zero d e = omega arith
    found (x ∷ ds) (suc k) d e = omega (arith, found ds k d e)

    within : IsPosition (axes m.space cube) (Ranks dim ranks) → dim < length (axes m.space cube)
    within h = found (axes m.space cube) dim h.0 h.1

abbrev levels_of : List Outline → List ℕ → ℕ
levels_of dims es = sum_by (λ p. level p.0 p.1) (zip dims es)

pub measure-is : (m : BoundModel) (q cube : ℕ) (kind : Bool) (es : List ℕ) (c : ℕ) → AreRules m.space m.rules → cube < length m.space.cubes → IsAt m.space cube es c → is_leaf_cell m.space c ≡ kind
    → length es ≡ length (axes m.space cube) → measure m q c ≡ reading (scale_of m cube kind q) es
unfolding number_at cell_level scale_of
measure-is m q cube kind es c ruled there at kind_is long = by (nat_lt q most_positions)
  where
    position : number_by (position_of m (cube_of m.space c) (is_leaf_cell m.space c) q) (elements_of m.space c) ≡ reading (position_scale (position_of m cube kind q)) es
    position =
        ap (λ k. number_by (position_of m k (is_leaf_cell m.space c) q) (elements_of m.space c)) at.own ∙ ap (λ k. number_by (position_of m cube k q) (elements_of m.space c)) kind_is
        ∙ ap (number_by (position_of m cube kind q)) at.elements
        ∙ position-reading (position_of m cube kind q) es (λ dim ranks is. omega (arith, long, position-there m cube q kind dim ranks ruled there is))

    as-levels : levels_of (axes m.space (cube_of m.space c)) (elements_of m.space c) ≡ added (level_in (axes m.space cube)) 0 es
    as-levels =
        ap (λ k. levels_of (axes m.space k) (elements_of m.space c)) at.own ∙ ap (levels_of (axes m.space cube)) at.elements
        ∙ levels-reading (axes m.space cube) es long

    from-none : (a b : ℕ) → a ≡ b → a ≡ 0 + b
    from-none a b e = omega (arith, e)

    by-level : cell_level m.space c ≡ reading (level_scale (axes m.space cube)) es
    by-level = from-none (levels_of (axes m.space (cube_of m.space c)) (elements_of m.space c)) (added (level_in (axes m.space cube)) 0 es) as-levels

    by : (t : Bool) → (if t then number_by (position_of m (cube_of m.space c) (is_leaf_cell m.space c) q) (elements_of m.space c) else cell_level m.space c)
        ≡ reading (if t then position_scale (position_of m cube kind q) else level_scale (axes m.space cube)) es
    by true = position
    by false = by-level
