-- The element that each source of a cell has in a dimension.
use Rattle.std.proofs.Common.{◌≡◌, refl, sym, ap, ◌∙◌, subst, arith, ℕ, zero, suc, ◌<◌, ◌≤◌, inl, inr, Bool, true, false, List, [], ◌∷◌, length, set, get_or, take, replicate, Option, Some, None}
use Rattle.std.specs.Prelude.{slice_get, option_and_then, unwrap_or}
use Rattle.std.specs.List.{AllZip}
use Rattle.std.proofs.lemmas.Bool.{and_parts, cases_eq, cases_lt}
use Rattle.std.proofs.lemmas.List.{get_or-set_same, get_or-set_other, get_or-take, length-take, length-set, length-map, get_or-map}
use Rattle.std.proofs.lemmas.Option.{slice_get-get_or, slice_get_within, get_or_from_slice_get}
use Rattle.dim_core.specs.Outline.{Outline, IsDimension, IsElement, components_of}
use Rattle.dim_weights.specs.Coefficients.{coef}
use Rattle.dim_weights.specs.Table.{is_nonzero}
use Rattle.cube_space.specs.declared.shape.CubeShape.{CubeShape}
use Rattle.cube_space.specs.Layout.{axes, sizes}
use Rattle.cube_space.specs.Cells.{IsSpace, IsCell, cube_of, elements_of, is_leaf, are_leaves, is_leaf_cell}
use Rattle.cube_space.proofs.Places.{cell-place}
use Rattle.cube_space.proofs.Radix.{digits-length}
use Rattle.rule_laws.specs.declared.reference.Reference.{Reference}
use Rattle.rule_laws.specs.declared.reference.Arg.{Arg}
use Rattle.rule_laws.specs.declared.reference.Arg.TheVariants.{Fixed, Moved}
use Rattle.rule_laws.specs.Maps.{identity}
use Rattle.rule_laws.proofs.MapFacts.{inside, outside}
use Rattle.rule_model.specs.BoundModel.{BoundModel}
use Rattle.rule_model.specs.Areas.{in_source_set, in_source_sets}
use Rattle.rule_model.specs.Targets.{element_by}
use Rattle.rule_model.specs.Conditions.{IsArg, IsReference}
use Rattle.rule_model.proofs.Shapes.{shape_dims, axes_length, dims_within, dims_few}
use Rattle.feed_sources.proofs.SourceFacts.{axis-at, dimension-there, zip-length, zip-at}
use Rattle.feed_sources.specs.Feeders.{StandsFor}
use Rattle.feed_sources.specs.Inside.Choices.{AreChosen}
use Rattle.feed_sources.proofs.BelowFacts.{cell-leaves}
use Rattle.feed_sources.proofs.KeptFacts.{alone, below-kept, argument-names, target-parts}

-- one choice more
pub chosen-set : (choices after : List (Option ℕ)) (place leaf : ℕ) (elements : List ℕ) → place < length after → after ≡ set choices place (Some leaf)
    → AreChosen choices elements → (place < length elements → get_or elements place 0 ≡ leaf) → AreChosen after elements
chosen-set choices after place leaf elements low is are own k element within choice = elim (cases_eq k place) [
  | inl same ↦ (let here : get_or after k None ≡ Some leaf = ap (λ cs. get_or cs k None) is ∙ ap (λ n. get_or (set choices place (Some leaf)) n None) same ∙ get_or-set_same choices place (Some leaf) None (omega (arith, low, ap length is, length-set choices place (Some leaf))) in
      let found : Some leaf ≡ Some element = sym here ∙ choice in
      let is_leaf : leaf ≡ element = cc in
      ap (λ n. get_or elements n 0) same ∙ own (subst (λ n. n < length elements) same within) ∙ is_leaf)
  | inr apart ↦ (let here : get_or after k None ≡ get_or choices k None = ap (λ cs. get_or cs k None) is ∙ get_or-set_other choices place k (Some leaf) None apart in
      are k element within (sym here ∙ choice))
]

-- ---- the elements of a source

pub sources-at : (ds : List Outline) (sets : List (Option (List ℕ))) (elements : List ℕ) (place : ℕ) (d : Outline) → in_source_sets ds sets elements ≡ true
    → slice_get ds place ≡ Some d → place < length sets → place < length elements → in_source_set d (get_or sets place None) (get_or elements place 0) ≡ true
unfolding in_source_sets
sources-at [] sets elements place d are own low within = absurd (cc)
sources-at (x ∷ ds) [] elements place d are own low within = absurd (omega (arith, low))
sources-at (x ∷ ds) (s ∷ sets) [] place d are own low within = absurd (omega (arith, within))
sources-at (x ∷ ds) (s ∷ sets) (e ∷ elements) zero d are own low within =
    let same : x ≡ d = cc in
    ap (λ (o : Outline). in_source_set o s e) (sym same) ∙ (and_parts (in_source_set x s e) (in_source_sets ds sets elements) are).0
sources-at (x ∷ ds) (s ∷ sets) (e ∷ elements) (suc place) d are own low within =
    sources-at ds sets elements place d (and_parts (in_source_set x s e) (in_source_sets ds sets elements) are).1 own (omega (arith, low)) (omega (arith, within))

-- the leaf that is listed alone
pub listed-alone : (d : Outline) (listed : List ℕ) (leaf other : ℕ) → IsDimension d → length listed ≡ 1 → leaf ≡ get_or listed 0 0 → IsElement d leaf → components_of d leaf ≡ []
    → in_source_set d (Some listed) other ≡ true → other ≡ leaf
listed-alone d [] leaf other dim one own here none is = absurd (omega (arith, one))
listed-alone d (e ∷ []) leaf other dim one own here none is = by (is_nonzero (coef d e other)) refl
  where
    by : (b : Bool) → is_nonzero (coef d e other) ≡ b → other ≡ leaf
    by true on = sym (alone d dim leaf other here none (ap (λ n. is_nonzero (coef d n other)) own ∙ on))
    by false off = absurd (let clash : false ≡ true = rw off at is in cc)
listed-alone d (e ∷ f ∷ listed) leaf other dim one own here none is = absurd (omega (arith, one))

leaves-at : (ds : List Outline) (elements : List ℕ) (place : ℕ) (d : Outline) → are_leaves ds elements ≡ true → slice_get ds place ≡ Some d → place < length elements
    → is_leaf d (get_or elements place 0) ≡ true
leaves-at [] elements place d are own low = absurd (cc)
leaves-at (x ∷ ds) [] place d are own low = absurd (omega (arith, low))
leaves-at (x ∷ ds) (e ∷ elements) zero d are own low =
    let same : x ≡ d = cc in
    ap (λ (o : Outline). is_leaf o e) (sym same) ∙ (and_parts (is_leaf x e) (are_leaves ds elements) are).0
leaves-at (x ∷ ds) (e ∷ elements) (suc place) d are own low =
    leaves-at ds elements place d (and_parts (is_leaf x e) (are_leaves ds elements) are).1 own (omega (arith, low))

-- where a reference keeps an element, each source of a cell has the cell's
pub kept-is : (m : BoundModel) → IsSpace m.space → (r : Reference) (x place from cell : ℕ) (arg : Arg) (d : Outline) → is_leaf_cell m.space x ≡ true → StandsFor m r x cell → slice_get r.args place ≡ Some arg
    → ((elements : List ℕ) (element : ℕ) → element_by elements arg ≡ Some element → slice_get elements from ≡ Some element)
    → slice_get (axes m.space (cube_of m.space x)) from ≡ Some d → slice_get (axes m.space r.cube) place ≡ Some d
    → get_or (elements_of m.space x) from 0 ≡ get_or (elements_of m.space cell) place 0
kept-is m valid r x place from cell arg d leaf (t, names, has) own keeps source_axis target_axis =
    let parts = target-parts m.space r x t names in
    let found = parts.0 in
    let at = parts.2 in
    let kept : slice_get (elements_of m.space x) from ≡ Some (get_or found place 0) = keeps (elements_of m.space x) (get_or found place 0) (argument-names (elements_of m.space x) r.args found place arg parts.1 own) in
    let element : get_or (elements_of m.space x) from 0 ≡ get_or found place 0 = get_or_from_slice_get (elements_of m.space x) from (get_or found place 0) 0 kept in
    let low = slice_get_within (elements_of m.space x) from (get_or found place 0) kept in
    let is = leaves-at (axes m.space (cube_of m.space x)) (elements_of m.space x) from d (cell-leaves m.space x leaf) source_axis low in
    let its : get_or (elements_of m.space t) place 0 ≡ get_or found place 0 = ap (λ es. get_or es place 0) at.its in
    let below : get_or (elements_of m.space t) place 0 ≡ get_or (elements_of m.space cell) place 0 =
    below-kept m valid t cell at.cell has place d (ap (λ k. slice_get (axes m.space k) place) at.own ∙ target_axis) (ap (is_leaf d) (its ∙ sym element) ∙ is) in
    element ∙ sym its ∙ below

-- an identity keeps the element
pub identity-keeps : (elements : List ℕ) (from element : ℕ) (to : List (Option ℕ)) → to ≡ identity (length to) → element_by elements (Moved from to) ≡ Some element → slice_get elements from ≡ Some element
identity-keeps elements from element to same is = by (slice_get elements from) refl
  where
    by : (o : Option ℕ) → slice_get elements from ≡ o → slice_get elements from ≡ Some element
    by None none = absurd (let clash : None ≡ Some element = ap (option_and_then (λ e. unwrap_or (slice_get to e) None)) (sym none) ∙ is in cc)
    by (Some e) found =
        let goes : unwrap_or (slice_get to e) None ≡ Some element = ap (option_and_then (λ e. unwrap_or (slice_get to e) None)) (sym found) ∙ is in
        let own : unwrap_or (slice_get (identity (length to)) e) None ≡ Some element = ap (λ (t : List (Option ℕ)). unwrap_or (slice_get t e) None) (sym same) ∙ goes in
        elim (cases_lt e (length to)) [
          | inl low ↦ found ∙ (inside (length to) e low ∙ own)
          | inr past ↦ absurd (let clash : None ≡ Some element = outside (length to) e past ∙ own in cc)
        ]

-- ---- by the dimensions of both cubes

-- the dimension of a cube at a place
pub record IsAxis (m : BoundModel) (into : ℕ) (dims : List ℕ) (place : ℕ) : Type 0 where
  pub low : place < length dims
  pub few : place < 16
  pub d : Outline
  pub own : slice_get m.space.dimensions (get_or dims place 0) ≡ Some d
  pub axis : slice_get (axes m.space into) place ≡ Some d

module _ (m : BoundModel) (valid : IsSpace m.space) where
  pub args-long : (cube into : ℕ) (r : Reference) (shape : CubeShape) → IsReference m.space cube r → r.cube ≡ into → slice_get m.space.cubes into ≡ Some shape → length r.args ≡ length shape.dims
  args-long cube into r shape is same found =
      let zip : AllZip (IsArg (sizes m.space cube)) (sizes m.space into) r.args = subst (λ (k : ℕ). AllZip (IsArg (sizes m.space cube)) (sizes m.space k) r.args) same is.1 in
      sym (zip-length (IsArg (sizes m.space cube)) (sizes m.space into) r.args zip)
      ∙ length-map (axes m.space into) (λ (o : Outline). length o.elements)
      ∙ ap length (shape_dims m.space into shape found) ∙ axes_length m.space.dimensions shape.dims (dims_within m.space into shape valid found)

  -- the dimension at a place of a cube
  axis-there : (cube : ℕ) (shape : CubeShape) (place dim : ℕ) (d : Outline) → slice_get m.space.cubes cube ≡ Some shape → slice_get shape.dims place ≡ Some dim → slice_get m.space.dimensions dim ≡ Some d
      → slice_get (axes m.space cube) place ≡ Some d
  axis-there cube shape place dim d found at axis =
      let low = slice_get_within shape.dims place dim at in
      let here : get_or shape.dims place 0 ≡ dim = get_or_from_slice_get shape.dims place dim 0 at in
      ap (λ ds. slice_get ds place) (shape_dims m.space cube shape found)
      ∙ axis-at m.space.dimensions shape.dims place d (dims_within m.space cube shape valid found) low (ap (slice_get m.space.dimensions) here ∙ axis)

  -- an argument that names one element names one of the dimension
  pub fixed-low : (cube into : ℕ) (r : Reference) (place element : ℕ) (arg : Arg) (d : Outline) → IsReference m.space cube r → r.cube ≡ into
      → slice_get r.args place ≡ Some arg → arg ≡ Fixed element → slice_get (axes m.space into) place ≡ Some d → element < length d.elements
  fixed-low cube into r place element arg d is same arg_is fixed own =
      let zip : AllZip (IsArg (sizes m.space cube)) (sizes m.space into) r.args = subst (λ (k : ℕ). AllZip (IsArg (sizes m.space cube)) (sizes m.space k) r.args) same is.1 in
      let low = slice_get_within (axes m.space into) place d own in
      let many : place < length (sizes m.space into) = omega (arith, low, length-map (axes m.space into) (λ (o : Outline). length o.elements)) in
      let size : get_or (sizes m.space into) place 0 ≡ length d.elements =
      get_or-map (λ (o : Outline). length o.elements) (axes m.space into) place d 0 low ∙ ap (λ (o : Outline). length o.elements) (get_or_from_slice_get (axes m.space into) place d d own) in
      let here : IsArg (sizes m.space cube) (get_or (sizes m.space into) place 0) (get_or r.args place arg) = zip-at (IsArg (sizes m.space cube)) (sizes m.space into) r.args place 0 arg zip many in
      let fits : IsArg (sizes m.space cube) (length d.elements) (Fixed element) =
      subst (λ (n : ℕ). IsArg (sizes m.space cube) n (Fixed element)) size
      (subst (IsArg (sizes m.space cube) (get_or (sizes m.space into) place 0)) (get_or_from_slice_get r.args place arg arg arg_is ∙ fixed) here) in
      fits

  pub kept-element : (r : Reference) (x cube into place from dim cell : ℕ) (arg : Arg) (shape own : CubeShape) → slice_get m.space.cubes cube ≡ Some shape → slice_get m.space.cubes into ≡ Some own
      → r.cube ≡ into → slice_get shape.dims from ≡ Some dim → slice_get own.dims place ≡ Some dim → slice_get r.args place ≡ Some arg
      → ((elements : List ℕ) (element : ℕ) → element_by elements arg ≡ Some element → slice_get elements from ≡ Some element)
      → cube_of m.space x ≡ cube → is_leaf_cell m.space x ≡ true → StandsFor m r x cell
      → get_or (elements_of m.space x) from 0 ≡ get_or (elements_of m.space cell) place 0
  kept-element r x cube into place from dim cell arg shape own found own_found same from_is place_is arg_is keeps here leaf stands =
      let low : dim < length m.space.dimensions = subst (λ (k : ℕ). k < length m.space.dimensions) (get_or_from_slice_get own.dims place dim 0 place_is)
      (dims_within m.space into own valid own_found place 0 (slice_get_within own.dims place dim place_is)) in
      let d = dimension-there m.space.dimensions dim low in
      kept-is m valid r x place from cell arg d.0 leaf stands arg_is keeps
      (ap (λ k. slice_get (axes m.space k) from) here ∙ axis-there cube shape from dim d.0 found from_is d.1)
      (ap (λ k. slice_get (axes m.space k) place) same ∙ axis-there into own place dim d.0 own_found place_is d.1)

  -- a cell has an element of each dimension
  pub elements-long : (cell into : ℕ) (shape : CubeShape) → IsCell m.space cell → into ≡ cube_of m.space cell → slice_get m.space.cubes into ≡ Some shape → length (elements_of m.space cell) ≡ length shape.dims
  elements-long cell into shape is own found =
      digits-length (sizes m.space (cube_of m.space cell)) (elements_of m.space cell) (cell-place m.space cell is).place.digits
      ∙ ap (λ k. length (sizes m.space k)) (sym own) ∙ length-map (axes m.space into) (λ (o : Outline). length o.elements)
      ∙ ap length (shape_dims m.space into shape found) ∙ axes_length m.space.dimensions shape.dims (dims_within m.space into shape valid found)

  -- the dimension that an argument is for
  pub argument-axis : (cube into : ℕ) (r : Reference) (shape : CubeShape) (dims : List ℕ) (args : List Arg) (place : ℕ) → IsReference m.space cube r → r.cube ≡ into → slice_get m.space.cubes into ≡ Some shape
      → dims ≡ shape.dims → args ≡ r.args → place < length args → IsAxis m into dims place
  argument-axis cube into r shape dims args place is same found dims_are args_are low =
      let long = args-long cube into r shape is same found in
      let within : place < length dims = omega (arith, low, long, ap length args_are, ap length dims_are) in
      let few = dims_few m.space into shape valid found in
      let dim = get_or dims place 0 in
      let at : slice_get shape.dims place ≡ Some dim = ap (λ ds. slice_get ds place) (sym dims_are) ∙ slice_get-get_or dims place 0 within in
      let d = dimension-there m.space.dimensions dim (subst (λ ds. get_or ds place 0 < length m.space.dimensions) (sym dims_are) (dims_within m.space into shape valid found place 0 (omega (arith, within, ap length dims_are)))) in
      record { low = within; few = omega (arith, within, few, ap length dims_are); d = d.0; own = d.1; axis = axis-there into shape place dim d.0 found at d.1 }

-- nothing is chosen yet
pub none-chosen : (count : ℕ) (elements : List ℕ) → AreChosen (replicate count None) elements
none-chosen count elements place element within choice = let none = at count place in let clash : None ≡ Some element = sym none ∙ choice in absurd (cc)
  where
    at : (n k : ℕ) → get_or {A = Option ℕ} (replicate n None) k None ≡ None
    at zero k = refl
    at (suc n) zero = refl
    at (suc n) (suc k) = at n k

-- an element that was read into an array
pub read-element : (count : ℕ) (at elements : List ℕ) (place : ℕ) → take count at ≡ elements → place < length elements → get_or elements place 0 ≡ get_or at place 0
read-element count at elements place is low =
    let few : length elements ≤ count = (let l = length-take count at in omega (arith, ap length is, l)) in
    ap (λ es. get_or es place 0) (sym is) ∙ get_or-take count at place 0 (omega (arith, low, few))
