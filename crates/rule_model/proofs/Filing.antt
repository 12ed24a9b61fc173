-- The feeders of a cube as they are filed, and what a number finds among them.
use Rattle.std.proofs.Common.{◌≡◌, ◌↔◌, ℕ, ℤ, IsTrue, zero, suc, ◌+◌, ◌-◌, ◌*◌, ◌^◌, ◌<◌, ◌≤◌, Bool, true, false, ◌&&◌, cond, List, [], ◌∷◌, ◌++◌, length, map, filter, get_or, take, drop, drop-cons, append_assoc, Option, Some, None, IfSome, inl, inr, refl, sym, ap, ◌∙◌, subst, arith, eqb, leb, ltb, All, slice_get}
use Rattle.std.specs.Prelude.{slice_index_or}
use Rattle.std.specs.List.{AllZip, range_with_len, cons_option}
use Rattle.std.specs.List.Sorted.{IsStableByKey}
use Rattle.std.specs.Ordering.{nat_cmp}
use Rattle.std.proofs.lemmas.Bool.{and_parts, and_from, ne_eqb, cases_lt}
use Rattle.std.proofs.lemmas.Bool.Decides.{nat_tests, Decides-eqb}
use Rattle.std.proofs.lemmas.Option.{slice_get-get_or}
use Rattle.std.proofs.lemmas.List.{append-nil, length-drop, get_or_default, get_or_append_left}
use Rattle.std.proofs.Math.Seq.{take-length, get_or-append_seam}
use Rattle.std.proofs.Math.ListN.{drop_of_length-le}
use Rattle.std.specs.Option.{option_map_or}
use Rattle.lists.proofs.Found.{found_holds, same_truth}
use Rattle.lists.proofs.Stable.{stable_of_key}
use Rattle.dim_core.specs.Outline.{Outline, IsDimension, components_of}
use Rattle.cube_space.specs.declared.shape.CubeShape.{CubeShape}
use Rattle.cube_space.proofs.AxisSizes.{length-axes_of}
use Rattle.cube_space.specs.Layout.{Layout, dims_of, axes, axes_of, sizes, sizes_of}
use Rattle.cube_space.specs.Cells.{IsSpace, is_leaf}
use Rattle.rule_laws.specs.declared.reference.Arg.{Arg}
use Rattle.rule_laws.specs.declared.reference.Arg.TheVariants.{Fixed, Moved}
use Rattle.rule_laws.specs.declared.reference.Reference.{Reference}
use Rattle.rule_model.specs.declared.filed.FixedLeaf.{FixedLeaf}
use Rattle.rule_model.specs.declared.filed.FiledFeeder.{FiledFeeder}
use Rattle.rule_model.specs.declared.rules.Feeder.{Feeder}
use Rattle.rule_model.specs.declared.rules.CubeRules.{CubeRules}
use Rattle.rule_model.specs.BoundModel.{no_rules}
use Rattle.rule_model.specs.Conditions.{IsArg, IsReference, IsFeeder, AreRules}
use Rattle.rule_model.specs.Filed.{is_leaf_at, wider, widest_leaf, leaf_of, is_same_leaf, is_filed, filed_places}
use Rattle.rule_model.specs.Inside.Files.{NamesElements, IsFile, AreFiles, IsLow, leaf_number, file_number, filed_at, filed_from, of_number}
use Rattle.rule_model.proofs.Shapes.{few_sizes, shape_dims, dims_within}
use Rattle.rule_model.proofs.Components.{axis_at}

-- ---- what stands from a place on

pub rest_taken : {X : Type 0} (n : ℕ) (xs : List X) → take (length xs - n) (drop n xs) ≡ drop n xs
rest_taken n xs = ap (λ m. take m (drop n xs)) (sym (length-drop n xs)) ∙ take-length (drop n xs)

-- those at or above a number of those at or below it
within : (n key : ℕ) → (leb n key && leb key n) ≡ eqb n key
within n key = grind (arith, nat_tests)

abbrev up_to : ℕ → List FiledFeeder → List FiledFeeder
up_to key file = filter (λ (f : FiledFeeder). leb f.key key) file

abbrev from_on : ℕ → List FiledFeeder → List FiledFeeder
from_on key file = filter (λ (f : FiledFeeder). leb key f.key) file

pub between : (file : List FiledFeeder) (key : ℕ) → from_on key (up_to key file) ≡ of_number file key
between [] key = refl
between (f ∷ file) key = step (leb f.key key) (eqb f.key key) (within f.key key) (between file key)
  where
    step : (a c : Bool) → (a && leb key f.key) ≡ c → from_on key (up_to key file) ≡ of_number file key
        → from_on key (cond a (f ∷ up_to key file) (up_to key file)) ≡ cond c (f ∷ of_number file key) (of_number file key)
    step true c e rest = ap (λ b. cond b (f ∷ from_on key (up_to key file)) (from_on key (up_to key file))) e ∙ ap (λ fs. cond c (f ∷ fs) fs) rest
    step false c e rest = rest ∙ ap (λ b. cond b (f ∷ of_number file key) (of_number file key)) e

-- ---- numbers

-- a number tells the cube and the leaf
pub same_number : (other cube : ℕ) (mine leaf : Option FixedLeaf) → IfSome mine IsLow → IfSome leaf IsLow → (eqb other cube && is_same_leaf mine leaf) ≡ eqb (file_number other mine) (file_number cube leaf)
same_number other cube mine leaf low_mine low_leaf = same_truth _ _ (there mine leaf) (back mine leaf low_mine low_leaf)
  where
    same_leaf : (mine leaf : Option FixedLeaf) → is_same_leaf mine leaf ≡ true → leaf_number mine ≡ leaf_number leaf
    same_leaf None None h = refl
    same_leaf None (Some leaf) h = absurd (cc)
    same_leaf (Some mine) None h = absurd (cc)
    same_leaf (Some mine) (Some leaf) h =
        let parts = and_parts _ _ h in
        let dim : mine.dim ≡ leaf.dim = (Decides-eqb mine.dim leaf.dim).0 parts.0 in
        let element : mine.element ≡ leaf.element = (Decides-eqb mine.element leaf.element).0 parts.1 in
        omega (arith, dim, element)

    there : (mine leaf : Option FixedLeaf) → (eqb other cube && is_same_leaf mine leaf) ≡ true → eqb (file_number other mine) (file_number cube leaf) ≡ true
    there mine leaf h =
        let parts = and_parts _ _ h in
        let cubes : other ≡ cube = (Decides-eqb other cube).0 parts.0 in
        (Decides-eqb _ _).1 (omega (arith, cubes, same_leaf mine leaf parts.1))

    back : (mine leaf : Option FixedLeaf) → IfSome mine IsLow → IfSome leaf IsLow → eqb (file_number other mine) (file_number cube leaf) ≡ true → (eqb other cube && is_same_leaf mine leaf) ≡ true
    back None None low_m low_l h =
        let e : other * 2 ^ 65 + 0 ≡ cube * 2 ^ 65 + 0 = (Decides-eqb _ _).0 h in
        and_from _ _ ((Decides-eqb other cube).1 (omega (arith, e))) refl
    back None (Some leaf) low_m low_l h =
        let e : other * 2 ^ 65 + 0 ≡ cube * 2 ^ 65 + (suc leaf.dim * 2 ^ 32 + leaf.element) = (Decides-eqb _ _).0 h in
        absurd (omega (arith, e, low_l.0, low_l.1))
    back (Some mine) None low_m low_l h =
        let e : other * 2 ^ 65 + (suc mine.dim * 2 ^ 32 + mine.element) ≡ cube * 2 ^ 65 + 0 = (Decides-eqb _ _).0 h in
        absurd (omega (arith, e, low_m.0, low_m.1))
    back (Some mine) (Some leaf) low_m low_l h =
        let e : other * 2 ^ 65 + (suc mine.dim * 2 ^ 32 + mine.element) ≡ cube * 2 ^ 65 + (suc leaf.dim * 2 ^ 32 + leaf.element) = (Decides-eqb _ _).0 h in
        let cubes : other ≡ cube = omega (arith, e, low_m.0, low_m.1, low_l.0, low_l.1) in
        let dims : mine.dim ≡ leaf.dim = omega (arith, e, cubes, low_m.0, low_m.1, low_l.0, low_l.1) in
        let elements : mine.element ≡ leaf.element = omega (arith, e, cubes, dims) in
        and_from _ _ ((Decides-eqb other cube).1 cubes) (and_from _ _ ((Decides-eqb mine.dim leaf.dim).1 dims) ((Decides-eqb mine.element leaf.element).1 elements))

-- ---- what a target names

small_axes : (D : List Outline) (dims : List ℕ) (k : ℕ) → All IsDimension D → slice_index_or (sizes_of (axes_of D dims)) k 0 < 2 ^ 32
small_axes D [] k all = omega arith
small_axes D (dim ∷ dims) k all = by (λ k. small_axes D dims k all) (slice_get D dim) refl k
  where
    by : ((k : ℕ) → slice_index_or (sizes_of (axes_of D dims)) k 0 < 2 ^ 32) → (o : Option Outline) → slice_get D dim ≡ o → (k : ℕ) → slice_index_or (sizes_of (cons_option o (axes_of D dims))) k 0 < 2 ^ 32
    by rest None is k = rest k
    by rest (Some d) is zero = omega (arith, (found_holds IsDimension D dim d all is).few)
    by rest (Some d) is (suc k) = rest k

pub args_named : (source sizes : List ℕ) (args : List Arg) → AllZip (IsArg source) sizes args
    → (length args ≡ length sizes) × ((k e : ℕ) → slice_get args k ≡ Some (Fixed e) → e < slice_index_or sizes k 0)
args_named source [] [] all = (refl, λ k e is. absurd (cc))
args_named source [] (arg ∷ args) all = absurd all
args_named source (n ∷ sizes) [] all = absurd all
args_named source (n ∷ sizes) (arg ∷ args) all = let rest = args_named source sizes args all.1 in (ap suc rest.0, by rest.1)
  where
    by : ((k e : ℕ) → slice_get args k ≡ Some (Fixed e) → e < slice_index_or sizes k 0) → (k e : ℕ) → slice_get (arg ∷ args) k ≡ Some (Fixed e) → e < slice_index_or (n ∷ sizes) k 0
    by rest zero e is = let same : arg ≡ Fixed e = cc in subst (IsArg source n) same all.0
    by rest (suc k) e is = rest k e is

pub names_elements : (space : Layout) (own : ℕ) (r : Reference) → IsSpace space → IsReference space own r → NamesElements space r
names_elements space own r valid is =
    let named = args_named (sizes space own) (sizes space r.cube) r.args is.1 in
    record { there = is.0; few = omega (arith, named.0, few_sizes space r.cube valid); fixed = named.1 }

-- the widest leaf is one of the dimensions and of their elements
wider_low : (sizes : List ℕ) (n : ℕ) (leaf : FixedLeaf) (other : Option FixedLeaf) → (leaf.dim < n) × (leaf.element < 2 ^ 32) → IfSome other (λ leaf. (leaf.dim < n) × (leaf.element < 2 ^ 32))
    → ((wider sizes leaf other).dim < n) × ((wider sizes leaf other).element < 2 ^ 32)
wider_low sizes n leaf None own low = own
wider_low sizes n leaf (Some other) own low = by (ltb (slice_index_or sizes leaf.dim 0) (slice_index_or sizes other.dim 0))
  where
    by : (b : Bool) → ((cond b other leaf).dim < n) × ((cond b other leaf).element < 2 ^ 32)
    by true = low
    by false = own

leaf_low : (ds : List Outline) (n k : ℕ) (args : List Arg) → k + length args ≤ n → ((j e : ℕ) → slice_get args j ≡ Some (Fixed e) → e < 2 ^ 32) → IfSome (widest_leaf ds k args) (λ leaf. (leaf.dim < n) × (leaf.element < 2 ^ 32))
leaf_low ds n k [] few low = tt
leaf_low ds n k (Moved from to ∷ args) few low = leaf_low ds n (suc k) args (omega (arith, few)) (λ j e is. low (suc j) e is)
leaf_low ds n k (Fixed element ∷ args) few low = by (is_leaf_at ds k element) (leaf_low ds n (suc k) args (omega (arith, few)) (λ j e is. low (suc j) e is))
  where
    by : (b : Bool) → IfSome (widest_leaf ds (suc k) args) (λ leaf. (leaf.dim < n) × (leaf.element < 2 ^ 32))
        → IfSome (cond b (Some (wider (sizes_of ds) (record { dim = k; element = element }) (widest_leaf ds (suc k) args))) (widest_leaf ds (suc k) args)) (λ (leaf : FixedLeaf). (leaf.dim < n) × (leaf.element < 2 ^ 32))
    by true rest = wider_low (sizes_of ds) n (record { dim = k; element = element }) (widest_leaf ds (suc k) args) (omega (arith, few), low 0 element refl) rest
    by false rest = rest

below_word : (leaf : Option FixedLeaf) → IfSome leaf (λ leaf. (leaf.dim < 16) × (leaf.element < 2 ^ 32)) → IfSome leaf IsLow
below_word None h = tt
below_word (Some leaf) h = (omega (arith, h.0), h.1)

pub leaf_of-low : (space : Layout) (own : ℕ) (f : Feeder) → IsSpace space → IsFeeder space own f → IfSome (leaf_of space f) IsLow
leaf_of-low space own f valid is =
    let named = names_elements space own f.target valid is.target in
    below_word (leaf_of space f) (leaf_low (axes space f.target.cube) 16 0 f.target.args (omega (arith, named.few))
    (λ j e at. omega (arith, named.fixed j e at, small_axes space.dimensions (dims_of space f.target.cube) j valid.dimensions)))

-- ---- whether an element is a leaf

inside : (xs : List ℕ) (k n : ℕ) → n < slice_index_or xs k 0 → k < length xs
inside [] k n low = absurd (omega (arith, low))
inside (x ∷ xs) zero n low = omega arith
inside (x ∷ xs) (suc k) n low = omega (arith, inside xs k n low)

size_at : (ds : List Outline) (k : ℕ) (d : Outline) → slice_get ds k ≡ Some d → slice_index_or (sizes_of ds) k 0 ≡ length d.elements
size_at [] k d is = absurd (cc is)
size_at (x ∷ ds) zero d is = let same : x ≡ d = cc in ap (λ (d : Outline). length d.elements) same
size_at (x ∷ ds) (suc k) d is = size_at ds k d is

module _ (space : Layout) (cube dim element : ℕ) (shape : CubeShape) (dims : List ℕ) (valid : IsSpace space) (found : slice_get space.cubes cube ≡ Some shape) (named : dims ≡ shape.dims)
    (low : element < slice_index_or (sizes space cube) dim 0) where
  within_dims : All (λ k. k < length space.dimensions) dims
  within_dims = subst (λ ds. All (λ k. k < length space.dimensions) ds) (sym named) (dims_within space cube shape valid found)

  own_axes : axes space cube ≡ axes_of space.dimensions dims
  own_axes = shape_dims space cube shape found ∙ ap (axes_of space.dimensions) (sym named)

  pub dim_low : dim < length dims
  dim_low = omega (arith, inside (sizes space cube) dim element low, ap (λ ds. length (sizes_of ds)) own_axes, length-axes_of space.dimensions dims within_dims)

  pub number_low : slice_index_or dims dim 0 < length space.dimensions
  number_low = within_dims dim 0 dim_low

  axis_is : (d : Outline) → slice_get space.dimensions (slice_index_or dims dim 0) ≡ Some d → slice_get (axes space cube) dim ≡ Some d
  axis_is d is = ap (λ ds. slice_get ds dim) own_axes ∙ axis_at space.dimensions dims dim (slice_index_or dims dim 0) d within_dims (slice_get-get_or dims dim 0 dim_low) is

  pub element_there : (d : Outline) → slice_get space.dimensions (slice_index_or dims dim 0) ≡ Some d → element < length d.elements
  element_there d is = omega (arith, low, size_at (axes space cube) dim d (axis_is d is))

  pub leaf_is : (d : Outline) (leaf : Bool) → slice_get space.dimensions (slice_index_or dims dim 0) ≡ Some d → IsTrue leaf ↔ (components_of d element ≡ []) → leaf ≡ is_leaf_at (axes space cube) dim element
  leaf_is d leaf is tells = by leaf (components_of d element) refl tells ∙ ap (λ o. option_map_or (λ d. is_leaf d element) o false) (sym (axis_is d is))
    where
      by : (leaf : Bool) (parts : List (ℕ × ℤ)) → components_of d element ≡ parts → IsTrue leaf ↔ (components_of d element ≡ []) → leaf ≡ is_leaf d element
      by true [] are tells = rw are refl
      by true (part ∷ parts) are tells = absurd (let none = tells.0 refl in let clash : part ∷ parts ≡ [] = sym are ∙ none in cc)
      by false [] are tells = absurd (let leaf = tells.1 are in cc)
      by false (part ∷ parts) are tells = rw are (sym (ne_eqb (suc (length parts)) 0 (λ e. omega (arith, e))))

-- ---- the size of a dimension

pub size_found : (space : Layout) (cube dim : ℕ) (shape : CubeShape) (dims : List ℕ) (d : Outline) → IsSpace space → slice_get space.cubes cube ≡ Some shape → dims ≡ shape.dims → dim < length dims
    → slice_get space.dimensions (slice_index_or dims dim 0) ≡ Some d → length d.elements ≡ slice_index_or (sizes space cube) dim 0
size_found space cube dim shape dims d valid found named low is =
    let within = subst (λ ds. All (λ k. k < length space.dimensions) ds) (sym named) (dims_within space cube shape valid found) in
    let own = shape_dims space cube shape found ∙ ap (axes_of space.dimensions) (sym named) in
    let at = axis_at space.dimensions dims dim (slice_index_or dims dim 0) d within (slice_get-get_or dims dim 0 low) is in
    sym (size_at (axes space cube) dim d (ap (λ ds. slice_get ds dim) own ∙ at))

none_past : (xs : List ℕ) (k : ℕ) → length xs ≤ k → 0 ≡ slice_index_or xs k 0
none_past [] k past = refl
none_past (x ∷ xs) zero past = absurd (omega (arith, past))
none_past (x ∷ xs) (suc k) past = none_past xs k (omega (arith, past))

pub size_past : (space : Layout) (cube dim : ℕ) (shape : CubeShape) (dims : List ℕ) → IsSpace space → slice_get space.cubes cube ≡ Some shape → dims ≡ shape.dims → length dims ≤ dim → 0 ≡ slice_index_or (sizes space cube) dim 0
size_past space cube dim shape dims valid found named past =
    let within = subst (λ ds. All (λ k. k < length space.dimensions) ds) (sym named) (dims_within space cube shape valid found) in
    let own = shape_dims space cube shape found ∙ ap (axes_of space.dimensions) (sym named) in
    none_past (sizes space cube) dim (omega (arith, past, ap (λ ds. length (sizes_of ds)) own, length-axes_of space.dimensions dims within))

pub number_found : (space : Layout) (cube dim : ℕ) (shape : CubeShape) (dims : List ℕ) → IsSpace space → slice_get space.cubes cube ≡ Some shape → dims ≡ shape.dims → dim < length dims → slice_index_or dims dim 0 < length space.dimensions
number_found space cube dim shape dims valid found named low = subst (λ ds. All (λ k. k < length space.dimensions) ds) (sym named) (dims_within space cube shape valid found) dim 0 low

-- ---- the feeders that a number finds

find_places : (space : Layout) (T : ℕ → Bool) (key k : ℕ) (fs : List Feeder) → ((i : ℕ) (f : Feeder) → slice_get fs i ≡ Some f → T (k + i) ≡ eqb (file_number f.target.cube (leaf_of space f)) key)
    → map (λ (f : FiledFeeder). f.place) (of_number (filed_from space k fs) key) ≡ filter T (range_with_len k (length fs))
find_places space T key k [] same = refl
find_places space T key k (f ∷ fs) same =
    let here : T k ≡ eqb (file_number f.target.cube (leaf_of space f)) key = (let e : k ≡ k + 0 = omega arith in ap T e ∙ same 0 f refl) in
    let rest = find_places space T key (suc k) fs (λ i g is. (let e : suc k + i ≡ k + suc i = omega arith in ap T e ∙ same (suc i) g is)) in
    by (eqb (file_number f.target.cube (leaf_of space f)) key) ∙ ap (λ b. cond b (k ∷ map (λ (f : FiledFeeder). f.place) (of_number (filed_from space (suc k) fs) key)) (map (λ (f : FiledFeeder). f.place) (of_number (filed_from space (suc k) fs) key))) (sym here)
    ∙ ap (λ ks. cond (T k) (k ∷ ks) ks) rest ∙ (let e : suc k ≡ k + 1 = omega arith in ap (λ n. cond (T k) (k ∷ filter T (range_with_len n (length fs))) (filter T (range_with_len n (length fs)))) e)
  where
    by : (b : Bool) → map (λ (f : FiledFeeder). f.place) (cond b (filed_at space k f ∷ of_number (filed_from space (suc k) fs) key) (of_number (filed_from space (suc k) fs) key))
        ≡ cond b (k ∷ map (λ (f : FiledFeeder). f.place) (of_number (filed_from space (suc k) fs) key)) (map (λ (f : FiledFeeder). f.place) (of_number (filed_from space (suc k) fs) key))
    by true = refl
    by false = refl

pub found_places : (space : Layout) (own : ℕ) (fs : List Feeder) (file : List FiledFeeder) (cube : ℕ) (leaf : Option FixedLeaf) → IsSpace space → All (IsFeeder space own) fs → IsFile space fs file → IfSome leaf IsLow
    → map (λ (f : FiledFeeder). f.place) (of_number file (file_number cube leaf)) ≡ filed_places space fs cube leaf
found_places space own fs file cube leaf valid all is low =
    ap (map (λ (f : FiledFeeder). f.place)) (is.same (file_number cube leaf))
    ∙ find_places space (is_filed space fs cube leaf) (file_number cube leaf) 0 fs (λ i f at.
    let e : 0 + i ≡ i = omega arith in
    ap (is_filed space fs cube leaf) e ∙ ap (λ o. option_map_or (λ (f : Feeder). eqb f.target.cube cube && is_same_leaf (leaf_of space f) leaf) o false) at
    ∙ same_number f.target.cube cube (leaf_of space f) leaf (leaf_of-low space own f valid (found_holds (IsFeeder space own) fs i f all at)) low)

-- ---- how the file is made

pub filed_next : (space : Layout) (k : ℕ) (fs : List Feeder) (f : Feeder) (front all : List FiledFeeder) → k < length fs → f ≡ get_or fs k f → front ++ filed_from space k (drop k fs) ≡ all
    → (front ++ filed_at space k f ∷ []) ++ filed_from space (k + 1) (drop (k + 1) fs) ≡ all
filed_next space k fs f front all low is so =
    let e : k + 1 ≡ suc k = omega arith in
    let next : drop k fs ≡ f ∷ drop (suc k) fs = drop-cons fs k f low ∙ ap (λ g. g ∷ drop (suc k) fs) (sym is) in
    append_assoc front (filed_at space k f ∷ []) (filed_from space (k + 1) (drop (k + 1) fs))
    ∙ ap (λ n. front ++ filed_at space k f ∷ filed_from space n (drop n fs)) e
    ∙ sym (ap (λ gs. front ++ filed_from space k gs) next) ∙ so

pub filed_done : (space : Layout) (k : ℕ) (fs : List Feeder) (front all : List FiledFeeder) → length fs ≤ k → front ++ filed_from space k (drop k fs) ≡ all → front ≡ all
filed_done space k fs front all past so = sym (append-nil front) ∙ sym (ap (λ gs. front ++ filed_from space k gs) (drop_of_length-le fs past)) ∙ so

pub sorted_same : (xs sorted : List FiledFeeder) → IsStableByKey (λ (f : FiledFeeder). f.key) nat_cmp xs sorted → (key : ℕ) → of_number sorted key ≡ of_number xs key
sorted_same xs sorted stable key = stable_of_key (λ (f : FiledFeeder). f.key) xs sorted stable key

-- ---- the files of the cubes

pub names_all : (space : Layout) (cubes : List CubeRules) (k : ℕ) (rules : CubeRules) → IsSpace space → AreRules space cubes → k < length cubes → rules ≡ get_or cubes k rules
    → All (λ (f : Feeder). NamesElements space f.target) rules.feeders
names_all space cubes k rules valid are low is =
    let there : k < length space.cubes = omega (arith, low, are.each_cube) in
    let same : rules ≡ slice_index_or cubes k no_rules = is ∙ get_or_default cubes k rules no_rules low in
    subst (λ (r : CubeRules). All (λ (f : Feeder). NamesElements space f.target) r.feeders) (sym same)
    (λ j d less. names_elements space k _ valid ((are.cube k there).feeders j d less).target)

pub files_next : (space : Layout) (cubes : List CubeRules) (k : ℕ) (rules : CubeRules) (files : List (List FiledFeeder)) (file : List FiledFeeder) → length files ≡ k → k < length cubes → rules ≡ get_or cubes k rules → IsFile space rules.feeders file
    → ((j : ℕ) → j < k → IsFile space (slice_index_or cubes j no_rules).feeders (slice_index_or files j []))
    → (j : ℕ) → j < k + 1 → IsFile space (slice_index_or cubes j no_rules).feeders (slice_index_or (files ++ file ∷ []) j [])
files_next space cubes k rules files file long low is own before j less = elim (cases_lt j k) [
  | inl lower ↦ subst (IsFile space (slice_index_or cubes j no_rules).feeders) (sym (get_or_append_left files (file ∷ []) [] j (omega (arith, lower, long)))) (before j lower)
  | inr above ↦ let here : j ≡ length files = omega (arith, above, less, long) in
      let same : slice_index_or cubes j no_rules ≡ rules = ap (λ n. slice_index_or cubes n no_rules) (here ∙ long) ∙ sym (is ∙ get_or_default cubes k rules no_rules low) in
      let found : slice_index_or (files ++ file ∷ []) j [] ≡ file = ap (λ n. slice_index_or (files ++ file ∷ []) n []) here ∙ get_or-append_seam files file [] [] in
      subst (IsFile space (slice_index_or cubes j no_rules).feeders) (sym found) (subst (λ (r : CubeRules). IsFile space r.feeders file) (sym same) own)
]

pub own_file : (space : Layout) (cubes : List CubeRules) (files : List (List FiledFeeder)) (own : ℕ) (file : List FiledFeeder) → AreFiles space cubes files → own < length cubes → file ≡ get_or files own file → IsFile space (slice_index_or cubes own no_rules).feeders file
own_file space cubes files own file are low is =
    let there : own < length files = omega (arith, low, are.each) in
    subst (IsFile space (slice_index_or cubes own no_rules).feeders) (sym (is ∙ get_or_default files own file [] there)) (are.file own low)
