-- The tables that arguments become.
use Rattle.std.proofs.Common.{◌≡◌, ℕ, zero, suc, ◌<◌, List, [], ◌∷◌, length, map, get_or, Bool, true, ◌&&◌, Option, Some, None, Result, Ok, Err, IfOk, IfSome, All, refl, sym, ap, ◌∙◌, subst, arith, slice_get, slice_index, slice_index_or, nat_lt, ◌==◌, ◌+◌}
use Rattle.std.proofs.lemmas.Bool.{and_parts, ltb-true, eqb-true}
use Rattle.std.proofs.lemmas.List.{get_or-map, length-map}
use Rattle.std.proofs.lemmas.List.FromFn.{get_or-map-range_with_len, length-map-range_with_len}
use Rattle.std.specs.List.{range_with_len}
use Rattle.std.specs.Option.{option_map, option_and_then, ok_or}
use Rattle.std.proofs.lemmas.Option.{slice_get-get_or}
use Rattle.cube_fixed.specs.Range.{is_in_range}
use Rattle.dim_core.proofs.Naming.{called_within}
use Rattle.dim_core.proofs.Naming.{place_at}
use Rattle.cube_space.specs.Cells.{IsSpace}
use Rattle.cube_space.specs.Layout.{Layout, axes_of, dims_of, sizes, sizes_of}
use Rattle.cube_space.proofs.AxisSizes.{sizes-by_counts, length-axes_of, element-count}
use Rattle.dim_core.specs.Outline.{Outline, IsDimension, index_of, names_of}
use Rattle.rule_laws.specs.Maps.{identity, nowhere}
use Rattle.rule_laws.specs.declared.reference.Arg.{Arg}
use Rattle.rule_laws.specs.declared.reference.Arg.TheVariants.{Fixed}
use Rattle.rule_model.specs.Conditions.{IsArg}
use Rattle.rule_tree.specs.declared.tree.Tree.{Tree}
use Rattle.bind_arguments.specs.Written.{Quoted, Part, Element, argument_of_part, part_in}
use Rattle.bind_arguments.specs.Bound.{dimension_at, name_in, bound_argument, followed_step, followed, name_given, element_given}
use Rattle.bind_arguments.specs.Argument.{size_at, still, table, arg_following, arg_of, argument_by_form, argument_of, IsAnsweredBy}
use Rattle.bind_arguments.specs.Inside.Reading.{text_of_part, bound_part}
use Rattle.bind_arguments.specs.Inside.Within.{is_within, within_step, is_dimension, is_placed}
use Rattle.bind_arguments.specs.declared.bound_argument.BoundArgument.{BoundArgument}
use Rattle.bind_arguments.specs.declared.bound_argument.BoundArgument.TheFolds.{fold-roll-BoundArgument, ind-BoundArgument, map-BoundArgument}
use Rattle.bind_arguments.specs.declared.bound_argument.BoundArgument.TheViews.{roll-BoundArgument}
use Rattle.bind_arguments.specs.declared.bound_argument.BoundArgument.TheVariants.{rolls-Current}
use Rattle.bind_arguments.specs.declared.bound_argument.BoundArgument.TheOpen.{BoundArgument-F}
use Rattle.bind_arguments.specs.declared.bound_argument.BoundArgument.TheVariants as bound
use Rattle.bind_arguments.specs.declared.fault.ArgumentFault.{ArgumentFault}
use Rattle.bind_arguments.specs.declared.fault.ArgumentFault.TheVariants.{UnknownName}
use Rattle.cube_space.specs.declared.shape.CubeShape.{CubeShape}
use Rattle.bind_arguments.proofs.Cubes.{dims_are, dims_within, dims_count}
use Rattle.bind_arguments.proofs.Around.{found_dimension}
use Rattle.bind_arguments.proofs.NamesGiven.{current_parts, given_current}
use Rattle.lists.proofs.Found.{there as found_among}

-- Arguments other than texts.

abbrev mapped : (BoundArgument → Arg) → Result BoundArgument ArgumentFault → Result Arg ArgumentFault
mapped f (Ok a) = Ok (f a)
mapped f (Err fault) = Err fault

mapped_known : (f : BoundArgument → Arg) (o : Option BoundArgument) → ok_or (option_map f o) UnknownName ≡ mapped f (ok_or o UnknownName)
mapped_known f None = refl
mapped_known f (Some a) = refl

module _ (space : Layout) (cube dim : ℕ) where
  by_part : (p : Part) → text_of_part p ≡ None → argument_by_form space cube dim (argument_of_part p) ≡ mapped (arg_of space cube dim) (bound_part space cube p)
  unfolding bound_part
  by_part (Element (Quoted text)) h = absurd (cc)
  by_part (Element a) h = mapped_known (arg_of space cube dim) (bound_argument space cube a)
  by_part _ h = refl

  answered_by : (e : Result BoundArgument ArgumentFault) (a : BoundArgument) (arg : Arg) → IsAnsweredBy e (Ok a) → arg ≡ arg_of space cube dim a → IsAnsweredBy (mapped (arg_of space cube dim) e) (Ok arg)
  answered_by (Ok b) a arg h is = is ∙ ap (arg_of space cube dim) h
  answered_by (Err f) a arg h is = absurd h

  refused_by : (e : Result BoundArgument ArgumentFault) (f : ArgumentFault) → IsAnsweredBy e (Err f) → IsAnsweredBy (mapped (arg_of space cube dim) e) (Err f)
  refused_by (Ok b) f h = h
  refused_by (Err g) f h = h

  pub argument_answered : (tree : Tree) (a : BoundArgument) (arg : Arg) → text_of_part (part_in tree) ≡ None → IsAnsweredBy (bound_part space cube (part_in tree)) (Ok a) → arg ≡ arg_of space cube dim a
      → IsAnsweredBy (argument_of space cube dim tree) (Ok arg)
  unfolding argument_of
  argument_answered tree a arg other h is = subst (λ e. IsAnsweredBy e (Ok arg)) (sym (by_part (part_in tree) other)) (answered_by (bound_part space cube (part_in tree)) a arg h is)

  pub argument_refused : (tree : Tree) (f : ArgumentFault) → text_of_part (part_in tree) ≡ None → IsAnsweredBy (bound_part space cube (part_in tree)) (Err f) → IsAnsweredBy (argument_of space cube dim tree) (Err f)
  unfolding argument_of
  argument_refused tree f other h = subst (λ e. IsAnsweredBy e (Err f)) (sym (by_part (part_in tree) other)) (refused_by (bound_part space cube (part_in tree)) f h)

  pub argument_text : (tree : Tree) (text : List ℕ) (r : Result Arg ArgumentFault) → part_in tree ≡ Element (Quoted text)
      → IsAnsweredBy (ok_or (option_map Fixed (option_and_then (index_of (dimension_at space dim)) (name_in text))) UnknownName) r → IsAnsweredBy (argument_of space cube dim tree) r
  unfolding argument_of
  argument_text tree text r is h = subst (λ p. IsAnsweredBy (argument_by_form space cube dim (argument_of_part p)) r) (sym is) h

-- The sizes of dimensions.

module _ (space : Layout) (cube : ℕ) (dims : List ℕ) (are : dims_of space cube ≡ dims) (all : All (λ dim. dim < length space.dimensions) dims) where
  pub sizes_length : length (sizes space cube) ≡ length dims
  sizes_length = ap (λ l. length (sizes_of (axes_of space.dimensions l))) are ∙ length-axes_of space.dimensions dims all

  pub size_is : (place : ℕ) → place < length dims → size_at space cube place ≡ length (dimension_at space (get_or dims place 0)).elements
  size_is place low =
      ap (λ l. get_or (sizes_of (axes_of space.dimensions l)) place 0) are ∙ ap (λ l. get_or l place 0) (sym (sizes-by_counts space.dimensions dims all))
      ∙ get_or-map (slice_index (sizes_of space.dimensions)) dims place 0 0 low ∙ element-count space.dimensions (get_or dims place 0) _ (all place 0 low)

pub some_dims : (space : Layout) (cube : ℕ) (shape : CubeShape) → IsSpace space → slice_get space.cubes cube ≡ Some shape → 0 < length (dims_of space cube)
some_dims space cube shape valid is = let few = (dims_count space cube shape valid is).0 in let same = ap length (dims_are space cube shape valid is) in omega (arith, few, same)

pub found_cube : (space : Layout) (cube : ℕ) → cube < length space.cubes → (shape : CubeShape) × (slice_get space.cubes cube ≡ Some shape)
found_cube space cube low = found_among space.cubes cube low

-- The dimension that an argument follows is one of the cube.

module _ (space : Layout) (cube : ℕ) where
  abbrev IsPlaced : BoundArgument → Type 0
  IsPlaced a = (place : ℕ) → followed a ≡ Some place → is_within space cube a ≡ true → place < length (dims_of space cube)

  abbrev Held : Type 0
  Held = (a : BoundArgument) × IsPlaced a

  abbrev out : BoundArgument-F Held → BoundArgument-F BoundArgument
  out l = map-BoundArgument Held BoundArgument (λ e. e.0) l

  abbrev follows : (l : BoundArgument-F BoundArgument) → followed (roll-BoundArgument l) ≡ followed_step (map-BoundArgument BoundArgument (Option ℕ) followed l)
  follows l = fold-roll-BoundArgument (Option ℕ) followed_step l

  in_range : (l : BoundArgument-F BoundArgument) → is_within space cube (roll-BoundArgument l) ≡ within_step space cube (map-BoundArgument BoundArgument Bool (is_within space cube) l)
  unfolding is_within
  in_range l = fold-roll-BoundArgument Bool (within_step space cube) l

  layer : (l : BoundArgument-F Held) → IsPlaced (roll-BoundArgument (out l))
  layer (BoundArgument-F.Text name) place f w = absurd (cc (follows (BoundArgument-F.Text name)))
  layer (BoundArgument-F.AtIndex dim n) place f w = absurd (cc (follows (BoundArgument-F.AtIndex dim n)))
  layer (BoundArgument-F.Current p dim) place f w =
      let (low, at) = and_parts (is_dimension space dim) (is_placed space cube p dim) (sym (in_range (BoundArgument-F.Current p dim)) ∙ w) in
      let (inside, same) = and_parts (nat_lt p (length (dims_of space cube))) (slice_index_or (dims_of space cube) p 0 == dim) at in
      let e : p ≡ place = cc (follows (BoundArgument-F.Current p dim)) in
      subst (λ q. q < length (dims_of space cube)) e (ltb-true p (length (dims_of space cube)) inside)
  layer (BoundArgument-F.AtPlace dim source of n) place f w =
      let (front, small) = and_parts (is_within space cube of.0 && is_dimension space dim && is_dimension space source) (is_in_range n) (sym (in_range (BoundArgument-F.AtPlace dim source of.0 n)) ∙ w) in
      let (fore, source_low) = and_parts (is_within space cube of.0 && is_dimension space dim) (is_dimension space source) front in
      of.1 place (sym (follows (BoundArgument-F.AtPlace dim source of.0 n)) ∙ f) (and_parts (is_within space cube of.0) (is_dimension space dim) fore).0
  layer (BoundArgument-F.AttributeOf dim of name) place f w =
      let (inner, low) = and_parts (is_within space cube of.0) (is_dimension space dim) (sym (in_range (BoundArgument-F.AttributeOf dim of.0 name)) ∙ w) in
      of.1 place (sym (follows (BoundArgument-F.AttributeOf dim of.0 name)) ∙ f) inner
  layer (BoundArgument-F.RelativeOf dim of relative) place f w =
      let (inner, low) = and_parts (is_within space cube of.0) (is_dimension space dim) (sym (in_range (BoundArgument-F.RelativeOf dim of.0 relative)) ∙ w) in
      of.1 place (sym (follows (BoundArgument-F.RelativeOf dim of.0 relative)) ∙ f) inner

  pub followed_low : (a : BoundArgument) → IsPlaced a
  followed_low = ind-BoundArgument IsPlaced (λ x l is. subst (λ z. IsPlaced (roll-BoundArgument z)) is (layer l))

-- The cell's own element of the target's dimension.

pub map_same : {X : Type 0} (f g : ℕ → X) (a n : ℕ) → ((e : ℕ) → e < a + n → f e ≡ g e) → map f (range_with_len a n) ≡ map g (range_with_len a n)
map_same f g a zero h = refl
map_same f g a (suc n) h = ap (λ x. x ∷ map f (range_with_len (a + 1) n)) (h a (omega arith)) ∙ ap (λ l. g a ∷ l) (map_same f g (a + 1) n (λ e low. h e (omega arith)))

pub element_is : (d : Outline) (e : ℕ) → IsDimension d → e < length d.elements → option_and_then (index_of d) (slice_get (names_of d.elements) e) ≡ Some e
element_is d e valid low =
    let within : e < length (names_of d.elements) = omega (arith, length-map d.elements (λ x. x.name)) in
    ap (option_and_then (index_of d)) (slice_get-get_or (names_of d.elements) e [] within) ∙ place_at (names_of d.elements) valid.distinct e within

pub own_table : (space : Layout) (cube dim : ℕ) (a : BoundArgument) (own place : ℕ) (dims : List ℕ) (d : Outline) → dims_of space cube ≡ dims → All (λ k. k < length space.dimensions) dims
    → slice_get space.dimensions dim ≡ Some d → IsDimension d → is_within space cube a ≡ true → a ≡ bound.Current own dim → followed a ≡ Some place
    → identity (size_at space cube place) ≡ table space cube dim a place
own_table space cube dim a own place dims d are all there valid within is follows =
    let parts = current_parts space cube a within own dim is in
    let (inside, same) = and_parts (nat_lt own (length (dims_of space cube))) (slice_index_or (dims_of space cube) own 0 == dim) parts.placed in
    let e : own ≡ place = cc (ap followed (is ∙ sym (rolls-Current own dim)), fold-roll-BoundArgument (Option ℕ) followed_step (BoundArgument-F.Current own dim)) in
    let low : own < length dims = subst (λ l. own < length l) are (ltb-true own (length (dims_of space cube)) inside) in
    let at : get_or dims own 0 ≡ dim = ap (λ l. get_or l own 0) (sym are) ∙ eqb-true _ dim same in
    let found = found_dimension space dim d there in
    let size : size_at space cube own ≡ length d.elements = size_is space cube dims are all own low ∙ ap (λ k. length (dimension_at space k).elements) at ∙ ap (λ o. length o.elements) found in
    let here : size_at space cube place ≡ length d.elements = ap (size_at space cube) (sym e) ∙ size in
    sym (map_same (element_given space dim a) Some 0 (size_at space cube place) (λ k small.
    ap (λ o. option_and_then (index_of o) (name_given space k a)) found ∙ ap (option_and_then (index_of d)) (given_current space k a own dim d is there) ∙ element_is d k valid (omega (arith, here, small))))

-- Arguments that are bound.

pub index_low : (d : Outline) (o : Option (List ℕ)) (e : ℕ) → option_and_then (index_of d) o ≡ Some e → e < length d.elements
index_low d None e is = absurd (cc)
index_low d (Some name) e is = called_within d name e is

pub if_low : (size : ℕ) (o : Option ℕ) → ((e : ℕ) → o ≡ Some e → e < size) → IfSome o (λ e. e < size)
if_low size None h = tt
if_low size (Some e) h = h e refl

all_nowhere : (size n : ℕ) → All (λ target. IfSome target (λ element. element < size)) (nowhere n)
all_nowhere size zero k d low = absurd (omega arith)
all_nowhere size (suc n) zero d low = tt
all_nowhere size (suc n) (suc k) d low = all_nowhere size n k d (omega arith)

length_nowhere : (n : ℕ) → length (nowhere n) ≡ n
length_nowhere zero = refl
length_nowhere (suc n) = ap suc (length_nowhere n)

module _ (space : Layout) (cube dim : ℕ) (two : 0 < length (sizes space cube)) where
  abbrev target_size : ℕ
  target_size = length (dimension_at space dim).elements

  pub text_arg : (o : Option (List ℕ)) (r : Result Arg ArgumentFault) → IsAnsweredBy (ok_or (option_map Fixed (option_and_then (index_of (dimension_at space dim)) o)) UnknownName) r
      → IfOk r (IsArg (sizes space cube) target_size)
  text_arg o (Err f) h = tt
  text_arg o (Ok arg) h = by (option_and_then (index_of (dimension_at space dim)) o) refl h
    where
      by : (e : Option ℕ) → option_and_then (index_of (dimension_at space dim)) o ≡ e → IsAnsweredBy (ok_or (option_map Fixed e) UnknownName) (Ok arg) → IsArg (sizes space cube) target_size arg
      by None is h = absurd h
      by (Some e) is h = subst (IsArg (sizes space cube) target_size) (sym h) (index_low (dimension_at space dim) o e is)

  still_arg : (a : BoundArgument) (o : Option ℕ) → element_given space dim a 0 ≡ o → IsArg (sizes space cube) target_size (still space cube o)
  still_arg a None is = (two, length_nowhere (size_at space cube 0), all_nowhere target_size (size_at space cube 0))
  still_arg a (Some e) is = index_low (dimension_at space dim) (name_given space 0 a) e is

  following_arg : (a : BoundArgument) (o : Option ℕ) → ((place : ℕ) → o ≡ Some place → place < length (sizes space cube)) → IsArg (sizes space cube) target_size (arg_following space cube dim a o)
  following_arg a None placed = still_arg a (element_given space dim a 0) refl
  following_arg a (Some place) placed = (
    placed place refl,
    length-map-range_with_len (element_given space dim a) 0 (size_at space cube place),
    λ k d low.
        let small : k < size_at space cube place = omega (arith, low, length-map-range_with_len (element_given space dim a) 0 (size_at space cube place)) in
        subst (λ o. IfSome o (λ e. e < target_size)) (sym (get_or-map-range_with_len (element_given space dim a) 0 (size_at space cube place) k k d small (omega arith)))
        (if_low target_size (element_given space dim a k) (λ e is. index_low (dimension_at space dim) (name_given space k a) e is)),
  )

  pub bound_arg : (a : BoundArgument) (arg : Arg) → arg ≡ arg_of space cube dim a → ((place : ℕ) → followed a ≡ Some place → place < length (sizes space cube)) → IsArg (sizes space cube) target_size arg
  bound_arg a arg is placed = subst (IsArg (sizes space cube) target_size) (sym is) (following_arg a (followed a) placed)

-- what is known of the dimensions of a cube
pub record CubeDims (space : Layout) (cube : ℕ) : Type 0 where
  pub dims : List ℕ
  pub are : dims_of space cube ≡ dims
  pub all : All (λ dim. dim < length space.dimensions) dims
  pub some : 0 < length (dims_of space cube)
  pub sized : length (sizes space cube) ≡ length (dims_of space cube)

pub cube_dims : (space : Layout) (cube : ℕ) → IsSpace space → cube < length space.cubes → CubeDims space cube
cube_dims space cube valid low =
    let (shape, is) = found_cube space cube low in
    let are = dims_are space cube shape valid is in
    let all = dims_within space cube shape valid is in
    record { dims = shape.dims; are = are; all = all; some = some_dims space cube shape valid is; sized = sizes_length space cube shape.dims are all ∙ ap length (sym are) }
