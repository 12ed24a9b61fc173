-- What a model text says of its dimensions and cubes is what a space asks for.
use Rattle.std.proofs.Common.{◌≡◌, ℕ, ◌<◌, Option, Some, None, Result, Ok, Err, List, [], ◌∷◌, length, map, refl, ap, sym, ◌∙◌, subst, arith, All, nat_eq, IsErrAnd}
use Rattle.std.specs.List.{IsDistinct}
use Rattle.std.specs.Option.{option_or}
use Rattle.std.proofs.lemmas.List.{length-map}
use Rattle.std.proofs.lemmas.List.Elements.{All-map}
use Rattle.cube_lex.specs.declared.position.Position.{Position}
use Rattle.dim_name.specs.Name.{is_same_name}
use Rattle.dim_core.specs.Outline.{Outline}
use Rattle.dim_text.specs.Progress.{Text}
use Rattle.model_text.specs.Contents.{Contents, IsContents}
use Rattle.model_text.specs.declared.parts.CubeText.{CubeText}
use Rattle.cube_space.specs.declared.shape.CubeShape.{CubeShape}
use Rattle.cube_space.specs.Layout.{Layout, IsLayout}
use Rattle.model_bind.specs.declared.fault.DeployFault.{DeployFault}
use Rattle.model_bind.specs.Foundation.{shape_of, layout_of, cube_places, dimensions_refusal, space_refusal, products_refusal, foundation_refusal, IsAnsweredBy}
use Rattle.model_bind.proofs.Firsts.{refused-as}

map-twice : {A B C : Type 0} (f : A → B) (g : B → C) (xs : List A) → map (λ x. g (f x)) xs ≡ map g (map f xs)
map-twice f g [] = refl
map-twice f g (x ∷ xs) = ap (λ ys. g (f x) ∷ ys) (map-twice f g xs)

pub contents-layout : (contents : Contents) → IsContents contents → IsLayout (layout_of contents)
contents-layout contents is =
    let texts = contents.dims in
    let cubes = contents.cubes in
    let count = length-map texts (λ (text : Text). text.dimension) in
    let Names : List (List ℕ) → Type 0 = IsDistinct is_same_name in
    let R : CubeShape → Type 0 = λ shape. All (λ dim. dim < length (layout_of contents).dimensions) shape.dims in
    let D : CubeShape → Type 0 = λ shape. IsDistinct nat_eq shape.dims in
    record {
      few_dimensions = omega (arith, count, is.few_dims);
      few_cubes = omega (arith, length-map cubes shape_of, is.few_cubes);
      in_range = All-map R shape_of cubes (λ k d h. λ i e low. (let own = (is.cube_dims k d h).there i e low in omega (arith, own, count)));
      different = All-map D shape_of cubes (λ k d h. (is.cube_dims k d h).distinct);
      distinct_dimensions = subst Names (map-twice (λ (text : Text). text.dimension) (λ dimension. dimension.name) texts) is.dims;
      distinct_cubes = subst Names (map-twice shape_of (λ shape. shape.name) cubes) is.cubes;
    }

-- the dimensions and cubes that a text is taken apart into are its own
pub layout-same : (contents : Contents) (ds : List Outline) (ss : List CubeShape) (texts : List Text) (cubes : List CubeText) → ds ≡ map (λ text. text.dimension) texts → texts ≡ contents.dims → ss ≡ map shape_of cubes → cubes ≡ contents.cubes
    → record { dimensions = ds; cubes = ss } ≡ layout_of contents
layout-same contents ds ss texts cubes d t s c = rw (d, t, s, c) refl

pub parts-layout : (contents : Contents) (layout : Layout) → IsContents contents → layout ≡ layout_of contents → IsLayout layout
parts-layout contents layout is same =
    let P : Layout → Type 0 = IsLayout in
    subst P (sym same) (contents-layout contents is)

module _ (A B : Type 0) (contents : Contents) (fault : DeployFault) (answer : Result B DeployFault) (told : IsErrAnd answer (λ e. e ≡ fault)) where
  -- the coefficients are refused
  pub coefficients-refused : IsAnsweredBy {T = A} (dimensions_refusal contents.dims) (Err fault) → IsAnsweredBy {T = B} (foundation_refusal contents) answer
  unfolding foundation_refusal
  coefficients-refused h =
      refused-as A B (dimensions_refusal contents.dims)
      (option_or (space_refusal (cube_places contents.cubes) (layout_of contents)) (products_refusal (cube_places contents.cubes) (layout_of contents))) fault answer told h

  -- the cells are refused
  pub cells-refused : (lines : List Position) (layout : Layout) → lines ≡ cube_places contents.cubes → layout ≡ layout_of contents → dimensions_refusal contents.dims ≡ None
      → IsAnsweredBy {T = A} (space_refusal lines layout) (Err fault) → IsAnsweredBy {T = B} (foundation_refusal contents) answer
  unfolding foundation_refusal
  cells-refused lines layout l s none h =
      let P : Option DeployFault → Type 0 = λ o. IsAnsweredBy {T = B} o answer in
      let later = products_refusal (cube_places contents.cubes) (layout_of contents) in
      let same : space_refusal lines layout ≡ space_refusal (cube_places contents.cubes) (layout_of contents) = rw (l, s) refl in
      let whole = ap (λ o. option_or o (option_or (space_refusal (cube_places contents.cubes) (layout_of contents)) later)) none in
      subst P (ap (λ o. option_or o later) same ∙ sym whole) (refused-as A B (space_refusal lines layout) later fault answer told h)

  -- the weight products are refused
  pub products-refused : (lines : List Position) (layout space : Layout) → lines ≡ cube_places contents.cubes → layout ≡ layout_of contents → space ≡ layout → dimensions_refusal contents.dims ≡ None
      → space_refusal lines layout ≡ None → IsAnsweredBy {T = A} (products_refusal lines space) (Err fault) → IsAnsweredBy {T = B} (foundation_refusal contents) answer
  unfolding foundation_refusal
  products-refused lines layout space l s is none fits h =
      let P : Option DeployFault → Type 0 = λ o. IsAnsweredBy {T = B} o answer in
      let shown = is ∙ s in
      let same : products_refusal lines space ≡ products_refusal (cube_places contents.cubes) (layout_of contents) = rw (l, shown) refl in
      let later = products_refusal (cube_places contents.cubes) (layout_of contents) in
      let cells : space_refusal (cube_places contents.cubes) (layout_of contents) ≡ None = sym (rw (l, s) refl) ∙ fits in
      let whole = ap (λ o. option_or o (option_or (space_refusal (cube_places contents.cubes) (layout_of contents)) later)) none ∙ ap (λ o. option_or o later) cells in
      subst P (ap (λ o. option_or o None) same ∙ or-none later ∙ sym whole) (refused-as A B (products_refusal lines space) None fault answer told h)
    where
      or-none : (o : Option DeployFault) → option_or o None ≡ o
      or-none None = refl
      or-none (Some x) = refl

-- nothing is refused
pub nothing-refused : {T : Type 0} (contents : Contents) (lines : List Position) (layout space : Layout) (value : T) → lines ≡ cube_places contents.cubes → layout ≡ layout_of contents → space ≡ layout
    → dimensions_refusal contents.dims ≡ None → space_refusal lines layout ≡ None → products_refusal lines space ≡ None → IsAnsweredBy {T = T} (foundation_refusal contents) (Ok value)
unfolding foundation_refusal
nothing-refused {T} contents lines layout space value l s is none fits small =
    let P : Option DeployFault → Type 0 = λ o. IsAnsweredBy {T = T} o (Ok value) in
    let later = products_refusal (cube_places contents.cubes) (layout_of contents) in
    let shown = is ∙ s in
    let cells : space_refusal (cube_places contents.cubes) (layout_of contents) ≡ None = sym (rw (l, s) refl) ∙ fits in
    let products : later ≡ None = sym (rw (l, shown) refl) ∙ small in
    let whole = ap (λ o. option_or o (option_or (space_refusal (cube_places contents.cubes) (layout_of contents)) later)) none ∙ ap (λ o. option_or o later) cells ∙ products in
    subst P (sym whole) tt
