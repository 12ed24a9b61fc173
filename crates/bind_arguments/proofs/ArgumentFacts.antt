-- Element arguments name elements of the target's dimension: the facts for crates above.
use Rattle.std.proofs.Common.{◌≡◌, ◌<◌, ℕ, ℤ, List, length, Option, Some, None, Ok, refl, ap, sym, ◌∙◌, subst, arith, slice_index_or}
use Rattle.std.proofs.lemmas.List.Quantifiers.{position-Some}
use Rattle.std.specs.Option.{option_map, option_and_then, ok_or}
use Rattle.dim_name.specs.Name.{is_same_name}
use Rattle.cube_space.specs.Layout.{Layout, dims_of, sizes}
use Rattle.cube_space.specs.Cells.{IsSpace}
use Rattle.rule_laws.specs.declared.reference.Arg.{Arg}
use Rattle.rule_model.specs.Conditions.{IsArg}
use Rattle.rule_tree.specs.declared.tree.Tree.{Tree}
use Rattle.bind_arguments.specs.Written.{Written, Quoted, Current, AtIndex, AtPlace, AttributeOf, RelativeOf, argument_in}
use Rattle.bind_arguments.specs.declared.relative.Relative.{Relative}
use Rattle.bind_arguments.specs.Bound.{dimension_at, dimension_named, attribute_named, place_in_cube, name_in, bound_argument, followed_step, followed}
use Rattle.bind_arguments.specs.Argument.{arg_of, known_argument, argument_by_form, argument_of, IsAnsweredBy}
use Rattle.bind_arguments.specs.declared.bound_argument.BoundArgument.{BoundArgument}
use Rattle.bind_arguments.specs.declared.bound_argument.BoundArgument.TheVariants as bound
use Rattle.bind_arguments.specs.declared.fault.ArgumentFault.TheVariants.{UnknownName}
use Rattle.bind_arguments.proofs.Tables.{bound_arg, text_arg, cube_dims}
use Rattle.bind_arguments.proofs.ArgumentFolds.{of-text, of-current, of-index, of-place, of-attribute, of-relative}
pub use Rattle.lists.proofs.Found.{mapped, and_then_found}

pub there : {E A : Type 0} (o : Option A) (e : E) (a : A) → ok_or o e ≡ Ok a → o ≡ Some a
there None e a is = absurd (cc is)
there (Some b) e a is = cc is

-- The dimension that an argument follows is one of the cube.

follows_text : (name : Option (List ℕ)) → followed (bound.Text name) ≡ None
follows_text name = of-text (Option ℕ) followed_step name

follows_current : (place dim : ℕ) → followed (bound.Current place dim) ≡ Some place
follows_current place dim = of-current (Option ℕ) followed_step place dim

follows_index : (dim : ℕ) (n : ℤ) → followed (bound.AtIndex dim n) ≡ None
follows_index dim n = of-index (Option ℕ) followed_step dim n

follows_place : (dim source : ℕ) (of : BoundArgument) (n : ℤ) → followed (bound.AtPlace dim source of n) ≡ followed of
follows_place dim source of n = of-place (Option ℕ) followed_step dim source of n

follows_attribute : (dim : ℕ) (of : BoundArgument) (name : List ℕ) → followed (bound.AttributeOf dim of name) ≡ followed of
follows_attribute dim of name = of-attribute (Option ℕ) followed_step dim of name

follows_relative : (dim : ℕ) (of : BoundArgument) (relative : Relative) → followed (bound.RelativeOf dim of relative) ≡ followed of
follows_relative dim of relative = of-relative (Option ℕ) followed_step dim of relative

followed_low : (space : Layout) (cube : ℕ) (w : Written) (a : BoundArgument) (place : ℕ) → bound_argument space cube w ≡ Some a → followed a ≡ Some place → place < length (dims_of space cube)
followed_low space cube (Quoted text) a place is f =
    let same : bound.Text (name_in text) ≡ a = cc is in
    absurd (let e : None ≡ Some place = sym (follows_text (name_in text)) ∙ ap followed same ∙ f in cc e)
followed_low space cube (Current name) a place is f =
    let (p, found, same) = mapped (λ place. bound.Current place (slice_index_or (dims_of space cube) place 0)) (place_in_cube space cube name) a is in
    let e : Some p ≡ Some place = sym (follows_current p (slice_index_or (dims_of space cube) p 0)) ∙ ap followed same ∙ f in
    let at : p ≡ place = cc e in
    subst (λ n. n < length (dims_of space cube)) at (position-Some (λ dim. is_same_name name (dimension_at space dim).name) (dims_of space cube) p 0 found).0
followed_low space cube (AtIndex dim index) a place is f =
    let (d, found, same) = mapped (λ d. bound.AtIndex d index) (dimension_named space dim) a is in
    absurd (let e : None ≡ Some place = sym (follows_index d index) ∙ ap followed same ∙ f in cc e)
followed_low space cube (AtPlace dim source of shift) a place is f =
    let (x, inner, rest) = and_then_found (λ argument. option_and_then (λ s. option_map (λ d. bound.AtPlace d s argument shift) (dimension_named space dim)) (dimension_named space source)) (bound_argument space cube of) a is in
    let (s, _, later) = and_then_found (λ s. option_map (λ d. bound.AtPlace d s x shift) (dimension_named space dim)) (dimension_named space source) a rest in
    let (d, _, same) = mapped (λ d. bound.AtPlace d s x shift) (dimension_named space dim) a later in
    followed_low space cube of x place inner (sym (follows_place d s x shift) ∙ ap followed same ∙ f)
followed_low space cube (AttributeOf dim of attribute) a place is f =
    let (x, inner, rest) = and_then_found (λ argument. option_and_then (λ d. option_map (λ name. bound.AttributeOf d argument name) (attribute_named (dimension_at space d) attribute)) (dimension_named space dim)) (bound_argument space cube of) a is in
    let (d, _, later) = and_then_found (λ d. option_map (λ name. bound.AttributeOf d x name) (attribute_named (dimension_at space d) attribute)) (dimension_named space dim) a rest in
    let (name, _, same) = mapped (λ name. bound.AttributeOf d x name) (attribute_named (dimension_at space d) attribute) a later in
    followed_low space cube of x place inner (sym (follows_attribute d x name) ∙ ap followed same ∙ f)
followed_low space cube (RelativeOf dim of relative) a place is f =
    let (x, inner, rest) = and_then_found (λ argument. option_map (λ d. bound.RelativeOf d argument relative) (dimension_named space dim)) (bound_argument space cube of) a is in
    let (d, _, same) = mapped (λ d. bound.RelativeOf d x relative) (dimension_named space dim) a rest in
    followed_low space cube of x place inner (sym (follows_relative d x relative) ∙ ap followed same ∙ f)

module _ (space : Layout) (cube : ℕ) (valid : IsSpace space) (low : cube < length space.cubes) (dim : ℕ) where
  abbrev IsGood : Arg → Type 0
  IsGood arg = IsArg (sizes space cube) (length (dimension_at space dim).elements) arg

  some_sizes : 0 < length (sizes space cube)
  some_sizes = let known = cube_dims space cube valid low in omega (arith, known.some, known.sized)

  formed_bound : (w : Written) (arg : Arg) → option_map (arg_of space cube dim) (bound_argument space cube w) ≡ Some arg → IsGood arg
  formed_bound w arg is =
      let (a, found, same) = mapped (arg_of space cube dim) (bound_argument space cube w) arg is in
      bound_arg space cube dim some_sizes a arg (sym same)
      (λ place f. omega (arith, followed_low space cube w a place found f, (cube_dims space cube valid low).sized))

  known_arg : (w : Written) (arg : Arg) → known_argument space cube dim w ≡ Some arg → IsGood arg
  known_arg (Quoted text) arg is = text_arg space cube dim some_sizes (name_in text) (Ok arg) (subst (λ o. IsAnsweredBy (ok_or o UnknownName) (Ok arg)) (sym is) refl)
  known_arg (Current name) arg is = formed_bound (Current name) arg is
  known_arg (AtIndex d index) arg is = formed_bound (AtIndex d index) arg is
  known_arg (AtPlace d source of shift) arg is = formed_bound (AtPlace d source of shift) arg is
  known_arg (AttributeOf d of attribute) arg is = formed_bound (AttributeOf d of attribute) arg is
  known_arg (RelativeOf d of relative) arg is = formed_bound (RelativeOf d of relative) arg is

  formed_arg : (w : Option Written) (arg : Arg) → argument_by_form space cube dim w ≡ Ok arg → IsGood arg
  formed_arg None arg is = absurd (cc is)
  formed_arg (Some w) arg is = known_arg w arg (there (known_argument space cube dim w) UnknownName arg is)

  -- what an element argument is bound to names elements of the target's dimension
  pub argument_valid : (tree : Tree) (arg : Arg) → argument_of space cube dim tree ≡ Ok arg → IsGood arg
  unfolding argument_of
  argument_valid tree arg is = formed_arg (argument_in tree) arg is
