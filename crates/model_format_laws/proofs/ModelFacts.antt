-- A text of version 1 that binds to a model binds to the same in version 2.
use Rattle.std.proofs.Common.{◌≡◌, ◌∙◌, refl, sym, ap, subst, ℕ, zero, suc, ◌+◌, arith, Bool, true, false, if◌then◌else◌, List, [], ◌∷◌, ◌++◌, map, All, IfSome, Option, Some, None, is_some, option_map, option_and_then, slice_get}
use Rattle.std.specs.Option.{option_map_or, option_or}
use Rattle.std.proofs.lemmas.List.Elements.{All-tail}
use Rattle.cube_lex.specs.declared.position.Position.{Position}
use Rattle.cube_space.specs.declared.shape.CubeShape.{CubeShape}
use Rattle.cube_space.specs.Layout.{Layout}
use Rattle.model_text.specs.Contents.{Contents, IsContents, IsLineIn, IsOrderedIn}
use Rattle.model_text.specs.declared.order.OrderLine.{OrderLine}
use Rattle.model_text.specs.declared.parts.CubeText.{CubeText}
use Rattle.model_bind.specs.Foundation.{shape_of, layout_of, foundation_refusal, dimensions_refusal, space_refusal, products_refusal}
use Rattle.model_bind.specs.declared.fault.DeployFault.{DeployFault}
use Rattle.rule_model.specs.declared.order.Order.{Order}
use Rattle.rule_model.specs.declared.rules.CubeRules.{CubeRules}
use Rattle.rule_model.specs.BoundModel.{BoundModel}
use Rattle.bind_order.specs.Orders.{order_of}
use Rattle.model_format_laws.specs.Binding.{declared_order, cube_bound, cubes_bound, model_bound}
use Rattle.model_format_laws.specs.Versions.{line_in, cube_in, contents_in}
use Rattle.model_format_laws.proofs.OrderFacts.{order_too, mapped_too, then_too}

-- what doesn't look at the order of a cube is the same
same_map : {X : Type 0} (f : CubeText → X) (version : ℕ) → ((cube : CubeText) → f (cube_in version cube) ≡ f cube) → (cubes : List CubeText) → map f (map (cube_in version) cubes) ≡ map f cubes
same_map f version same [] = refl
same_map f version same (cube ∷ cubes) = ap (λ x. x ∷ map f (map (cube_in version) cubes)) (same cube) ∙ ap (λ l. f cube ∷ l) (same_map f version same cubes)

same_layout : (version : ℕ) (contents : Contents) → layout_of (contents_in version contents) ≡ layout_of contents
same_layout version contents = ap laid (same_map shape_of version (λ cube. refl) contents.cubes)
  where
    laid : List CubeShape → Layout
    laid cubes = record { dimensions = map (λ text. text.dimension) contents.dims; cubes = cubes }

same_refusal : (version : ℕ) (contents : Contents) → foundation_refusal (contents_in version contents) ≡ foundation_refusal contents
unfolding foundation_refusal
same_refusal version contents =
    ap (λ places. refused places (layout_of (contents_in version contents))) (same_map (λ cube. cube.at) version (λ cube. refl) contents.cubes)
    ∙ ap (refused (map (λ cube. cube.at) contents.cubes)) (same_layout version contents)
  where
    refused : List Position → Layout → Option DeployFault
    refused places layout = option_or (dimensions_refusal contents.dims) (option_or (space_refusal places layout) (products_refusal places layout))

-- the rules of cubes
declared_too : (space : Layout) (cube : ℕ) (text : CubeText) (order : Order) → IsOrderedIn 1 text → declared_order space cube text ≡ Some order → declared_order space cube (cube_in 2 text) ≡ Some order
declared_too space cube text order one is = by text.order one is
  where
    declared : Option (Position × OrderLine) → Option Order
    declared line = option_map_or (λ line. order_of space cube line.1) line (Some (record { positions = []; totals = None }))

    by : (o : Option (Position × OrderLine)) → IfSome o (λ order. IsLineIn 1 order.1) → declared o ≡ Some order → declared (option_map (λ order. (order.0, line_in 2 order.1)) o) ≡ Some order
    by None one is = is
    by (Some line) one is = order_too space cube line.1 order one.version is

cube_too : (space : Layout) (cube : ℕ) (text : CubeText) (rules : Option CubeRules) (bound : CubeRules) → IsOrderedIn 1 text → cube_bound space cube text rules ≡ Some bound
    → cube_bound space cube (cube_in 2 text) rules ≡ Some bound
cube_too space cube text rules bound one is =
    then_too _ _ rules bound
    (λ own here. mapped_too _ _ _ bound (λ order declared. declared_too space cube text order one declared) here) is

cubes_too : (space : Layout) (rules : ℕ → Option CubeRules) (cube : ℕ) (texts : List CubeText) (bound : List CubeRules) → All (IsOrderedIn 1) texts → cubes_bound space rules cube texts ≡ Some bound
    → cubes_bound space rules cube (map (cube_in 2) texts) ≡ Some bound
cubes_too space rules cube [] bound one is = is
cubes_too space rules cube (text ∷ texts) bound one is =
    by (λ more. cubes_too space rules (suc cube) texts more (All-tail (IsOrderedIn 1) text texts one)) (cube_bound space cube text (rules cube)) refl
  where
    later : Option CubeRules → List CubeText → Option (List CubeRules)
    later first rest = option_and_then (λ first. option_map (λ later. first ∷ later) (cubes_bound space rules (suc cube) rest)) first

    by : ((more : List CubeRules) → cubes_bound space rules (suc cube) texts ≡ Some more → cubes_bound space rules (suc cube) (map (cube_in 2) texts) ≡ Some more)
        → (o : Option CubeRules) → cube_bound space cube text (rules cube) ≡ o → cubes_bound space rules cube (map (cube_in 2) (text ∷ texts)) ≡ Some bound
    by rest None here = absurd (let e : None ≡ Some bound = sym (ap (λ o. later o texts) here) ∙ is in cc e)
    by rest (Some first) here =
        let before : later (Some first) texts ≡ Some bound = sym (ap (λ o. later o texts) here) ∙ is in
        let next : later (Some first) (map (cube_in 2) texts) ≡ Some bound =
        mapped_too (λ later. first ∷ later) _ _ bound rest before in
        ap (λ o. later o (map (cube_in 2) texts)) (cube_too space cube text (rules cube) first (one 0 text (omega arith)) here) ∙ next

-- the whole model
pub model_too : (contents : Contents) (rules : Layout → ℕ → Option CubeRules) (model : BoundModel) → IsContents contents → contents.version ≡ 1 → model_bound rules contents ≡ Some model
    → model_bound rules (contents_in 2 contents) ≡ Some model
model_too contents rules model valid one is = by (is_some (foundation_refusal contents)) refl
  where
    ordered : All (IsOrderedIn 1) contents.cubes
    ordered = subst (λ v. All (IsOrderedIn v) contents.cubes) one valid.cube_orders

    bound : Bool → Layout → List CubeText → Option BoundModel
    bound refused space cubes = if refused then None else option_map (λ bound. record { space = space; rules = bound }) (cubes_bound space (rules space) 0 cubes)

    by : (b : Bool) → is_some (foundation_refusal contents) ≡ b → model_bound rules (contents_in 2 contents) ≡ Some model
    by true refused = absurd (let e : None ≡ Some model = sym (ap (λ b. bound b (layout_of contents) contents.cubes) refused) ∙ is in cc e)
    by false accepted =
        let here : bound false (layout_of contents) contents.cubes ≡ Some model = sym (ap (λ b. bound b (layout_of contents) contents.cubes) accepted) ∙ is in
        let next : bound false (layout_of contents) (map (cube_in 2) contents.cubes) ≡ Some model =
        mapped_too _ _ _ model (λ more. cubes_too (layout_of contents) (rules (layout_of contents)) 0 contents.cubes more ordered) here in
        ap (λ r. bound (is_some r) (layout_of (contents_in 2 contents)) (map (cube_in 2) contents.cubes)) (same_refusal 2 contents)
        ∙ ap (λ b. bound b (layout_of (contents_in 2 contents)) (map (cube_in 2) contents.cubes)) accepted
        ∙ ap (λ space. bound false space (map (cube_in 2) contents.cubes)) (same_layout 2 contents) ∙ next
