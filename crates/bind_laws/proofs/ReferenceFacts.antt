-- A DB names a cell, and ConsolidateChildren a dimension of the cube.
use Rattle.std.proofs.Common.{◌≡◌, ◌<◌, ◌≤◌, ℕ, List, [], ◌∷◌, length, get_or, Option, Some, None, Result, Ok, Err, All, sym, subst, arith, ◌==◌}
use Rattle.std.proofs.lemmas.Bool.{eqb-true}
use Rattle.std.proofs.lemmas.List.{length-map}
use Rattle.std.proofs.lemmas.List.Quantifiers.{position-Some}
use Rattle.std.specs.List.{AllZip}
use Rattle.std.specs.Option.{option_and_then, ok_or}
use Rattle.dim_name.specs.Name.{is_same_name, place_of}
use Rattle.dim_core.specs.Outline.{Outline}
use Rattle.cube_space.specs.Layout.{Layout, axes, axes_of, dims_of, sizes, sizes_of, cube_names}
use Rattle.cube_space.specs.Cells.{IsSpace}
use Rattle.cube_space.proofs.AxisSizes.{axes_of-cons, All-rest}
use Rattle.rule_laws.specs.declared.reference.Arg.{Arg}
use Rattle.rule_laws.specs.declared.reference.Reference.{Reference}
use Rattle.rule_model.specs.Conditions.{IsArg, IsReference}
use Rattle.rule_tree.specs.declared.rule.EntryText.{EntryText}
use Rattle.rule_tree.specs.declared.tree.Tree.{Tree}
use Rattle.bind_areas.specs.declared.cause.BindCause.TheVariants as causes
use Rattle.bind_areas.specs.Meaning.{◌>>=◌}
use Rattle.bind_areas.specs.Areas.{owns, places_where, the_one}
use Rattle.bind_areas.proofs.EntryFacts.{place_within}
use Rattle.bind_arguments.specs.Argument.{argument_of}
use Rattle.bind_arguments.specs.Bound.{dimension_at}
use Rattle.bind_arguments.specs.declared.fault.ArgumentFault.{ArgumentFault}
use Rattle.rule_bind.specs.References.{caused, fixed_name, cube_of, dimension_called, children_of, args_of, cell_of_target, db_of}
use Rattle.rule_bind.proofs.Got.{got, passed}
use Rattle.bind_laws.proofs.CubeFacts.{dims_within}
use Rattle.bind_arguments.proofs.ArgumentFacts.{and_then_found, there, argument_valid}

uncaused : {A : Type 0} (r : Result A ArgumentFault) (a : A) → caused r ≡ Ok a → r ≡ Ok a
uncaused (Ok b) a is = cc is
uncaused (Err fault) a is = absurd (cc is)

cube_low : (space : Layout) (tree : Tree) (cube : ℕ) → cube_of space tree ≡ Ok cube → cube < length space.cubes
cube_low space tree cube is =
    let (name, _, rest) = got (fixed_name tree) (λ name. ok_or (option_and_then (place_of (cube_names space)) name) causes.UnknownName) cube is in
    let (bytes, _, found) = and_then_found (place_of (cube_names space)) name cube (there (option_and_then (place_of (cube_names space)) name) causes.UnknownName cube rest) in
    let at = position-Some (is_same_name bytes) (cube_names space) cube [] found in
    omega (arith, at.0, length-map space.cubes (λ shape. shape.name))

the_first : (places : List ℕ) (place : ℕ) → the_one places ≡ Ok place → (1 ≤ length places) × (get_or places 0 0 ≡ place)
the_first [] place is = absurd (cc is)
the_first (p ∷ []) place is = (omega arith, cc is)
the_first (p ∷ q ∷ places) place is = absurd (cc is)

called_low : (space : Layout) (cube : ℕ) (name : Option (List ℕ)) (place : ℕ) → dimension_called space cube name ≡ Ok place → place < length (sizes space cube)
called_low space cube None place is = absurd (cc is)
called_low space cube (Some name) place is =
    let entry : EntryText = record { dim = Some name; elements = [] } in
    let (some, at) = the_first (places_where (owns entry) 0 (axes space cube)) place is in
    omega (arith, place_within entry (axes space cube) some, at, length-map (axes space cube) (λ d. length d.elements))

pub children_low : (space : Layout) (cube : ℕ) (tree : Tree) (place : ℕ) → children_of space cube tree ≡ Ok place → place < length (sizes space cube)
unfolding children_of
children_low space cube tree place is =
    let (name, _, rest) = got (fixed_name tree) (dimension_called space cube) place is in
    called_low space cube name place rest

module _ (space : Layout) (cube : ℕ) (valid : IsSpace space) (low : cube < length space.cubes) where
  abbrev AreArgs : List ℕ → List Arg → Type 0
  AreArgs dims args = AllZip (IsArg (sizes space cube)) (sizes_of (axes_of space.dimensions dims)) args

  args_valid : (dims : List ℕ) (trees : List Tree) (args : List Arg) → All (λ dim. dim < length space.dimensions) dims → length trees ≡ length dims → args_of space cube dims trees ≡ Ok args → AreArgs dims args
  args_valid [] trees args within many is = let same : [] ≡ args = cc is in subst (AreArgs []) same tt
  args_valid (dim ∷ dims) [] args within many is = absurd (omega (arith, many))
  args_valid (dim ∷ dims) (tree ∷ trees) args within many is =
      let (arg, first, rest) = got (caused (argument_of space cube dim tree)) (λ arg. args_of space cube dims trees >>= (λ args. Ok (arg ∷ args))) args is in
      let (others, later, last) = got (args_of space cube dims trees) (λ args. Ok (arg ∷ args)) args rest in
      let same : arg ∷ others ≡ args = cc last in
      let none : Outline = record { name = []; elements = []; attributes = [] } in
      let one : IsArg (sizes space cube) (length (dimension_at space dim).elements) arg = argument_valid space cube valid low dim tree arg (uncaused (argument_of space cube dim tree) arg first) in
      let more : AreArgs dims others = args_valid dims trees others (All-rest (λ n. n < length space.dimensions) dim dims within) (omega (arith, many)) later in
      subst (AreArgs (dim ∷ dims)) same
      (subst (λ ds. AllZip (IsArg (sizes space cube)) (sizes_of ds) (arg ∷ others)) (sym (axes_of-cons space.dimensions dim dims none (within 0 0 (omega arith)))) (one, more))

  target_valid : (target : ℕ) (trees : List Tree) (r : Reference) → target < length space.cubes → cell_of_target space cube target trees ≡ Ok r → IsReference space cube r
  target_valid target trees r inside is =
      let (many, made) = passed (length trees == length (dims_of space target)) _ causes.WrongCount r is in
      let (args, bound, last) = got (args_of space cube (dims_of space target) trees) (λ args. Ok (record { cube = target; args = args })) r made in
      let cell : Reference = record { cube = target; args = args } in
      let same : cell ≡ r = cc last in
      subst (IsReference space cube) same (inside, args_valid (dims_of space target) trees args (dims_within space target valid inside) (eqb-true _ _ many) bound)

  pub db_valid : (trees : List Tree) (r : Reference) → db_of space cube trees ≡ Ok r → IsReference space cube r
  unfolding db_of
  db_valid [] r is = absurd (cc is)
  db_valid (first ∷ trees) r is =
      let (target, found, rest) = got (cube_of space first) (λ target. cell_of_target space cube target trees) r is in
      target_valid target trees r (cube_low space first target found) rest
