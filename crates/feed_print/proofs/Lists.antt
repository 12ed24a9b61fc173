-- What is left of lists of dimensions, sets and arguments, and what stands before it.
use Rattle.std.proofs.Common.{◌≡◌, ◌∙◌, ◌+◌, ◌<◌, ◌≤◌, ℕ, zero, suc, List, [], ◌∷◌, ◌++◌, length, drop, Bool, true, false, ◌==◌, IfSome, if◌then◌else◌, Option, Some, None, option_map, slice_get, slice_index, slice_index_or, get_or, All, refl, sym, ap, subst, arith, append_assoc, append-nil}
use Rattle.std.proofs.lemmas.List.{drop_more, drop_all, get_or-map}
use Rattle.std.proofs.lemmas.Option.{slice_get_within, slice_get-get_or, get_or_from_slice_get}
use Rattle.std.proofs.lemmas.Bool.{and_from, and_parts, eqb-true}
use Rattle.std.specs.List.{AllZip, list_all}
use Rattle.dim_core.specs.Outline.{Outline}
use Rattle.cube_space.specs.declared.shape.CubeShape.{CubeShape}
use Rattle.cube_space.specs.Cells.{IsSpace}
use Rattle.cube_space.specs.Layout.{Layout, dims_of, sizes, sizes_of}
use Rattle.cube_space.proofs.AxisSizes.{element-count, length-axes_of, sizes-by_counts}
use Rattle.cube_space.proofs.CubeDims.{dims_are, dims_within}
use Rattle.lists.proofs.Found.{there}
use Rattle.rule_laws.specs.declared.reference.Arg.{Arg}
use Rattle.rule_laws.specs.declared.reference.Arg.TheVariants.{Moved}
use Rattle.rule_laws.specs.declared.reference.Reference.{Reference}
use Rattle.rule_model.specs.Conditions.{IsArg, IsReference, IsSet}
use Rattle.rule_tree.specs.declared.rule.EntryText.{EntryText}
use Rattle.rule_tree.specs.declared.tree.Tree.{Tree}
use Rattle.bind_arguments.specs.Bound.{dimension_at}
use Rattle.feed_print.specs.FeederTexts.{entry_text, entry_texts, argument_text, argument_texts}

-- the next item stands in front of what is left
pub next_item : {A : Type 0} (xs : List A) (i : ℕ) (x : A) → slice_get xs i ≡ Some x → drop i xs ≡ x ∷ drop (i + 1) xs
next_item xs i x is = drop_more xs i x (slice_get_within xs i x is) ∙ ap (λ y. y ∷ drop (i + 1) xs) (get_or_from_slice_get xs i x x is)

module _ {A : Type 0} where
  -- one more item in front of what is still to come
  pub moved_on : (front next : List A) (a : A) (o : Option (List A)) → next ≡ front ++ a ∷ []
      → option_map (λ more. front ++ more) (option_map (λ more. a ∷ more) o) ≡ option_map (λ more. next ++ more) o
  moved_on front next a None is = refl
  moved_on front next a (Some rest) is = ap Some (sym (append_assoc front (a ∷ []) rest) ∙ ap (λ l. l ++ rest) (sym is))

-- ---- entries

module _ (ds : List Outline) (sets : List (Option (List ℕ))) (k : ℕ) (d : Outline) (at : slice_get ds k ≡ Some d) where
  pub entry_none : slice_get sets k ≡ Some None → entry_texts (drop k ds) (drop k sets) ≡ entry_texts (drop (k + 1) ds) (drop (k + 1) sets)
  entry_none is = rw (next_item ds k d at, next_item sets k None is) refl

  pub entry_more : (listed : List ℕ) (entry : EntryText) (front next : List EntryText) → slice_get sets k ≡ Some (Some listed) → entry_text d listed ≡ Some entry → next ≡ front ++ entry ∷ []
      → option_map (λ more. front ++ more) (entry_texts (drop k ds) (drop k sets)) ≡ option_map (λ more. next ++ more) (entry_texts (drop (k + 1) ds) (drop (k + 1) sets))
  entry_more listed entry front next is text pushed =
      rw (next_item ds k d at, next_item sets k (Some listed) is, text)
      (moved_on front next entry (entry_texts (drop (k + 1) ds) (drop (k + 1) sets)) pushed)

  pub entry_gap : (listed : List ℕ) (front : List EntryText) → slice_get sets k ≡ Some (Some listed) → entry_text d listed ≡ None
      → option_map (λ more. front ++ more) (entry_texts (drop k ds) (drop k sets)) ≡ None
  entry_gap listed front is text = rw (next_item ds k d at, next_item sets k (Some listed) is, text) refl

-- no dimension is left
pub entries_end : (ds : List Outline) (sets : List (Option (List ℕ))) (k : ℕ) (front : List EntryText) → length ds ≤ k
    → option_map (λ more. front ++ more) (entry_texts (drop k ds) (drop k sets)) ≡ Some front
entries_end ds sets k front past = rw (drop_all k ds past) (ap Some (append-nil front))

-- ---- arguments

module _ (space : Layout) (cube : ℕ) (dims : List ℕ) (args : List Arg) (k dim : ℕ) (arg : Arg) (at : slice_get dims k ≡ Some dim) (is : slice_get args k ≡ Some arg) where
  pub argument_more : (tree : Tree) (front next : List Tree) → argument_text space cube dim arg ≡ Some tree → next ≡ front ++ tree ∷ []
      → option_map (λ more. front ++ more) (argument_texts space cube (drop k dims) (drop k args)) ≡ option_map (λ more. next ++ more) (argument_texts space cube (drop (k + 1) dims) (drop (k + 1) args))
  argument_more tree front next text pushed =
      rw (next_item dims k dim at, next_item args k arg is, text)
      (moved_on front next tree (argument_texts space cube (drop (k + 1) dims) (drop (k + 1) args)) pushed)

  pub argument_gap : (front : List Tree) → argument_text space cube dim arg ≡ None
      → option_map (λ more. front ++ more) (argument_texts space cube (drop k dims) (drop k args)) ≡ None
  argument_gap front text = rw (next_item dims k dim at, next_item args k arg is, text) refl

pub arguments_end : (space : Layout) (cube : ℕ) (dims : List ℕ) (args : List Arg) (k : ℕ) (front : List Tree) → length dims ≤ k
    → option_map (λ more. front ++ more) (argument_texts space cube (drop k dims) (drop k args)) ≡ Some front
arguments_end space cube dims args k front past = rw (drop_all k dims past) (ap Some (append-nil front))

-- ---- places

-- two lists of which one tells of each item of the other are as long
pub as_long : {A B : Type 0} (R : A → B → Type 0) (xs : List A) (ys : List B) → AllZip R xs ys → length xs ≡ length ys
as_long R [] [] all = refl
as_long R [] (y ∷ ys) all = absurd all
as_long R (x ∷ xs) [] all = absurd all
as_long R (x ∷ xs) (y ∷ ys) all = ap suc (as_long R xs ys all.1)

-- what it tells at a place
pub told_at : {A B : Type 0} (R : A → B → Type 0) (xs : List A) (ys : List B) (k : ℕ) (x : A) (y : B) → AllZip R xs ys → slice_get xs k ≡ Some x → slice_get ys k ≡ Some y → R x y
told_at R [] ys k x y all is at = absurd (cc is)
told_at R (a ∷ xs) [] k x y all is at = absurd (cc at)
told_at R (a ∷ xs) (b ∷ ys) zero x y all is at =
    let left : a ≡ x = cc is in
    let right : b ≡ y = cc at in
    subst (λ v. R x v) right (subst (λ u. R u b) left all.0)
told_at R (a ∷ xs) (b ∷ ys) (suc k) x y all is at = told_at R xs ys k x y all.1 is at

-- the size of a dimension at a place
pub its_size : (ds : List Outline) (k : ℕ) (d : Outline) → slice_get ds k ≡ Some d → slice_get (sizes_of ds) k ≡ Some (length d.elements)
its_size [] k d is = absurd (cc is)
its_size (x ∷ ds) zero d is = let same : x ≡ d = cc is in ap (λ o. Some (length o.elements)) same
its_size (x ∷ ds) (suc k) d is = its_size ds k d is

-- an item that is read at a place
pub item_there : {A : Type 0} (xs ys : List A) (i : ℕ) (x : A) → xs ≡ ys → i < length ys → x ≡ get_or xs i x → slice_get ys i ≡ Some x
item_there xs ys i x same low is =
    slice_get-get_or ys i x low ∙ ap Some (ap (λ l. get_or l i x) (sym same) ∙ sym is)

-- ---- the dimensions of a cube

module _ (space : Layout) (cube : ℕ) (shape : CubeShape) (valid : IsSpace space) (is : slice_get space.cubes cube ≡ Some shape) where
  all_known : All (λ dim. dim < length space.dimensions) (dims_of space cube)
  all_known = subst (λ dims. All (λ dim. dim < length space.dimensions) dims) (sym (dims_are space cube shape valid is)) (dims_within space cube shape valid is)

  -- a cube has as many sizes as it has dimensions
  pub sizes_long : length (sizes space cube) ≡ length (dims_of space cube)
  sizes_long = length-axes_of space.dimensions (dims_of space cube) all_known

  -- the size at a place is that of the dimension of the number there
  pub size_there : (place dim : ℕ) → slice_get (dims_of space cube) place ≡ Some dim → slice_index_or (sizes space cube) place 0 ≡ length (dimension_at space dim).elements
  size_there place dim at =
      let low : place < length (dims_of space cube) = slice_get_within (dims_of space cube) place dim at in
      let number : get_or (dims_of space cube) place 0 ≡ dim = get_or_from_slice_get (dims_of space cube) place dim 0 at in
      ap (λ l. get_or l place 0) (sym (sizes-by_counts space.dimensions (dims_of space cube) all_known))
      ∙ get_or-map (slice_index (sizes_of space.dimensions)) (dims_of space cube) place 0 0 low
      ∙ element-count space.dimensions (get_or (dims_of space cube) place 0) (record { name = []; elements = []; attributes = [] }) (all_known place 0 low)
      ∙ ap (λ d. length (dimension_at space d).elements) number

  pub number_known : (place : ℕ) → place < length (dims_of space cube) → get_or (dims_of space cube) place 0 < length space.dimensions
  number_known place low = all_known place 0 low

pub cube_there : (space : Layout) (cube : ℕ) → cube < length space.cubes → (shape : CubeShape) × (slice_get space.cubes cube ≡ Some shape)
cube_there space cube low = there space.cubes cube low

-- a target has an argument for each dimension of its cube, each a fit one
pub args_long : (space : Layout) (cube : ℕ) (r : Reference) → IsSpace space → IsReference space cube r → length r.args ≡ length (dims_of space r.cube)
args_long space cube r valid (low, all) =
    let (shape, is) = cube_there space r.cube low in
    sym (as_long (IsArg (sizes space cube)) (sizes space r.cube) r.args all) ∙ sizes_long space r.cube shape valid is

pub arg_fits : (space : Layout) (cube : ℕ) (r : Reference) (k dim : ℕ) (arg : Arg) → IsSpace space → IsReference space cube r → slice_get (dims_of space r.cube) k ≡ Some dim → slice_get r.args k ≡ Some arg
    → IsArg (sizes space cube) (length (dimension_at space dim).elements) arg
arg_fits space cube r k dim arg valid (low, all) at is =
    let (shape, shaped) = cube_there space r.cube low in
    let size = size_there space r.cube shape valid shaped k dim at in
    let inside : k < length (sizes space r.cube) = (let long = sizes_long space r.cube shape valid shaped in let here = slice_get_within (dims_of space r.cube) k dim at in omega (arith, long, here)) in
    let found : slice_get (sizes space r.cube) k ≡ Some (length (dimension_at space dim).elements) = slice_get-get_or (sizes space r.cube) k 0 inside ∙ ap Some size in
    told_at (IsArg (sizes space cube)) (sizes space r.cube) r.args k (length (dimension_at space dim).elements) arg all found is

-- what a set lists are elements of its dimension
pub listed_known : (ds : List Outline) (sets : List (Option (List ℕ))) (k : ℕ) (d : Outline) (listed : List ℕ) → AllZip IsSet (sizes_of ds) sets → slice_get ds k ≡ Some d → slice_get sets k ≡ Some (Some listed)
    → All (λ e. e < length d.elements) listed
listed_known ds sets k d listed all at is =
    (told_at IsSet (sizes_of ds) sets k (length d.elements) (Some listed) all (its_size ds k d at) is).1

-- a map from a dimension has as many elements as that
pub moved_long : (space : Layout) (cube dim n from : ℕ) (to : List (Option ℕ)) → IsSpace space → cube < length space.cubes → IsArg (sizes space cube) n (Moved from to)
    → (slice_index_or (dims_of space cube) from 0 == dim) ≡ true → length to ≡ length (dimension_at space dim).elements
moved_long space cube dim n from to valid low (inside, whole, elements) is =
    let (shape, shaped) = cube_there space cube low in
    let own : from < length (dims_of space cube) = (let long = sizes_long space cube shape valid shaped in omega (arith, inside, long)) in
    let at : slice_get (dims_of space cube) from ≡ Some dim = slice_get-get_or (dims_of space cube) from 0 own ∙ ap Some (eqb-true _ dim is) in
    whole ∙ size_there space cube shape valid shaped from dim at

-- ---- tests

-- one more that passes
pub more_pass : {A : Type 0} (p : A → Bool) (front next : List A) (a : A) → next ≡ front ++ a ∷ [] → list_all p front ≡ true → p a ≡ true → list_all p next ≡ true
more_pass p front next a is before here = ap (list_all p) is ∙ all front before
  where
    all : (xs : List _) → list_all p xs ≡ true → list_all p (xs ++ a ∷ []) ≡ true
    all [] pass = and_from (p a) true here refl
    all (x ∷ xs) pass =
        let (first, rest) = and_parts (p x) (list_all p xs) pass in
        and_from (p x) (list_all p (xs ++ a ∷ [])) first (all xs rest)

pub some_has : {A : Type 0} (P : A → Type 0) (o : Option A) (a : A) → o ≡ Some a → IfSome o P → P a
some_has P None a is has = absurd (cc is)
some_has P (Some b) a is has = let same : b ≡ a = cc is in subst P same has

-- nothing is given where a test fails
pub shut : {A : Type 0} (b : Bool) (o : Option A) → b ≡ false → None ≡ (if b then o else None)
shut b o is = sym (ap (λ t. if t then o else None) is)

pub opened : {A : Type 0} (b : Bool) (o : Option A) → b ≡ true → o ≡ (if b then o else None)
opened b o is = sym (ap (λ t. if t then o else None) is)
