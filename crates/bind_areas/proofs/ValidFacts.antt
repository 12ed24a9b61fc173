-- The areas and references that are bound name elements of their dimensions.
use Rattle.std.proofs.Common.{◌≡◌, ◌==◌, ◌<◌, ◌+◌, ℕ, zero, suc, List, [], ◌∷◌, length, Option, Some, None, refl, sym, ap, ◌∙◌, subst, arith, All, slice_get, slice_index_or, get_or, option_map, option_and_then, IfSome}
use Rattle.std.proofs.lemmas.List.{length-map, get_or-map}
use Rattle.std.proofs.lemmas.List.Kept.{IsStrictlyIncreasing-filter}
use Rattle.std.proofs.lemmas.List.Elements.{All-filter}
use Rattle.std.proofs.lemmas.List.FromFn.{length-range_with_len, get_or-range_with_len}
use Rattle.std.specs.List.{AllZip, range_with_len, list_any, filter_map}
use Rattle.std.specs.List.Sorted.{IsStrictlyIncreasing}
use Rattle.dim_core.specs.Outline.{Outline, index_of}
use Rattle.cube_space.specs.Layout.{sizes_of}
use Rattle.rule_laws.specs.Maps.{identity}
use Rattle.rule_model.specs.Conditions.{IsSet, IsArg}
use Rattle.rule_tree.specs.declared.rule.EntryText.{EntryText}
use Rattle.rule_tree.specs.declared.tree.SimpleText.{SimpleText}
use Rattle.bind_areas.specs.Areas.{elements_called, set_at, each_at, entry_for, element_put, arg_by, arg_at}
use Rattle.dim_core.proofs.Naming.{called_within}
use Rattle.dim_weights.proofs.ByLevel.{range-within as range_below}

range_rises : (n : ℕ) → IsStrictlyIncreasing (range_with_len 0 n)
range_rises n k low =
    let long = length-range_with_len 0 n in
    omega (arith, get_or-range_with_len 0 n k 0 (omega (arith, low, long)), get_or-range_with_len 0 n (k + 1) 0 (omega (arith, low, long)))

called_set : (d : Outline) (names : List (List ℕ)) → IsSet (length d.elements) (Some (elements_called d names))
unfolding elements_called
called_set d names = (
  IsStrictlyIncreasing-filter (λ e. list_any (λ found. found == e) (filter_map (index_of d) names)) (range_with_len 0 (length d.elements)) (range_rises (length d.elements)),
  All-filter (λ e. list_any (λ found. found == e) (filter_map (index_of d) names)) (λ e. e < length d.elements) (range_with_len 0 (length d.elements)) (range_below (length d.elements)),
)

set_valid : (d : Outline) (entry : Option EntryText) → IsSet (length d.elements) (option_map (λ e. elements_called d e.elements) entry)
set_valid d None = tt
set_valid d (Some e) = called_set d e.elements

pub sets_valid : (entries : List EntryText) (places : List ℕ) (p : ℕ) (ds : List Outline) → AllZip IsSet (sizes_of ds) (each_at (set_at entries places) p ds)
sets_valid entries places p [] = tt
sets_valid entries places p (d ∷ ds) = (set_valid d (entry_for entries places p), sets_valid entries places (p + 1) ds)

-- an identity goes to elements
identity_below : (n : ℕ) → All (λ target. IfSome target (λ e. e < n)) (identity n)
identity_below n k d low =
    let long : length (identity n) ≡ n = length-map (range_with_len 0 n) Some ∙ length-range_with_len 0 n in
    let here : get_or (identity n) k d ≡ Some k = get_or-map Some (range_with_len 0 n) k 0 d (omega (arith, low, long, length-range_with_len 0 n)) ∙ ap Some (get_or-range_with_len 0 n k 0 (omega (arith, low, long)) ∙ (omega arith)) in
    subst (λ target. IfSome target (λ e. e < n)) (sym here) (omega (arith, low, long))

arg_valid : (source : List ℕ) (p : ℕ) (d : Outline) (element : Option ℕ) → p < length source → slice_index_or source p 0 ≡ length d.elements → IfSome element (λ e. e < length d.elements)
    → IsArg source (length d.elements) (arg_by p d element)
arg_valid source p d (Some element) low size within = within
arg_valid source p d None low size within =
    let n : ℕ = length d.elements in
    let long : length (identity n) ≡ n = length-map (range_with_len 0 n) Some ∙ length-range_with_len 0 n in
    (low, long ∙ sym size, identity_below n)

put_within : (d : Outline) (simple : Option SimpleText) → IfSome (option_and_then (λ s. index_of d s.element) simple) (λ e. e < length d.elements)
put_within d None = tt
put_within d (Some s) = by (index_of d s.element) refl where
  by : (o : Option ℕ) → index_of d s.element ≡ o → IfSome o (λ e. e < length d.elements)
  by None is = tt
  by (Some e) is = called_within d s.element e is

-- the dimensions from a place on have these sizes
abbrev pub HasSizes : List ℕ → ℕ → List Outline → Type 0
HasSizes source p ds = (k : ℕ) (d : Outline) → slice_get ds k ≡ Some d → (p + k < length source) × (slice_index_or source (p + k) 0 ≡ length d.elements)

pub args_valid : (source : List ℕ) (simples : List SimpleText) (places : List ℕ) (p : ℕ) (ds : List Outline) → HasSizes source p ds → AllZip (IsArg source) (sizes_of ds) (each_at (arg_at simples places) p ds)
args_valid source simples places p [] has = tt
args_valid source simples places p (d ∷ ds) has =
    let same : p + 0 ≡ p = omega arith in
    let first = has 0 d refl in (
      arg_valid source p d (element_put simples places p d) (omega (arith, first.0)) (subst (λ n. slice_index_or source n 0 ≡ length d.elements) same first.1) (put_within d (entry_for simples places p)),
      args_valid source simples places (p + 1) ds (λ k x is.
          let later : p + suc k ≡ p + 1 + k = omega arith in
          let next = has (suc k) x is in
          (omega (arith, next.0), subst (λ n. slice_index_or source n 0 ≡ length x.elements) later next.1)),
    )

pub own_sizes : (ds : List Outline) → HasSizes (sizes_of ds) 0 ds
own_sizes ds k d is = by (0 + k) (omega arith) where
  found : (xs : List Outline) (i : ℕ) → slice_get xs i ≡ Some d → (i < length (sizes_of xs)) × (slice_index_or (sizes_of xs) i 0 ≡ length d.elements)
  found [] i here = absurd (cc here)
  found (x ∷ xs) zero here = let same : x ≡ d = cc in (omega arith, ap (λ y. length y.elements) same)
  found (x ∷ xs) (suc i) here = let rest = found xs i here in (omega (arith, rest.0), rest.1)

  by : (n : ℕ) → n ≡ k → (n < length (sizes_of ds)) × (slice_index_or (sizes_of ds) n 0 ≡ length d.elements)
  by n e = found ds n (ap (slice_get ds) e ∙ is)
