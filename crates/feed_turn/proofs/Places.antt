-- The sets of an area and the arguments of a reference, by the place of their dimension.
use Rattle.std.proofs.Common.{◌≡◌, ap, ◌∙◌, sym, arith, refl, subst, ℕ, ℤ, zero, suc, ◌<◌, ◌≤◌, Option, Some, None, IfSome, inl, inr, List, [], ◌∷◌, length, get_or, All}
use Rattle.std.specs.Prelude.{slice_get, slice_index_or}
use Rattle.std.specs.List.{AllZip, cons_option}
use Rattle.std.proofs.lemmas.Bool.{cases_lt}
use Rattle.std.proofs.lemmas.List.{length-map, get_or_past, get_or_default}
use Rattle.std.proofs.lemmas.Option.{unwrap_or-slice_get, slice_get-get_or, slice_get_within}
use Rattle.std.proofs.lemmas.Slice.Zip.{AllZip-long}
use Rattle.lists.proofs.Found.{found_holds}
use Rattle.dim_core.specs.Outline.{Outline}
use Rattle.dim_weights.specs.Table.{IsWeightsOf}
use Rattle.cube_space.specs.Layout.{Layout, axes, axes_of, dims_of, sizes, sizes_of}
use Rattle.cube_space.specs.Cells.{IsSpace}
use Rattle.rule_laws.specs.declared.reference.Reference.{Reference}
use Rattle.rule_laws.specs.declared.reference.Arg.{Arg}
use Rattle.rule_laws.specs.declared.reference.Arg.TheVariants.{Moved}
use Rattle.rule_model.specs.declared.area.Area.{Area}
use Rattle.rule_model.specs.Conditions.{IsSet, IsArea, IsArg, IsReference}
use Rattle.cover_laws.specs.Looking.{sent}

pub axes-sizes : (space : Layout) (cube : ℕ) → length (sizes space cube) ≡ length (axes space cube)
axes-sizes space cube = length-map (axes space cube) (λ d. length d.elements)

-- the size of a dimension that is there
pub size-at : (ds : List Outline) (i : ℕ) (d : Outline) → slice_get ds i ≡ Some d → slice_index_or (sizes_of ds) i 0 ≡ length d.elements
size-at [] i d at = absurd (cc)
size-at (o ∷ ds) zero d at = let same : o ≡ d = cc in ap (λ (o : Outline). length o.elements) same
size-at (o ∷ ds) (suc i) d at = size-at ds i d at

pub axis-there : (ds : List Outline) (i : ℕ) → i < length ds → (d : Outline) × (slice_get ds i ≡ Some d)
axis-there [] i low = absurd (omega (arith, low))
axis-there (d ∷ ds) zero low = (d, refl)
axis-there (d ∷ ds) (suc i) low = axis-there ds i (omega (arith, low))

-- an area has a set for each dimension, and what one lists are elements of it
pub set-inside : (ds : List Outline) (sets : List (Option (List ℕ))) (i : ℕ) (d : Outline) → AllZip IsSet (sizes_of ds) sets → slice_get ds i ≡ Some d → IsSet (length d.elements) (slice_index_or sets i None)
set-inside [] sets i d all at = absurd (cc)
set-inside (o ∷ ds) [] i d all at = absurd all
set-inside (o ∷ ds) (s ∷ sets) zero d all at = let same : o ≡ d = cc in subst (λ (o : Outline). IsSet (length o.elements) s) same all.0
set-inside (o ∷ ds) (s ∷ sets) (suc i) d all at = set-inside ds sets i d all.1 at

pub listed-inside : (space : Layout) (cube : ℕ) (area : Area) (i : ℕ) (d : Outline) (listed : List ℕ) → IsArea space cube area → slice_get (axes space cube) i ≡ Some d → slice_index_or area.sets i None ≡ Some listed
    → All (λ e. e < length d.elements) listed
listed-inside space cube area i d listed is at some = (subst (IsSet (length d.elements)) some (set-inside (axes space cube) area.sets i d is at)).1

-- an argument of a reference, by its place
pub arg-inside : (source ss : List ℕ) (args : List Arg) (j : ℕ) (arg : Arg) → AllZip (IsArg source) ss args → slice_get args j ≡ Some arg → IsArg source (slice_index_or ss j 0) arg
arg-inside source ss [] j arg all at = absurd (cc)
arg-inside source [] (a ∷ args) j arg all at = absurd all
arg-inside source (s ∷ ss) (a ∷ args) zero arg all at = let same : a ≡ arg = cc in subst (IsArg source s) same all.0
arg-inside source (s ∷ ss) (a ∷ args) (suc j) arg all at = arg-inside source ss args j arg all.1 at

pub args-long : (space : Layout) (cube : ℕ) (r : Reference) → IsReference space cube r → length r.args ≡ length (axes space r.cube)
args-long space cube r is = AllZip-long (IsArg (sizes space cube)) (sizes space r.cube) r.args is.1 ∙ axes-sizes space r.cube

pub sent-below : (to : List (Option ℕ)) (e t size : ℕ) → All (λ target. IfSome target (λ element. element < size)) to → sent to e ≡ Some t → t < size
sent-below to e t size all is =
    let at : get_or to e None ≡ Some t = sym (unwrap_or-slice_get to e None) ∙ is in
    elim (cases_lt e (length to)) [
      | inl low ↦ subst (λ (o : Option ℕ). IfSome o (λ element. element < size)) at (all e None low)
      | inr past ↦ absurd (let none : None ≡ Some t = sym (get_or_past to e None past) ∙ at in cc)
    ]

-- an argument that moves: its dimension is there, and what it sends to is an element of the target's
pub record IsMove (space : Layout) (cube : ℕ) (r : Reference) (place from : ℕ) (to : List (Option ℕ)) : Type 0 where
  pub followed : from < length (axes space cube)
  pub target : place < length (axes space r.cube)
  pub whole : length to ≡ slice_index_or (sizes space cube) from 0
  pub below : (e t : ℕ) → sent to e ≡ Some t → t < slice_index_or (sizes space r.cube) place 0

pub move-at : (space : Layout) (cube : ℕ) (r : Reference) (place from : ℕ) (to : List (Option ℕ)) → IsReference space cube r → slice_get r.args place ≡ Some (Moved from to) → IsMove space cube r place from to
move-at space cube r place from to is at =
    let here = arg-inside (sizes space cube) (sizes space r.cube) r.args place (Moved from to) is.1 at in
    record {
      followed = omega (arith, here.0, axes-sizes space cube);
      target = omega (arith, slice_get_within r.args place (Moved from to) at, args-long space cube r is);
      whole = here.1;
      below = λ e t sends. sent-below to e t (slice_index_or (sizes space r.cube) place 0) here.2 sends;
    }

-- the table of a dimension
pub table-at : (ds : List Outline) (tables : List (List (List (ℕ × ℤ)))) (k : ℕ) (t : List (List (ℕ × ℤ))) (d : Outline) → AllZip IsWeightsOf ds tables → slice_get ds k ≡ Some d → (k < length tables) × (t ≡ get_or tables k t → IsWeightsOf d t)
table-at [] tables k t d all at = absurd (cc)
table-at (o ∷ ds) [] k t d all at = absurd all
table-at (o ∷ ds) (x ∷ tables) zero t d all at = let same : o ≡ d = cc in (omega arith, λ is. subst (λ (o : Outline). IsWeightsOf o t) same (subst (IsWeightsOf o) (sym is) all.0))
table-at (o ∷ ds) (x ∷ tables) (suc k) t d all at = let (low, found) = table-at ds tables k t d all.1 at in (omega (arith, low), found)

pub sets-long : (space : Layout) (cube : ℕ) (area : Area) → IsArea space cube area → length area.sets ≡ length (axes space cube)
sets-long space cube area is = AllZip-long IsSet (sizes space cube) area.sets is ∙ axes-sizes space cube

pub set-found : (sets own : List (Option (List ℕ))) (i : ℕ) (set : Option (List ℕ)) → sets ≡ own → i < length own → set ≡ slice_index_or sets i set → set ≡ slice_index_or own i None
set-found sets own i set same low is = is ∙ ap (λ (xs : List (Option (List ℕ))). slice_index_or xs i set) same ∙ get_or_default own i set None low

-- a dimension that was found in an equal space
pub axis-here : (own space : Layout) (cube i : ℕ) (d : Outline) → own ≡ space → slice_get (axes own cube) i ≡ Some d → slice_get (axes space cube) i ≡ Some d
axis-here own space cube i d same at = ap (λ (l : Layout). slice_get (axes l cube) i) (sym same) ∙ at

pub arg-found : (args own : List Arg) (j : ℕ) (arg : Arg) → args ≡ own → j < length own → arg ≡ slice_index_or args j arg → slice_get own j ≡ Some arg
arg-found args own j arg same low is = slice_get-get_or own j arg low ∙ ap Some (sym (is ∙ ap (λ (xs : List Arg). slice_index_or xs j arg) same))

-- what holds of the dimensions of a space holds of those of a cube
axes-all : (P : Outline → Type 0) (D : List Outline) (ks : List ℕ) (i : ℕ) (d : Outline) → All P D → slice_get (axes_of D ks) i ≡ Some d → P d
axes-all P D [] i d all at = absurd (cc)
axes-all P D (k ∷ ks) i d all at = by (λ j at. axes-all P D ks j d all at) (slice_get D k) refl i at
  where
    by : ((j : ℕ) → slice_get (axes_of D ks) j ≡ Some d → P d) → (o : Option Outline) → slice_get D k ≡ o → (i : ℕ) → slice_get (cons_option o (axes_of D ks)) i ≡ Some d → P d
    by rest None e i at = rest i at
    by rest (Some x) e zero at = let same : x ≡ d = cc in subst P same (found_holds P D k x all e)
    by rest (Some x) e (suc i) at = rest i at

pub few-elements : (space : Layout) (cube i : ℕ) (d : Outline) → IsSpace space → slice_get (axes space cube) i ≡ Some d → length d.elements ≤ 100000
few-elements space cube i d valid at = axes-all (λ (d : Outline). length d.elements ≤ 100000) space.dimensions (dims_of space cube) i d (λ k e low. (valid.dimensions k e low).few) at
