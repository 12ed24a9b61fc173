-- The arguments of a reference, one by one.
use Rattle.std.proofs.Common.{◌≡◌, sym, ap, ◌∙◌, arith, subst, ℕ, zero, suc, ◌<◌, ◌≤◌, Option, Some, None, List, [], ◌∷◌, length, ℤ, pos}
use Rattle.std.specs.Prelude.{slice_get, slice_index_or, unwrap_or}
use Rattle.std.specs.List.{AllZip}
use Rattle.cube_space.specs.Layout.{Layout, axes, sizes}
use Rattle.std.proofs.Common.{unsigned_abs, IfSome, Bor}
use Rattle.std.specs.Option.{option_map_or}
use Rattle.dim_core.specs.Outline.{Outline, components_of}
use Rattle.cube_space.specs.Cells.{IsSpace}
use Rattle.rule_model.specs.Conditions.{IsPrecedent}
use Rattle.order_laws.specs.Scales.{parts_in}
use Rattle.order_laws.proofs.ChildFacts.{part-below}
use Rattle.ref_order.specs.declared.reads.Read.{Read}
use Rattle.ref_order.specs.declared.reads.Read.TheVariants.{Cell, Children}
use Rattle.rule_laws.specs.Meaning.{Precedent, Named, Components}
use Rattle.order_laws.specs.Excess.{read_cube}
use Rattle.ref_order.specs.Reads.{precedent_of}
use Rattle.ref_order.proofs.Axes.{few-axes}
use Rattle.rule_laws.specs.declared.reference.Reference.{Reference}
use Rattle.rule_laws.specs.declared.reference.Arg.{Arg}
use Rattle.rule_laws.specs.declared.reference.Arg.TheVariants.{Fixed, Moved}
use Rattle.rule_model.specs.Conditions.{IsArg, IsReference}
use Rattle.order_laws.proofs.SetFacts.{zip-long, named-below}
use Rattle.order_laws.proofs.CellFacts.{axes-sizes}

pub args-long : (space : Layout) (cube : ℕ) (r : Reference) → IsReference space cube r → length r.args ≡ length (axes space r.cube)
args-long space cube r is = zip-long (IsArg (sizes space cube)) (sizes space r.cube) r.args is.1 ∙ axes-sizes space r.cube

-- the same of a cube that is known to be the reference's
pub args-fit : (space : Layout) (cube its : ℕ) (r : Reference) → IsReference space cube r → its ≡ r.cube → length r.args ≡ length (axes space its)
args-fit space cube its r is same = args-long space cube r is ∙ ap (λ k. length (axes space k)) (sym same)

pub arg-at : {A : Type 0} (R : ℕ → A → Type 0) (ss : List ℕ) (xs : List A) (j : ℕ) (d : A) → AllZip R ss xs → j < length xs → R (slice_index_or ss j 0) (slice_index_or xs j d)
arg-at R ss [] j d all low = absurd (omega arith)
arg-at R [] (x ∷ xs) j d all low = absurd all
arg-at R (s ∷ ss) (x ∷ xs) zero d all low = all.0
arg-at R (s ∷ ss) (x ∷ xs) (suc j) d all low = arg-at R ss xs j d all.1 (omega arith)

pub target-below : (space : Layout) (cube : ℕ) (r : Reference) (args : List Arg) (j e t from : ℕ) (to : List (Option ℕ)) (arg : Arg) → IsReference space cube r → args ≡ r.args → j < length r.args → arg ≡ slice_index_or args j arg → arg ≡ Moved from to
    → Some t ≡ unwrap_or (slice_get to e) None → t < slice_index_or (sizes space r.cube) j 0
target-below space cube r args j e t from to arg is same low at moved named =
    let here = arg-at (IsArg (sizes space cube)) (sizes space r.cube) r.args j arg is.1 low in
    let found : slice_index_or r.args j arg ≡ Moved from to = ap (λ xs. slice_index_or xs j arg) (sym same) ∙ sym at ∙ moved in
    let shown = subst (IsArg (sizes space cube) (slice_index_or (sizes space r.cube) j 0)) found here in
    named-below to e t (slice_index_or (sizes space r.cube) j 0) shown.2 (sym named)

pub fixed-below : (space : Layout) (cube : ℕ) (r : Reference) (args : List Arg) (j t : ℕ) (arg : Arg) → IsReference space cube r → args ≡ r.args → j < length r.args → arg ≡ slice_index_or args j arg → arg ≡ Fixed t
    → t < slice_index_or (sizes space r.cube) j 0
fixed-below space cube r args j t arg is same low at fixed =
    let here = arg-at (IsArg (sizes space cube)) (sizes space r.cube) r.args j arg is.1 low in
    let found : slice_index_or r.args j arg ≡ Fixed t = ap (λ xs. slice_index_or xs j arg) (sym same) ∙ sym at ∙ fixed in
    subst (IsArg (sizes space cube) (slice_index_or (sizes space r.cube) j 0)) found here

-- what is left after the last argument has at least this one
pub arg-low : (from : ℕ) (args own : List Arg) → args ≡ own → (from ≡ length args → ⊥) → from ≤ length own → from < length own
arg-low from args own same more low = let e : length args ≡ length own = ap length same in omega (arith, more, low, e)

pub args-few : (space : Layout) (cube : ℕ) (r : Reference) → IsSpace space → IsReference space cube r → length r.args ≤ 16
args-few space cube r valid is = omega (arith, args-long space cube r is, few-axes space r.cube valid is.0)

pub size-weaker : (a : Option ℤ) (x y : ℕ) → IfSome a (λ n. unsigned_abs n ≤ x) → x ≤ y → IfSome a (λ n. unsigned_abs n ≤ y)
size-weaker None x y h low = tt
size-weaker (Some a) x y h low = omega (arith, h, low)

-- what reads through a reference reads a cell of its cube
pub read-reference : (space : Layout) (cube : ℕ) (read : Read) (r : Bor Reference) → read ≡ Cell r → IsPrecedent space cube (precedent_of read) → IsReference space cube r.now
read-reference space cube read r is ok = subst (λ x. IsPrecedent space cube (precedent_of x)) is ok

pub read-children : (space : Layout) (cube : ℕ) (read : Read) (dim : ℕ) → read ≡ Children dim → IsPrecedent space cube (precedent_of read) → dim < length (sizes space cube)
read-children space cube read dim is ok = subst (λ x. IsPrecedent space cube (precedent_of x)) is ok

-- the components of an element of a dimension
pub component-below : (space : Layout) (cube dim e k : ℕ) (d : Outline) (parts : List (ℕ × ℤ)) → IsSpace space → slice_get (axes space cube) dim ≡ Some d → parts ≡ components_of d e → k < length parts
    → (slice_index_or {A = ℕ × ℤ} parts k (0, pos 0)).0 < slice_index_or (sizes space cube) dim 0
component-below space cube dim e k d parts valid is same low =
    let all : parts ≡ parts_in (axes space cube) dim e = same ∙ ap (λ x. option_map_or (λ d. components_of d e) x []) (sym is) in
    subst (λ (ps : List (ℕ × ℤ)). (slice_index_or {A = ℕ × ℤ} ps k (0, pos 0)).0 < slice_index_or (sizes space cube) dim 0) (sym all)
    (part-below space cube dim e k valid (subst (λ ps. k < length ps) all low))

-- the cube of what a formula reads
pub read-low : (space : Layout) (cube : ℕ) (p : Precedent) → cube < length space.cubes → IsPrecedent space cube p → read_cube cube p < length space.cubes
read-low space cube (Named r) low is = is.0
read-low space cube (Components dim) low is = low
