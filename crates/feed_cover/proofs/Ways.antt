-- Where the maps of a reference and of a feeder lead.
use Rattle.std.proofs.Common.{◌≡◌, refl, sym, ap, ◌∙◌, arith, subst, ℕ, zero, suc, ◌<◌, Option, Some, List, [], ◌∷◌, length}
use Rattle.std.specs.Prelude.{slice_index_or, slice_get}
use Rattle.cube_space.specs.Layout.{Layout, axes, sizes}
use Rattle.rule_laws.specs.declared.reference.Reference.{Reference}
use Rattle.rule_laws.specs.declared.reference.Arg.{Arg}
use Rattle.rule_laws.specs.declared.reference.Arg.TheVariants.{Moved}
use Rattle.rule_model.specs.Conditions.{IsArg, IsReference}
use Rattle.order_laws.proofs.SetFacts.{named-below}
use Rattle.order_laws.proofs.CellFacts.{axes-sizes}
use Rattle.ref_order.proofs.Args.{arg-at, args-long}
use Rattle.cover_laws.specs.Looking.{sent}
pub use Rattle.ref_order.proofs.Args.{fixed-below as fixed-at}

-- an argument that moves: its dimension is there, and what it sends to is an element of the target's
pub record IsMove (space : Layout) (cube : ℕ) (r : Reference) (place from : ℕ) (to : List (Option ℕ)) : Type 0 where
  pub followed : from < length (axes space cube)
  pub target : place < length (axes space r.cube)
  pub whole : length to ≡ slice_index_or (sizes space cube) from 0
  pub below : (e t : ℕ) → sent to e ≡ Some t → t < slice_index_or (sizes space r.cube) place 0

pub move-at : (space : Layout) (cube : ℕ) (r : Reference) (args : List Arg) (place from : ℕ) (to : List (Option ℕ)) (arg : Arg) → IsReference space cube r → args ≡ r.args → place < length r.args
    → arg ≡ slice_index_or args place arg → arg ≡ Moved from to → IsMove space cube r place from to
move-at space cube r args place from to arg is same low at moved =
    let here = arg-at (IsArg (sizes space cube)) (sizes space r.cube) r.args place arg is.1 low in
    let found : slice_index_or r.args place arg ≡ Moved from to = ap (λ xs. slice_index_or xs place arg) (sym same) ∙ sym at ∙ moved in
    let shown = subst (IsArg (sizes space cube) (slice_index_or (sizes space r.cube) place 0)) found here in
    record {
      followed = omega (arith, shown.0, axes-sizes space cube);
      target = omega (arith, low, args-long space cube r is);
      whole = shown.1;
      below = λ e t sends. named-below to e t (slice_index_or (sizes space r.cube) place 0) shown.2 sends;
    }

pub some-arg : {X : Type 0} (xs : List X) (j : ℕ) (d : X) → j < length xs → slice_get xs j ≡ Some (slice_index_or xs j d)
some-arg [] j d low = absurd (omega (arith, low))
some-arg (x ∷ xs) zero d low = refl
some-arg (x ∷ xs) (suc j) d low = some-arg xs j d (omega (arith, low))

pub any-arg : {X : Type 0} (own xs : List X) (j : ℕ) (x d : X) → own ≡ xs → j < length xs → x ≡ slice_index_or own j x → x ≡ slice_index_or xs j d
any-arg own xs j x d same low is =
    let one = some-arg xs j x low in
    let two = some-arg xs j d low in
    let equal : slice_index_or xs j x ≡ slice_index_or xs j d = cc in
    is ∙ ap (λ xs. slice_index_or xs j x) same ∙ equal
