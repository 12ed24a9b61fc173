-- The test of references is right.
use Rattle.std.proofs.Common.{◌≡◌, refl, ℕ, ◌<◌, true, nat_lt, Option, Some, None, IfSome, List, [], ◌∷◌, length}
use Rattle.std.specs.Prelude.{slice_index_or}
use Rattle.std.specs.List.{AllZip}
use Rattle.std.specs.Option.{option_map_or}
use Rattle.std.proofs.lemmas.Bool.{and_parts, and_from, eq-eqb, ltb-true, lt-ltb}
use Rattle.std.proofs.lemmas.Bool.Decides.{Decides-eqb}
use Rattle.std.proofs.lemmas.List.Sums.{AllPass-from_list_all, list_all-from_AllPass}
use Rattle.cube_space.specs.Layout.{Layout, sizes}
use Rattle.rule_laws.specs.declared.reference.Reference.{Reference}
use Rattle.rule_laws.specs.declared.reference.Arg.{Arg}
use Rattle.rule_laws.specs.declared.reference.Arg.TheVariants.{Fixed, Moved}
use Rattle.rule_model.specs.Conditions.{IsArg, IsReference}
use Rattle.feed_check.specs.Inside.References.{is_arg, are_args, is_reference}

arg-is : (source : List ℕ) (size : ℕ) (arg : Arg) → is_arg source size arg ≡ true → IsArg source size arg
arg-is source size (Fixed e) h = ltb-true e size h
arg-is source size (Moved from to) h =
    let parts = and_parts _ _ h in
    let more = and_parts _ _ parts.1 in
    (ltb-true from (length source) parts.0, (Decides-eqb (length to) (slice_index_or source from 0)).0 more.0, λ k d low. target _ (AllPass-from_list_all _ to more.1 k d low))
  where
    target : (t : Option ℕ) → option_map_or (λ e. nat_lt e size) t true ≡ true → IfSome t (λ e. e < size)
    target None h = tt
    target (Some e) h = ltb-true e size h

is-arg : (source : List ℕ) (size : ℕ) (arg : Arg) → IsArg source size arg → is_arg source size arg ≡ true
is-arg source size (Fixed e) h = lt-ltb e size h
is-arg source size (Moved from to) h =
    and_from _ _ (lt-ltb from (length source) h.0) (and_from _ _ (eq-eqb (length to) (slice_index_or source from 0) h.1) (list_all-from_AllPass _ to (λ k d low. target _ (h.2 k d low))))
  where
    target : (t : Option ℕ) → IfSome t (λ e. e < size) → option_map_or (λ e. nat_lt e size) t true ≡ true
    target None h = refl
    target (Some e) h = lt-ltb e size h

args-are : (source ss : List ℕ) (args : List Arg) → are_args source ss args ≡ true → AllZip (IsArg source) ss args
args-are source [] [] h = tt
args-are source [] (arg ∷ args) h = absurd (cc)
args-are source (s ∷ ss) [] h = absurd (cc)
args-are source (s ∷ ss) (arg ∷ args) h = let parts = and_parts _ _ h in (arg-is source s arg parts.0, args-are source ss args parts.1)

are-args : (source ss : List ℕ) (args : List Arg) → AllZip (IsArg source) ss args → are_args source ss args ≡ true
are-args source [] [] h = refl
are-args source [] (arg ∷ args) h = absurd h
are-args source (s ∷ ss) [] h = absurd h
are-args source (s ∷ ss) (arg ∷ args) h = and_from _ _ (is-arg source s arg h.0) (are-args source ss args h.1)

pub reference-is : (space : Layout) (cube : ℕ) (r : Reference) → is_reference space cube r ≡ true → IsReference space cube r
reference-is space cube r h = let parts = and_parts _ _ h in (ltb-true r.cube (length space.cubes) parts.0, args-are (sizes space cube) (sizes space r.cube) r.args parts.1)

pub is-reference : (space : Layout) (cube : ℕ) (r : Reference) → IsReference space cube r → is_reference space cube r ≡ true
is-reference space cube r h = and_from _ _ (lt-ltb r.cube (length space.cubes) h.0) (are-args (sizes space cube) (sizes space r.cube) r.args h.1)
