-- The reference by which each cell of a cube names itself.
use Rattle.std.proofs.Common.{◌≡◌, refl, sym, ap, ◌∙◌, arith, ℕ, zero, suc, ◌+◌, ◌<◌, true, Some, None, IfSome, nat_lt, List, [], ◌∷◌, length, get_or, drop, drop-cons, All, ◌++◌, ◌≤◌}
use Rattle.std.specs.Prelude.{slice_get, slice_index_or, option_and_then, unwrap_or}
use Rattle.std.specs.List.{AllZip}
use Rattle.std.proofs.lemmas.Bool.{and_parts, ltb-true}
use Rattle.std.proofs.lemmas.List.{append-nil, append_assoc, drop_all}
use Rattle.std.proofs.lemmas.List.FromFn.{length-map-range_with_len, get_or-map-range_with_len}
use Rattle.std.proofs.lemmas.Option.{get_or_from_slice_get}
use Rattle.cube_space.specs.Layout.{Layout, sizes}
use Rattle.cube_space.specs.Radix.{are_digits}
use Rattle.rule_laws.specs.declared.reference.Arg.{Arg}
use Rattle.rule_laws.specs.declared.reference.Arg.TheVariants.{Moved}
use Rattle.rule_laws.specs.Maps.{identity}
use Rattle.rule_laws.proofs.MapFacts.{inside}
use Rattle.rule_model.specs.Named.{with_element}
use Rattle.rule_model.specs.Targets.{element_by, elements_by}
use Rattle.rule_model.specs.Conditions.{IsArg, IsReference}
use Rattle.rule_notes.specs.Inside.Named.{own_args, own_reference}

-- what stands first in the rest of a list from a place on
record IsNext {X : Type 0} (xs : List X) (k : ℕ) (x : X) (rest : List X) : Type 0 where
  low : k < length xs
  here : slice_get xs k ≡ Some x
  later : rest ≡ drop (suc k) xs

next : {X : Type 0} (xs : List X) (k : ℕ) (x : X) (rest : List X) → x ∷ rest ≡ drop k xs → IsNext xs k x rest
next [] zero x rest is = absurd (cc)
next [] (suc k) x rest is = absurd (cc)
next (y ∷ ys) zero x rest is = let same : y ≡ x = cc in let others : rest ≡ ys = cc in record { low = omega arith; here = ap Some same; later = others }
next (y ∷ ys) (suc k) x rest is = let own = next ys k x rest is in record { low = omega (arith, own.low); here = own.here; later = own.later }

identity-below : (n : ℕ) → All (λ target. IfSome target (λ e. e < n)) (identity n)
identity-below n k d low =
    let within : k < n = omega (arith, low, length-map-range_with_len Some 0 n) in
    let here : get_or (identity n) k d ≡ Some k = get_or-map-range_with_len Some 0 n k k d within (omega arith) in
    rw here within

own-args-are : (source : List ℕ) (place : ℕ) (rest : List ℕ) → rest ≡ drop place source → AllZip (IsArg source) rest (own_args place rest)
own-args-are source place [] is = tt
own-args-are source place (size ∷ rest) is =
    let at = next source place size rest is in
    let own : slice_index_or source place 0 ≡ size = get_or_from_slice_get source place size 0 at.here in
    ((at.low, length-map-range_with_len Some 0 size ∙ sym own, identity-below size), own-args-are source (suc place) rest at.later)

pub own-is : (space : Layout) (cube : ℕ) → cube < length space.cubes → IsReference space cube (own_reference space cube)
own-is space cube there = (there, own-args-are (sizes space cube) 0 (sizes space cube) refl)

own-elements : (es : List ℕ) (place : ℕ) (sizes ds : List ℕ) → are_digits sizes ds ≡ true → ds ≡ drop place es → elements_by es (own_args place sizes) ≡ Some ds
own-elements es place [] [] digits is = refl
own-elements es place [] (d ∷ ds) digits is = absurd (cc)
own-elements es place (size ∷ sizes) [] digits is = absurd (cc)
own-elements es place (size ∷ sizes) (d ∷ ds) digits is =
    let parts = and_parts (nat_lt d size) (are_digits sizes ds) digits in
    let at = next es place d ds is in
    let own : element_by es (Moved place (identity size)) ≡ Some d =
    ap (option_and_then (λ e. unwrap_or (slice_get (identity size) e) None)) at.here ∙ sym (inside size d (ltb-true d size parts.0)) in
    ap (λ o. with_element o (elements_by es (own_args (suc place) sizes))) own
    ∙ ap (with_element (Some d)) (own-elements es (suc place) sizes ds parts.1 at.later)

pub names-itself : (space : Layout) (cube : ℕ) (es : List ℕ) → are_digits (sizes space cube) es ≡ true → elements_by es (own_reference space cube).args ≡ Some es
names-itself space cube es digits = own-elements es 0 (sizes space cube) es digits refl

-- ---- made one argument after the other

pub args-more : (source : List ℕ) (place : ℕ) (before now : List Arg) (arg : Arg) → place < length source → now ≡ before ++ arg ∷ [] → arg ≡ Moved place (identity (slice_index_or source place 0))
    → before ++ own_args place (drop place source) ≡ own_args 0 source → now ++ own_args (place + 1) (drop (place + 1) source) ≡ own_args 0 source
args-more source place before now arg low is own so =
    let e : suc place ≡ place + 1 = omega arith in
    let rest : own_args place (drop place source) ≡ Moved place (identity (slice_index_or source place 0)) ∷ own_args (place + 1) (drop (place + 1) source) =
    ap (own_args place) (drop-cons source place 0 low) ∙ ap (λ k. Moved place (identity (slice_index_or source place 0)) ∷ own_args k (drop k source)) e in
    ap (λ l. l ++ own_args (place + 1) (drop (place + 1) source)) (is ∙ ap (λ a. before ++ a ∷ []) own)
    ∙ append_assoc before (Moved place (identity (slice_index_or source place 0)) ∷ []) (own_args (place + 1) (drop (place + 1) source))
    ∙ ap (λ l. before ++ l) (sym rest) ∙ so

pub args-done : (source : List ℕ) (place : ℕ) (now : List Arg) → length source ≤ place → now ++ own_args place (drop place source) ≡ own_args 0 source → now ≡ own_args 0 source
args-done source place now past so = sym (append-nil now) ∙ ap (λ l. now ++ own_args place l) (sym (drop_all place source past)) ∙ so
