-- Tests that two areas, or two arguments, are the same.
use Rattle.std.proofs.Common.{◌≡◌, ◌↔◌, refl, ap, ◌∙◌, sym, subst, arith, ℕ, ◌<◌, Bool, true, false, ◌&&◌, ◌==◌, eq-eqb, nat_eq, Option, Some, None, List, length, get_or, IsTrue}
use Rattle.std.specs.Bool.{Decides}
use Rattle.std.specs.Prelude.{slice_get, slice_index_or}
use Rattle.std.specs.Option.{option_eq}
use Rattle.std.specs.Cmp.Lexicographic.{pointwise}
use Rattle.std.proofs.lemmas.Bool.Decides.{Decides-eqb}
use Rattle.std.proofs.lemmas.Slice.Eq.{slice_eq-Decides, bytes_eq-Decides}
use Rattle.lists.proofs.Found.{same_truth}
use Rattle.cube_space.specs.Layout.{Layout, axes, sizes}
use Rattle.rule_laws.specs.declared.reference.Reference.{Reference}
use Rattle.rule_laws.specs.declared.reference.Arg.{Arg}
use Rattle.rule_laws.specs.declared.reference.Arg.TheVariants.{Fixed, Moved}
use Rattle.rule_model.specs.Conditions.{IsReference}
use Rattle.feed_turn.proofs.Places.{move-at}
use Rattle.feed_find.specs.declared.chosen.FoundFeeder.{FoundFeeder}
use Rattle.feed_find.specs.Found.{same_reference, same_area, same_found}
use Rattle.feed_find.specs.Views.{IsFrom}

set-decides : (a b : Option (List ℕ)) → Decides (option_eq (pointwise nat_eq) a b) (a ≡ b)
set-decides None None = (λ on. refl, λ same. refl)
set-decides None (Some b) = (λ on. absurd (cc), λ same. absurd (cc))
set-decides (Some a) None = (λ on. absurd (cc), λ same. absurd (cc))
set-decides (Some a) (Some b) =
    let own = bytes_eq-Decides a b in
    (λ on. ap Some (own.0 on), λ same. own.1 (cc))

map-decides : (a b : Option ℕ) → Decides (option_eq nat_eq a b) (a ≡ b)
map-decides None None = (λ on. refl, λ same. refl)
map-decides None (Some b) = (λ on. absurd (cc), λ same. absurd (cc))
map-decides (Some a) None = (λ on. absurd (cc), λ same. absurd (cc))
map-decides (Some a) (Some b) =
    let own = Decides-eqb a b in
    (λ on. ap Some (own.0 on), λ same. own.1 (cc))

-- equal maps are the same
pub equal-maps : (one other : List (Option ℕ)) → one ≡ other → true ≡ pointwise (option_eq nat_eq) one other
equal-maps one other same = sym ((slice_eq-Decides map-decides one other (pointwise (option_eq nat_eq) one other) refl).1 same)

-- a test that holds exactly where two areas have the same sets is the one by sets
pub same-sets : (b : Bool) (one other : List (Option (List ℕ))) → IsTrue b ↔ one ≡ other → b ≡ pointwise (option_eq (pointwise nat_eq)) one other
same-sets b one other exact =
    let decides = slice_eq-Decides set-decides one other (pointwise (option_eq (pointwise nat_eq)) one other) refl in
    same_truth b (pointwise (option_eq (pointwise nat_eq)) one other) (λ on. decides.1 (exact.0 on)) (λ on. exact.1 (decides.0 on))

-- an argument of a reference from a cube
pub arg-from : (space : Layout) (cube : ℕ) (r : Reference) (j : ℕ) (arg : Arg) → IsReference space cube r → slice_get r.args j ≡ Some arg → IsFrom space cube arg
arg-from space cube r j (Fixed element) is at = tt
arg-from space cube r j (Moved from to) is at = let move = move-at space cube r j from to is at in (move.followed, move.whole)

-- the tests of two feeders, one after another
pub found-same : (b r : Bool) (one other : FoundFeeder) → one.cube ≡ other.cube → r ≡ true → r ≡ same_reference one.feeder.target other.feeder.target
    → b ≡ same_area one.feeder.area other.feeder.area → b ≡ same_found one other
found-same b r one other cubes on is areas =
    areas
    ∙ sym (ap (λ t. t && (same_reference one.feeder.target other.feeder.target && same_area one.feeder.area other.feeder.area)) (eq-eqb one.cube other.cube cubes)
    ∙ ap (λ t. t && same_area one.feeder.area other.feeder.area) (sym is ∙ on))

last-true : (a b c : Bool) → (a && (b && c)) ≡ true → c ≡ true
last-true true true c is = is
last-true true false c is = absurd (cc is)
last-true false b c is = absurd (cc is)

-- the same feeders have the same areas
pub areas-same : (one other : FoundFeeder) → same_found one other ≡ true → one.feeder.area.sets ≡ other.feeder.area.sets
areas-same one other is =
    let sets = pointwise (option_eq (pointwise nat_eq)) one.feeder.area.sets other.feeder.area.sets in
    (slice_eq-Decides set-decides one.feeder.area.sets other.feeder.area.sets sets refl).0
    (last-true (one.cube == other.cube) (same_reference one.feeder.target other.feeder.target) sets is)
