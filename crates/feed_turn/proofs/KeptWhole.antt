-- An identity of a dimension names each of its leaves from all of them.
use Rattle.std.proofs.Common.{◌≡◌, ap, ◌∙◌, sym, refl, ℕ, ◌<◌, Bool, true, false, not, ◌||◌, Option, Some, None, List, [], length, filter, if◌then◌else◌}
use Rattle.std.specs.Prelude.{slice_get, slice_index_or, option_and_then}
use Rattle.std.specs.Option.{option_map_or}
use Rattle.std.proofs.lemmas.Bool.Decides.{Decides-eqb}
use Rattle.dim_core.specs.Outline.{Outline}
use Rattle.cube_space.specs.Layout.{axes, sizes, dims_of}
use Rattle.cube_space.specs.Cells.{IsSpace, is_leaf}
use Rattle.lists.proofs.Members.{kept_member}
use Rattle.rule_laws.specs.declared.reference.Arg.TheVariants.{Moved}
use Rattle.rule_laws.specs.Maps.{identity}
use Rattle.rule_laws.proofs.MapFacts.{inside}
use Rattle.cover_laws.specs.Looking.{sent}
use Rattle.feed_turn.specs.Leaves.{all_elements, set_leaves}
use Rattle.feed_turn.specs.Named.{is_named, names_each_leaf, named_set}
use Rattle.feed_turn.specs.Turning.{Turn, source_set, is_shared}
use Rattle.feed_turn.proofs.Places.{axis-there, size-at}
use Rattle.feed_turn.proofs.Ranges.{all-passes}
use Rattle.feed_turn.proofs.Shared.{same-axis}
use Rattle.feed_turn.proofs.SourceFacts.{sent-named}

names-each : (d : Outline) (to : List (Option ℕ)) → to ≡ identity (length d.elements) → names_each_leaf d to (set_leaves d None) ≡ true
names-each d to is = all-passes (λ e. not (is_leaf d e) || is_named to (set_leaves d None) e) (length d.elements) (λ e low. by e low (is_leaf d e) refl)
  where
    by : (e : ℕ) → e < length d.elements → (b : Bool) → is_leaf d e ≡ b → (not b || is_named to (set_leaves d None) e) ≡ true
    by e low false off = refl
    by e low true on =
        sent-named to (set_leaves d None) e e (kept_member (is_leaf d) (length d.elements) e low on)
        (ap (λ (map : List (Option ℕ)). sent map e) is ∙ sym (inside (length d.elements) e low))

pub kept-whole : (d : Outline) (to : List (Option ℕ)) → to ≡ identity (length d.elements) → named_set d to (set_leaves d None) ≡ None
unfolding named_set
kept-whole d to is = ap (λ b. if b then None else Some (filter (is_named to (set_leaves d None)) (all_elements d))) (names-each d to is)

-- so the sources of a dimension that is kept, from all its elements, are all
pub whole-source : (turn : Turn) (i j : ℕ) (to : List (Option ℕ)) → IsSpace turn.space → turn.cube < length turn.space.cubes → turn.reference.cube < length turn.space.cubes
    → i < length (axes turn.space turn.cube) → j < length (axes turn.space turn.reference.cube) → is_shared turn i j ≡ true → slice_index_or turn.area.sets i None ≡ None
    → to ≡ identity (length to) → length to ≡ slice_index_or (sizes turn.space turn.cube) i 0 → source_set turn j (Moved i to) ≡ None
whole-source turn i j to valid low less own its shared whole is long =
    let number = (Decides-eqb (slice_index_or (dims_of turn.space turn.cube) i 0) (slice_index_or (dims_of turn.space turn.reference.cube) j 0)).0 shared in
    let same = same-axis turn.space valid turn.cube turn.reference.cube low less i j own its number in
    let (d, at) = axis-there (axes turn.space turn.cube) i own in
    let size = long ∙ size-at (axes turn.space turn.cube) i d at in
    ap (λ (o : Option Outline). option_and_then (λ d. named_set d to (option_map_or (λ d. set_leaves d (slice_index_or turn.area.sets i None)) (slice_get (axes turn.space turn.cube) i) [])) o) (sym same ∙ at)
    ∙ ap (λ (o : Option Outline). named_set d to (option_map_or (λ d. set_leaves d (slice_index_or turn.area.sets i None)) o [])) at
    ∙ ap (λ (set : Option (List ℕ)). named_set d to (set_leaves d set)) whole
    ∙ kept-whole d to (is ∙ ap identity size)
