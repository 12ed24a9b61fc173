-- The feeders that are found for a model, and the references that can't be turned round.
use Rattle.std.specs.Prelude.{ℕ, suc, ◌==◌, nat_eq, Bool, true, false, ◌&&◌, if◌then◌else◌, Option, Some, None}
use Rattle.std.specs.Prelude.{List, [], fold, map, length, slice_get, slice_index_or}
use Rattle.std.specs.List.{flat_map, filter_map, range_with_len}
use Rattle.std.specs.Option.{option_map_or, option_eq}
use Rattle.std.specs.Cmp.Lexicographic.{pointwise}
use Rattle.lists.specs.Keys.{insert_key}
use Rattle.rule_laws.specs.declared.reference.Reference.{Reference}
use Rattle.rule_laws.specs.declared.reference.Arg.{Arg}
use Rattle.rule_laws.specs.declared.reference.Arg.TheVariants.{Fixed, Moved}
use Rattle.rule_model.specs.declared.area.Area.{Area}
use Rattle.rule_model.specs.declared.rules.Form.{Form}
use Rattle.rule_model.specs.declared.rules.Form.TheVariants.{Both, LeafFirst, ConsFirst}
use Rattle.rule_model.specs.declared.rules.Statement.{Statement}
use Rattle.rule_model.specs.BoundModel.{BoundModel, rules_of}
use Rattle.rule_model.specs.Conditions.{read_count}
use Rattle.rule_model.specs.System.{cubes_of}
use Rattle.feed_find.specs.declared.chosen.Chosen.{Chosen}
use Rattle.feed_find.specs.declared.chosen.Chosen.TheVariants as outcomes
use Rattle.feed_find.specs.declared.chosen.FoundFeeder.{FoundFeeder}
use Rattle.feed_find.specs.declared.unturned.Unturned.{Unturned}
use Rattle.feed_find.specs.Choosing.{choice, need}

-- ---- what is chosen

-- how many references of a statement are counted before those of its N part
abbrev pub counted_before : Form → Statement → ℕ
counted_before Both s = 0
counted_before LeafFirst s = 0
counted_before ConsFirst s = read_count s.cons

-- the references that are chosen of the N part of a statement of a cube
unfoldable pub chosen_of : BoundModel → ℕ → Statement → List Chosen
chosen_of m cube s =
    option_map_or (λ f. (need (choice m cube s.area) f (counted_before s.form s)).chosen) s.leaf []

-- one of them, with its cube and the number of its statement, from 1
pub record Picked : Type 0 where
  pub cube : ℕ
  pub statement : ℕ
  pub chosen : Chosen

-- those of the statement at a place of a cube
abbrev pub picked_at : BoundModel → ℕ → ℕ → List Picked
picked_at m cube place =
    option_map_or (λ s. map (λ chosen. record { cube = cube; statement = suc place; chosen = chosen })
    (chosen_of m cube s)) (slice_get (rules_of m cube).statements place) []

-- those of a cube, if feeders are found for it
unfoldable pub picked_in : BoundModel → ℕ → List Picked
picked_in m cube = flat_map (picked_at m cube) (range_with_len 0 (length (rules_of m cube).statements))

abbrev pub picked_if : BoundModel → List Bool → ℕ → List Picked
picked_if m auto cube = if slice_index_or auto cube false then picked_in m cube else []

-- those of the model, cube by cube, statement by statement, in reading order. The list says for which cubes feeders are
-- found
unfoldable pub all_picked : BoundModel → List Bool → List Picked
all_picked m auto = flat_map (picked_if m auto) (cubes_of m)

-- ---- what is found

abbrev pub same_arg : Arg → Arg → Bool
same_arg (Fixed element) (Fixed other) = element == other
same_arg (Fixed element) (Moved from to) = false
same_arg (Moved from to) (Fixed element) = false
same_arg (Moved from to) (Moved other its) = (from == other) && pointwise (option_eq nat_eq) to its

abbrev pub same_reference : Reference → Reference → Bool
same_reference r other = (r.cube == other.cube) && pointwise same_arg r.args other.args

abbrev pub same_area : Area → Area → Bool
same_area area other = pointwise (option_eq (pointwise nat_eq)) area.sets other.sets

-- whether two feeders of cubes are the same
abbrev pub same_found : FoundFeeder → FoundFeeder → Bool
same_found one other = (one.cube == other.cube)
    && (same_reference one.feeder.target other.feeder.target && same_area one.feeder.area other.feeder.area)

abbrev pub feeder_from : Chosen → Option FoundFeeder
feeder_from (outcomes.Found feeder) = Some feeder
feeder_from (outcomes.Unturned reference) = None

abbrev pub unturned_from : ℕ → ℕ → Chosen → Option Unturned
unturned_from cube statement (outcomes.Found feeder) = None
unturned_from cube statement (outcomes.Unturned reference) =
    Some (record { cube = cube; statement = statement; reference = reference })

abbrev pub feeder_of : Picked → Option FoundFeeder
feeder_of picked = feeder_from picked.chosen

abbrev pub unturned_of : Picked → Option Unturned
unturned_of picked = unturned_from picked.cube picked.statement picked.chosen

-- feeders in the order in which they came, equal ones once
abbrev pub each_once : List FoundFeeder → List FoundFeeder
each_once = fold (insert_key same_found) []

-- the feeders that are found for these cubes of a model
abbrev pub found_feeders : BoundModel → List Bool → List FoundFeeder
found_feeders m auto = each_once (filter_map feeder_of (all_picked m auto))

-- the chosen references that can't be turned round
abbrev pub all_unturned : BoundModel → List Bool → List Unturned
all_unturned m auto = filter_map unturned_of (all_picked m auto)
