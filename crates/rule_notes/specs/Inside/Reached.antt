-- The first statement that takes all cells of an area.
use Rattle.std.specs.Prelude.{ℕ, ◌+◌, Bool, false, ◌&&◌, Option, List, [], ◌∷◌}
use Rattle.std.specs.Prelude.{slice_get, is_some, if◌then◌else◌}
use Rattle.std.specs.List.{find, range_with_len}
use Rattle.std.specs.Option.{option_map_or}
use Rattle.rule_model.specs.declared.area.Area.{Area}
use Rattle.rule_model.specs.declared.rules.Statement.{Statement}
use Rattle.rule_model.specs.BoundModel.{BoundModel, rules_of}
use Rattle.rule_model.specs.Inside.Parts.{part_of_kind}
use Rattle.rule_notes.specs.declared.note.Note.{Note}
use Rattle.rule_notes.specs.declared.note.Note.TheVariants.{NotReached}
use Rattle.rule_notes.specs.Reached.{is_final}
use Rattle.rule_notes.specs.Inside.Areas.{has_area}

-- whether a statement takes all cells of this kind of an area
abbrev pub takes_all : BoundModel → ℕ → Bool → Area → Statement → Bool
takes_all m cube kind area by = is_final (part_of_kind by kind) && has_area m.space cube by.area area

-- the same of the statement at a place
abbrev pub takes : BoundModel → ℕ → Bool → Area → ℕ → Bool
takes m cube kind area place =
    option_map_or (takes_all m cube kind area) (slice_get (rules_of m cube).statements place) false

-- the first of so many statements that does
abbrev pub first_taker : BoundModel → ℕ → Bool → Area → ℕ → Option ℕ
first_taker m cube kind area count = find (takes m cube kind area) (range_with_len 0 count)

-- the note that the part of the statement at a place isn't reached, if so
abbrev pub taken_notes : ℕ → ℕ → Bool → Option ℕ → List Note
taken_notes cube place kind taker = option_map_or (λ by. NotReached cube (place + 1) kind (by + 1) ∷ []) taker []

abbrev pub reach_notes : BoundModel → ℕ → ℕ → Statement → Bool → List Note
reach_notes m cube place s kind = if is_some (part_of_kind s kind)
    then taken_notes cube place kind (first_taker m cube kind s.area place) else []
