-- The list of notes.
use Rattle.std.specs.Prelude.{ℕ, true, false, List, [], ◌++◌, length, slice_get}
use Rattle.std.specs.List.{flat_map, range_with_len}
use Rattle.std.specs.Option.{option_map_or}
use Rattle.rule_model.specs.declared.rules.Statement.{Statement}
use Rattle.rule_model.specs.BoundModel.{BoundModel, rules_of}
use Rattle.rule_notes.specs.declared.note.Note.{Note}
use Rattle.rule_notes.specs.Inside.Reached.{reach_notes}
use Rattle.rule_notes.specs.Inside.Named.{nameless_of}

-- those of a statement at a place of a cube
abbrev pub statement_notes : BoundModel → ℕ → ℕ → Statement → List Note
statement_notes m cube place s =
    (reach_notes m cube place s true ++ reach_notes m cube place s false) ++ nameless_of m cube place s

abbrev pub notes_at : BoundModel → ℕ → ℕ → List Note
notes_at m cube place =
    option_map_or (statement_notes m cube place) (slice_get (rules_of m cube).statements place) []

-- those of a cube
unfoldable pub cube_notes : BoundModel → ℕ → List Note
cube_notes m cube = flat_map (notes_at m cube) (range_with_len 0 (length (rules_of m cube).statements))
