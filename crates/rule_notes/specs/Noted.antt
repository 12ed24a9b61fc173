-- What is accepted in a model and hardly ever meant: which notes there are, and their list.
use Rattle.std.specs.Prelude.{List}
use Rattle.std.specs.List.{flat_map}
use Rattle.rule_model.specs.BoundModel.{BoundModel}
use Rattle.rule_model.specs.System.{cubes_of}
use Rattle.rule_notes.specs.declared.note.Note.{Note}
use Rattle.rule_notes.specs.declared.note.Note.TheVariants.{NotReached, NamesNothing}
use Rattle.rule_notes.specs.Reached.{IsNotReached}
use Rattle.rule_notes.specs.Named.{IsNameless}
use Rattle.rule_notes.specs.Inside.Listed.{cube_notes}

-- a note that says what is so of the model
abbrev pub IsNote : BoundModel → Note → Type 0
IsNote m (NotReached cube statement leaf by) = IsNotReached m cube statement leaf by
IsNote m (NamesNothing cube statement reference) = IsNameless m cube statement reference

-- these notes, cube by cube and statement by statement
unfoldable pub notes_of : BoundModel → List Note
notes_of m = flat_map (cube_notes m) (cubes_of m)
