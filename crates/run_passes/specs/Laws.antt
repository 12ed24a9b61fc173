-- What the law of this crate says.
use Rattle.std.specs.Prelude.{ℕ, List, Option, ◌↔◌}
use Rattle.cube_lex.specs.Lexed.{Lexed}
use Rattle.cube_lex.specs.Reading.{IsReading}
use Rattle.cube_lex.specs.declared.fault.LexFault.{LexFault}
use Rattle.cube_outside.specs.Extents.{part_of}
use Rattle.run_passes.specs.RefusalOrder.{as_text}

-- a text and what a run reads of it have the same tokens, and the same first fault or none
abbrev pub FrontsReadAlike : Type 0
FrontsReadAlike =
    (text : List ℕ) (lexed : Lexed) (fault : Option LexFault)
    → IsReading text lexed fault ↔ IsReading (part_of as_text text) lexed fault
