use Rattle.std.proofs.Common.{◌≡◌, List, [], codes, length}
use Rattle.std.specs.List.{All, AllZip}
use Rattle.cube_lex.specs.Lexed.{IsWellFormed}
use Rattle.grammar.specs.Reading.{all_of}
use Rattle.grammar.specs.Tokens.{is_word}
use Rattle.grammar.proofs.Loops.{Going}
use Rattle.dim_text.specs.Progress.{Progress, IsBuilt}
use Rattle.model_text.specs.Contents.{dimension_names}
use Rattle.model_text.specs.Readers.Reading.{read_dimension}
use Rattle.model_text.specs.Readers.Views.{seen}
use Rattle.model_text.proofs.dimensions.dimensions_at.Given as goal

abbrev pub invariant-dimension : goal.invariant-dimension
invariant-dimension l = (front : List (Unit {0})) × (blocks : List Progress)
    × Going (is_word (codes "DIM")) read_dimension front (seen blocks l.partial) l.cursor.tokens (all_of (is_word (codes "DIM")) read_dimension (seen [] l.fn.partial) l.fn.cursor.tokens)
    × AllZip IsBuilt l.dims.items blocks
    × (l.partial ≡ record l.fn.partial { names = dimension_names l.dims.items })
    × All IsWellFormed l.cursor.tokens

abbrev pub decreases-dimension : goal.decreases-dimension
decreases-dimension l = length l.cursor.tokens
