use Rattle.std.proofs.Common.{◌≤◌, ℕ, List, codes, length}
use Rattle.cube_lex.specs.declared.position.Position.{Position}
use Rattle.grammar.specs.Reading.{all_of}
use Rattle.grammar.specs.Tokens.{is_sign}
use Rattle.grammar.proofs.Loops.{Going}
use Rattle.model_text.specs.Statement.{Piece}
use Rattle.model_text.specs.Gathering.{CubeOpen, at}
use Rattle.model_text.specs.Readers.Reading.{gather, read_dimension_behind}
use Rattle.model_text.proofs.cubes.further_dimensions.Given as goal

abbrev pub invariant-dimension : goal.invariant-dimension
invariant-dimension l = ((word_place : Position) (cube : List ℕ) → (front : List Piece)
    × Going (is_sign (codes ",")) (gather (read_dimension_behind (codes ","))) front (at l.partial (CubeOpen word_place cube l.dims.items)) l.cursor.tokens (all_of (is_sign (codes ",")) (gather (read_dimension_behind (codes ","))) (at l.partial (CubeOpen word_place cube l.fn.dims.items)) l.fn.cursor.tokens))
    × (length l.fn.dims.items ≤ length l.dims.items)

abbrev pub decreases-dimension : goal.decreases-dimension
decreases-dimension l = length l.cursor.tokens
