use Rattle.std.proofs.Common.{List, length}
use Rattle.grammar.proofs.Loops.{Going}
use Rattle.dim_text.specs.Statement.{Statement}
use Rattle.dim_text.specs.Readers.Reading.{built, read_element, read_every_element, is_element_word}
use Rattle.dim_text.proofs.block.elements_at.Given as goal

abbrev pub invariant-element : goal.invariant-element
invariant-element l = (front : List Statement) × Going is_element_word (built read_element) front l.block l.cursor.tokens (read_every_element l.fn.block l.fn.cursor.tokens)

abbrev pub decreases-element : goal.decreases-element
decreases-element l = length l.cursor.tokens
