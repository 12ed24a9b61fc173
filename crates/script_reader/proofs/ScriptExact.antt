-- The reader of load scripts is exact.
use Rattle.grammar.specs.Tokens.{is_any_word}
use Rattle.grammar.proofs.Exact.{Exact, Not, exact_made, exact_by}
use Rattle.script_tree.specs.Counting.{counting}
use Rattle.script_tree.specs.ScriptText.{script}
use Rattle.script_reader.specs.Readers.TextReading.{gathered, read_script}
use Rattle.script_reader.proofs.PiecesExact.{pieces_exact}
use Rattle.script_reader.proofs.Sections.{script_of_pieces, pieces_of_script}

pub script_exact : Exact counting script script read_script (Not is_any_word)
unfolding read_script
script_exact = exact_by script_of_pieces pieces_of_script (exact_made (λ list. gathered list) pieces_exact)
