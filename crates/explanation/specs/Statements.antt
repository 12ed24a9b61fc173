-- Where the statements and the feeders of a rule text stand, and the references and operands in them.
use Rattle.std.specs.Prelude.{ℕ, ◌-◌, ◌==◌, Bool, false, ◌&&◌, ◌||◌, List, [], ◌∷◌}
use Rattle.std.specs.Prelude.{Result, Ok, Err, codes, slice_index_or, if◌then◌else◌}
use Rattle.std.specs.List.{list_any}
use Rattle.cube_lex.specs.Lexeme.{Lexeme}
use Rattle.grammar.specs.Reading.{starts}
use Rattle.grammar.specs.Tokens.{is_sign, is_word, is_number, is_text}
use Rattle.file_passes.specs.declared.refusal.FilePlace.{FilePlace}
use Rattle.file_passes.specs.declared.refusal.FilePlace.TheVariants.{Text, Statement, Feeder}
use Rattle.rule_tree.specs.Counting.{count, start}
use Rattle.rule_tree.specs.declared.counted.Counted.{Counted}
use Rattle.rule_tree.specs.declared.excess.Excess.{Excess}

-- that statement or feeder, by its number, is the last one that was counted
abbrev pub is_counted : FilePlace → Counted → Bool
is_counted (Text place) counted = false
is_counted (Statement statement) counted = counted.statements == statement
is_counted (Feeder feeder) counted = counted.feeders == feeder

-- these tokens, where that statement or feeder is counted with the first, or else what is found behind it
abbrev pub tokens_or : FilePlace → List Lexeme → (Counted → List Lexeme) → Result Counted Excess → List Lexeme
tokens_or place tokens behind (Ok counted) = if is_counted place counted then tokens else behind counted
tokens_or place tokens behind (Err excess) = []

-- the tokens from the first one on with which that statement or feeder is counted
abbrev pub counted_tokens : FilePlace → Counted → List Lexeme → List Lexeme
counted_tokens place counted [] = []
counted_tokens place counted (token ∷ tokens) =
    tokens_or place (token ∷ tokens) (λ more. counted_tokens place more tokens) (count counted token)

-- the tokens of a rule text from the beginning of that statement or feeder on
abbrev pub tokens_from : FilePlace → List Lexeme → List Lexeme
tokens_from place tokens = counted_tokens place start tokens

-- what follows the first such sign
abbrev pub behind : List ℕ → List Lexeme → List Lexeme
behind sign [] = []
behind sign (token ∷ tokens) = if is_sign sign token then tokens else behind sign tokens

-- a word that `(` follows
abbrev pub is_called : List ℕ → Lexeme → List Lexeme → Bool
is_called name token next = is_word name token && starts (is_sign (codes "(")) next

-- a bracket, `DB` or `CONSOLIDATECHILDREN`
abbrev pub begins_reference : Lexeme → List Lexeme → Bool
begins_reference token next =
    is_sign (codes "[") token || is_called (codes "DB") token next
    || is_called (codes "CONSOLIDATECHILDREN") token next

-- of each reference, the tokens from its first one on
abbrev pub references : List Lexeme → List (List Lexeme)
references [] = []
references (token ∷ tokens) =
    if begins_reference token tokens then (token ∷ tokens) ∷ references tokens else references tokens

-- the tokens from the reference of this number on, from 1, of the statement that begins these tokens
abbrev pub reference_tokens : ℕ → List Lexeme → List Lexeme
reference_tokens number tokens = slice_index_or (references (behind (codes "=") tokens)) (number - 1) []
