-- A choice by the next two tokens.
use Rattle.std.specs.Prelude.{Bool, false, ◌&&◌, List, [], ◌∷◌, if◌then◌else◌}
use Rattle.cube_lex.specs.Lexeme.{Lexeme}
use Rattle.grammar.specs.Reading.{starts}
use Rattle.expression_grammar.specs.Readers.Reading.{Reads}

-- whether the next token is one of these, and the one behind it one of those
abbrev pub starts_pair : (Lexeme → Bool) → (Lexeme → Bool) → List Lexeme → Bool
starts_pair p q [] = false
starts_pair p q (t ∷ ts) = p t && starts q ts

abbrev pub choose_pair : {R C A : Type 0} → (Lexeme → Bool) → (Lexeme → Bool) → Reads R C A → Reads R C A → Reads R C A
choose_pair p q P Q s ts = if starts_pair p q ts then P s ts else Q s ts
