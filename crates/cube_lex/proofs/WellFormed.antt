-- Each token of a reading is one of its kind, and isn't too long.
use Rattle.std.proofs.Common.{◌≡◌, ℕ, ◌+◌, true, false, List, [], ◌∷◌, length, drop, All, Option, Some, None, Result, Ok, Err, IfOk, refl, sym, subst, leb}
use Rattle.std.proofs.lemmas.Bool.{leb-true, leb-false}
use Rattle.std.proofs.lemmas.List.Elements.{All-nil, All-cons}
use Rattle.std.specs.List.{cons_option}
use Rattle.cube_lex.specs.Lexed.{Lexed, IsWellFormed}
use Rattle.cube_lex.specs.Lexeme.{Lexeme}
use Rattle.cube_lex.specs.Parts.{Part, Divides, IsPart, IsToken, Stands}
use Rattle.cube_lex.specs.Reading.{mark_len, lexeme_at, lexemes_among, IsRead, IsReading, most_text_bytes}
use Rattle.cube_lex.specs.declared.fault.LexFault.{LexFault}
use Rattle.cube_lex.specs.declared.token.Kind.{Kind}
use Rattle.cube_lex.specs.declared.token.Kind.TheVariants.{Word, Number, Text, Sign}

stands_token : (kind : Kind) (bytes after : List ℕ) → Stands kind bytes after → IsToken kind bytes
stands_token Word bytes after is = is.0
stands_token Number bytes after is = is.0
stands_token Text bytes after is = is.0
stands_token Sign bytes after is = is.0

onto_formed : (text : List ℕ) (at : ℕ) (kind : Option Kind) (bytes after : List ℕ) (more : List Lexeme) → IsPart kind bytes after → All IsWellFormed more → All IsWellFormed (cons_option (lexeme_at text at (record { kind = kind; bytes = bytes })) more)
onto_formed text at None bytes after more is rest = rest
onto_formed text at (Some kind) bytes after more is rest = All-cons IsWellFormed _ more (stands_token kind bytes after is.0, is.1) rest

pub among_formed : (text : List ℕ) (at : ℕ) (parts : List Part) (body rest : List ℕ) → Divides body parts rest → All IsWellFormed (lexemes_among text at parts)
among_formed text at [] body rest divided = All-nil IsWellFormed
among_formed text at (part ∷ parts) body rest (after, is, whole, divided) =
    onto_formed text at part.kind part.bytes after (lexemes_among text (at + length part.bytes) parts) whole (among_formed text (at + length part.bytes) parts after rest divided)

read_formed : (text : List ℕ) (tokens : List Lexeme) (fault : Option LexFault) → IsRead text tokens fault → All IsWellFormed tokens
read_formed text tokens fault (parts, rest, divided, is, stops) = subst (All IsWellFormed) (sym is) (among_formed text (mark_len text) parts (drop (mark_len text) text) rest divided)

-- what is read can be written
pub well_formed : (text : List ℕ) (lexed : Lexed) (fault : Option LexFault) → IsReading text lexed fault → All IsWellFormed lexed.lexemes
well_formed text lexed fault is = elim (leb (length text) most_text_bytes) as (λ small. leb (length text) most_text_bytes ≡ small → All IsWellFormed lexed.lexemes) [
  | true ↦ λ e. read_formed text lexed.lexemes fault (is.within (leb-true (length text) most_text_bytes e))
  | false ↦ λ e. subst (All IsWellFormed) (sym (is.oversize (leb-false (length text) most_text_bytes e)).0) (All-nil IsWellFormed)
] refl

-- so what was read, where it was read, can be written
pub answer_formed : {E : Type 0} (text : List ℕ) (answer : Result (Lexed × Option LexFault) E) → IfOk answer (λ read. IsReading text read.0 read.1) → IfOk answer (λ read. All IsWellFormed read.0.lexemes)
answer_formed text (Ok read) found = well_formed text read.0 read.1 found
answer_formed text (Err e) found = tt
