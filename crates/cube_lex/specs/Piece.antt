-- Tokens that are to be written.
use Rattle.std.specs.Prelude.{◌≤◌, length, IsTrue, decimal}
use Rattle.cube_lex.specs.Parts.{IsWord, IsNumber, is_sign, most_token_bytes}
use Rattle.cube_lex.specs.Written.{Spelling, word_token, number_token, sign_token, text_token, IsQuotable}
use Rattle.cube_lex.specs.declared.pieces.Piece.{Piece}
use Rattle.cube_lex.specs.declared.pieces.Piece.TheVariants as pieces

abbrev pub token_of : Piece → Spelling
token_of (pieces.Word word) = word_token word.now
token_of (pieces.Number digits) = number_token digits.now
token_of (pieces.Whole n) = number_token (decimal n)
token_of (pieces.Sign sign) = sign_token sign.now
token_of (pieces.Quoted bytes) = text_token bytes.now

-- it is a token of its kind
abbrev pub CanBeWritten : Piece → Type 0
CanBeWritten (pieces.Word word) = IsWord word.now × (length word.now ≤ most_token_bytes)
CanBeWritten (pieces.Number digits) = IsNumber digits.now × (length digits.now ≤ most_token_bytes)
CanBeWritten (pieces.Whole n) = Unit {0}
CanBeWritten (pieces.Sign sign) = IsTrue (is_sign sign.now)
CanBeWritten (pieces.Quoted bytes) = IsQuotable bytes.now
