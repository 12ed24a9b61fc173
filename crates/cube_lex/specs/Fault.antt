-- Where a text can't be read on.
use Rattle.std.specs.Prelude.{◌≡◌, ℕ, ◌+◌, ◌<◌, ◌⊎◌, IsTrue, IsFalse, List, [], ◌∷◌, ◌++◌, length, Option, Some, None}
use Rattle.std.specs.List.{list_all}
use Rattle.cube_lex.specs.Bytes.{Begins, is_quote, is_plain}
use Rattle.cube_lex.specs.Quoted.{doubled}
use Rattle.cube_lex.specs.Parts.{IsSpace, IsComment, IsToken, Stands, most_token_bytes}
use Rattle.cube_lex.specs.declared.token.Kind.{Kind}
use Rattle.cube_lex.specs.declared.fault.LexFault.{LexFault}
use Rattle.cube_lex.specs.declared.fault.LexFault.TheVariants.{BadByte, OpenQuote, TooLong, Memory}

-- white space, a comment or a token
abbrev pub BeginsPart : List ℕ → Type 0
BeginsPart rest =
    (bytes after : List ℕ) × (rest ≡ bytes ++ after) × (IsSpace bytes ⊎ IsComment bytes ⊎ ((kind : Kind)
    × IsToken kind bytes))

-- There is a byte, and no part and no quoted text begins with it.
pub record BeginsNothing (rest : List ℕ) : Type 0 where
  pub some : 0 < length rest
  pub no_part : ¬ BeginsPart rest
  pub no_quote : ¬ Begins is_quote rest

-- a quote, bytes that may stand behind it with each quote doubled, and then what follows
pub record OpensQuote (rest inside after : List ℕ) : Type 0 where
  pub plain : IsTrue (list_all is_plain inside)
  pub is : rest ≡ 39 ∷ doubled inside ++ after

-- a quoted text with a forbidden byte before its end, which has so many bytes before it
pub record HasForbiddenByte (rest : List ℕ) (len : ℕ) : Type 0 where
  pub inside : List ℕ
  pub bad : ℕ
  pub after : List ℕ
  pub opens : OpensQuote rest inside (bad ∷ after)
  pub forbidden : IsFalse (is_plain bad)
  pub before : len ≡ 1 + length (doubled inside)

-- a quoted text that is still open at the text's end
pub record IsOpenQuote (rest : List ℕ) : Type 0 where
  pub inside : List ℕ
  pub opens : OpensQuote rest inside []

-- a token of too many bytes
pub record BeginsLongToken (rest : List ℕ) : Type 0 where
  pub kind : Kind
  pub piece : List ℕ
  pub after : List ℕ
  pub split : rest ≡ piece ++ after
  pub stands : Stands kind piece after
  pub long : most_token_bytes < length piece

-- The rest of a text, which begins at the offset `at`, begins with no part, for this cause; with none, the text is at
-- its end.
abbrev pub Stops : ℕ → List ℕ → Option LexFault → Type 0
Stops at rest None = rest ≡ []
Stops at rest (Some (BadByte place)) =
    (BeginsNothing rest × (place ≡ at)) ⊎ ((len : ℕ) × HasForbiddenByte rest len × (place ≡ at + len))
Stops at rest (Some (OpenQuote place)) = IsOpenQuote rest × (place ≡ at)
Stops at rest (Some (TooLong place)) = BeginsLongToken rest × (place ≡ at)
Stops at rest (Some Memory) = ⊥

-- the offset of a fault in a text, or of the text's end
abbrev pub place_of : List ℕ → Option LexFault → ℕ
place_of text None = length text
place_of text (Some (BadByte place)) = place
place_of text (Some (OpenQuote place)) = place
place_of text (Some (TooLong place)) = place
place_of text (Some Memory) = 0
