-- How a model text is watched: piece by piece, and the body of a dimension statement by statement.
use Rattle.std.specs.Prelude.{◌≡◌, List, [], ◌∷◌, ◌++◌, Option, Some, None, Result, Ok, Err, ◌⊎◌}
use Rattle.cube_lex.specs.Lexeme.{Lexeme}
use Rattle.grammar.specs.Grammar.{Alive}
use Rattle.grammar.specs.Watch.{Watch, Passes, Within, Refuses, each_text}
use Rattle.dim_text.specs.Progress.{Progress}
use Rattle.dim_text.specs.Statement.{body}
use Rattle.dim_text.specs.Building.{building, opened}
use Rattle.dim_text.specs.declared.fault.Refusal.{Refusal}
use Rattle.model_text.specs.Statement.{Piece, piece}
use Rattle.model_text.specs.Gathering.{Current, Nothing, DimensionBody, Parts, Given, at, with_name, gathered}
use Rattle.model_text.specs.declared.fault.ModelTextFault.{ModelTextFault}
use Rattle.model_text.specs.declared.fault.ModelTextCause.TheVariants as causes

-- what has been read: the blocks of the dimensions as they were built, and the rest
pub record Seen : Type 0 where
  pub blocks : List Progress
  pub given : Given

abbrev pub no_parts : Parts
no_parts = record { version = 0; names = []; cubes = []; scripts = [] }

abbrev pub nothing_seen : Seen
nothing_seen = record { blocks = []; given = at no_parts Nothing }

abbrev pub with_given : Seen → Given → Seen
with_given s given = record s { given = given }

abbrev pub added : Seen → Result Given ModelTextFault → Result Seen ModelTextFault
added s (Ok given) = Ok (with_given s given)
added s (Err fault) = Err fault

abbrev pub add : Seen → Piece → Result Seen ModelTextFault
add s p = added s (gathered s.given p)

-- the body of a dimension begins with its head built, where the head has been read
abbrev pub head_of : Current → Option Progress
head_of (DimensionBody place shown) = Some (opened place shown)
head_of other = None

abbrev pub with_name_of : Parts → Current → Parts
with_name_of parts (DimensionBody place shown) = with_name parts shown
with_name_of parts other = parts

-- behind the block of a dimension
abbrev pub with_block : Seen → Progress → Seen
with_block s block = record {
  blocks = s.blocks ++ block ∷ [];
  given = at (with_name_of s.given.parts s.given.current) Nothing;
}

abbrev pub of_block : Refusal → ModelTextFault
of_block refusal = record { at = refusal.at; cause = causes.Dim refusal.fault }

-- a whole body, whose statements build this
pub record BodyPasses (s : Seen) (u : List Lexeme) (t : Seen) : Type 0 where
  pub start : Progress
  pub block : Progress
  pub head : head_of s.given.current ≡ Some start
  pub text : body u tt
  pub built : Passes building start u block
  pub next : t ≡ with_block s block

-- the beginning of a body, of which no statement is refused
pub record BodyBegins (s : Seen) (u : List Lexeme) : Type 0 where
  pub start : Progress
  pub next : Lexeme
  pub more : List Lexeme
  pub head : head_of s.given.current ≡ Some start
  pub text : body (u ++ next ∷ more) tt
  pub within : Within building start u

-- the beginning of a body, whose last token ends the first statement that is refused
pub record BodyRefused (s : Seen) (u : List Lexeme) (fault : ModelTextFault) : Type 0 where
  pub start : Progress
  pub refusal : Refusal
  pub head : head_of s.given.current ≡ Some start
  pub alive : Alive body u
  pub refused : Refuses building start u refusal
  pub is : fault ≡ of_block refusal

-- outside of bodies each piece is watched, and a body is a piece that is watched statement by statement
abbrev pub watching : Watch Lexeme Seen ModelTextFault
watching = record {
  passes = λ s u t. (each_text piece add).passes s u t ⊎ BodyPasses s u t;
  begins = λ s u. (each_text piece add).begins s u ⊎ BodyBegins s u;
  refuses = λ s u fault. (each_text piece add).refuses s u fault ⊎ BodyRefused s u fault;
}
