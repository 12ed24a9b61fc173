-- The statements behind the dimensions.
use Rattle.std.proofs.Common.{◌≡◌, ℕ, List, Ok, refl}
use Rattle.std.specs.List.{All}
use Rattle.cube_lex.specs.Lexed.{IsWellFormed}
use Rattle.cube_lex.specs.Lexeme.{Lexeme}
use Rattle.grammar.specs.Reading.{unit_of, all_of}
use Rattle.grammar.specs.Tokens.{is_word}
use Rattle.grammar.proofs.Many.{Shortens}
use Rattle.model_text.specs.Gathering.{Given}
use Rattle.model_text.specs.Statement.{has_totals}
use Rattle.model_text.specs.Readers.Later.{word_of, read_one, read_all}
use Rattle.model_text.specs.Readers.Reading.{read_cubes, read_scripts}
use Rattle.model_text.specs.declared.statements.LaterSection.{LaterSection}
use Rattle.model_text.specs.declared.statements.LaterSection.TheVariants as sections
use Rattle.model_text.proofs.ModelExact.{cube_exact, cube_shortens, script_exact, script_shortens}
use Rattle.model_text.proofs.Stopping.{rests}

pub all_is : (version : ℕ) (s : LaterSection) → read_all version s ≡ unit_of (all_of (is_word (word_of s)) (read_one version s))
unfolding read_cubes read_scripts
all_is version sections.Cube = refl
all_is version sections.Script = refl

pub one_shortens : (version : ℕ) (s : LaterSection) → Shortens (read_one version s)
one_shortens version sections.Cube = cube_shortens (has_totals version)
one_shortens version sections.Script = script_shortens

pub one_rests : (version : ℕ) (s : LaterSection) (n m : Given) (ts rest : List Lexeme) → read_one version s n ts ≡ Ok (tt, m, rest) → All IsWellFormed ts → All IsWellFormed rest
one_rests version sections.Cube n m ts rest read tokens = rests (cube_exact (has_totals version)) n ts tt m rest read tokens
one_rests version sections.Script n m ts rest read tokens = rests script_exact n ts tt m rest read tokens
