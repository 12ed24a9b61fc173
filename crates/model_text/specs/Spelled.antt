-- How a model text is written, token by token. Places aren't written.
use Rattle.std.specs.Prelude.{ℕ, Bool, true, false, List, [], ◌∷◌, ◌++◌, get_or, Option, Some, None, codes}
use Rattle.std.specs.List.{flat_map}
use Rattle.cube_lex.specs.Written.{Spelling}
use Rattle.dim_core.specs.Written.{written}
use Rattle.dim_text.specs.Progress.{Text}
use Rattle.cube_lex.specs.Written.{word_token, sign_token, text_token}
use Rattle.cube_lex.specs.declared.position.Position.{Position}
use Rattle.dim_text.specs.Spelled.{whole_token, draft_spelled}
use Rattle.model_text.specs.Contents.{Contents, dimension_names}
use Rattle.model_text.specs.declared.order.OrderLine.{OrderLine}
use Rattle.model_text.specs.declared.order.OrderWord.{OrderWord}
use Rattle.model_text.specs.declared.order.OrderWord.TheVariants as words
use Rattle.model_text.specs.declared.parts.CubeText.{CubeText}
use Rattle.model_text.specs.declared.parts.ScriptText.{ScriptText}

abbrev pub opening_spelled : ℕ → List Spelling
opening_spelled version = word_token (codes "MODEL") ∷ whole_token version ∷ sign_token (codes ";") ∷ []

-- Dimensions.

abbrev pub dim_spelled : Text → List Spelling
dim_spelled text = draft_spelled (written text.dimension)

-- Cubes.

abbrev pub cube_head_spelled : List ℕ → List Spelling
cube_head_spelled shown = word_token (codes "CUBE") ∷ text_token shown ∷ []

-- the name of a dimension behind a sign
abbrev pub dimension_spelled : List ℕ → List ℕ → List Spelling
dimension_spelled sign shown = sign_token sign ∷ text_token shown ∷ []

-- a further dimension of a cube, by its number, where the dimensions have these names
abbrev pub next_dimension_spelled : List (List ℕ) → ℕ → List Spelling
next_dimension_spelled names number = dimension_spelled (codes ",") (get_or names number [])

abbrev pub cube_dimensions_spelled : List (List ℕ) → List ℕ → List Spelling
cube_dimensions_spelled names [] = []
cube_dimensions_spelled names (first ∷ rest) =
    dimension_spelled (codes "(") (get_or names first []) ++ flat_map (next_dimension_spelled names) rest

abbrev pub rules_spelled : Option (Position × List ℕ) → List Spelling
rules_spelled None = []
rules_spelled (Some rules) = word_token (codes "RULES") ∷ text_token rules.1 ∷ sign_token (codes ";") ∷ []

abbrev pub rank_spelled : List ℕ × ℕ → List Spelling
rank_spelled rank = text_token rank.0 ∷ whole_token rank.1 ∷ []

abbrev pub next_rank_spelled : List ℕ × ℕ → List Spelling
next_rank_spelled rank = sign_token (codes ",") ∷ rank_spelled rank

abbrev pub ranks_spelled : List (List ℕ × ℕ) → List Spelling
ranks_spelled [] = []
ranks_spelled (first ∷ rest) = rank_spelled first ++ flat_map next_rank_spelled rest

-- ranks in parentheses
abbrev pub list_spelled : List (List ℕ × ℕ) → List Spelling
list_spelled list = sign_token (codes "(") ∷ (ranks_spelled list ++ sign_token (codes ")") ∷ [])

-- what may stand behind `AUTO`
abbrev pub totals_spelled : Bool → List Spelling
totals_spelled false = []
totals_spelled true = word_token (codes "TOTALS") ∷ []

abbrev pub lag_spelled : Option (List ℕ) → List Spelling
lag_spelled None = []
lag_spelled (Some shown) = text_token shown ∷ []

abbrev pub position_spelled : OrderWord → List Spelling
position_spelled (words.Constant n) = whole_token n ∷ []
position_spelled (words.Index shown) = text_token shown ∷ []
position_spelled (words.Ranks shown list) = text_token shown ∷ list_spelled list
position_spelled (words.RanksByKind shown leaves totals) =
    text_token shown ∷ (list_spelled leaves ++ word_token (codes "TOTALS") ∷ list_spelled totals)
position_spelled words.Totals = word_token (codes "TOTALS") ∷ []
position_spelled (words.Auto totals lag) = word_token (codes "AUTO") ∷ (totals_spelled totals ++ lag_spelled lag)

abbrev pub next_position_spelled : OrderWord → List Spelling
next_position_spelled position = sign_token (codes ",") ∷ position_spelled position

abbrev pub positions_spelled : List OrderWord → List Spelling
positions_spelled [] = []
positions_spelled (first ∷ rest) = position_spelled first ++ flat_map next_position_spelled rest

abbrev pub order_spelled : Option (Position × OrderLine) → List Spelling
order_spelled None = []
order_spelled (Some order) =
    word_token (codes "ORDER") ∷ (positions_spelled order.1.words ++ sign_token (codes ";") ∷ [])

abbrev pub ending_spelled : List Spelling
ending_spelled = word_token (codes "END") ∷ sign_token (codes ";") ∷ []

abbrev pub cube_end_spelled : Option (Position × List ℕ) → Option (Position × OrderLine) → List Spelling
cube_end_spelled rules order =
    sign_token (codes ")") ∷ sign_token (codes ";") ∷ (rules_spelled rules ++ (order_spelled order ++ ending_spelled))

-- a cube, where the dimensions have these names
abbrev pub cube_spelled : List (List ℕ) → CubeText → List Spelling
cube_spelled names cube =
    cube_head_spelled cube.name ++ (cube_dimensions_spelled names cube.dims ++ cube_end_spelled cube.rules cube.order)

-- Scripts.

abbrev pub script_spelled : ScriptText → List Spelling
script_spelled script =
    word_token (codes "SCRIPT") ∷ text_token script.name ∷ text_token script.file ∷ sign_token (codes ";") ∷ []

-- a text with these contents
abbrev pub contents_spelled : Contents → List Spelling
contents_spelled contents =
    opening_spelled contents.version
    ++ (flat_map dim_spelled contents.dims
    ++ (flat_map (cube_spelled (dimension_names contents.dims)) contents.cubes
    ++ flat_map script_spelled contents.scripts))
