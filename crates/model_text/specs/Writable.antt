-- What can be written as tokens of a model text.
use Rattle.std.specs.Prelude.{◌≡◌, ℕ, ◌<◌, List, length, IfSome, IsTrue, All}
use Rattle.dim_name.specs.Name.{is_name}
use Rattle.cube_lex.specs.Written.{IsQuotable}
use Rattle.grammar.specs.Tokens.{is_file, whole_end}
use Rattle.model_text.specs.Orders.{has_auto}
use Rattle.model_text.specs.declared.order.OrderWord.{OrderWord}
use Rattle.model_text.specs.declared.order.OrderWord.TheVariants as words
use Rattle.model_text.specs.declared.parts.CubeText.{CubeText}
use Rattle.model_text.specs.declared.parts.ScriptText.{ScriptText}

-- a name, which a quoted text can mean
abbrev pub IsNameText : List ℕ → Type 0
IsNameText shown = IsTrue (is_name shown) × IsQuotable shown

-- what may name a file, which a quoted text can mean
abbrev pub IsFileText : List ℕ → Type 0
IsFileText bytes = IsTrue (is_file bytes) × IsQuotable bytes

abbrev pub IsWritableRank : List ℕ × ℕ → Type 0
IsWritableRank rank = IsNameText rank.0 × (rank.1 < whole_end)

abbrev pub IsWritableList : List (List ℕ × ℕ) → Type 0
IsWritableList list = (0 < length list) × All IsWritableRank list

abbrev pub IsWritableWord : OrderWord → Type 0
IsWritableWord (words.Constant n) = n < whole_end
IsWritableWord (words.Index shown) = IsNameText shown
IsWritableWord (words.Ranks shown list) = IsNameText shown × IsWritableList list
IsWritableWord (words.RanksByKind shown leaves totals) =
    IsNameText shown × IsWritableList leaves × IsWritableList totals
IsWritableWord words.Totals = Unit {0}
IsWritableWord (words.Auto totals lag) = IfSome lag IsNameText

-- the words of an order line: `AUTO` is the only word of its line
pub record IsWritableOrder (list : List OrderWord) : Type 0 where
  pub some : 0 < length list
  pub each : All IsWritableWord list
  pub auto_alone : IsTrue (has_auto list) → length list ≡ 1

pub record IsWritableCube (cube : CubeText) : Type 0 where
  pub name : IsNameText cube.name
  pub dims : 0 < length cube.dims
  pub rules : IfSome cube.rules (λ rules. IsFileText rules.1)
  pub order : IfSome cube.order (λ order. IsWritableOrder order.1.words)

pub record IsWritableScript (script : ScriptText) : Type 0 where
  pub name : IsNameText script.name
  pub file : IsFileText script.file
