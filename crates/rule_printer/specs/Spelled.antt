-- How rules are written, token by token, with the fewest parentheses.
use Rattle.std.specs.Prelude.{ℕ, ◌+◌, ◌==◌, ℤ, Bool, false, ◌&&◌, List}
use Rattle.std.specs.Prelude.{[], ◌∷◌, ◌++◌, codes, Option, Some, None, if◌then◌else◌}
use Rattle.std.specs.List.{flat_map, list_all}
use Rattle.cube_fixed.specs.Text.{printed}
use Rattle.cube_fixed.specs.declared.value.Value.TheVariants.{Num}
use Rattle.cube_lex.specs.Bytes.{starts_word, is_word_byte}
use Rattle.cube_lex.specs.Written.{Spelling, sign_token, word_token, text_token, number_token}
use Rattle.expression_grammar.specs.Spelled.{placed}
use Rattle.rule_tree.specs.declared.rule.BodyText.{BodyText}
use Rattle.rule_tree.specs.declared.rule.BodyText.TheVariants as bodies
use Rattle.rule_tree.specs.declared.rule.EntryText.{EntryText}
use Rattle.rule_tree.specs.declared.rule.FeederText.{FeederText}
use Rattle.rule_tree.specs.declared.rule.RuleText.{RuleText}
use Rattle.rule_tree.specs.declared.rule.StatementText.{StatementText}
use Rattle.rule_tree.specs.declared.rule.TargetText.{TargetText}
use Rattle.rule_tree.specs.declared.rule.TargetText.TheVariants as targets
use Rattle.rule_tree.specs.declared.tree.SimpleText.{SimpleText}
use Rattle.rule_tree.specs.declared.tree.Tree.{Tree, fold-Tree}
use Rattle.rule_tree.specs.declared.tree.Tree.TheOpen.{Tree-F}
use Rattle.rule_tree.specs.declared.tree.TreeOp.{TreeOp}
use Rattle.rule_tree.specs.declared.tree.TreeOp.TheVariants as ops

-- One token.

-- a number in its shortest form
abbrev pub money_token : ℤ → Spelling
money_token millionths = number_token (printed (Num millionths))

-- whether the bytes are a word, a letter or _ and then letters, digits and _
abbrev pub is_word_text : List ℕ → Bool
is_word_text [] = false
is_word_text (b ∷ bs) = starts_word b && list_all is_word_byte bs

-- the dimension behind a `!`: a name that is a word stands without quotes
abbrev pub current_token : List ℕ → Spelling
current_token dim = if is_word_text dim then word_token dim else text_token dim

-- Lists and brackets.

abbrev pub next_spelled : {A : Type 0} → (A → List Spelling) → A → List Spelling
next_spelled spelled a = sign_token (codes ",") ∷ spelled a

-- items with a `,` between
abbrev pub listed_spelled : {A : Type 0} → (A → List Spelling) → List A → List Spelling
listed_spelled spelled [] = []
listed_spelled spelled (first ∷ rest) = spelled first ++ flat_map (next_spelled spelled) rest

abbrev pub name_spelled : List ℕ → List Spelling
name_spelled name = text_token name ∷ []

abbrev pub dimension_spelled : Option (List ℕ) → List Spelling
dimension_spelled None = []
dimension_spelled (Some dim) = text_token dim ∷ sign_token (codes ":") ∷ []

abbrev pub simple_spelled : SimpleText → List Spelling
simple_spelled s = dimension_spelled s.dim ++ name_spelled s.element

abbrev pub bracket_spelled : List SimpleText → List Spelling
bracket_spelled simples =
    sign_token (codes "[") ∷ (listed_spelled simple_spelled simples ++ sign_token (codes "]") ∷ [])

-- Formulas.

-- how tightly an operator binds among those of its sort
abbrev pub rank_of : TreeOp → ℕ
rank_of ops.Or = 0
rank_of ops.And = 1
rank_of ops.Equal = 3
rank_of ops.Unequal = 3
rank_of ops.Less = 3
rank_of ops.Greater = 3
rank_of ops.AtMost = 3
rank_of ops.AtLeast = 3
rank_of ops.Same = 3
rank_of ops.Other = 3
rank_of ops.Add = 0
rank_of ops.Sub = 0
rank_of ops.Mul = 1
rank_of ops.Div = 1
rank_of ops.DivSafe = 1

-- Operators group from the left. A comparison stands between values, whatever those are.
abbrev pub left_level : TreeOp → ℕ
left_level op = if rank_of op == 3 then 0 else rank_of op

abbrev pub right_level : TreeOp → ℕ
right_level op = if rank_of op == 3 then 0 else rank_of op + 1

abbrev pub sign_of : TreeOp → List ℕ
sign_of ops.Or = codes "%"
sign_of ops.And = codes "&"
sign_of ops.Equal = codes "="
sign_of ops.Unequal = codes "<>"
sign_of ops.Less = codes "<"
sign_of ops.Greater = codes ">"
sign_of ops.AtMost = codes "<="
sign_of ops.AtLeast = codes ">="
sign_of ops.Same = codes "@="
sign_of ops.Other = codes "@<>"
sign_of ops.Add = codes "+"
sign_of ops.Sub = codes "-"
sign_of ops.Mul = codes "*"
sign_of ops.Div = codes "/"
sign_of ops.DivSafe = codes "\\"

-- a formula without parentheses round it, and how tightly its root binds
pub record Written : Type 0 where
  pub rank : ℕ
  pub tokens : List Spelling

abbrev pub written_at : ℕ → Written → List Spelling
written_at level w = placed level w.rank w.tokens

abbrev pub primary_of : List Spelling → Written
primary_of tokens = record { rank = 3; tokens = tokens }

-- one level of a formula, whose parts are written
unfoldable pub write_step : Tree-F Written → Written
write_step (Tree-F.Number millionths) = primary_of (money_token millionths ∷ [])
write_step (Tree-F.Text bytes) = primary_of (text_token bytes ∷ [])
write_step (Tree-F.Current dim) = primary_of (sign_token (codes "!") ∷ current_token dim ∷ [])
write_step (Tree-F.Bracket simples) = primary_of (bracket_spelled simples)
write_step Tree-F.Stet = primary_of (word_token (codes "STET") ∷ [])
write_step Tree-F.Continue = primary_of (word_token (codes "CONTINUE") ∷ [])
write_step (Tree-F.Call function arguments) =
    primary_of (word_token function ∷ sign_token (codes "(")
    ∷ (listed_spelled (λ w. w.tokens) arguments ++ sign_token (codes ")") ∷ []))
write_step (Tree-F.Minus e) = record { rank = 2; tokens = sign_token (codes "-") ∷ written_at 3 e }
write_step (Tree-F.Not e) = record { rank = 2; tokens = sign_token (codes "~") ∷ written_at 3 e }
write_step (Tree-F.Binary op left right) =
    record {
      rank = rank_of op;
      tokens = written_at (left_level op) left ++ sign_token (sign_of op)
          ∷ written_at (right_level op) right;
    }

unfoldable pub written : Tree → Written
written = fold-Tree Written write_step

abbrev pub tree_spelled : Tree → List Spelling
tree_spelled tree = (written tree).tokens

-- Statements and feeders.

abbrev pub elements_spelled : List (List ℕ) → List Spelling
elements_spelled [] = []
elements_spelled (element ∷ []) = name_spelled element
elements_spelled (first ∷ second ∷ rest) =
    sign_token (codes "{") ∷ (listed_spelled name_spelled (first ∷ second ∷ rest) ++ sign_token (codes "}") ∷ [])

abbrev pub entry_spelled : EntryText → List Spelling
entry_spelled e = dimension_spelled e.dim ++ elements_spelled e.elements

abbrev pub area_spelled : List EntryText → List Spelling
area_spelled entries = sign_token (codes "[") ∷ (listed_spelled entry_spelled entries ++ sign_token (codes "]") ∷ [])

abbrev pub ended_spelled : Tree → List Spelling
ended_spelled tree = tree_spelled tree ++ sign_token (codes ";") ∷ []

abbrev pub part_spelled : List ℕ → Tree → List Spelling
part_spelled mark tree = word_token mark ∷ sign_token (codes ":") ∷ ended_spelled tree

abbrev pub body_spelled : BodyText → List Spelling
body_spelled (bodies.Both tree) = ended_spelled tree
body_spelled (bodies.Leaf leaf) = part_spelled (codes "N") leaf
body_spelled (bodies.Cons cons) = part_spelled (codes "C") cons
body_spelled (bodies.LeafCons leaf cons) = part_spelled (codes "N") leaf ++ part_spelled (codes "C") cons
body_spelled (bodies.ConsLeaf cons leaf) = part_spelled (codes "C") cons ++ part_spelled (codes "N") leaf

abbrev pub statement_spelled : StatementText → List Spelling
statement_spelled s = area_spelled s.area ++ sign_token (codes "=") ∷ body_spelled s.body

abbrev pub target_spelled : TargetText → List Spelling
target_spelled (targets.Bracket simples) = bracket_spelled simples
target_spelled (targets.Db arguments) = word_token (codes "DB") ∷ sign_token (codes "(")
    ∷ (listed_spelled tree_spelled arguments ++ sign_token (codes ")") ∷ [])

abbrev pub feeder_spelled : FeederText → List Spelling
feeder_spelled f = area_spelled f.area ++ sign_token (codes "=>")
    ∷ (listed_spelled target_spelled f.targets ++ sign_token (codes ";") ∷ [])

abbrev pub skipcheck_spelled : Bool → List Spelling
skipcheck_spelled skipcheck = if skipcheck then word_token (codes "SKIPCHECK") ∷ sign_token (codes ";") ∷ [] else []

abbrev pub automatic_spelled : Bool → List Spelling
automatic_spelled finds = if finds then word_token (codes "AUTO") ∷ [] else []

abbrev pub given_feeders_spelled : Bool → List FeederText → List Spelling
given_feeders_spelled finds given = word_token (codes "FEEDERS")
    ∷ (automatic_spelled finds ++ sign_token (codes ";") ∷ flat_map feeder_spelled given)

-- where no feeder is found or given, `FEEDERS` isn't written
abbrev pub feeders_spelled : Bool → List FeederText → List Spelling
feeders_spelled false [] = []
feeders_spelled finds given = given_feeders_spelled finds given

abbrev pub rules_spelled : RuleText → List Spelling
rules_spelled text = skipcheck_spelled text.skipcheck
    ++ (flat_map statement_spelled text.statements ++ feeders_spelled text.finds_feeders text.feeders)
