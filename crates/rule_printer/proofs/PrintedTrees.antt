-- How each tree is written, by its parts.
use Rattle.std.proofs.Common.{◌≡◌, ℕ, ℤ, List, [], ◌∷◌, ◌++◌, map, codes}
use Rattle.cube_lex.specs.Written.{sign_token, text_token, word_token}
use Rattle.rule_tree.specs.declared.tree.SimpleText.{SimpleText}
use Rattle.rule_tree.specs.declared.tree.Tree.{Tree}
use Rattle.rule_tree.specs.declared.tree.Tree.TheVariants as trees
use Rattle.rule_tree.specs.declared.tree.TreeOp.{TreeOp}
use Rattle.rule_printer.specs.Spelled.{Written, write_step, written, primary_of, money_token, current_token, bracket_spelled, listed_spelled, written_at, rank_of, left_level, right_level, sign_of}
use Rattle.rule_tree.proofs.TreeFolds.{of-number, of-text, of-current, of-bracket, of-stet, of-continue, of-call, of-minus, of-not, of-binary}

pub written_number : (millionths : ℤ) → written (trees.Number millionths) ≡ primary_of (money_token millionths ∷ [])
unfolding written write_step
written_number millionths = of-number Written write_step millionths

pub written_text : (bytes : List ℕ) → written (trees.Text bytes) ≡ primary_of (text_token bytes ∷ [])
unfolding written write_step
written_text bytes = of-text Written write_step bytes

pub written_current : (dim : List ℕ) → written (trees.Current dim) ≡ primary_of (sign_token (codes "!") ∷ current_token dim ∷ [])
unfolding written write_step
written_current dim = of-current Written write_step dim

pub written_bracket : (simples : List SimpleText) → written (trees.Bracket simples) ≡ primary_of (bracket_spelled simples)
unfolding written write_step
written_bracket simples = of-bracket Written write_step simples

pub written_stet : written trees.Stet ≡ primary_of (word_token (codes "STET") ∷ [])
unfolding written write_step
written_stet = of-stet Written write_step

pub written_continue : written trees.Continue ≡ primary_of (word_token (codes "CONTINUE") ∷ [])
unfolding written write_step
written_continue = of-continue Written write_step

pub written_call : (function : List ℕ) (arguments : List Tree) → written (trees.Call function arguments)
    ≡ primary_of (word_token function ∷ sign_token (codes "(") ∷ (listed_spelled (λ w. w.tokens) (map written arguments) ++ sign_token (codes ")") ∷ []))
unfolding written write_step
written_call function arguments = of-call Written write_step function arguments

pub written_minus : (e : Tree) → written (trees.Minus e) ≡ record { rank = 2; tokens = sign_token (codes "-") ∷ written_at 3 (written e) }
unfolding written write_step
written_minus e = of-minus Written write_step e

pub written_not : (e : Tree) → written (trees.Not e) ≡ record { rank = 2; tokens = sign_token (codes "~") ∷ written_at 3 (written e) }
unfolding written write_step
written_not e = of-not Written write_step e

pub written_binary : (op : TreeOp) (left right : Tree) → written (trees.Binary op left right)
    ≡ record { rank = rank_of op; tokens = written_at (left_level op) (written left) ++ sign_token (sign_of op) ∷ written_at (right_level op) (written right) }
unfolding written write_step
written_binary op left right = of-binary Written write_step op left right
