-- Operations on the left, one more and one less.
use Rattle.std.proofs.Common.{◌≡◌, ◌≤◌, ◌<◌, ℕ, List, [], ◌∷◌, ◌++◌, true, if◌then◌else◌, refl, sym, ap, ◌∙◌, arith}
use Rattle.std.proofs.lemmas.Bool.{le-ltb, ne_eqb}
use Rattle.std.specs.Borrow.{Bor}
use Rattle.cube_lex.specs.Written.{sign_token}
use Rattle.expression_grammar.specs.Spelled.{in_parentheses}
use Rattle.rule_printer.specs.Spelled.{Written, written, written_at, rank_of, left_level, right_level, sign_of}
use Rattle.rule_printer.specs.Inside.Spine.{Spine}
use Rattle.rule_printer.specs.Writable.{is_writable}
use Rattle.rule_tree.specs.declared.tree.Tree.{Tree}
use Rattle.rule_tree.specs.declared.tree.Tree.TheVariants as trees
use Rattle.rule_tree.specs.declared.tree.TreeOp.{TreeOp}
use Rattle.rule_tree.specs.declared.tree.TreeOp.TheVariants as ops
use Rattle.rule_printer.proofs.PrintedTrees.{written_binary}
use Rattle.rule_printer.proofs.TreeWeights.{weight, weight_binary}
use Rattle.rule_printer.proofs.WritableTrees.{binary_is}
pub use Rattle.std.proofs.lemmas.List.{nil_from_length as none_left}

pub spine_more : (level : ℕ) (xs : List (TreeOp × Bor Tree)) (tree head left : Tree) (op : TreeOp) (right : Bor Tree) → Spine level tree xs head → head ≡ trees.Binary op left right.now → rank_of op ≡ level
    → Spine level tree (xs ++ (op, right) ∷ []) left
spine_more level [] tree head left op right is at_head rank = (left, sym is ∙ at_head, rank, refl)
spine_more level (x ∷ xs) tree head left op right (next, is, ranks, rest) at_head rank = (next, is, ranks, spine_more level xs next head left op right rest at_head rank)

pub spine_less : (level : ℕ) (xs : List (TreeOp × Bor Tree)) (tree head : Tree) (op : TreeOp) (right : Bor Tree) → Spine level tree (xs ++ (op, right) ∷ []) head
    → (above : Tree) × Spine level tree xs above × (above ≡ trees.Binary op head right.now) × (rank_of op ≡ level)
spine_less level [] tree head op right (left, is, ranks, same) = (tree, refl, is ∙ ap (λ l. trees.Binary op l right.now) (sym same), ranks)
spine_less level (x ∷ xs) tree head op right (left, is, ranks, rest) =
    let (above, spine, at_above, rank) = spine_less level xs left head op right rest in
    (above, (left, is, ranks, spine), at_above, rank)

-- what lies on the left is lighter, and can be written where the tree can
pub spine_weight : (level : ℕ) (xs : List (TreeOp × Bor Tree)) (tree head : Tree) → Spine level tree xs head → weight head ≤ weight tree
spine_weight level [] tree head is = omega (arith, ap weight is)
spine_weight level (x ∷ xs) tree head (left, is, ranks, rest) = omega (arith, spine_weight level xs left head rest, weight_binary tree x.0 left x.1.now is)

pub spine_writable : (level : ℕ) (xs : List (TreeOp × Bor Tree)) (tree head : Tree) → Spine level tree xs head → is_writable tree ≡ true → is_writable head ≡ true
spine_writable level [] tree head is writable = ap is_writable is ∙ writable
spine_writable level (x ∷ xs) tree head (left, is, ranks, rest) writable = spine_writable level xs left head rest (binary_is tree x.0 left x.1.now writable is).0

-- the left side of an operator binds by its own level or more loosely than a comparison
pub left_small : (op : TreeOp) → left_level op < 2
left_small ops.Or = omega arith
left_small ops.And = omega arith
left_small ops.Equal = omega arith
left_small ops.Unequal = omega arith
left_small ops.Less = omega arith
left_small ops.Greater = omega arith
left_small ops.AtMost = omega arith
left_small ops.AtLeast = omega arith
left_small ops.Same = omega arith
left_small ops.Other = omega arith
left_small ops.Add = omega arith
left_small ops.Sub = omega arith
left_small ops.Mul = omega arith
left_small ops.Div = omega arith
left_small ops.DivSafe = omega arith

-- an operation of a level, at this level
pub operation_at : (level : ℕ) (above head right : Tree) (op : TreeOp) → level < 2 → above ≡ trees.Binary op head right → rank_of op ≡ level
    → written_at level (written head) ++ sign_token (sign_of op) ∷ written_at (right_level op) (written right) ≡ written_at level (written above)
operation_at level above head right op small is rank =
    let other : rank_of op ≡ 3 → ⊥ = λ e. omega (arith, e, rank, small) in
    let left : left_level op ≡ level = ap (λ b. if b then 0 else rank_of op) (ne_eqb (rank_of op) 3 other) ∙ rank in
    let w : Written = written above in
    let parts : w ≡ record { rank = rank_of op; tokens = written_at (left_level op) (written head) ++ sign_token (sign_of op) ∷ written_at (right_level op) (written right) } = ap written is ∙ written_binary op head right in
    let tight : w.rank ≡ level = ap (λ x. x.rank) parts ∙ rank in
    let bare : written_at level w ≡ w.tokens = ap (λ b. if b then in_parentheses w.tokens else w.tokens) (le-ltb w.rank level (omega (arith, tight))) in
    sym (bare ∙ ap (λ x. x.tokens) parts ∙ ap (λ n. written_at n (written head) ++ sign_token (sign_of op) ∷ written_at (right_level op) (written right)) left)
