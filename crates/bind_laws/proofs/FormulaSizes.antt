-- What is counted of a formula that is bound: at most one for each node of its text.
use Rattle.std.proofs.Common.{◌≡◌, ◌≤◌, ◌+◌, ℕ, ℤ, List, [], ◌∷◌, map, Ok, sym, subst, true, false, codes, bytes_eq, arith}
use Rattle.std.specs.List.{sum}
use Rattle.cube_space.specs.Layout.{Layout}
use Rattle.rule_laws.specs.declared.reference.Reference.{Reference}
use Rattle.rule_laws.specs.declared.operation.Op.{Op}
use Rattle.rule_laws.specs.declared.operation.Op.TheVariants as ops
use Rattle.rule_laws.specs.declared.operation.Fun.{Fun}
use Rattle.rule_laws.specs.declared.operation.Fun.TheVariants as funs
use Rattle.rule_laws.specs.declared.operation.Rel.{Rel}
use Rattle.rule_laws.specs.declared.operation.Rel.TheVariants as rels
use Rattle.rule_laws.specs.declared.formula.Formula.{Formula}
use Rattle.rule_laws.specs.declared.formula.Formula.TheVariants as formulas
use Rattle.rule_laws.specs.declared.formula.Truth.{Truth}
use Rattle.rule_laws.specs.declared.formula.Truth.TheVariants as truths
use Rattle.rule_tree.specs.declared.tree.TreeOp.{TreeOp}
use Rattle.rule_tree.specs.declared.tree.TreeOp.TheVariants as signs
use Rattle.rule_tree.specs.declared.tree.Tree.{Tree, roll-Tree}
use Rattle.rule_tree.specs.declared.tree.Tree.TheFolds.{map-Tree, ind-Tree}
use Rattle.rule_tree.specs.declared.tree.Tree.TheOpen.{Tree-F}
use Rattle.rule_tree.specs.Sizes.{nodes_step, nodes}
use Rattle.rule_tree.proofs.Nodes.{nodes-roll}
use Rattle.bind_areas.specs.Meaning.{Meaning, ◌>>=◌}
use Rattle.bind_areas.specs.Areas.{bracket_of}
use Rattle.rule_bind.specs.declared.standing.Standing.{Standing}
use Rattle.rule_bind.specs.declared.standing.Standing.TheVariants.{Part, ConsolidatedPart, Within}
use Rattle.rule_bind.specs.Functions.{function_of, operator_of}
use Rattle.rule_bind.specs.References.{db_of, children_of}
use Rattle.rule_bind.specs.Formulas.{Meanings, Meant, alone, children, unary, binary, choice, choice_call, unary_call, binary_call, children_call, call_value, operator_value, operator_truth, meanings_step, meanings, meant}
use Rattle.rule_bind.specs.Sureness.{Sets, test_with, side, comparison}
use Rattle.rule_bind.proofs.FormulaFacts.{by_layer}
use Rattle.rule_bind.proofs.OwnFacts.{IsTable, IsTableTruth, IsCounted, call_table, texts_table, call_counted}
use Rattle.rule_bind.proofs.Got.{got, answer}
use Rattle.bind_laws.proofs.Sides.{side_has}
use Rattle.bind_laws.proofs.FormulaFacts.{either_way}

-- of an operand at most one is counted, and of all else what is counted of its parts
pub record IsCount (of : Formula → ℕ) (of_truth : Truth → ℕ) : Type 0 where
  pub number : (k : ℤ) → of (formulas.Number k) ≤ 1
  pub stet : of formulas.Stet ≤ 1
  pub continue : of formulas.Continue ≤ 1
  pub children : (dim : ℕ) → of (formulas.Children dim) ≤ 1
  pub reference : (r : Reference) → of (formulas.Ref r) ≤ 1
  pub table : (place : ℕ) (table : List ℤ) → of (formulas.Table place table) ≤ 1
  pub binary : (op : Op) (a b : Formula) → of (formulas.Binary op a b) ≡ of a + of b
  pub unary : (function : Fun) (a : Formula) → of (formulas.Unary function a) ≡ of a
  pub choice : (q : Truth) (a b : Formula) → of (formulas.If q a b) ≡ of_truth q + of a + of b
  pub compare : (rel : Rel) (a b : Formula) → of_truth (truths.Compare rel a b) ≡ of a + of b
  pub both : (p q : Truth) → of_truth (truths.And p q) ≡ of_truth p + of_truth q
  pub either : (p q : Truth) → of_truth (truths.Or p q) ≡ of_truth p + of_truth q
  pub opposite : (q : Truth) → of_truth (truths.Not q) ≡ of_truth q

-- a formula has a node at least
one_node : (l : Tree-F ℕ) → 1 ≤ nodes_step l
one_node (Tree-F.Number k) = omega arith
one_node (Tree-F.Text bytes) = omega arith
one_node (Tree-F.Current dim) = omega arith
one_node (Tree-F.Bracket simples) = omega arith
one_node Tree-F.Stet = omega arith
one_node Tree-F.Continue = omega arith
one_node (Tree-F.Call word arguments) = omega arith
one_node (Tree-F.Minus e) = omega arith
one_node (Tree-F.Not e) = omega arith
one_node (Tree-F.Binary op left right) = omega arith

rolled_node : (l : Tree-F Tree) → 1 ≤ nodes (roll-Tree l)
rolled_node l = subst (λ n. 1 ≤ n) (sym (nodes-roll l)) (one_node (map-Tree Tree ℕ nodes l))

some_nodes : (tree : Tree) → 1 ≤ nodes tree
some_nodes = ind-Tree (λ tree. 1 ≤ nodes tree) (λ x l is. rolled_node x)

module _ (of : Formula → ℕ) (of_truth : Truth → ℕ) (counts : IsCount of of_truth) where
  -- of each formula, and of each truth, that may be meant so many are counted at most
  abbrev pub IsLight : ℕ → Meaning Formula → Type 0
  IsLight n m = (f : Formula) → m ≡ Ok f → of f ≤ n

  abbrev pub IsLightTruth : ℕ → Meaning Truth → Type 0
  IsLightTruth n m = (q : Truth) → m ≡ Ok q → of_truth q ≤ n

  pub record AreLight (n : ℕ) (m : Meanings) : Type 0 where
    pub value : (at : Standing) → IsLight n (m.value at)
    pub truth : IsLightTruth n m.truth

  given : (n : ℕ) (x f : Formula) → answer x ≡ Ok f → of x ≤ n → of f ≤ n
  given n x f is light = let same : x ≡ f = cc is in subst (λ g. of g ≤ n) same light

  given_truth : (n : ℕ) (x q : Truth) → answer x ≡ Ok q → of_truth x ≤ n → of_truth q ≤ n
  given_truth n x q is light = let same : x ≡ q = cc is in subst (λ g. of_truth g ≤ n) same light

  unary_light : (n k : ℕ) (function : Fun) (m : Meant) → AreLight n m.1 → n ≤ k → IsLight k (unary function m)
  unary_light n k function m light small f is =
      let (a, first, rest) = got (m.1.value Within) (λ a. Ok (formulas.Unary function a)) f is in
      given k (formulas.Unary function a) f rest (omega (arith, counts.unary function a, light.value Within a first, small))

  binary_light : (n k s : ℕ) (op : Op) (left right : Meant) → AreLight n left.1 → AreLight k right.1 → n + k ≤ s → IsLight s (binary op left right)
  binary_light n k s op left right l r small f is =
      let (a, first, more) = got (left.1.value Within) (λ a. right.1.value Within >>= (λ b. Ok (formulas.Binary op a b))) f is in
      let (b, second, rest) = got (right.1.value Within) (λ b. Ok (formulas.Binary op a b)) f more in
      given s (formulas.Binary op a b) f rest (omega (arith, counts.binary op a b, l.value Within a first, r.value Within b second, small))

  choice_light : (j n k s : ℕ) (at : Standing) (condition left right : Meant) → AreLight j condition.1 → AreLight n left.1 → AreLight k right.1 → j + n + k ≤ s → IsLight s (choice at condition left right)
  choice_light j n k s at condition left right c l r small f is =
      let (q, zeroth, many) = got condition.1.truth (λ q. left.1.value at >>= (λ a. right.1.value at >>= (λ b. Ok (formulas.If q a b)))) f is in
      let (a, first, more) = got (left.1.value at) (λ a. right.1.value at >>= (λ b. Ok (formulas.If q a b))) f many in
      let (b, second, rest) = got (right.1.value at) (λ b. Ok (formulas.If q a b)) f more in
      given s (formulas.If q a b) f rest (omega (arith, counts.choice q a b, c.truth q zeroth, l.value at a first, r.value at b second, small))

  alone_light : (n : ℕ) (at : Standing) (x : Formula) → of x ≤ n → IsLight n (alone x at)
  alone_light n Part x small f is = given n x f is small
  alone_light n ConsolidatedPart x small f is = given n x f is small
  alone_light n Within x small f is = absurd (cc is)

  -- a comparison as it is bound, which may have a number in place of a table
  comparison_light : (n k s : ℕ) (space : Layout) (cube : ℕ) (sets : Sets) (rel : Rel) (a b : Formula) → 1 ≤ n → 1 ≤ k → n + k ≤ s → of a ≤ n → of b ≤ k → of_truth (comparison space cube sets rel a b) ≤ s
  unfolding comparison
  comparison_light n k s space cube sets rel a b some_left some_right small first second =
      let left = side space cube sets (test_with rel true b) a in
      let right = side space cube sets (test_with rel false a) b in
      let fewer : of left ≤ n = side_has space cube sets (λ f. of f ≤ n) (λ z. omega (arith, counts.number z, some_left)) (test_with rel true b) a first in
      let few : of right ≤ k = side_has space cube sets (λ f. of f ≤ k) (λ z. omega (arith, counts.number z, some_right)) (test_with rel false a) b second in
      let whole : of_truth (truths.Compare rel left right) ≤ s = omega (arith, counts.compare rel left right, fewer, few, small) in
      whole

  compare_light : (n k s : ℕ) (space : Layout) (cube : ℕ) (sets : Sets) (rel : Rel) (left right : Meant) → AreLight n left.1 → AreLight k right.1 → 1 ≤ n → 1 ≤ k → n + k ≤ s
      → IsLightTruth s (left.1.value Within >>= (λ a. right.1.value Within >>= (λ b. Ok (comparison space cube sets rel a b))))
  compare_light n k s space cube sets rel left right l r some_left some_right small q is =
      let (a, first, more) = got (left.1.value Within) (λ a. right.1.value Within >>= (λ b. Ok (comparison space cube sets rel a b))) q is in
      let (b, second, rest) = got (right.1.value Within) (λ b. Ok (comparison space cube sets rel a b)) q more in
      given_truth s (comparison space cube sets rel a b) q rest (comparison_light n k s space cube sets rel a b some_left some_right small (l.value Within a first) (r.value Within b second))

  table_truth_light : (n : ℕ) (space : Layout) (cube : ℕ) (sets : Sets) (q : Truth) → IsTableTruth space cube sets q → 2 ≤ n → of_truth q ≤ n
  table_truth_light n space cube sets q (rel, place, table, k, same) enough =
      subst (λ z. of_truth z ≤ n) (sym same)
      (comparison_light 1 1 n space cube sets rel (formulas.Table place table) (formulas.Number k) (omega arith) (omega arith) enough (counts.table place table) (counts.number k))

  operator_truth_light : (n k s : ℕ) (space : Layout) (cube : ℕ) (sets : Sets) (op : TreeOp) (left right : Meant) → AreLight n left.1 → AreLight k right.1 → 1 ≤ n → 1 ≤ k → n + k ≤ s → IsLightTruth s (operator_truth space cube sets (operator_of op) left right)
  operator_truth_light n k s space cube sets signs.And left right l r some_left some_right small = λ q is.
      let (a, first, more) = got left.1.truth (λ a. right.1.truth >>= (λ b. Ok (truths.And a b))) q is in
      let (b, second, rest) = got right.1.truth (λ b. Ok (truths.And a b)) q more in
      given_truth s (truths.And a b) q rest (omega (arith, counts.both a b, l.truth a first, r.truth b second, small))
  operator_truth_light n k s space cube sets signs.Or left right l r some_left some_right small = λ q is.
      let (a, first, more) = got left.1.truth (λ a. right.1.truth >>= (λ b. Ok (truths.Or a b))) q is in
      let (b, second, rest) = got right.1.truth (λ b. Ok (truths.Or a b)) q more in
      given_truth s (truths.Or a b) q rest (omega (arith, counts.either a b, l.truth a first, r.truth b second, small))
  operator_truth_light n k s space cube sets signs.Equal left right l r some_left some_right small = compare_light n k s space cube sets rels.Equal left right l r some_left some_right small
  operator_truth_light n k s space cube sets signs.Unequal left right l r some_left some_right small = compare_light n k s space cube sets rels.Unequal left right l r some_left some_right small
  operator_truth_light n k s space cube sets signs.Less left right l r some_left some_right small = compare_light n k s space cube sets rels.Less left right l r some_left some_right small
  operator_truth_light n k s space cube sets signs.Greater left right l r some_left some_right small = compare_light n k s space cube sets rels.Greater left right l r some_left some_right small
  operator_truth_light n k s space cube sets signs.AtMost left right l r some_left some_right small = compare_light n k s space cube sets rels.AtMost left right l r some_left some_right small
  operator_truth_light n k s space cube sets signs.AtLeast left right l r some_left some_right small = compare_light n k s space cube sets rels.AtLeast left right l r some_left some_right small
  operator_truth_light n k s space cube sets signs.Same left right l r some_left some_right small = λ q is. table_truth_light s space cube sets q (texts_table space cube sets rels.Equal left.0 right.0 q is) (omega (arith, some_left, some_right, small))
  operator_truth_light n k s space cube sets signs.Other left right l r some_left some_right small = λ q is. table_truth_light s space cube sets q (texts_table space cube sets rels.Unequal left.0 right.0 q is) (omega (arith, some_left, some_right, small))
  operator_truth_light n k s space cube sets _ left right l r some_left some_right small = λ q is. absurd (cc is)

  not_light : (n k : ℕ) (m : Meant) → AreLight n m.1 → n ≤ k → IsLightTruth k (m.1.truth >>= (λ q. Ok (truths.Not q)))
  not_light n k m light small q is =
      let (a, first, rest) = got m.1.truth (λ a. Ok (truths.Not a)) q is in
      given_truth k (truths.Not a) q rest (omega (arith, counts.opposite a, light.truth a first, small))

  operator_light : (n k s : ℕ) (at : Standing) (op : TreeOp) (left right : Meant) → AreLight n left.1 → AreLight k right.1 → n + k ≤ s → IsLight s (operator_value (operator_of op) left right)
  operator_light n k s at signs.Add left right l r small = binary_light n k s ops.Add left right l r small
  operator_light n k s at signs.Sub left right l r small = binary_light n k s ops.Sub left right l r small
  operator_light n k s at signs.Mul left right l r small = binary_light n k s ops.Mul left right l r small
  operator_light n k s at signs.Div left right l r small = binary_light n k s ops.Div left right l r small
  operator_light n k s at signs.DivSafe left right l r small = binary_light n k s ops.DivSafe left right l r small
  operator_light n k s at _ left right l r small = λ f is. absurd (cc is)

  reference_light : (n : ℕ) (m : Meaning Reference) → 1 ≤ n → IsLight n (m >>= (λ r. Ok (formulas.Ref r)))
  reference_light n m some f is =
      let (r, found, rest) = got m (λ r. Ok (formulas.Ref r)) f is in
      given n (formulas.Ref r) f rest (omega (arith, counts.reference r, some))

  module _ (space : Layout) (cube : ℕ) (sets : Sets) where
    children_light : (n : ℕ) (at : Standing) (tree : Tree) → 1 ≤ n → IsLight n (children space cube at tree)
    children_light n Part tree some f is = absurd (cc is)
    children_light n ConsolidatedPart tree some f is =
        let (dim, found, rest) = got (children_of space cube tree) (λ dim. Ok (formulas.Children dim)) f is in
        given n (formulas.Children dim) f rest (omega (arith, counts.children dim, some))
    children_light n Within tree some f is = absurd (cc is)

    -- each of the parts has what its nodes allow
    abbrev pub AreEachLight : List Tree → Type 0
    AreEachLight [] = Unit {0}
    AreEachLight (tree ∷ trees) = AreLight (nodes tree) (meanings space cube sets tree) × AreEachLight trees

    abbrev all_meant : List Tree → List Meant
    all_meant trees = map (meant space cube sets) trees

    -- a call of these
    abbrev called : List Tree → ℕ
    called trees = 1 + sum (map nodes trees)

    choice_call_light : (at : Standing) (trees : List Tree) → AreEachLight trees → IsLight (called trees) (choice_call at (all_meant trees))
    choice_call_light at (c ∷ l ∷ r ∷ []) light = choice_light (nodes c) (nodes l) (nodes r) (called (c ∷ l ∷ r ∷ [])) at (meant space cube sets c) (meant space cube sets l) (meant space cube sets r) light.0 light.1.0 light.1.1.0 (omega arith)
    choice_call_light at _ light = λ f is. absurd (cc is)

    unary_call_light : (function : Fun) (trees : List Tree) → AreEachLight trees → IsLight (called trees) (unary_call function (all_meant trees))
    unary_call_light function (m ∷ []) light = unary_light (nodes m) (called (m ∷ [])) function (meant space cube sets m) light.0 (omega arith)
    unary_call_light function _ light = λ f is. absurd (cc is)

    binary_call_light : (op : Op) (trees : List Tree) → AreEachLight trees → IsLight (called trees) (binary_call op (all_meant trees))
    binary_call_light op (l ∷ r ∷ []) light = binary_light (nodes l) (nodes r) (called (l ∷ r ∷ [])) op (meant space cube sets l) (meant space cube sets r) light.0 light.1.0 (omega arith)
    binary_call_light op _ light = λ f is. absurd (cc is)

    table_light : (trees : List Tree) (f : Formula) → IsTable f → of f ≤ called trees
    table_light trees f (place, table, same) =
        subst (λ g. of g ≤ called trees) (sym same) (omega (arith, counts.table place table))

    counted_light : (trees : List Tree) (f : Formula) → IsCounted f → of f ≤ called trees
    counted_light trees f (k, same) =
        subst (λ g. of g ≤ called trees) (sym same) (omega (arith, counts.unary funs.Trunc (formulas.Number k), counts.number k))

    children_call_light : (at : Standing) (trees : List Tree) → IsLight (called trees) (children_call space cube at (all_meant trees))
    children_call_light at (dim ∷ []) = children_light (called (dim ∷ [])) at dim (omega arith)
    children_call_light at _ = λ f is. absurd (cc is)

    call_light : (at : Standing) (word : List ℕ) (trees : List Tree) → AreEachLight trees → IsLight (called trees) (call_value space cube at (function_of word) (all_meant trees))
    call_light at word trees all =
        let P : Meaning Formula → Type 0 = IsLight (called trees) in
        either_way (λ function. P (call_value space cube at function (all_meant trees))) (bytes_eq word (codes "IF")) _ _ (choice_call_light at trees all)
        (either_way (λ function. P (call_value space cube at function (all_meant trees))) (bytes_eq word (codes "DB")) _ _ (reference_light (called trees) (db_of space cube (map (λ m. m.0) (all_meant trees))) (omega arith))
        (either_way (λ function. P (call_value space cube at function (all_meant trees))) (bytes_eq word (codes "CONSOLIDATECHILDREN")) _ _ (children_call_light at trees)
        (either_way (λ function. P (call_value space cube at function (all_meant trees))) (bytes_eq word (codes "DIMSIZ")) _ _ (λ f is. counted_light trees f (call_counted space (map (λ m. m.0) (all_meant trees)) f is))
        (either_way (λ function. P (call_value space cube at function (all_meant trees))) (bytes_eq word (codes "ABS")) _ _ (unary_call_light funs.Abs trees all)
        (either_way (λ function. P (call_value space cube at function (all_meant trees))) (bytes_eq word (codes "SIGN")) _ _ (unary_call_light funs.Sign trees all)
        (either_way (λ function. P (call_value space cube at function (all_meant trees))) (bytes_eq word (codes "INT")) _ _ (unary_call_light funs.Int trees all)
        (either_way (λ function. P (call_value space cube at function (all_meant trees))) (bytes_eq word (codes "ROUND")) _ _ (unary_call_light funs.Round trees all)
        (either_way (λ function. P (call_value space cube at function (all_meant trees))) (bytes_eq word (codes "TRUNC")) _ _ (unary_call_light funs.Trunc trees all)
        (either_way (λ function. P (call_value space cube at function (all_meant trees))) (bytes_eq word (codes "MAX")) _ _ (binary_call_light ops.Max trees all)
        (either_way (λ function. P (call_value space cube at function (all_meant trees))) (bytes_eq word (codes "MIN")) _ _ (binary_call_light ops.Min trees all)
        (either_way (λ function. P (call_value space cube at function (all_meant trees))) (bytes_eq word (codes "MOD")) _ _ (binary_call_light ops.Mod trees all)
        (either_way (λ function. P (call_value space cube at function (all_meant trees))) (bytes_eq word (codes "ROUNDP")) _ _ (binary_call_light ops.RoundTo trees all)
        (either_way (λ function. P (call_value space cube at function (all_meant trees))) (bytes_eq word (codes "DIMIX")) _ _ (λ f is. table_light trees f (call_table space cube _ (map (λ m. m.0) (all_meant trees)) f is))
        (either_way (λ function. P (call_value space cube at function (all_meant trees))) (bytes_eq word (codes "ELLEV")) _ _ (λ f is. table_light trees f (call_table space cube _ (map (λ m. m.0) (all_meant trees)) f is))
        (either_way (λ function. P (call_value space cube at function (all_meant trees))) (bytes_eq word (codes "ELISPAR")) _ _ (λ f is. table_light trees f (call_table space cube _ (map (λ m. m.0) (all_meant trees)) f is))
        (either_way (λ function. P (call_value space cube at function (all_meant trees))) (bytes_eq word (codes "ELISANC")) _ _ (λ f is. table_light trees f (call_table space cube _ (map (λ m. m.0) (all_meant trees)) f is))
        (either_way (λ function. P (call_value space cube at function (all_meant trees))) (bytes_eq word (codes "ELISCOMP")) _ _ (λ f is. table_light trees f (call_table space cube _ (map (λ m. m.0) (all_meant trees)) f is))
        (either_way (λ function. P (call_value space cube at function (all_meant trees))) (bytes_eq word (codes "ATTRN")) _ _ (λ f is. table_light trees f (call_table space cube _ (map (λ m. m.0) (all_meant trees)) f is))
        (either_way (λ function. P (call_value space cube at function (all_meant trees))) (bytes_eq word (codes "ELCOMPN")) _ _ (λ f is. table_light trees f (call_table space cube _ (map (λ m. m.0) (all_meant trees)) f is))
        (either_way (λ function. P (call_value space cube at function (all_meant trees))) (bytes_eq word (codes "ELPARN")) _ _ (λ f is. table_light trees f (call_table space cube _ (map (λ m. m.0) (all_meant trees)) f is))
        (λ f is. absurd (cc is))))))))))))))))))))))

    abbrev IsLightTree : Tree → Type 0
    IsLightTree tree = AreLight (nodes tree) (meanings space cube sets tree)

    abbrev Held : Type 0
    Held = (tree : Tree) × IsLightTree tree

    abbrev out : Tree-F Held → Tree-F Tree
    out l = map-Tree Held Tree (λ h. h.0) l

    all_light : (hs : List Held) → AreEachLight (map (λ h. h.0) hs)
    all_light [] = tt
    all_light (h ∷ hs) = (h.1, all_light hs)

    step : (l : Tree-F Held) → AreLight (nodes_step (map-Tree Tree ℕ nodes (out l))) (meanings_step space cube sets (map-Tree Tree Meant (meant space cube sets) (out l)))
    step (Tree-F.Number k) = record { value = λ at f is. given 1 (formulas.Number k) f is (counts.number k); truth = λ q is. absurd (cc is) }
    step (Tree-F.Text bytes) = record { value = λ at f is. absurd (cc is); truth = λ q is. absurd (cc is) }
    step (Tree-F.Current dim) = record { value = λ at f is. absurd (cc is); truth = λ q is. absurd (cc is) }
    step (Tree-F.Bracket simples) = record { value = λ at. reference_light 1 (bracket_of space cube simples) (omega arith); truth = λ q is. absurd (cc is) }
    step Tree-F.Stet = record { value = λ at. alone_light 1 at formulas.Stet counts.stet; truth = λ q is. absurd (cc is) }
    step Tree-F.Continue = record { value = λ at. alone_light 1 at formulas.Continue counts.continue; truth = λ q is. absurd (cc is) }
    step (Tree-F.Call word hs) = record { value = λ at. call_light at word (map (λ h. h.0) hs) (all_light hs); truth = λ q is. absurd (cc is) }
    step (Tree-F.Minus h) = record { value = λ at. unary_light (nodes h.0) (1 + nodes h.0) funs.Minus (meant space cube sets h.0) h.1 (omega arith); truth = λ q is. absurd (cc is) }
    step (Tree-F.Not h) = record { value = λ at f is. absurd (cc is); truth = not_light (nodes h.0) (1 + nodes h.0) (meant space cube sets h.0) h.1 (omega arith) }
    step (Tree-F.Binary op left right) = record {
      value = λ at. operator_light (nodes left.0) (nodes right.0) (1 + nodes left.0 + nodes right.0) at op (meant space cube sets left.0) (meant space cube sets right.0) left.1 right.1 (omega arith);
      truth = operator_truth_light (nodes left.0) (nodes right.0) (1 + nodes left.0 + nodes right.0) space cube sets op (meant space cube sets left.0) (meant space cube sets right.0) left.1 right.1 (some_nodes left.0) (some_nodes right.0) (omega arith);
    }

    layer : (l : Tree-F Held) → IsLightTree (roll-Tree (out l))
    layer l = subst (λ n. AreLight n (meanings space cube sets (roll-Tree (out l)))) (sym (nodes-roll (out l))) (subst (AreLight (nodes_step (map-Tree Tree ℕ nodes (out l)))) (sym (by_layer space cube sets (out l))) (step l))

    pub light : (tree : Tree) → IsLightTree tree
    light = ind-Tree IsLightTree (λ x l is. subst (λ z. IsLightTree (roll-Tree z)) is (layer l))
