-- A part for leaf cells as it is bound gives in them what it gives as it is written.
use Rattle.std.proofs.Common.{◌≡◌, refl, sym, ap, subst, ◌∙◌, ℕ, List, [], ◌∷◌, map, Ok, Err, Bool, codes, bytes_eq, ◌&&◌, ◌||◌, not, if◌then◌else◌}
use Rattle.cube_fixed.specs.declared.value.Value.{Value}
use Rattle.cube_space.specs.Layout.{Layout}
use Rattle.rule_laws.specs.Meaning.{Others, value_step, truth_step, formula_value, truth_value}
use Rattle.rule_laws.specs.Operation.{operation_of, function_of, comparison_of}
use Rattle.rule_laws.specs.declared.reference.Reference.{Reference}
use Rattle.rule_laws.specs.declared.operation.Op.{Op}
use Rattle.rule_laws.specs.declared.operation.Fun.{Fun}
use Rattle.rule_laws.specs.declared.operation.Fun.TheVariants as funs
use Rattle.rule_laws.specs.declared.operation.Op.TheVariants as ops
use Rattle.rule_laws.specs.declared.operation.Rel.TheVariants as rels
use Rattle.rule_laws.specs.declared.operation.Rel.{Rel}
use Rattle.rule_laws.specs.declared.formula.Formula.{Formula}
use Rattle.rule_laws.specs.declared.formula.Formula.TheVariants as formulas
use Rattle.rule_laws.specs.declared.formula.Truth.{Truth}
use Rattle.rule_laws.specs.declared.formula.Truth.TheVariants as truths
use Rattle.rule_laws.proofs.FormulaFolds.{of-binary, of-unary, of-if, of-and, of-or, of-not}
use Rattle.rule_tree.specs.declared.tree.TreeOp.{TreeOp}
use Rattle.rule_tree.specs.declared.tree.TreeOp.TheVariants as signs
use Rattle.rule_tree.specs.declared.tree.Tree.{Tree, roll-Tree}
use Rattle.rule_tree.specs.declared.tree.Tree.TheFolds.{map-Tree, ind-Tree}
use Rattle.rule_tree.specs.declared.tree.Tree.TheOpen.{Tree-F}
use Rattle.bind_areas.specs.Meaning.{Meaning, ◌>>=◌}
use Rattle.bind_areas.specs.Areas.{bracket_of}
use Rattle.rule_bind.specs.declared.standing.Standing.{Standing}
use Rattle.rule_bind.specs.declared.standing.Standing.TheVariants.{Within}
use Rattle.rule_bind.specs.Functions.{function_of as call_of, operator_of}
use Rattle.rule_bind.specs.References.{db_of}
use Rattle.rule_bind.specs.OwnNumbers.{own_call}
use Rattle.rule_bind.specs.DimensionSize.{size_call}
use Rattle.rule_bind.specs.Texts.{side_of, shared_place, texts_truth}
use Rattle.rule_bind.specs.Sureness.{Sets, comparison}
use Rattle.rule_bind.specs.Formulas.{Meanings, Meant, alone, children, unary, binary, choice, choice_call, unary_call, binary_call, children_call, call_value, operator_value, operator_truth, meanings_step, meanings, meant}
use Rattle.rule_bind.proofs.FormulaFacts.{by_layer, trees_again}
use Rattle.bind_laws.proofs.FormulaFacts.{either_way}
use Rattle.bind_laws.proofs.SureFacts.{AreLeavesOf, comparison_holds}

-- two meanings with the same fault, or with what is related
abbrev pub Related : {A : Type 0} → (A → A → Type 0) → Meaning A → Meaning A → Type 0
Related R (Ok a) (Ok b) = R a b
Related R (Ok a) (Err e) = ⊥
Related R (Err e) (Ok b) = ⊥
Related R (Err e) (Err f) = e ≡ f

each_related : {A B : Type 0} (R : A → A → Type 0) (S : B → B → Type 0) (m n : Meaning A) (k l : A → Meaning B) → Related R m n → ((a b : A) → R a b → Related S (k a) (l b)) → Related S (m >>= k) (n >>= l)
each_related R S (Ok a) (Ok b) k l related next = next a b related
each_related R S (Ok a) (Err e) k l related next = absurd related
each_related R S (Err e) (Ok b) k l related next = absurd related
each_related R S (Err e) (Err f) k l related next = related

itself : {A : Type 0} (R : A → A → Type 0) → ((a : A) → R a a) → (m : Meaning A) → Related R m m
itself R own (Ok a) = own a
itself R own (Err e) = refl

-- the same first line
one_first : {A B : Type 0} (S : B → B → Type 0) (m : Meaning A) (k l : A → Meaning B) → ((a : A) → Related S (k a) (l a)) → Related S (m >>= k) (m >>= l)
one_first S (Ok a) k l next = next a
one_first S (Err e) k l next = refl

module _ (space : Layout) (cube : ℕ) (sets : Sets) (named : Reference → Value) (others : Others) (leaves : AreLeavesOf space cube sets others.own) (none : AreLeavesOf space cube [] others.own) where
  abbrev gives : Formula → Value
  gives = formula_value named others

  abbrev holds : Truth → Bool
  holds = truth_value named others

  abbrev pub IsSame : Formula → Formula → Type 0
  IsSame f g = gives f ≡ gives g

  abbrev pub IsSameTruth : Truth → Truth → Type 0
  IsSameTruth p q = holds p ≡ holds q

  abbrev Same : Meaning Formula → Meaning Formula → Type 0
  Same = Related IsSame

  abbrev SameTruth : Meaning Truth → Meaning Truth → Type 0
  SameTruth = Related IsSameTruth

  pub record AreSame (m n : Meanings) : Type 0 where
    pub value : (at : Standing) → Related IsSame (m.value at) (n.value at)
    pub truth : Related IsSameTruth m.truth n.truth

  same_formula : (m : Meaning Formula) → Same m m
  same_formula m = itself IsSame (λ f. refl) m

  unary_same : (function : Fun) (m n : Meant) → AreSame m.1 n.1 → Same (unary function m) (unary function n)
  unary_same function m n same =
      each_related IsSame IsSame (m.1.value Within) (n.1.value Within) (λ a. Ok (formulas.Unary function a)) (λ a. Ok (formulas.Unary function a)) (same.value Within)
      (λ a b is. of-unary Value Bool (value_step named others) truth_step function a ∙ ap (function_of function) is ∙ sym (of-unary Value Bool (value_step named others) truth_step function b))

  binary_is : (op : Op) (a b x y : Formula) → IsSame a x → IsSame b y → IsSame (formulas.Binary op a b) (formulas.Binary op x y)
  binary_is op a b x y first second =
      of-binary Value Bool (value_step named others) truth_step op a b ∙ ap (λ v. operation_of op v (gives b)) first ∙ ap (λ v. operation_of op (gives x) v) second
      ∙ sym (of-binary Value Bool (value_step named others) truth_step op x y)

  binary_same : (op : Op) (l r m n : Meant) → AreSame l.1 m.1 → AreSame r.1 n.1 → Same (binary op l r) (binary op m n)
  binary_same op l r m n left right =
      each_related IsSame IsSame (l.1.value Within) (m.1.value Within) (λ a. r.1.value Within >>= (λ b. Ok (formulas.Binary op a b))) (λ a. n.1.value Within >>= (λ b. Ok (formulas.Binary op a b))) (left.value Within)
      (λ a x first. each_related IsSame IsSame (r.1.value Within) (n.1.value Within) (λ b. Ok (formulas.Binary op a b)) (λ b. Ok (formulas.Binary op x b)) (right.value Within)
      (λ b y second. binary_is op a b x y first second))

  choice_is : (p q : Truth) (a b x y : Formula) → IsSameTruth p q → IsSame a x → IsSame b y → IsSame (formulas.If p a b) (formulas.If q x y)
  choice_is p q a b x y zeroth first second =
      of-if Value Bool (value_step named others) truth_step p a b ∙ ap (λ t. if t then gives a else gives b) zeroth ∙ ap (λ v. if holds q then v else gives b) first ∙ ap (λ v. if holds q then gives x else v) second
      ∙ sym (of-if Value Bool (value_step named others) truth_step q x y)

  choice_same : (at : Standing) (c l r d m n : Meant) → AreSame c.1 d.1 → AreSame l.1 m.1 → AreSame r.1 n.1 → Same (choice at c l r) (choice at d m n)
  choice_same at c l r d m n condition left right =
      each_related IsSameTruth IsSame c.1.truth d.1.truth (λ p. l.1.value at >>= (λ a. r.1.value at >>= (λ b. Ok (formulas.If p a b)))) (λ p. m.1.value at >>= (λ a. n.1.value at >>= (λ b. Ok (formulas.If p a b)))) condition.truth
      (λ p q zeroth. each_related IsSame IsSame (l.1.value at) (m.1.value at) (λ a. r.1.value at >>= (λ b. Ok (formulas.If p a b))) (λ a. n.1.value at >>= (λ b. Ok (formulas.If q a b))) (left.value at)
      (λ a x first. each_related IsSame IsSame (r.1.value at) (n.1.value at) (λ b. Ok (formulas.If p a b)) (λ b. Ok (formulas.If q x b)) (right.value at)
      (λ b y second. choice_is p q a b x y zeroth first second)))

  -- a comparison by the area, and one by nothing
  comparison_is : (rel : Rel) (a b x y : Formula) → IsSame a x → IsSame b y → IsSameTruth (comparison space cube sets rel a b) (comparison space cube [] rel x y)
  comparison_is rel a b x y first second =
      comparison_holds space cube sets named others leaves rel a b ∙ ap (λ v. comparison_of rel v (gives b)) first ∙ ap (λ v. comparison_of rel (gives x) v) second
      ∙ sym (comparison_holds space cube [] named others none rel x y)

  compare_same : (rel : Rel) (l r m n : Meant) → AreSame l.1 m.1 → AreSame r.1 n.1 → SameTruth (l.1.value Within >>= (λ a. r.1.value Within >>= (λ b. Ok (comparison space cube sets rel a b)))) (m.1.value Within >>= (λ a. n.1.value Within >>= (λ b. Ok (comparison space cube [] rel a b))))
  compare_same rel l r m n left right =
      each_related IsSame IsSameTruth (l.1.value Within) (m.1.value Within) (λ a. r.1.value Within >>= (λ b. Ok (comparison space cube sets rel a b))) (λ a. n.1.value Within >>= (λ b. Ok (comparison space cube [] rel a b))) (left.value Within)
      (λ a x first. each_related IsSame IsSameTruth (r.1.value Within) (n.1.value Within) (λ b. Ok (comparison space cube sets rel a b)) (λ b. Ok (comparison space cube [] rel x b)) (right.value Within)
      (λ b y second. comparison_is rel a b x y first second))

  texts_same : (rel : Rel) (left right : Tree) → SameTruth (texts_truth space cube sets rel left right) (texts_truth space cube [] rel left right)
  unfolding texts_truth
  texts_same rel left right =
      one_first IsSameTruth (side_of space cube left) _ _ (λ text. one_first IsSameTruth (side_of space cube right) _ _ (λ other. one_first IsSameTruth (shared_place text.0 other.0) _ _ (λ place.
      comparison_is rel _ _ _ _ refl refl)))

  and_is : (p q s t : Truth) → IsSameTruth p s → IsSameTruth q t → IsSameTruth (truths.And p q) (truths.And s t)
  and_is p q s t first second =
      of-and Value Bool (value_step named others) truth_step p q ∙ ap (λ x. x && holds q) first ∙ ap (λ x. holds s && x) second ∙ sym (of-and Value Bool (value_step named others) truth_step s t)

  or_is : (p q s t : Truth) → IsSameTruth p s → IsSameTruth q t → IsSameTruth (truths.Or p q) (truths.Or s t)
  or_is p q s t first second =
      of-or Value Bool (value_step named others) truth_step p q ∙ ap (λ x. x || holds q) first ∙ ap (λ x. holds s || x) second ∙ sym (of-or Value Bool (value_step named others) truth_step s t)

  both_same : (l r m n : Meant) → AreSame l.1 m.1 → AreSame r.1 n.1 → SameTruth (l.1.truth >>= (λ p. r.1.truth >>= (λ q. Ok (truths.And p q)))) (m.1.truth >>= (λ p. n.1.truth >>= (λ q. Ok (truths.And p q))))
  both_same l r m n left right =
      each_related IsSameTruth IsSameTruth l.1.truth m.1.truth (λ p. r.1.truth >>= (λ q. Ok (truths.And p q))) (λ p. n.1.truth >>= (λ q. Ok (truths.And p q))) left.truth
      (λ p s first. each_related IsSameTruth IsSameTruth r.1.truth n.1.truth (λ q. Ok (truths.And p q)) (λ q. Ok (truths.And s q)) right.truth (λ q t second. and_is p q s t first second))

  either_same : (l r m n : Meant) → AreSame l.1 m.1 → AreSame r.1 n.1 → SameTruth (l.1.truth >>= (λ p. r.1.truth >>= (λ q. Ok (truths.Or p q)))) (m.1.truth >>= (λ p. n.1.truth >>= (λ q. Ok (truths.Or p q))))
  either_same l r m n left right =
      each_related IsSameTruth IsSameTruth l.1.truth m.1.truth (λ p. r.1.truth >>= (λ q. Ok (truths.Or p q))) (λ p. n.1.truth >>= (λ q. Ok (truths.Or p q))) left.truth
      (λ p s first. each_related IsSameTruth IsSameTruth r.1.truth n.1.truth (λ q. Ok (truths.Or p q)) (λ q. Ok (truths.Or s q)) right.truth (λ q t second. or_is p q s t first second))

  texts_alike : (rel : Rel) (l r m n : Meant) → l.0 ≡ m.0 → r.0 ≡ n.0 → SameTruth (texts_truth space cube sets rel l.0 r.0) (texts_truth space cube [] rel m.0 n.0)
  texts_alike rel l r m n own its =
      subst (λ x. SameTruth (texts_truth space cube sets rel l.0 r.0) (texts_truth space cube [] rel x n.0)) own
      (subst (λ x. SameTruth (texts_truth space cube sets rel l.0 r.0) (texts_truth space cube [] rel l.0 x)) its (texts_same rel l.0 r.0))

  operator_truth_same : (o : TreeOp) (l r m n : Meant) → l.0 ≡ m.0 → r.0 ≡ n.0 → AreSame l.1 m.1 → AreSame r.1 n.1 → SameTruth (operator_truth space cube sets (operator_of o) l r) (operator_truth space cube [] (operator_of o) m n)
  operator_truth_same signs.And l r m n own its left right = both_same l r m n left right
  operator_truth_same signs.Or l r m n own its left right = either_same l r m n left right
  operator_truth_same signs.Equal l r m n own its left right = compare_same rels.Equal l r m n left right
  operator_truth_same signs.Unequal l r m n own its left right = compare_same rels.Unequal l r m n left right
  operator_truth_same signs.Less l r m n own its left right = compare_same rels.Less l r m n left right
  operator_truth_same signs.Greater l r m n own its left right = compare_same rels.Greater l r m n left right
  operator_truth_same signs.AtMost l r m n own its left right = compare_same rels.AtMost l r m n left right
  operator_truth_same signs.AtLeast l r m n own its left right = compare_same rels.AtLeast l r m n left right
  operator_truth_same signs.Same l r m n own its left right = texts_alike rels.Equal l r m n own its
  operator_truth_same signs.Other l r m n own its left right = texts_alike rels.Unequal l r m n own its
  operator_truth_same signs.Add l r m n own its left right = refl
  operator_truth_same signs.Sub l r m n own its left right = refl
  operator_truth_same signs.Mul l r m n own its left right = refl
  operator_truth_same signs.Div l r m n own its left right = refl
  operator_truth_same signs.DivSafe l r m n own its left right = refl

  operator_same : (o : TreeOp) (l r m n : Meant) → AreSame l.1 m.1 → AreSame r.1 n.1 → Same (operator_value (operator_of o) l r) (operator_value (operator_of o) m n)
  operator_same signs.Add l r m n left right = binary_same ops.Add l r m n left right
  operator_same signs.Sub l r m n left right = binary_same ops.Sub l r m n left right
  operator_same signs.Mul l r m n left right = binary_same ops.Mul l r m n left right
  operator_same signs.Div l r m n left right = binary_same ops.Div l r m n left right
  operator_same signs.DivSafe l r m n left right = binary_same ops.DivSafe l r m n left right
  operator_same signs.And l r m n left right = refl
  operator_same signs.Or l r m n left right = refl
  operator_same signs.Equal l r m n left right = refl
  operator_same signs.Unequal l r m n left right = refl
  operator_same signs.Less l r m n left right = refl
  operator_same signs.Greater l r m n left right = refl
  operator_same signs.AtMost l r m n left right = refl
  operator_same signs.AtLeast l r m n left right = refl
  operator_same signs.Same l r m n left right = refl
  operator_same signs.Other l r m n left right = refl

  abbrev own_meant : Tree → Meant
  own_meant = meant space cube sets

  abbrev plain_meant : Tree → Meant
  plain_meant = meant space cube []

  abbrev AreSameTree : Tree → Type 0
  AreSameTree tree = AreSame (meanings space cube sets tree) (meanings space cube [] tree)

  abbrev AreSameTrees : List Tree → Type 0
  AreSameTrees [] = Unit {0}
  AreSameTrees (tree ∷ trees) = AreSameTree tree × AreSameTrees trees

  choice_call_same : (at : Standing) (trees : List Tree) → AreSameTrees trees → Same (choice_call at (map own_meant trees)) (choice_call at (map plain_meant trees))
  choice_call_same at [] same = refl
  choice_call_same at (c ∷ []) same = refl
  choice_call_same at (c ∷ l ∷ []) same = refl
  choice_call_same at (c ∷ l ∷ r ∷ []) same = choice_same at (own_meant c) (own_meant l) (own_meant r) (plain_meant c) (plain_meant l) (plain_meant r) same.0 same.1.0 same.1.1.0
  choice_call_same at (c ∷ l ∷ r ∷ x ∷ trees) same = refl

  unary_call_same : (function : Fun) (trees : List Tree) → AreSameTrees trees → Same (unary_call function (map own_meant trees)) (unary_call function (map plain_meant trees))
  unary_call_same function [] same = refl
  unary_call_same function (m ∷ []) same = unary_same function (own_meant m) (plain_meant m) same.0
  unary_call_same function (m ∷ x ∷ trees) same = refl

  binary_call_same : (op : Op) (trees : List Tree) → AreSameTrees trees → Same (binary_call op (map own_meant trees)) (binary_call op (map plain_meant trees))
  binary_call_same op [] same = refl
  binary_call_same op (l ∷ []) same = refl
  binary_call_same op (l ∷ r ∷ []) same = binary_same op (own_meant l) (own_meant r) (plain_meant l) (plain_meant r) same.0 same.1.0
  binary_call_same op (l ∷ r ∷ x ∷ trees) same = refl

  children_call_same : (at : Standing) (trees : List Tree) → Same (children_call space cube at (map own_meant trees)) (children_call space cube at (map plain_meant trees))
  children_call_same at [] = refl
  children_call_same at (dim ∷ []) = same_formula (children space cube at dim)
  children_call_same at (dim ∷ x ∷ trees) = refl

  -- what is meant of the trees alone
  by_trees : (call : List Tree → Meaning Formula) (trees : List Tree) → Same (call (map (λ m. m.0) (map own_meant trees))) (call (map (λ m. m.0) (map plain_meant trees)))
  by_trees call trees =
      subst (λ ts. Same (call ts) (call (map (λ m. m.0) (map plain_meant trees)))) (sym (trees_again space cube sets trees))
      (subst (λ ts. Same (call trees) (call ts)) (sym (trees_again space cube [] trees)) (same_formula (call trees)))

  module _ (at : Standing) (trees : List Tree) (same : AreSameTrees trees) where
    -- what is meant of a call with one of its words
    call_same : (word : List ℕ) → Same (call_value space cube at (call_of word) (map own_meant trees)) (call_value space cube at (call_of word) (map plain_meant trees))
    call_same word =
        either_way (λ function. Same (call_value space cube at function (map own_meant trees)) (call_value space cube at function (map plain_meant trees))) (bytes_eq word (codes "IF")) _ _ (choice_call_same at trees same)
        (either_way (λ function. Same (call_value space cube at function (map own_meant trees)) (call_value space cube at function (map plain_meant trees))) (bytes_eq word (codes "DB")) _ _ (by_trees (λ ts. db_of space cube ts >>= (λ r. Ok (formulas.Ref r))) trees)
        (either_way (λ function. Same (call_value space cube at function (map own_meant trees)) (call_value space cube at function (map plain_meant trees))) (bytes_eq word (codes "CONSOLIDATECHILDREN")) _ _ (children_call_same at trees)
        (either_way (λ function. Same (call_value space cube at function (map own_meant trees)) (call_value space cube at function (map plain_meant trees))) (bytes_eq word (codes "DIMSIZ")) _ _ (by_trees (size_call space) trees)
        (either_way (λ function. Same (call_value space cube at function (map own_meant trees)) (call_value space cube at function (map plain_meant trees))) (bytes_eq word (codes "ABS")) _ _ (unary_call_same funs.Abs trees same)
        (either_way (λ function. Same (call_value space cube at function (map own_meant trees)) (call_value space cube at function (map plain_meant trees))) (bytes_eq word (codes "SIGN")) _ _ (unary_call_same funs.Sign trees same)
        (either_way (λ function. Same (call_value space cube at function (map own_meant trees)) (call_value space cube at function (map plain_meant trees))) (bytes_eq word (codes "INT")) _ _ (unary_call_same funs.Int trees same)
        (either_way (λ function. Same (call_value space cube at function (map own_meant trees)) (call_value space cube at function (map plain_meant trees))) (bytes_eq word (codes "ROUND")) _ _ (unary_call_same funs.Round trees same)
        (either_way (λ function. Same (call_value space cube at function (map own_meant trees)) (call_value space cube at function (map plain_meant trees))) (bytes_eq word (codes "TRUNC")) _ _ (unary_call_same funs.Trunc trees same)
        (either_way (λ function. Same (call_value space cube at function (map own_meant trees)) (call_value space cube at function (map plain_meant trees))) (bytes_eq word (codes "MAX")) _ _ (binary_call_same ops.Max trees same)
        (either_way (λ function. Same (call_value space cube at function (map own_meant trees)) (call_value space cube at function (map plain_meant trees))) (bytes_eq word (codes "MIN")) _ _ (binary_call_same ops.Min trees same)
        (either_way (λ function. Same (call_value space cube at function (map own_meant trees)) (call_value space cube at function (map plain_meant trees))) (bytes_eq word (codes "MOD")) _ _ (binary_call_same ops.Mod trees same)
        (either_way (λ function. Same (call_value space cube at function (map own_meant trees)) (call_value space cube at function (map plain_meant trees))) (bytes_eq word (codes "ROUNDP")) _ _ (binary_call_same ops.RoundTo trees same)
        (either_way (λ function. Same (call_value space cube at function (map own_meant trees)) (call_value space cube at function (map plain_meant trees))) (bytes_eq word (codes "DIMIX")) _ _ (by_trees (own_call space cube _) trees)
        (either_way (λ function. Same (call_value space cube at function (map own_meant trees)) (call_value space cube at function (map plain_meant trees))) (bytes_eq word (codes "ELLEV")) _ _ (by_trees (own_call space cube _) trees)
        (either_way (λ function. Same (call_value space cube at function (map own_meant trees)) (call_value space cube at function (map plain_meant trees))) (bytes_eq word (codes "ELISPAR")) _ _ (by_trees (own_call space cube _) trees)
        (either_way (λ function. Same (call_value space cube at function (map own_meant trees)) (call_value space cube at function (map plain_meant trees))) (bytes_eq word (codes "ELISANC")) _ _ (by_trees (own_call space cube _) trees)
        (either_way (λ function. Same (call_value space cube at function (map own_meant trees)) (call_value space cube at function (map plain_meant trees))) (bytes_eq word (codes "ELISCOMP")) _ _ (by_trees (own_call space cube _) trees)
        (either_way (λ function. Same (call_value space cube at function (map own_meant trees)) (call_value space cube at function (map plain_meant trees))) (bytes_eq word (codes "ATTRN")) _ _ (by_trees (own_call space cube _) trees)
        (either_way (λ function. Same (call_value space cube at function (map own_meant trees)) (call_value space cube at function (map plain_meant trees))) (bytes_eq word (codes "ELCOMPN")) _ _ (by_trees (own_call space cube _) trees)
        (either_way (λ function. Same (call_value space cube at function (map own_meant trees)) (call_value space cube at function (map plain_meant trees))) (bytes_eq word (codes "ELPARN")) _ _ (by_trees (own_call space cube _) trees)
        refl))))))))))))))))))))

  not_is : (p q : Truth) → IsSameTruth p q → IsSameTruth (truths.Not p) (truths.Not q)
  not_is p q same = of-not Value Bool (value_step named others) truth_step p ∙ ap not same ∙ sym (of-not Value Bool (value_step named others) truth_step q)

  abbrev Held : Type 0
  Held = (tree : Tree) × AreSameTree tree

  abbrev out : Tree-F Held → Tree-F Tree
  out l = map-Tree Held Tree (λ h. h.0) l

  all_same : (hs : List Held) → AreSameTrees (map (λ h. h.0) hs)
  all_same [] = tt
  all_same (h ∷ hs) = (h.1, all_same hs)

  abbrev IsSameLayer : Tree-F Tree → Type 0
  IsSameLayer l = AreSame (meanings_step space cube sets (map-Tree Tree Meant own_meant l)) (meanings_step space cube [] (map-Tree Tree Meant plain_meant l))

  alone_same : (f : Formula) (at : Standing) → Same (alone f at) (alone f at)
  alone_same f at = same_formula (alone f at)

  step : (l : Tree-F Held) → IsSameLayer (out l)
  step (Tree-F.Number k) = record { value = λ at. refl; truth = refl }
  step (Tree-F.Text bytes) = record { value = λ at. refl; truth = refl }
  step (Tree-F.Current dim) = record { value = λ at. refl; truth = refl }
  step (Tree-F.Bracket simples) = record { value = λ at. same_formula (bracket_of space cube simples >>= (λ r. Ok (formulas.Ref r))); truth = refl }
  step Tree-F.Stet = record { value = alone_same formulas.Stet; truth = refl }
  step Tree-F.Continue = record { value = alone_same formulas.Continue; truth = refl }
  step (Tree-F.Call word hs) = record { value = λ at. call_same at (map (λ h. h.0) hs) (all_same hs) word; truth = refl }
  step (Tree-F.Minus h) = record { value = λ at. unary_same funs.Minus (own_meant h.0) (plain_meant h.0) h.1; truth = refl }
  step (Tree-F.Not h) = record {
    value = λ at. refl;
    truth = each_related IsSameTruth IsSameTruth (own_meant h.0).1.truth (plain_meant h.0).1.truth (λ q. Ok (truths.Not q)) (λ q. Ok (truths.Not q)) h.1.truth not_is;
  }
  step (Tree-F.Binary op left right) = record {
    value = λ at. operator_same op (own_meant left.0) (own_meant right.0) (plain_meant left.0) (plain_meant right.0) left.1 right.1;
    truth = operator_truth_same op (own_meant left.0) (own_meant right.0) (plain_meant left.0) (plain_meant right.0) refl refl left.1 right.1;
  }

  layer : (l : Tree-F Held) → AreSameTree (roll-Tree (out l))
  layer l =
      subst (λ m. AreSame m (meanings space cube [] (roll-Tree (out l)))) (sym (by_layer space cube sets (out l)))
      (subst (AreSame (meanings_step space cube sets (map-Tree Tree Meant own_meant (out l)))) (sym (by_layer space cube [] (out l))) (step l))

  pub same : (tree : Tree) → AreSameTree tree
  same = ind-Tree AreSameTree (λ x l is. subst (λ z. AreSameTree (roll-Tree z)) is (layer l))
