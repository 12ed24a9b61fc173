-- What formulas are within element arguments, by their roots.
use Rattle.std.proofs.Common.{◌≡◌, ℕ, ℤ, List, [], ◌∷◌, map, Bool, true, false, Option, Some, None, refl, ap, ◌∙◌, if◌then◌else◌}
use Rattle.std.specs.Option.{option_map_or}
use Rattle.rule_tree.specs.declared.tree.Tree.{Tree}
use Rattle.rule_tree.specs.declared.tree.Tree.TheFolds.{fold-roll-Tree, ind-Tree}
use Rattle.rule_tree.specs.declared.tree.Tree.TheOpen.{Tree-F}
use Rattle.rule_tree.specs.declared.tree.Tree.TheViews.{roll-Tree}
use Rattle.rule_tree.specs.declared.tree.Tree.TheVariants as trees
use Rattle.rule_tree.specs.declared.tree.Tree.TheVariants.{rolls-Number, rolls-Text, rolls-Current, rolls-Call, rolls-Binary}
use Rattle.rule_tree.specs.declared.tree.TreeOp.{TreeOp}
use Rattle.rule_tree.specs.declared.tree.TreeOp.TheVariants as ops
use Rattle.bind_arguments.specs.Written.{Written, Current, Quoted, Part, Whole, AttributeOf, Element, Place, Moved, Other, whole_number, number_part, argument_of_part, at_index, name_call, index_call, attribute_call, RelativeOf, related, relative_called, relative_call, call_part, operation_part, part_step, part_in}
use Rattle.bind_arguments.specs.declared.relative.Relative.{Relative}
use Rattle.bind_arguments.specs.Inside.Reading.{text_of_part, whole_of_part, at_moved}
use Rattle.rule_tree.proofs.TreeFolds.{of-number, of-text, of-current, of-call, of-binary}

pub part_number : (tree : Tree) (z : ℤ) → tree ≡ trees.Number z → part_in tree ≡ number_part z
unfolding part_in
part_number tree z is = ap part_in is ∙ of-number Part part_step z

pub part_text : (tree : Tree) (text : List ℕ) → tree ≡ trees.Text text → part_in tree ≡ Element (Quoted text)
unfolding part_in
part_text tree text is = ap part_in is ∙ of-text Part part_step text

pub part_current : (tree : Tree) (dim : List ℕ) → tree ≡ trees.Current dim → part_in tree ≡ Element (Current dim)
unfolding part_in
part_current tree dim is = ap part_in is ∙ of-current Part part_step dim

pub part_call : (tree : Tree) (function : List ℕ) (arguments : List Tree) → tree ≡ trees.Call function arguments → part_in tree ≡ call_part function (map part_in arguments)
unfolding part_in
part_call tree function arguments is = ap part_in is ∙ of-call Part part_step function arguments

pub part_binary : (tree : Tree) (op : TreeOp) (left right : Tree) → tree ≡ trees.Binary op left right → part_in tree ≡ operation_part op (part_in left) (part_in right)
unfolding part_in
part_binary tree op left right is = ap part_in is ∙ of-binary Part part_step op left right

-- Texts and whole numbers are themselves alone.

pub record IsOther (part : Part) : Type 0 where
  pub text : text_of_part part ≡ None
  pub whole : whole_of_part part ≡ None

either_other : (test : Bool) (p q : Part) → IsOther p → IsOther q → IsOther (if test then p else q)
either_other true p q a b = a
either_other false p q a b = b

made_other : (make : Written → Part) → ((a : Written) → IsOther (make a)) → (o : Option Written) → IsOther (option_map_or make o Other)
made_other make each None = record { text = refl; whole = refl }
made_other make each (Some a) = each a

at_other : (dim : List ℕ) (index : Part) → IsOther (at_index dim index)
at_other dim (Whole n) = record { text = refl; whole = refl }
at_other dim (Place source of) = record { text = refl; whole = refl }
at_other dim (Moved source of shift) = record { text = refl; whole = refl }
at_other dim _ = record { text = refl; whole = refl }

name_other : (parts : List Part) → IsOther (name_call parts)
name_other (Element (Quoted dim) ∷ index ∷ []) = at_other dim index
name_other _ = record { text = refl; whole = refl }

index_other : (parts : List Part) → IsOther (index_call parts)
index_other (Element (Quoted source) ∷ of ∷ []) = made_other (λ a. Place source a) (λ a. record { text = refl; whole = refl }) (argument_of_part of)
index_other _ = record { text = refl; whole = refl }

attribute_other : (parts : List Part) → IsOther (attribute_call parts)
attribute_other (Element (Quoted dim) ∷ of ∷ Element (Quoted attribute) ∷ []) = made_other (λ a. Element (AttributeOf dim a attribute)) (λ a. record { text = refl; whole = refl }) (argument_of_part of)
attribute_other _ = record { text = refl; whole = refl }

related_other : (dim : List ℕ) (of : Option Written) (relative : Relative) → IsOther (related dim of relative)
related_other dim of relative = made_other (λ a. Element (RelativeOf dim a relative)) (λ a. record { text = refl; whole = refl }) of

relative_other : (function : List ℕ) (parts : List Part) → IsOther (relative_call function parts)
relative_other function (Element (Quoted dim) ∷ of ∷ behind) = by (relative_called function behind)
  where
    by : (o : Option Relative) → IsOther (option_map_or (related dim (argument_of_part of)) o Other)
    by None = record { text = refl; whole = refl }
    by (Some relative) = related_other dim (argument_of_part of) relative
relative_other function _ = record { text = refl; whole = refl }

pub call_other : (function : List ℕ) (parts : List Part) → IsOther (call_part function parts)
call_other function parts =
    either_other _ (name_call parts) _ (name_other parts)
    (either_other _ (index_call parts) _ (index_other parts)
    (either_other _ (attribute_call parts) _ (attribute_other parts) (relative_other function parts)))

pub operation_other : (op : TreeOp) (left right : Part) → IsOther (operation_part op left right)
operation_other ops.Add (Place source of) (Whole number) = record { text = refl; whole = refl }
operation_other ops.Sub (Place source of) (Whole number) = record { text = refl; whole = refl }
operation_other _ _ _ = record { text = refl; whole = refl }

number_no_text : (o : Option ℤ) → text_of_part (option_map_or Whole o Other) ≡ None
number_no_text None = refl
number_no_text (Some n) = refl

pub number_whole : (o : Option ℤ) → whole_of_part (option_map_or Whole o Other) ≡ o
number_whole None = refl
number_whole (Some n) = refl

abbrev Untext : Tree → Type 0
Untext tree = ((text : List ℕ) → tree ≡ trees.Text text → ⊥) → text_of_part (part_in tree) ≡ None

untext : (l : Tree-F Tree) → Untext (roll-Tree l)
unfolding part_in
untext (Tree-F.Text text) h = absurd (h text (rolls-Text text))
untext (Tree-F.Number z) h = ap text_of_part (fold-roll-Tree Part part_step (Tree-F.Number z)) ∙ number_no_text (whole_number z)
untext (Tree-F.Call f l) h = ap text_of_part (fold-roll-Tree Part part_step (Tree-F.Call f l)) ∙ (call_other f (map part_in l)).text
untext (Tree-F.Binary op a b) h = ap text_of_part (fold-roll-Tree Part part_step (Tree-F.Binary op a b)) ∙ (operation_other op (part_in a) (part_in b)).text
untext l h = ap text_of_part (fold-roll-Tree Part part_step l)

pub not_text : (tree : Tree) → Untext tree
not_text = ind-Tree Untext (λ x l is. untext x)

abbrev Unwhole : Tree → Type 0
Unwhole tree = ((z : ℤ) → tree ≡ trees.Number z → ⊥) → whole_of_part (part_in tree) ≡ None

unwhole : (l : Tree-F Tree) → Unwhole (roll-Tree l)
unfolding part_in
unwhole (Tree-F.Number z) h = absurd (h z (rolls-Number z))
unwhole (Tree-F.Call f l) h = ap whole_of_part (fold-roll-Tree Part part_step (Tree-F.Call f l)) ∙ (call_other f (map part_in l)).whole
unwhole (Tree-F.Binary op a b) h = ap whole_of_part (fold-roll-Tree Part part_step (Tree-F.Binary op a b)) ∙ (operation_other op (part_in a) (part_in b)).whole
unwhole l h = ap whole_of_part (fold-roll-Tree Part part_step l)

pub not_whole : (tree : Tree) → Unwhole tree
not_whole = ind-Tree Unwhole (λ x l is. unwhole x)

-- Formulas that are no arguments and no indices.

number_none : (o : Option ℤ) → argument_of_part (option_map_or Whole o Other) ≡ None
number_none None = refl
number_none (Some n) = refl

operation_none : (op : TreeOp) (left right : Part) → argument_of_part (operation_part op left right) ≡ None
operation_none ops.Add (Place source of) (Whole number) = refl
operation_none ops.Sub (Place source of) (Whole number) = refl
operation_none _ _ _ = refl

abbrev NoArgument : Tree → Type 0
NoArgument tree = ((text : List ℕ) → tree ≡ trees.Text text → ⊥) → ((dim : List ℕ) → tree ≡ trees.Current dim → ⊥)
    → ((f : List ℕ) (l : List Tree) → tree ≡ trees.Call f l → ⊥) → argument_of_part (part_in tree) ≡ None

none_of : (l : Tree-F Tree) → NoArgument (roll-Tree l)
unfolding part_in
none_of (Tree-F.Text text) a b d = absurd (a text (rolls-Text text))
none_of (Tree-F.Current dim) a b d = absurd (b dim (rolls-Current dim))
none_of (Tree-F.Call f l) a b d = absurd (d f l (rolls-Call f l))
none_of (Tree-F.Number z) a b d = ap argument_of_part (fold-roll-Tree Part part_step (Tree-F.Number z)) ∙ number_none (whole_number z)
none_of (Tree-F.Binary op x y) a b d = ap argument_of_part (fold-roll-Tree Part part_step (Tree-F.Binary op x y)) ∙ operation_none op (part_in x) (part_in y)
none_of l a b d = ap argument_of_part (fold-roll-Tree Part part_step l)

pub no_argument : (tree : Tree) → NoArgument tree
no_argument = ind-Tree NoArgument (λ x l is. none_of x)

moved_number : (dim : List ℕ) (n : ℤ) (o : Option ℤ) → argument_of_part (at_moved dim (option_map_or Whole o Other) n) ≡ None
moved_number dim n None = refl
moved_number dim n (Some m) = refl

moved_operation : (dim : List ℕ) (n : ℤ) (op : TreeOp) (left right : Part) → argument_of_part (at_moved dim (operation_part op left right) n) ≡ None
moved_operation dim n ops.Add (Place source of) (Whole number) = refl
moved_operation dim n ops.Sub (Place source of) (Whole number) = refl
moved_operation dim n _ _ _ = refl

abbrev NoPlace : Tree → Type 0
NoPlace tree = (dim : List ℕ) (n : ℤ) → ((f : List ℕ) (l : List Tree) → tree ≡ trees.Call f l → ⊥) → argument_of_part (at_moved dim (part_in tree) n) ≡ None

no_place_of : (l : Tree-F Tree) → NoPlace (roll-Tree l)
unfolding part_in
no_place_of (Tree-F.Call f l) dim n h = absurd (h f l (rolls-Call f l))
no_place_of (Tree-F.Number z) dim n h = ap (λ p. argument_of_part (at_moved dim p n)) (fold-roll-Tree Part part_step (Tree-F.Number z)) ∙ moved_number dim n (whole_number z)
no_place_of (Tree-F.Binary op x y) dim n h = ap (λ p. argument_of_part (at_moved dim p n)) (fold-roll-Tree Part part_step (Tree-F.Binary op x y)) ∙ moved_operation dim n op (part_in x) (part_in y)
no_place_of l dim n h = ap (λ p. argument_of_part (at_moved dim p n)) (fold-roll-Tree Part part_step l)

pub no_place : (tree : Tree) → NoPlace tree
no_place = ind-Tree NoPlace (λ x l is. no_place_of x)

abbrev NoIndex : Tree → Type 0
NoIndex tree = (dim : List ℕ) → ((z : ℤ) → tree ≡ trees.Number z → ⊥) → ((f : List ℕ) (l : List Tree) → tree ≡ trees.Call f l → ⊥)
    → ((op : TreeOp) (x y : Tree) → tree ≡ trees.Binary op x y → ⊥) → argument_of_part (at_index dim (part_in tree)) ≡ None

no_index_of : (l : Tree-F Tree) → NoIndex (roll-Tree l)
unfolding part_in
no_index_of (Tree-F.Number z) dim a b d = absurd (a z (rolls-Number z))
no_index_of (Tree-F.Call f l) dim a b d = absurd (b f l (rolls-Call f l))
no_index_of (Tree-F.Binary op x y) dim a b d = absurd (d op x y (rolls-Binary op x y))
no_index_of l dim a b d = ap (λ p. argument_of_part (at_index dim p)) (fold-roll-Tree Part part_step l)

pub no_index : (tree : Tree) → NoIndex tree
no_index = ind-Tree NoIndex (λ x l is. no_index_of x)
