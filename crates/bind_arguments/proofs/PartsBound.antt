-- What parts of formulas are bound to.
use Rattle.std.proofs.Common.{◌≡◌, ◌<◌, ◌≤◌, inl, inr, ℕ, ℤ, pos, neg_ℤ, List, [], ◌∷◌, map, length, get_or, drop, arith, Bool, true, false, Option, Some, None, Result, Ok, Err, refl, sym, ap, ◌∙◌, subst, if◌then◌else◌, codes, bytes_eq, slice_index_or}
use Rattle.std.proofs.lemmas.List.{length-map}
use Rattle.std.proofs.lemmas.Slice.Eq.{bytes_eq-Decides}
use Rattle.std.specs.Option.{option_map, option_map_or, option_and_then, ok_or}
use Rattle.cube_space.specs.Layout.{Layout, dims_of}
use Rattle.rule_tree.specs.declared.tree.Tree.{Tree}
use Rattle.rule_tree.specs.declared.tree.TreeOp.{TreeOp}
use Rattle.rule_tree.specs.declared.tree.TreeOp.TheVariants as ops
use Rattle.bind_arguments.specs.Written.{Written, Current, whole_number, number_part, AtPlace, AttributeOf, Quoted, Part, Whole, Element, Place, Moved, Other, argument_of_part, at_index, name_call, index_call, attribute_call, RelativeOf, place_of_part, related, relative_at, relative_called, relative_call, call_part, operation_part, part_in}
use Rattle.bind_arguments.specs.declared.relative.Relative.{Relative}
use Rattle.bind_arguments.specs.Bound.{name_in, dimension_named, place_in_cube, bound_argument}
use Rattle.bind_arguments.specs.Argument.{IsAnsweredBy}
use Rattle.bind_arguments.specs.Inside.Reading.{text_of_part, shift_in, bound_by_form, bound_part, at_moved}
use Rattle.bind_arguments.specs.declared.bound_argument.BoundArgument.{BoundArgument}
use Rattle.bind_arguments.specs.declared.bound_argument.BoundArgument.TheVariants as bound
use Rattle.bind_arguments.specs.declared.fault.ArgumentFault.{ArgumentFault}
use Rattle.bind_arguments.specs.declared.fault.ArgumentFault.TheVariants.{UnknownName, DynamicReference, Memory}

-- Answers.

pub answers : {T : Type 0} (e r : Result T ArgumentFault) → e ≡ r → IsAnsweredBy e r
answers (Ok v) (Ok w) is = cc
answers (Ok v) (Err f) is = absurd (cc)
answers (Err f) (Ok v) is = absurd (cc)
answers (Err f) (Err g) is = inl cc

pub memory : {T : Type 0} (e : Result T ArgumentFault) → IsAnsweredBy e (Err Memory)
memory (Ok v) = refl
memory (Err f) = inr refl

-- A part that is no argument.

pub dynamic : (space : Layout) (cube : ℕ) (p : Part) → argument_of_part p ≡ None → IsAnsweredBy (bound_part space cube p) (Err DynamicReference)
unfolding bound_part
dynamic space cube p is = answers (bound_part space cube p) (Err DynamicReference) (ap (bound_by_form space cube) is)

pub text_bound : (space : Layout) (cube : ℕ) (text : List ℕ) (name : Option (List ℕ)) → name ≡ name_in text → IsAnsweredBy (bound_part space cube (Element (Quoted text))) (Ok (bound.Text name))
unfolding bound_part
text_bound space cube text name is = ap bound.Text is

-- A part around another argument, whose fault goes first.

module _ (space : Layout) (cube : ℕ) (make : Written → Written) (more : BoundArgument → Option BoundArgument)
    (makes : (a : Written) → bound_argument space cube (make a) ≡ option_and_then more (bound_argument space cube a)) where
  abbrev around : Option Written → Part
  around o = option_map_or (λ a. Element (make a)) o Other

  refused_around : (f : ArgumentFault) (b : Option BoundArgument) → IsAnsweredBy (ok_or b UnknownName) (Err f) → IsAnsweredBy (ok_or (option_and_then more b) UnknownName) (Err f)
  refused_around f None h = h
  refused_around f (Some x) h = subst (λ g. IsAnsweredBy (ok_or (more x) UnknownName) (Err g)) (sym h) (memory (ok_or (more x) UnknownName))

  refused_by : (f : ArgumentFault) (o : Option Written) → IsAnsweredBy (bound_by_form space cube o) (Err f) → IsAnsweredBy (bound_part space cube (around o)) (Err f)
  unfolding bound_part
  refused_by f None h = h
  refused_by f (Some a) h = subst (λ b. IsAnsweredBy (ok_or b UnknownName) (Err f)) (sym (makes a)) (refused_around f (bound_argument space cube a) h)

  pub refused : (p : Part) (f : ArgumentFault) → IsAnsweredBy (bound_part space cube p) (Err f) → IsAnsweredBy (bound_part space cube (around (argument_of_part p))) (Err f)
  unfolding bound_part
  refused p f h = refused_by f (argument_of_part p) h

  known_around : (x : BoundArgument) (b : Option BoundArgument) → IsAnsweredBy (ok_or b UnknownName) (Ok x) → ok_or (option_and_then more b) UnknownName ≡ ok_or (more x) UnknownName
  known_around x None h = absurd h
  known_around x (Some y) h = ap (λ z. ok_or (more z) UnknownName) (sym h)

  known_by : (x : BoundArgument) (o : Option Written) → IsAnsweredBy (bound_by_form space cube o) (Ok x) → bound_part space cube (around o) ≡ ok_or (more x) UnknownName
  unfolding bound_part
  known_by x None h = absurd h
  known_by x (Some a) h = ap (λ b. ok_or b UnknownName) (makes a) ∙ known_around x (bound_argument space cube a) h

  pub known : (p : Part) (x : BoundArgument) → IsAnsweredBy (bound_part space cube p) (Ok x) → bound_part space cube (around (argument_of_part p)) ≡ ok_or (more x) UnknownName
  unfolding bound_part
  known p x h = known_by x (argument_of_part p) h

-- Calls.

no_argument : (make : Written → Part) → ((a : Written) → argument_of_part (make a) ≡ None) → (o : Option Written) → argument_of_part (option_map_or make o Other) ≡ None
no_argument make each None = refl
no_argument make each (Some a) = each a

no_index : (parts : List Part) → argument_of_part (index_call parts) ≡ None
no_index (Element (Quoted source) ∷ of ∷ []) = no_argument (λ a. Place source a) (λ a. refl) (argument_of_part of)
no_index _ = refl

-- DIMIX means no relative
no_relative_at : (o : Option ℕ) → option_and_then (relative_at (codes "DIMIX")) o ≡ None
no_relative_at None = refl
no_relative_at (Some place) = refl

no_relative_of : (behind : List Part) → relative_called (codes "DIMIX") behind ≡ None
no_relative_of [] = refl
no_relative_of (part ∷ []) = no_relative_at (place_of_part part)
no_relative_of (part ∷ next ∷ behind) = refl

no_relative : (parts : List Part) → argument_of_part (relative_call (codes "DIMIX") parts) ≡ None
no_relative (Element (Quoted dim) ∷ of ∷ behind) = ap (λ o. argument_of_part (option_map_or (related dim (argument_of_part of)) o Other)) (no_relative_of behind)
no_relative _ = refl

other_by : (dimnm dimix attrs : Bool) (function : List ℕ) (parts : List Part) → dimnm ≡ false → attrs ≡ false → (dimix ≡ true → function ≡ codes "DIMIX")
    → argument_of_part (relative_call function parts) ≡ argument_of_part (if dimnm then name_call parts else if dimix then index_call parts else if attrs then attribute_call parts else relative_call function parts)
other_by true dimix attrs function parts a b is = absurd (cc)
other_by false dimix true function parts a b is = absurd (cc)
other_by false true false function parts a b is = ap (λ f. argument_of_part (relative_call f parts)) (is refl) ∙ no_relative parts ∙ sym (no_index parts)
other_by false false false function parts a b is = refl

pub other_call : (function : List ℕ) (parts : List Part) → bytes_eq function (codes "DIMNM") ≡ false → bytes_eq function (codes "ATTRS") ≡ false
    → argument_of_part (relative_call function parts) ≡ argument_of_part (call_part function parts)
other_call function parts dimnm attrs =
    other_by (bytes_eq function (codes "DIMNM")) (bytes_eq function (codes "DIMIX")) (bytes_eq function (codes "ATTRS")) function parts dimnm attrs (bytes_eq-Decides function (codes "DIMIX")).0

-- an answer at a part is one at another that is the same argument
pub same_argument : (space : Layout) (cube : ℕ) (p q : Part) (r : Result BoundArgument ArgumentFault) → argument_of_part p ≡ argument_of_part q → IsAnsweredBy (bound_part space cube p) r → IsAnsweredBy (bound_part space cube q) r
unfolding bound_part
same_argument space cube p q r same h = subst (λ o. IsAnsweredBy (bound_by_form space cube o) r) same h

-- Relatives.

pub relative_count : (function : List ℕ) (parts : List Part) → length parts < 2 → argument_of_part (relative_call function parts) ≡ None
relative_count function (Element (Quoted dim) ∷ of ∷ behind) few = absurd (omega (arith, few))
relative_count function _ few = refl

pub relative_textless : (function : List ℕ) (p q : Part) (behind : List Part) → text_of_part p ≡ None → argument_of_part (relative_call function (p ∷ q ∷ behind)) ≡ None
relative_textless function (Element (Quoted dim)) q behind h = absurd (cc)
relative_textless function _ q behind h = refl

pub relative_unknown : (function : List ℕ) (p q : Part) (behind : List Part) → relative_called function behind ≡ None → argument_of_part (relative_call function (p ∷ q ∷ behind)) ≡ None
relative_unknown function (Element (Quoted dim)) q behind h = ap (λ o. argument_of_part (option_map_or (related dim (argument_of_part q)) o Other)) h
relative_unknown function _ q behind h = refl

pub relative_is : (function dim : List ℕ) (p q : Part) (behind : List Part) (relative : Relative) → text_of_part p ≡ Some dim → relative_called function behind ≡ Some relative
    → relative_call function (p ∷ q ∷ behind) ≡ related dim (argument_of_part q) relative
relative_is function dim (Element (Quoted d)) q behind relative text h =
    let same : d ≡ dim = cc text in
    ap (λ o. option_map_or (related d (argument_of_part q)) o Other) h ∙ ap (λ x. related x (argument_of_part q) relative) same
relative_is function dim _ q behind relative text h = absurd (cc text)

pub name_count : (parts : List Part) → (length parts ≡ 2 → ⊥) → argument_of_part (name_call parts) ≡ None
name_count (Element (Quoted dim) ∷ index ∷ []) h = absurd (h refl)
name_count _ h = refl

pub index_count : (dim : List ℕ) (n : ℤ) (parts : List Part) → (length parts ≡ 2 → ⊥) → argument_of_part (at_moved dim (index_call parts) n) ≡ None
index_count dim n (Element (Quoted source) ∷ of ∷ []) h = absurd (h refl)
index_count dim n _ h = refl

pub attribute_count : (parts : List Part) → (length parts ≡ 3 → ⊥) → argument_of_part (attribute_call parts) ≡ None
attribute_count (Element (Quoted dim) ∷ of ∷ Element (Quoted attribute) ∷ []) h = absurd (h refl)
attribute_count _ h = refl

pub name_textless : (p q : Part) → text_of_part p ≡ None → argument_of_part (name_call (p ∷ q ∷ [])) ≡ None
name_textless (Element (Quoted dim)) q h = absurd (cc)
name_textless _ q h = refl

pub index_textless : (dim : List ℕ) (n : ℤ) (p q : Part) → text_of_part p ≡ None → argument_of_part (at_moved dim (index_call (p ∷ q ∷ [])) n) ≡ None
index_textless dim n (Element (Quoted source)) q h = absurd (cc)
index_textless dim n _ q h = refl

pub attribute_textless : (p q r : Part) → text_of_part p ≡ None → argument_of_part (attribute_call (p ∷ q ∷ r ∷ [])) ≡ None
attribute_textless (Element (Quoted dim)) q (Element (Quoted attribute)) h = absurd (cc)
attribute_textless _ q _ h = refl

pub attribute_nameless : (p q r : Part) → text_of_part r ≡ None → argument_of_part (attribute_call (p ∷ q ∷ r ∷ [])) ≡ None
attribute_nameless (Element (Quoted dim)) q (Element (Quoted attribute)) h = absurd (cc)
attribute_nameless _ q _ h = refl

-- the parts of two arguments, and of three
pub two_parts : (l : List Tree) (x : Tree) → length l ≡ 2 → x ≡ get_or l 0 x → (q : Part) × (map part_in l ≡ part_in x ∷ q ∷ [])
two_parts [] x h first = absurd (cc)
two_parts (a ∷ []) x h first = absurd (cc)
two_parts (a ∷ b ∷ []) x h first = (part_in b, ap (λ t. part_in t ∷ part_in b ∷ []) (sym first))
two_parts (a ∷ b ∷ c ∷ l) x h first = absurd (cc)

pub three_parts : (l : List Tree) (x z : Tree) → length l ≡ 3 → x ≡ get_or l 0 x → z ≡ get_or l 2 z → (q : Part) × (map part_in l ≡ part_in x ∷ q ∷ part_in z ∷ [])
three_parts [] x z h first last = absurd (cc)
three_parts (a ∷ []) x z h first last = absurd (cc)
three_parts (a ∷ b ∷ []) x z h first last = absurd (cc)
three_parts (a ∷ b ∷ c ∷ []) x z h first last = (part_in b, ap (λ t. part_in t ∷ part_in b ∷ part_in c ∷ []) (sym first) ∙ ap (λ t. part_in x ∷ part_in b ∷ part_in t ∷ []) (sym last))
three_parts (a ∷ b ∷ c ∷ d ∷ l) x z h first last = absurd (cc)

pub three_first : (l : List Tree) (x : Tree) → length l ≡ 3 → x ≡ get_or l 0 x → (q r : Part) × (map part_in l ≡ part_in x ∷ q ∷ r ∷ [])
three_first [] x h first = absurd (cc)
three_first (a ∷ []) x h first = absurd (cc)
three_first (a ∷ b ∷ []) x h first = absurd (cc)
three_first (a ∷ b ∷ c ∷ []) x h first = (part_in b, part_in c, ap (λ t. part_in t ∷ part_in b ∷ part_in c ∷ []) (sym first))
three_first (a ∷ b ∷ c ∷ d ∷ l) x h first = absurd (cc)

-- the parts of two arguments and those behind them
pub parts_behind : (l : List Tree) (x : Tree) → 2 ≤ length l → x ≡ get_or l 0 x → (q : Part) × (map part_in l ≡ part_in x ∷ q ∷ map part_in (drop 2 l))
parts_behind [] x many first = absurd (omega (arith, many))
parts_behind (a ∷ []) x many first = absurd (omega (arith, many))
parts_behind (a ∷ b ∷ l) x many first = (part_in b, ap (λ t. part_in t ∷ part_in b ∷ map part_in l) (sym first))

pub both_behind : (l : List Tree) (x y : Tree) → 2 ≤ length l → x ≡ get_or l 0 x → y ≡ get_or l 1 y → map part_in l ≡ part_in x ∷ part_in y ∷ map part_in (drop 2 l)
both_behind [] x y many first second = absurd (omega (arith, many))
both_behind (a ∷ []) x y many first second = absurd (omega (arith, many))
both_behind (a ∷ b ∷ l) x y many first second = ap (λ t. part_in t ∷ part_in b ∷ map part_in l) (sym first) ∙ ap (λ t. part_in x ∷ part_in t ∷ map part_in l) (sym second)

-- Indices.

-- a call as an index is DIMIX alone, or nothing
record IsCall (dim : List ℕ) (part : Part) : Type 0 where
  same : at_index dim part ≡ at_moved dim part (pos 0)

either_call : (dim : List ℕ) (test : Bool) (p q : Part) → IsCall dim p → IsCall dim q → IsCall dim (if test then p else q)
either_call dim true p q a b = a
either_call dim false p q a b = b

made_call : (dim : List ℕ) (make : Written → Part) → ((a : Written) → IsCall dim (make a)) → (o : Option Written) → IsCall dim (option_map_or make o Other)
made_call dim make each None = record { same = refl }
made_call dim make each (Some a) = each a

at_call : (dim d : List ℕ) (index : Part) → IsCall dim (at_index d index)
at_call dim d (Whole n) = record { same = refl }
at_call dim d (Place source of) = record { same = refl }
at_call dim d (Moved source of shift) = record { same = refl }
at_call dim d _ = record { same = refl }

name_is_call : (dim : List ℕ) (parts : List Part) → IsCall dim (name_call parts)
name_is_call dim (Element (Quoted d) ∷ index ∷ []) = at_call dim d index
name_is_call dim _ = record { same = refl }

index_is_call : (dim : List ℕ) (parts : List Part) → IsCall dim (index_call parts)
index_is_call dim (Element (Quoted source) ∷ of ∷ []) = made_call dim (λ a. Place source a) (λ a. record { same = refl }) (argument_of_part of)
index_is_call dim _ = record { same = refl }

attribute_is_call : (dim : List ℕ) (parts : List Part) → IsCall dim (attribute_call parts)
attribute_is_call dim (Element (Quoted d) ∷ of ∷ Element (Quoted attribute) ∷ []) = made_call dim (λ a. Element (AttributeOf d a attribute)) (λ a. record { same = refl }) (argument_of_part of)
attribute_is_call dim _ = record { same = refl }

relative_is_call : (dim function : List ℕ) (parts : List Part) → IsCall dim (relative_call function parts)
relative_is_call dim function (Element (Quoted d) ∷ of ∷ behind) = by (relative_called function behind)
  where
    by : (o : Option Relative) → IsCall dim (option_map_or (related d (argument_of_part of)) o Other)
    by None = record { same = refl }
    by (Some relative) = made_call dim (λ a. Element (RelativeOf d a relative)) (λ a. record { same = refl }) (argument_of_part of)
relative_is_call dim function _ = record { same = refl }

pub call_as_index : (dim function : List ℕ) (parts : List Part) → at_index dim (call_part function parts) ≡ at_moved dim (call_part function parts) (pos 0)
call_as_index dim function parts =
    (either_call dim _ (name_call parts) _ (name_is_call dim parts)
    (either_call dim _ (index_call parts) _ (index_is_call dim parts)
    (either_call dim _ (attribute_call parts) _ (attribute_is_call dim parts) (relative_is_call dim function parts)))).same

pub operation_moved : (dim : List ℕ) (op : TreeOp) (left right : Part) (n : ℤ) → shift_in op right ≡ Some n → at_index dim (operation_part op left right) ≡ at_moved dim left n
operation_moved dim ops.Add (Place source of) (Whole m) n h = ap (λ k. Element (AtPlace dim source of k)) (let e : m ≡ n = cc in e)
operation_moved dim ops.Sub (Place source of) (Whole m) n h = ap (λ k. Element (AtPlace dim source of k)) (let e : neg_ℤ m ≡ n = cc in e)
operation_moved dim ops.Add (Place source of) _ n h = absurd (cc)
operation_moved dim ops.Sub (Place source of) _ n h = absurd (cc)
operation_moved dim ops.Add _ right n h = refl
operation_moved dim ops.Sub _ right n h = refl
operation_moved dim _ left right n h = absurd (cc)

pub operation_unmoved : (dim : List ℕ) (op : TreeOp) (left right : Part) → shift_in op right ≡ None → argument_of_part (at_index dim (operation_part op left right)) ≡ None
operation_unmoved dim ops.Add (Place source of) (Whole m) h = absurd (cc)
operation_unmoved dim ops.Sub (Place source of) (Whole m) h = absurd (cc)
operation_unmoved dim _ _ _ h = refl

-- DIMNM of DIMIX

dimix_call : (f : List ℕ) (parts : List Part) → f ≡ codes "DIMIX" → call_part f parts ≡ index_call parts
dimix_call f parts is = ap (λ g. call_part g parts) is

pub place_call : (f : List ℕ) (parts : List Part) → bytes_eq f (codes "DIMIX") ≡ true → call_part f parts ≡ index_call parts
place_call f parts is = dimix_call f parts ((bytes_eq-Decides f (codes "DIMIX")).0 is)

no_place_in : (dim : List ℕ) (n : ℤ) (make : Written → Part) → ((a : Written) → argument_of_part (at_moved dim (make a) n) ≡ None) → (o : Option Written) → argument_of_part (at_moved dim (option_map_or make o Other) n) ≡ None
no_place_in dim n make each None = refl
no_place_in dim n make each (Some a) = each a

unplaced_at : (dim d : List ℕ) (n : ℤ) (index : Part) → argument_of_part (at_moved dim (at_index d index) n) ≡ None
unplaced_at dim d n (Whole m) = refl
unplaced_at dim d n (Place source of) = refl
unplaced_at dim d n (Moved source of shift) = refl
unplaced_at dim d n _ = refl

unplaced_name : (dim : List ℕ) (n : ℤ) (parts : List Part) → argument_of_part (at_moved dim (name_call parts) n) ≡ None
unplaced_name dim n (Element (Quoted d) ∷ index ∷ []) = unplaced_at dim d n index
unplaced_name dim n _ = refl

unplaced_attribute : (dim : List ℕ) (n : ℤ) (parts : List Part) → argument_of_part (at_moved dim (attribute_call parts) n) ≡ None
unplaced_attribute dim n (Element (Quoted d) ∷ of ∷ Element (Quoted attribute) ∷ []) = no_place_in dim n (λ a. Element (AttributeOf d a attribute)) (λ a. refl) (argument_of_part of)
unplaced_attribute dim n _ = refl

unplaced_relative : (dim : List ℕ) (n : ℤ) (function : List ℕ) (parts : List Part) → argument_of_part (at_moved dim (relative_call function parts) n) ≡ None
unplaced_relative dim n function (Element (Quoted d) ∷ of ∷ behind) = by (relative_called function behind)
  where
    by : (o : Option Relative) → argument_of_part (at_moved dim (option_map_or (related d (argument_of_part of)) o Other) n) ≡ None
    by None = refl
    by (Some relative) = no_place_in dim n (λ a. Element (RelativeOf d a relative)) (λ a. refl) (argument_of_part of)
unplaced_relative dim n function _ = refl

unplaced_by : (dim : List ℕ) (n : ℤ) (dimnm dimix attrs : Bool) (function : List ℕ) (parts : List Part) → dimix ≡ false
    → argument_of_part (at_moved dim (if dimnm then name_call parts else if dimix then index_call parts else if attrs then attribute_call parts else relative_call function parts) n) ≡ None
unplaced_by dim n true dimix attrs function parts h = unplaced_name dim n parts
unplaced_by dim n false true attrs function parts h = absurd (cc)
unplaced_by dim n false false true function parts h = unplaced_attribute dim n parts
unplaced_by dim n false false false function parts h = unplaced_relative dim n function parts

pub unplaced : (dim f : List ℕ) (n : ℤ) (parts : List Part) → bytes_eq f (codes "DIMIX") ≡ false → argument_of_part (at_moved dim (call_part f parts) n) ≡ None
unplaced dim f n parts is = unplaced_by dim n (bytes_eq f (codes "DIMNM")) (bytes_eq f (codes "DIMIX")) (bytes_eq f (codes "ATTRS")) f parts is

-- the parts of a list of formulas are as many
pub other_count : (l : List Tree) (n : ℕ) → (length l ≡ n → ⊥) → length (map part_in l) ≡ n → ⊥
other_count l n h same = h (sym (length-map l part_in) ∙ same)

-- an answer at a part is one at the same part
pub same_part : (space : Layout) (cube : ℕ) (p q : Part) (r : Result BoundArgument ArgumentFault) → p ≡ q → IsAnsweredBy (bound_part space cube p) r → IsAnsweredBy (bound_part space cube q) r
same_part space cube p q r is h = subst (λ x. IsAnsweredBy (bound_part space cube x) r) is h

-- DIMNM of a dimension and a number

module _ (space : Layout) (cube : ℕ) (dim : List ℕ) (z : ℤ) where
  number_is : (o : Option ℤ) → whole_number z ≡ o → bound_part space cube (at_index dim (number_part z)) ≡ bound_part space cube (at_index dim (option_map_or Whole o Other))
  number_is o is = ap (λ w. bound_part space cube (at_index dim (option_map_or Whole w Other))) is

  pub number_bound : (n : ℤ) (d : ℕ) → whole_number z ≡ Some n → dimension_named space dim ≡ Some d → IsAnsweredBy (bound_part space cube (at_index dim (number_part z))) (Ok (bound.AtIndex d n))
  unfolding bound_part
  number_bound n d is named = answers _ (Ok (bound.AtIndex d n)) (number_is (Some n) is ∙ ap (λ o. ok_or (option_map (λ d. bound.AtIndex d n) o) UnknownName) named)

  pub number_unknown : (n : ℤ) → whole_number z ≡ Some n → dimension_named space dim ≡ None → IsAnsweredBy (bound_part space cube (at_index dim (number_part z))) (Err UnknownName)
  unfolding bound_part
  number_unknown n is named = answers _ (Err UnknownName) (number_is (Some n) is ∙ ap (λ o. ok_or (option_map (λ d. bound.AtIndex d n) o) UnknownName) named)

  pub number_dynamic : whole_number z ≡ None → IsAnsweredBy (bound_part space cube (at_index dim (number_part z))) (Err DynamicReference)
  unfolding bound_part
  number_dynamic is = answers _ (Err DynamicReference) (number_is None is)

-- ! and a dimension

pub current_bound : (space : Layout) (cube : ℕ) (name : List ℕ) (place dim : ℕ) → place_in_cube space cube name ≡ Some place → slice_index_or (dims_of space cube) place 0 ≡ dim
    → IsAnsweredBy (bound_part space cube (Element (Current name))) (Ok (bound.Current place dim))
unfolding bound_part
current_bound space cube name place dim is same =
    answers _ (Ok (bound.Current place dim)) (ap (λ o. ok_or (option_map (λ p. bound.Current p (slice_index_or (dims_of space cube) p 0)) o) UnknownName) is ∙ ap (λ d. Ok (bound.Current place d)) same)

pub current_unknown : (space : Layout) (cube : ℕ) (name : List ℕ) → place_in_cube space cube name ≡ None
    → IsAnsweredBy (bound_part space cube (Element (Current name))) (Err UnknownName)
unfolding bound_part
current_unknown space cube name is =
    answers _ (Err UnknownName) (ap (λ o. ok_or (option_map (λ p. bound.Current p (slice_index_or (dims_of space cube) p 0)) o) UnknownName) is)
