-- What an expression gives.
use Rattle.std.specs.Prelude.{ℕ, ℤ, ◌==◌, nat_lt, Bool, not, ◌&&◌, ◌||◌, List, [], ◌∷◌, ◌++◌, length, reverse}
use Rattle.std.specs.Prelude.{Option, Some, None, unwrap_or, Result, Ok, Err, slice_get, if◌then◌else◌, map}
use Rattle.std.specs.Char.{to_ascii_uppercase, to_ascii_lowercase}
use Rattle.cube_fixed.specs.declared.value.Value.{Value}
use Rattle.cube_fixed.specs.declared.value.Value.TheVariants.{Num, Over}
use Rattle.cube_fixed.specs.declared.reading.NumberFault.{NumberFault}
use Rattle.cube_fixed.specs.Arithmetic.{zero_value}
use Rattle.cube_fixed.specs.Text.{decimal_point, number_with, reading_of, printed, fixed_text}
use Rattle.dim_name.specs.Bytes.{space, tab}
use Rattle.dim_name.specs.Name.{is_same_name}
use Rattle.rule_laws.specs.declared.operation.Op.{Op}
use Rattle.rule_laws.specs.declared.operation.Rel.{Rel}
use Rattle.rule_laws.specs.Operation.{operation_of, function_of, comparison_of}
use Rattle.script_bound.specs.declared.term.Term.{Term}
use Rattle.script_bound.specs.declared.term.Term.TheFolds.{fold-Term}
use Rattle.script_bound.specs.declared.term.Term.TheOpen.{Term-F}
use Rattle.script_bound.specs.declared.term.ElementFun.{ElementFun}
use Rattle.script_bound.specs.declared.term.ElementFun.TheVariants as element_functions
use Rattle.script_bound.specs.declared.term.TextFun.{TextFun}
use Rattle.script_bound.specs.declared.term.TextFun.TheVariants.{Trim, Upper, Lower}
use Rattle.script_values.specs.declared.datum.Datum.{Datum}
use Rattle.script_values.specs.declared.datum.Datum.TheVariants as data_of
use Rattle.script_values.specs.declared.kept.Kept.{Kept}
use Rattle.script_values.specs.declared.kept.Kept.TheVariants as kept
use Rattle.script_values.specs.declared.load_reason.LoadReason.{LoadReason}
use Rattle.script_values.specs.declared.load_reason.LoadReason.TheVariants.{UnknownName, NotANumber, UnsetVariable}
use Rattle.script_values.specs.declared.load_reason.LoadReason.TheVariants.{TypeMismatch, TextLimit}
use Rattle.script_values.specs.Cells.{Store, Write, reading, is_updateable}
use Rattle.script_values.specs.Elements.{of_elements, of_element, place_said, kind_text}
use Rattle.script_values.specs.Characters.{units_of, character_count, place_in, cut_out}
use Rattle.script_values.specs.Padding.{width_in, padded}
use Rattle.script_values.specs.Scene.{Scene}

-- ---- a datum as what is wanted

abbrev pub is_blank : ℕ → Bool
is_blank byte = byte == space || byte == tab

abbrev pub without_blanks : List ℕ → List ℕ
without_blanks [] = []
without_blanks (byte ∷ bytes) = if is_blank byte then without_blanks bytes else byte ∷ bytes

abbrev pub without_blanks_behind : List ℕ → List ℕ
without_blanks_behind text = reverse (without_blanks (reverse text))

-- without the spaces and tabs at its ends
abbrev pub trimmed : List ℕ → List ℕ
trimmed text = without_blanks_behind (without_blanks text)

-- what a function of one text gives
abbrev pub altered : TextFun → List ℕ → List ℕ
altered Trim text = trimmed text
altered Upper text = map to_ascii_uppercase text
altered Lower text = map to_ascii_lowercase text

abbrev pub amount_read : Result ℤ NumberFault → Result Value LoadReason
amount_read (Ok millionths) = Ok (Num millionths)
amount_read (Err fault) = Err NotANumber

abbrev pub amount_said : ℕ → List ℕ → Result Value LoadReason
amount_said decimal [] = Ok zero_value
amount_said decimal (byte ∷ bytes) = amount_read (reading_of (number_with decimal (byte ∷ bytes)))

-- what a column says as a number, without the spaces and tabs at its ends, where this byte stands between units and
-- decimals; an empty one is 0
abbrev pub column_amount : ℕ → List ℕ → Result Value LoadReason
column_amount decimal text = amount_said decimal (trimmed text)

-- the same of a text, which has a point there
abbrev pub amount_in : List ℕ → Result Value LoadReason
amount_in = column_amount decimal_point

-- a datum where a number is wanted
abbrev pub as_amount : Datum → Result Value LoadReason
as_amount (data_of.Number value) = Ok value
as_amount (data_of.Text text) = amount_in text
as_amount (data_of.Column text decimal) = column_amount decimal text
as_amount (data_of.Truth truth) = Err TypeMismatch

-- where a text is wanted
abbrev pub as_text : Datum → Result (List ℕ) LoadReason
as_text (data_of.Text text) = Ok text
as_text (data_of.Column text decimal) = Ok text
as_text (data_of.Number value) = Err TypeMismatch
as_text (data_of.Truth truth) = Err TypeMismatch

-- where a truth is wanted
abbrev pub as_truth : Datum → Result Bool LoadReason
as_truth (data_of.Truth truth) = Ok truth
as_truth (data_of.Number value) = Err TypeMismatch
as_truth (data_of.Text text) = Err TypeMismatch
as_truth (data_of.Column text decimal) = Err TypeMismatch

-- where the number is wanted that a text says
abbrev pub as_said : Datum → Result Value LoadReason
as_said (data_of.Text text) = amount_in text
as_said (data_of.Column text decimal) = column_amount decimal text
as_said (data_of.Number value) = Err TypeMismatch
as_said (data_of.Truth truth) = Err TypeMismatch

-- what is given, taken as what is wanted: a reason why nothing is given goes first
abbrev pub taken : {A B : Type 0} → (A → Result B LoadReason) → Result A LoadReason → Result B LoadReason
taken wanted (Ok given) = wanted given
taken wanted (Err reason) = Err reason

abbrev pub amount : Result Datum LoadReason → Result Value LoadReason
amount = taken as_amount

abbrev pub text : Result Datum LoadReason → Result (List ℕ) LoadReason
text = taken as_text

abbrev pub truth : Result Datum LoadReason → Result Bool LoadReason
truth = taken as_truth

-- ---- expressions

-- an operand, and then another: the first reason goes first
abbrev pub one_and_other : {A B C : Type 0} → (A → B → C) → Result A LoadReason → Result B LoadReason
    → Result C LoadReason
one_and_other join (Ok a) (Ok b) = Ok (join a b)
one_and_other join (Ok a) (Err reason) = Err reason
one_and_other join (Err reason) other = Err reason

-- three operands, in the same way
abbrev pub one_and_two : {A B C D : Type 0} → (A → B → C → D) → Result A LoadReason → Result B LoadReason
    → Result C LoadReason → Result D LoadReason
one_and_two join (Ok a) (Ok b) (Ok c) = Ok (join a b c)
one_and_two join (Ok a) (Ok b) (Err reason) = Err reason
one_and_two join (Ok a) (Err reason) last = Err reason
one_and_two join (Err reason) other last = Err reason

abbrev pub done : {A B : Type 0} → (A → B) → Result A LoadReason → Result B LoadReason
done make (Ok a) = Ok (make a)
done make (Err reason) = Err reason

abbrev pub amounts : (Value → Value → Datum) → Result Datum LoadReason → Result Datum LoadReason
    → Result Datum LoadReason
amounts make left right = one_and_other make (amount left) (amount right)

-- an operation on two numbers
unfoldable pub operated : Op → Result Datum LoadReason → Result Datum LoadReason → Result Datum LoadReason
operated op = amounts (λ left right. data_of.Number (operation_of op left right))

-- a comparison of two numbers
unfoldable pub compared : Rel → Result Datum LoadReason → Result Datum LoadReason → Result Datum LoadReason
compared rel = amounts (λ left right. data_of.Truth (comparison_of rel left right))

abbrev pub two_texts : (List ℕ → List ℕ → Datum) → Result Datum LoadReason → Result Datum LoadReason
    → Result Datum LoadReason
two_texts make left right = one_and_other make (text left) (text right)

abbrev pub truths : (Bool → Bool → Bool) → Result Datum LoadReason → Result Datum LoadReason → Result Datum LoadReason
truths make left right = one_and_other (λ a b. data_of.Truth (make a b)) (truth left) (truth right)

-- characters of a text, from a place on, and how many: the operands from left to right
unfoldable pub cut : Result Datum LoadReason → Result Datum LoadReason → Result Datum LoadReason
    → Result Datum LoadReason
cut given start count =
    one_and_two (λ bytes first many. data_of.Text (cut_out bytes first many))
    (text given) (amount start) (amount count)

abbrev pub held : Option (Option Kept) → Result Datum LoadReason
held (Some (Some (kept.Number value))) = Ok (data_of.Number value)
held (Some (Some (kept.Text bytes))) = Ok (data_of.Text bytes)
held (Some None) = Err UnsetVariable
held None = Err UnsetVariable

-- a column past the record's end is the empty text
abbrev pub filled : Option (List ℕ) → List ℕ
filled (Some bytes) = bytes
filled None = []

-- outside of the Data section there is no column
abbrev pub column : ℕ → ℕ → Option (List (List ℕ)) → Result Datum LoadReason
column decimal place (Some columns) = Ok (data_of.Column (filled (slice_get columns place)) decimal)
column decimal place None = Err UnsetVariable

-- the most bytes of a text that is put together
abbrev pub most_text_bytes : ℕ
most_text_bytes = 1048576

-- two texts, one behind the other, unless that is too long for a text
abbrev pub joined : List ℕ × List ℕ → Result Datum LoadReason
joined (left, right) =
    if nat_lt most_text_bytes (length (left ++ right)) then Err TextLimit else Ok (data_of.Text (left ++ right))

-- a number as a text, of at least this width and with so many decimals, unless the width is too great for a text
abbrev pub fitted : Value → Value → Value → Result Datum LoadReason
fitted value (Num width) decimals =
    if nat_lt most_text_bytes (width_in width) then Err TextLimit
    else Ok (data_of.Text (padded (width_in width) (fixed_text value decimals)))
fitted value Over decimals = Err TextLimit

-- the same of operands, from left to right
unfoldable pub written : Result Datum LoadReason → Result Datum LoadReason → Result Datum LoadReason
    → Result Datum LoadReason
written given width decimals =
    taken (λ answer. answer) (one_and_two fitted (amount given) (amount width) (amount decimals))

-- what an expression gives: by what is seen, and by the cells after the writes so far
abbrev pub Reading : Type 0
Reading = Scene → Store → List Write → Result Datum LoadReason

-- texts, from left to right
abbrev pub each_text : List Reading → Scene → Store → List Write → Result (List (List ℕ)) LoadReason
each_text [] scene store writes = Ok []
each_text (reading ∷ readings) scene store writes =
    one_and_other (λ first rest. first ∷ rest) (text (reading scene store writes))
    (each_text readings scene store writes)

-- the value of the cell of a cube and elements
abbrev pub cell_value : Store → List Write → List (List ℕ) → Result Value LoadReason
cell_value store writes [] = Err UnknownName
cell_value store writes (cube ∷ elements) = reading store writes cube elements

-- ---- what is asked of dimensions, elements and cells

unfoldable pub element_count : Store → List (List ℕ) → Result Datum LoadReason
element_count store (dimension ∷ []) =
    done (λ count. data_of.Number (units_of count)) (of_elements (λ all. all.count) (store.elements dimension))
element_count store _ = Err UnknownName

unfoldable pub element_place : Store → List (List ℕ) → Result Datum LoadReason
element_place store (dimension ∷ element ∷ []) =
    done (λ place. data_of.Number (units_of (unwrap_or place 0)))
    (of_elements (λ all. all.place element) (store.elements dimension))
element_place store _ = Err UnknownName

unfoldable pub element_kind : Store → List (List ℕ) → Result Datum LoadReason
element_kind store (dimension ∷ element ∷ []) =
    done (λ leaf. data_of.Text (kind_text leaf))
    (of_elements (λ all. all.is_leaf element) (store.elements dimension))
element_kind store _ = Err UnknownName

-- an element's text of an attribute
unfoldable pub attribute : Store → List (List ℕ) → Result (List ℕ) LoadReason
attribute store (dimension ∷ element ∷ name ∷ []) =
    taken of_element (of_elements (λ all. all.attribute element name) (store.elements dimension))
attribute store _ = Err UnknownName

-- 1 where an element lies below the first one, else 0
unfoldable pub is_ancestor : Store → List (List ℕ) → Result Datum LoadReason
is_ancestor store (dimension ∷ above ∷ element ∷ []) =
    done (λ below. data_of.Number (units_of (if below then 1 else 0)))
    (taken of_element (of_elements (λ all. all.is_below above element) (store.elements dimension)))
is_ancestor store _ = Err UnknownName

-- what a function of a dimension and its elements gives for these texts
abbrev pub asked : Store → ElementFun → List (List ℕ) → Result Datum LoadReason
asked store element_functions.Count texts = element_count store texts
asked store element_functions.Place texts = element_place store texts
asked store element_functions.Kind texts = element_kind store texts
asked store element_functions.Text texts = done (λ bytes. data_of.Text bytes) (attribute store texts)
asked store element_functions.Number texts =
    done (λ value. data_of.Number value) (taken amount_in (attribute store texts))
asked store element_functions.IsAncestor texts = is_ancestor store texts

-- the name of the element at a place of a dimension; empty where there is none
abbrev pub named : Store → List ℕ → Value → Result Datum LoadReason
named store dimension place =
    done (λ name. data_of.Text (unwrap_or name []))
    (of_elements (λ all. all.name (place_said place)) (store.elements dimension))

-- the same of operands, from left to right
unfoldable pub element_name : Store → Result Datum LoadReason → Result Datum LoadReason → Result Datum LoadReason
element_name store dimension place =
    taken (λ answer. answer) (one_and_other (named store) (text dimension) (amount place))

-- 1 where a cell is open, else 0
unfoldable pub updateable : Store → List (List ℕ) → Result Datum LoadReason
updateable store [] = Err UnknownName
updateable store (cube ∷ elements) =
    Ok (data_of.Number (units_of (if is_updateable store cube elements then 1 else 0)))

abbrev pub value_step : Term-F Reading → Reading
value_step (Term-F.Number millionths) scene store writes = Ok (data_of.Number (Num millionths))
value_step (Term-F.Text bytes) scene store writes = Ok (data_of.Text bytes)
value_step (Term-F.Variable place) scene store writes = held (slice_get scene.variables place)
value_step (Term-F.Column place) scene store writes = column scene.decimal place scene.columns
value_step (Term-F.Get names) scene store writes =
    done (λ value. data_of.Number value)
    (taken (cell_value store writes) (each_text names scene store writes))
value_step (Term-F.Amount function a) scene store writes =
    done (λ value. data_of.Number (function_of function value)) (amount (a scene store writes))
value_step (Term-F.Amounts op a b) scene store writes = operated op (a scene store writes) (b scene store writes)
value_step (Term-F.Compare rel a b) scene store writes = compared rel (a scene store writes) (b scene store writes)
value_step (Term-F.ToNumber a) scene store writes =
    done (λ value. data_of.Number value) (taken as_said (a scene store writes))
value_step (Term-F.ToText a) scene store writes =
    done (λ value. data_of.Text (printed value)) (amount (a scene store writes))
value_step (Term-F.Altered function a) scene store writes =
    done (λ bytes. data_of.Text (altered function bytes)) (text (a scene store writes))
value_step (Term-F.Long a) scene store writes =
    done (λ bytes. data_of.Number (units_of (character_count bytes))) (text (a scene store writes))
value_step (Term-F.Scan part a) scene store writes =
    two_texts (λ sought bytes. data_of.Number (units_of (place_in sought bytes)))
    (part scene store writes) (a scene store writes)
value_step (Term-F.Subst a start count) scene store writes =
    cut (a scene store writes) (start scene store writes) (count scene store writes)
value_step (Term-F.Str a width decimals) scene store writes =
    written (a scene store writes) (width scene store writes) (decimals scene store writes)
value_step (Term-F.Join a b) scene store writes =
    taken joined
    (one_and_other (λ left right. (left, right)) (text (a scene store writes)) (text (b scene store writes)))
value_step (Term-F.Same a b) scene store writes =
    two_texts (λ left right. data_of.Truth (is_same_name left right)) (a scene store writes) (b scene store writes)
value_step (Term-F.Other a b) scene store writes =
    two_texts (λ left right. data_of.Truth (not (is_same_name left right)))
    (a scene store writes) (b scene store writes)
value_step (Term-F.And a b) scene store writes = truths ◌&&◌ (a scene store writes) (b scene store writes)
value_step (Term-F.Or a b) scene store writes = truths ◌||◌ (a scene store writes) (b scene store writes)
value_step (Term-F.Not a) scene store writes =
    done (λ holds. data_of.Truth (not holds)) (truth (a scene store writes))
value_step (Term-F.ElementName dimension place) scene store writes =
    element_name store (dimension scene store writes) (place scene store writes)
value_step (Term-F.Element function names) scene store writes =
    taken (asked store function) (each_text names scene store writes)
value_step (Term-F.IsUpdateable names) scene store writes =
    taken (updateable store) (each_text names scene store writes)

-- what an expression gives
abbrev pub value_of : Term → Reading
value_of = fold-Term Reading value_step
