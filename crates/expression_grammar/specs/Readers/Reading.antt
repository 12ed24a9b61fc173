-- The readers of expressions, in the shape of the code. What an expression may be at a place is known before it is
-- read, and its sort comes with its tree.
use Rattle.std.specs.Prelude.{ℕ, zero, suc, Bool, true, false, Err, Result, codes, if◌then◌else◌}
use Rattle.cube_lex.specs.Lexeme.{Lexeme}
use Rattle.grammar.specs.Reading.{Reader, OutOfTurns, gives, take_one, choose, all_of, ◌>>=◌, ◌>>◌}
use Rattle.grammar.specs.Tokens.{sign, is_sign}
use Rattle.expression_grammar.specs.Language.{Table, operator, is_operator, Language}
use Rattle.expression_grammar.specs.Expression.{from_left}
use Rattle.expression_grammar.specs.Levels.{table, joins}
use Rattle.expression_grammar.specs.declared.level.Level.{Level}
use Rattle.expression_grammar.specs.declared.level.Level.TheVariants as levels
use Rattle.expression_grammar.specs.declared.sort.Sort.{Sort}
use Rattle.expression_grammar.specs.declared.sort.Sort.TheVariants as sorts
use Rattle.expression_grammar.specs.declared.sort.Want.{Want}
use Rattle.expression_grammar.specs.declared.sort.Want.TheVariants as wants

abbrev pub Scanner : Type 0 → Type 0 → Type 0
Scanner R C = R → Lexeme → Result R C

abbrev pub Reads : Type 0 → Type 0 → Type 0 → Type 0
Reads R C A = Reader Lexeme R C A

-- a reader of an expression by what it may be, which gives its tree and its sort
abbrev pub Sorted : Type 0 → Type 0 → Type 0 → Type 0
Sorted R C A = Want → Reads R C (A × Sort)

-- readers of a primary but for parentheses, by those of the values and truths inside it
abbrev pub PrimaryReader : Type 0 → Type 0 → Type 0 → Type 0
PrimaryReader R C A = Reads R C A → Reads R C A → Reads R C A

-- an operator and its right operand, which is read as wanted
unfoldable pub read_operation : {A O R C : Type 0} → Scanner R C → Table O → Reads R C (A × Sort) → Reads R C (O × A)
read_operation scan table operand = do
  o ← take_one scan (operator table)
  right ← operand
  gives (o, right.0)

-- the operations behind an operand
unfoldable pub read_behind : {A O R C : Type 0} → Scanner R C → (O → A → A → A) → Table O → Reads R C (A × Sort)
    → A × Sort → Reads R C (A × Sort)
read_behind scan joined table operand head = do
  rest ← all_of (is_operator table) (read_operation scan table operand)
  gives (from_left joined head.0 rest, head.1)

-- the operations behind a value, or none behind a truth
unfoldable pub behind_value : {A O R C : Type 0} → Scanner R C → (O → A → A → A) → Table O → Reads R C (A × Sort)
    → A × Sort → Reads R C (A × Sort)
behind_value scan joined table operand (e, sorts.Value) = read_behind scan joined table operand (e, sorts.Value)
behind_value scan joined table operand (e, sorts.Truth) = gives (e, sorts.Truth)

-- the operations behind a truth, or none behind a value
unfoldable pub behind_truth : {A O R C : Type 0} → Scanner R C → (O → A → A → A) → Table O → Reads R C (A × Sort)
    → A × Sort → Reads R C (A × Sort)
behind_truth scan joined table operand (e, sorts.Truth) = read_behind scan joined table operand (e, sorts.Truth)
behind_truth scan joined table operand (e, sorts.Value) = gives (e, sorts.Value)

-- where this sort alone may stand
abbrev pub only : Sort → Want
only sorts.Value = wants.Value
only sorts.Truth = wants.Truth

-- the operations behind an operand of this sort, or none behind one of the other
abbrev pub read_behind_sort : {A O R C : Type 0} → Scanner R C → (O → A → A → A) → Table O → Sort → Reads R C (A × Sort)
    → A × Sort → Reads R C (A × Sort)
read_behind_sort scan joined table sorts.Value = behind_value scan joined table
read_behind_sort scan joined table sorts.Truth = behind_truth scan joined table

-- operands, and the operators of a level between those of the sort that it joins
unfoldable pub read_level : {A O R C : Type 0} → Scanner R C → Language A O → Level → Sorted R C A → Sorted R C A
read_level scan L level operand want = do
  head ← operand want
  read_behind_sort scan L.joined (table L level) (joins level) (operand (only (joins level))) head

-- what may stand in parentheses: a value where only a value may stand, else either, since a truth may begin with a
-- value
abbrev pub inside_parentheses : Want → Want
inside_parentheses wants.Value = wants.Value
inside_parentheses wants.Truth = wants.Any
inside_parentheses wants.Any = wants.Any

-- the tree alone
abbrev pub tree_of : {A R C : Type 0} → Reads R C (A × Sort) → Reads R C A
tree_of read = do
  e ← read
  gives e.0

-- "(" expression ")" or a primary
unfoldable pub read_primary : {A R C : Type 0} → Scanner R C → PrimaryReader R C A → Sorted R C A → Sorted R C A
read_primary scan primary inner want = choose (is_sign (codes "("))
    (do
      take_one scan (sign (codes "("))
      e ← inner (inside_parentheses want)
      take_one scan (sign (codes ")"))
      gives e)
    (do e ← primary (tree_of (inner wants.Value)) (tree_of (inner wants.Truth)); gives (e, sorts.Value))

-- [ "-" ] primary
unfoldable pub read_signed : {A O R C : Type 0} → Scanner R C → Language A O → PrimaryReader R C A → Sorted R C A
    → Sorted R C A
read_signed scan L primary inner want = choose (is_sign (codes "-"))
    (do
      take_one scan (sign (codes "-"))
      e ← read_primary scan primary inner wants.Value
      gives (L.negated e.0, sorts.Value))
    (read_primary scan primary inner want)

abbrev pub read_product : {A O R C : Type 0} → Scanner R C → Language A O → PrimaryReader R C A → Sorted R C A
    → Sorted R C A
read_product scan L primary inner = read_level scan L levels.Product (read_signed scan L primary inner)

abbrev pub read_sum : {A O R C : Type 0} → Scanner R C → Language A O → PrimaryReader R C A → Sorted R C A
    → Sorted R C A
read_sum scan L primary inner = read_level scan L levels.Sum (read_product scan L primary inner)

-- a comparison's operator and right side, behind its left side
unfoldable pub read_compared : {A O R C : Type 0} → Scanner R C → Language A O → PrimaryReader R C A → Sorted R C A → A
    → Reads R C (A × Sort)
read_compared scan L primary inner left = do
  o ← take_one scan (operator L.relation)
  right ← read_sum scan L primary inner wants.Value
  gives (L.joined o left right.0, sorts.Truth)

-- what stands behind a value, which may be the left side of a comparison
unfoldable pub behind_left : {A O R C : Type 0} → Scanner R C → Language A O → PrimaryReader R C A → Sorted R C A → Want
    → A × Sort → Reads R C (A × Sort)
behind_left scan L primary inner want (e, sorts.Truth) = gives (e, sorts.Truth)
behind_left scan L primary inner wants.Value (e, sorts.Value) = gives (e, sorts.Value)
behind_left scan L primary inner wants.Truth (e, sorts.Value) = read_compared scan L primary inner e
behind_left scan L primary inner wants.Any (e, sorts.Value) =
    choose (is_operator L.relation) (read_compared scan L primary inner e) (gives (e, sorts.Value))

unfoldable pub read_compare : {A O R C : Type 0} → Scanner R C → Language A O → PrimaryReader R C A → Sorted R C A
    → Sorted R C A
read_compare scan L primary inner want = do
  head ← read_sum scan L primary inner want
  behind_left scan L primary inner want head

-- `~` and what it turns
unfoldable pub read_opposite : {A O R C : Type 0} → Scanner R C → Language A O → PrimaryReader R C A → Sorted R C A
    → Reads R C (A × Sort)
read_opposite scan L primary inner = do
  take_one scan (sign (codes "~"))
  e ← read_compare scan L primary inner wants.Truth
  gives (L.opposite e.0, sorts.Truth)

-- whether a truth may stand
abbrev pub may_be_truth : Want → Bool
may_be_truth wants.Value = false
may_be_truth wants.Truth = true
may_be_truth wants.Any = true

unfoldable pub read_not : {A O R C : Type 0} → Scanner R C → Language A O → PrimaryReader R C A → Sorted R C A
    → Sorted R C A
read_not scan L primary inner want = if may_be_truth want
    then choose (is_sign (codes "~")) (read_opposite scan L primary inner) (read_compare scan L primary inner want)
    else read_compare scan L primary inner want

abbrev pub read_and : {A O R C : Type 0} → Scanner R C → Language A O → PrimaryReader R C A → Sorted R C A
    → Sorted R C A
read_and scan L primary inner = read_level scan L levels.And (read_not scan L primary inner)

abbrev pub read_or : {A O R C : Type 0} → Scanner R C → Language A O → PrimaryReader R C A → Sorted R C A → Sorted R C A
read_or scan L primary inner = read_level scan L levels.Or (read_and scan L primary inner)

abbrev pub out_of_turns : {R C A : Type 0} → Reads R C A
out_of_turns s ts = Err OutOfTurns

-- an expression with fewer than so many expressions one inside the other
unfoldable pub read_expression : {A O R C : Type 0} → Scanner R C → Language A O → PrimaryReader R C A → ℕ
    → Sorted R C A
read_expression scan L primary zero want = out_of_turns
read_expression scan L primary (suc k) want = read_or scan L primary (read_expression scan L primary k) want
