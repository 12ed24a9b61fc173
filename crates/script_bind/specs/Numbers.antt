-- The numbers of statements, in the order of the text.
use Rattle.std.specs.Prelude.{◌≡◌, ℕ, ◌+◌, List, [], ◌∷◌, ◌++◌, map}
use Rattle.script_bound.specs.declared.statement.Case.{Case}
use Rattle.script_bound.specs.declared.statement.Case.TheFolds.{fold-Case, fold-Statement}
use Rattle.script_bound.specs.declared.statement.Case.TheOpen.{Case-F, Statement-F}
use Rattle.script_bound.specs.declared.statement.Statement.{Statement}

abbrev pub together : List (List ℕ) → List ℕ
together [] = []
together (part ∷ parts) = part ++ together parts

abbrev pub case_numbers : Case-F (List ℕ) (List ℕ) → List ℕ
case_numbers (Case-F.When test statements) = together statements
case_numbers (Case-F.Otherwise statements) = together statements

-- the number of a statement, and behind it those of the statements in it
abbrev pub statement_numbers : Statement-F (List ℕ) (List ℕ) → List ℕ
statement_numbers (Statement-F.Assign number place term) = number ∷ []
statement_numbers (Statement-F.Put number value names) = number ∷ []
statement_numbers (Statement-F.Increment number value names) = number ∷ []
statement_numbers (Statement-F.ZeroOut number names) = number ∷ []
statement_numbers (Statement-F.Skip number) = number ∷ []
statement_numbers (Statement-F.Break number) = number ∷ []
statement_numbers (Statement-F.Error number) = number ∷ []
statement_numbers (Statement-F.If number cases) = number ∷ together cases
statement_numbers (Statement-F.While number test statements) = number ∷ together statements

abbrev pub numbers_at : Statement → List ℕ
numbers_at = fold-Statement (List ℕ) (List ℕ) case_numbers statement_numbers

abbrev pub numbers_of_case : Case → List ℕ
numbers_of_case = fold-Case (List ℕ) (List ℕ) case_numbers statement_numbers

-- the numbers of statements, with those that stand in them
abbrev pub numbers_of : List Statement → List ℕ
numbers_of statements = together (map numbers_at statements)

-- each number is one more than the one before it, from this one on
abbrev pub AreFrom : ℕ → List ℕ → Type 0
AreFrom first [] = Unit {0}
AreFrom first (number ∷ numbers) = (number ≡ first) × AreFrom (first + 1) numbers
