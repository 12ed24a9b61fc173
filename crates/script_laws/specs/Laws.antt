-- What the laws of load scripts speak of.
use Rattle.std.specs.Prelude.{ℕ, List}
use Rattle.script_bound.specs.declared.statement.Statement.{Statement}
use Rattle.script_bound.specs.declared.term.Term.{Term}
use Rattle.script_values.specs.Values.{truth}
use Rattle.script_run.specs.declared.ending.Ending.TheVariants.{Next}
use Rattle.script_run.specs.declared.reject.Reject.{Reject}
use Rattle.script_run.specs.Meaning.{Outcome, Ended, Deed, executed, where_holds, given, then_do, end_with, block_of}

-- a test, which is one execution; and where it holds a block, and then this again
abbrev pub test_and_again : ℕ → Term → List Statement → Deed → Deed
test_and_again number test statements again = executed number (λ store here p w.
    where_holds (truth (given test store here p w))
    (λ q v. then_do (block_of statements store here q v) (again store here))
    (end_with Next store here) p w)

-- the records that were passed over
abbrev pub rejects_of : Outcome → List Reject
rejects_of (Ended ending p w) = p.rejects
