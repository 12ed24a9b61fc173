-- What is the same for all statements but a WHILE: each is one execution.
use Rattle.std.specs.Prelude.{true, List}
use Rattle.script_bound.specs.declared.term.Term.{Term}
use Rattle.script_bound.specs.declared.statement.Case.{Case}
use Rattle.script_bound.specs.declared.statement.Case.TheOpen.{Statement-F}
use Rattle.script_bound.specs.declared.statement.Statement.{Statement, out-Statement}
use Rattle.script_run.specs.declared.change.Change.{Change}
use Rattle.script_run.specs.declared.change.Change.TheVariants.{Put, Add}
use Rattle.script_run.specs.Setting.{Setting, Progress}
use Rattle.script_run.specs.Meaning.{Deed, Begun, Begins, begin, place_of, put, increment}

abbrev begun_layer : Statement-F Case Statement → Setting → Progress → Begun
begun_layer (Statement-F.Assign number place term) here p = begin (place_of here number) p
begun_layer (Statement-F.Put number value names) here p = begin (place_of here number) p
begun_layer (Statement-F.Increment number value names) here p = begin (place_of here number) p
begun_layer (Statement-F.ZeroOut number names) here p = begin (place_of here number) p
begun_layer (Statement-F.Skip number) here p = begin (place_of here number) p
begun_layer (Statement-F.Break number) here p = begin (place_of here number) p
begun_layer (Statement-F.Error number) here p = begin (place_of here number) p
begun_layer (Statement-F.If number cases) here p = begin (place_of here number) p
begun_layer (Statement-F.While number test statements) here p = Begins true p

-- what a statement begins with; a WHILE begins with each of its tests
abbrev pub begun : Statement → Setting → Progress → Begun
begun statement = begun_layer (out-Statement statement)

-- what is done to a cell
abbrev pub changed : Change → Term → List Term → Deed
changed Put = put
changed Add = increment
