-- Where the loop over the elements stops.
use Rattle.std.proofs.Common.{◌≡◌, List, true, Ok, Err, sym, ap}
use Rattle.cube_lex.specs.Lexeme.{Lexeme}
use Rattle.grammar.specs.Cursor.{Gives}
use Rattle.grammar.specs.Reading.{Stop as ReaderStop, Unexpected, Refused, gives, bound, starts}
use Rattle.grammar.specs.declared.cursor.Unwatched.{Unwatched}
use Rattle.grammar.specs.declared.stop.Stop.{Stop}
use Rattle.grammar.specs.declared.stop.Stop.TheVariants as stops
use Rattle.grammar.proofs.Loops.{Going, is_stopped}
use Rattle.dim_text.specs.declared.element.Element.{Element}
use Rattle.dim_text.specs.declared.fault.Refusal.{Refusal}
use Rattle.dim_text.specs.Statement.{Statement}
use Rattle.dim_text.specs.Progress.{Progress}
use Rattle.dim_text.specs.Building.{add}
use Rattle.dim_text.specs.Readers.Reading.{built, read_element, read_every_element, read_elements, is_element_word}
use Rattle.dim_text.specs.Readers.Views.{element_view, Adds, GivesPartial}
use Rattle.grammar.proofs.Checked.{checked_halt, checked_refused}

-- what has been read of the elements, and what is still to be read
abbrev pub Goes : List Statement → Progress → List Lexeme → Progress → List Lexeme → Type 0
Goes front partial tokens start all = Going is_element_word (built read_element) front partial tokens (read_every_element start all)

halts : (start : Progress) (all : List Lexeme) {front : List Statement} {partial : Progress} {tokens : List Lexeme} (halt : ReaderStop Refusal) → Goes front partial tokens start all → true ≡ starts is_element_word tokens → built read_element partial tokens ≡ Err halt → read_elements start all ≡ Err halt
unfolding read_elements
halts start all halt going more read = ap (λ r. bound r (λ _. gives tt)) (is_stopped going (sym more) read)

-- a statement isn't read
pub element_halts : (start : Progress) (all left : List Lexeme) {front : List Statement} {partial : Progress} {tokens : List Lexeme} {state : Unwatched} (stop : Stop Refusal) → Goes front partial tokens start all → true ≡ starts is_element_word tokens → Gives {X = Element} element_view (Err stop) state left (read_element (record {}) tokens) → GivesPartial (Err stop) left (read_elements start all)
element_halts start all left stops.Memory going more read = tt
element_halts start all left {partial = partial} (stops.Unexpected n) going more read = halts start all (Unexpected n) going more (checked_halt {U = Unwatched} (record {}) add read_element partial read)
element_halts start all left {partial = partial} (stops.Refused cause) going more read = halts start all (Refused cause) going more (checked_halt {U = Unwatched} (record {}) add read_element partial read)

-- a statement is refused
pub add_halts : (start new : Progress) (all : List Lexeme) {front : List Statement} {partial : Progress} {tokens left : List Lexeme} {state : Unwatched} {x : Statement} (stop : Stop Refusal) → Goes front partial tokens start all → true ≡ starts is_element_word tokens → read_element (record {}) tokens ≡ Ok (x, state, left) → Adds {X = Unit {0}} (Err stop) new (add partial x) → GivesPartial (Err stop) left (read_elements start all)
add_halts start new all stops.Memory going more read added = tt
add_halts start new all (stops.Unexpected n) going more read added = absurd added
add_halts start new all {partial = partial} (stops.Refused cause) going more read added = halts start all (Refused cause) going more (checked_refused {U = Unwatched} (record {}) add read_element partial read added)
