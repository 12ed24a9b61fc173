use Rattle.std.proofs.Common.{codes}
use Rattle.grammar.specs.Tokens.{is_sign}
use Rattle.grammar.proofs.After.{Turning}
use Rattle.user_text.specs.Readers.Reading.{read_next_param, read_further_params}
use Rattle.user_text.proofs.params.further_params.Given as goal

abbrev pub invariant-param : goal.invariant-param
invariant-param l =
    Turning (is_sign (codes ",")) read_next_param l.params l.cursor.state l.cursor.tokens l.counter l.end
    (read_further_params l.fn.first l.fn.cursor.state l.fn.cursor.tokens)
