-- Answers that are known: a list of questions, each with its answer.
use Rattle.std.specs.Prelude.{◌==◌, Bool, false, ◌&&◌, List, [], ◌∷◌, Option, Some, None, Result, Ok, Err}
use Rattle.std.specs.Prelude.{unwrap_or, if◌then◌else◌}
use Rattle.std.specs.Option.{option_map_or}
use Rattle.cube_fixed.specs.declared.value.Value.{Value}
use Rattle.cube_fixed.specs.Arithmetic.{zero_value}
use Rattle.rule_evaluate.specs.declared.ask.Ask.{Ask}
use Rattle.rule_evaluate.specs.declared.ask.Ask.TheVariants.{Value as of_value, Base as of_base}
use Rattle.rule_evaluate.specs.declared.ask.Ask.TheVariants.{Children as of_children}
use Rattle.rule_evaluate.specs.Readings.{Readings}

abbrev pub Known : Type 0
Known = List (Ask × Value)

-- whether two questions are the same
abbrev pub is_same : Ask → Ask → Bool
is_same (of_value a) (of_value b) = a == b
is_same (of_value a) (of_base b) = false
is_same (of_value a) (of_children b e) = false
is_same (of_base a) (of_value b) = false
is_same (of_base a) (of_base b) = a == b
is_same (of_base a) (of_children b e) = false
is_same (of_children a d) (of_value b) = false
is_same (of_children a d) (of_base b) = false
is_same (of_children a d) (of_children b e) = (a == b) && (d == e)

-- the first answer that is listed for a question
abbrev pub listed : Known → Ask → Option Value
listed [] question = None
listed (entry ∷ known) question = if is_same entry.0 question then Some entry.1 else listed known question

-- the answer to a question: the first that is listed for it, and else the question itself, as a fault
unfoldable pub answer_in : Known → Ask → Result Value Ask
answer_in known question = option_map_or Ok (listed known question) (Err question)

-- what is listed, as readings; 0 where nothing is
abbrev pub number_in : Known → Ask → Value
number_in known question = unwrap_or (listed known question) zero_value

unfoldable pub listed_readings : Known → Readings
listed_readings known =
    record {
      value = λ c. number_in known (of_value c);
      base = λ c. number_in known (of_base c);
      children = λ c dim. number_in known (of_children c dim);
    }
