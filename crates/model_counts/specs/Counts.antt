-- How many statements the cubes of a model have.
use Rattle.std.specs.Prelude.{ℕ, zero, suc, ◌+◌, max, List, [], ◌∷◌, ◌++◌, length, codes, decimal}
use Rattle.rule_model.specs.BoundModel.{BoundModel, rules_of}
use Rattle.rule_model.specs.declared.rules.Feeder.{Feeder}

-- what the first so many cubes count together
abbrev pub over_cubes : (ℕ → ℕ) → ℕ → ℕ
over_cubes count zero = 0
over_cubes count (suc cube) = over_cubes count cube + count cube

-- the feeder statements that these feeders come from: a statement with several targets is several feeders. They count
-- from 0 and each has a target, so there is one more than the greatest number
abbrev pub feeder_statements : List Feeder → ℕ
feeder_statements [] = 0
feeder_statements (feeder ∷ more) = max (feeder.statement + 1) (feeder_statements more)

abbrev pub statement_count : BoundModel → ℕ
statement_count model = over_cubes (λ cube. length (rules_of model cube).statements) (length model.space.cubes)

abbrev pub feeder_count : BoundModel → ℕ
feeder_count model = over_cubes (λ cube. feeder_statements (rules_of model cube).feeders) (length model.space.cubes)

-- `accepted cubes A statements B feeders C`
abbrev pub accepted_line : ℕ → ℕ → ℕ → List ℕ
accepted_line cubes statements feeders =
    codes "accepted cubes " ++ decimal cubes ++ codes " statements " ++ decimal statements ++ codes " feeders " ++
    decimal feeders ++ codes "\n"

abbrev pub accepted_text : BoundModel → List ℕ
accepted_text model = accepted_line (length model.space.cubes) (statement_count model) (feeder_count model)
