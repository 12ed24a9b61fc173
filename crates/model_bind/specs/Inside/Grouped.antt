-- The stages that one function goes through.
use Rattle.std.specs.Prelude.{List, Option}
use Rattle.model_text.specs.Contents.{Contents}
use Rattle.model_bind.specs.Binding.{ranked_stage, model_of}
use Rattle.model_bind.specs.Files.{RuleFile}
use Rattle.model_bind.specs.declared.bound.Bound.{Bound}
use Rattle.model_bind.specs.Foundation.{layout_of, order_lines, foundation_refusal}
use Rattle.model_bind.specs.Rules.{is_automatic, rules_stage}
use Rattle.model_bind.specs.Stages.{Stage, found, unless, ◌>>=◌}

-- what a model stands on, its rules, and the orders that are to be found
abbrev pub grouped : Contents → List (Option RuleFile) → Stage Bound
grouped contents files = do
  _ ← unless (foundation_refusal contents)
  bound ← rules_stage (layout_of contents) (order_lines contents.cubes) files
  model ← ranked_stage (is_automatic (order_lines contents.cubes)) files (model_of contents bound.rules)
  found (record { model = model; asking = bound.asking })
