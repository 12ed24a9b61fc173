-- Deployment has one answer.
use Rattle.std.proofs.Common.{ℕ, Bool, true, false, Option, Some, None, List}
use Rattle.std.specs.Prelude.{slice_index_or}
use Rattle.cube_lex.specs.declared.position.Position.{Position}
use Rattle.cube_space.specs.Layout.{Layout}
use Rattle.model_text.specs.Contents.{Contents}
use Rattle.model_text.specs.declared.order.OrderLine.{OrderLine}
use Rattle.rule_tree.specs.declared.rule.RuleText.{RuleText}
use Rattle.rule_bind.specs.Rules.{rules_of}
use Rattle.rule_model.specs.BoundModel.{BoundModel}
use Rattle.rule_model.specs.declared.rules.CubeRules.{CubeRules}
use Rattle.model_bind.specs.Files.{RuleFile}
use Rattle.model_bind.specs.Foundation.{layout_of, cube_places, order_lines, dimensions_refusal, space_refusal, products_refusal}
use Rattle.model_bind.specs.Rules.{file_name, meant_in, in_order, is_automatic, line_order, by_line, text_stage, meaning_stage, order_stage, asking}
use Rattle.model_bind.specs.Binding.{ranked_stage, model_of, binding}
use Rattle.model_bind.specs.declared.bound.Bound.{Bound}
use Rattle.model_bind.specs.Stages.{Stage, found, unless, each, ◌>>=◌}
use Rattle.model_deploy.specs.Deployment.{ordered_stage, feeders_stage, fed_stage, checked, fed_model, deployment}
use Rattle.deploy_laws.specs.OneAnswer.{HasOneAnswer}
use Rattle.deploy_laws.proofs.Single.{single-found, single-meant, single-unless, single-then, single-each}
use Rattle.deploy_laws.proofs.Texts.{single-text}
use Rattle.deploy_laws.proofs.Models.{single-ordered, single-feeders, single-fed}
use Rattle.deploy_laws.proofs.Ranked.{single-find}

single-meaning : (space : Layout) (files : List (Option RuleFile)) (cube : ℕ) (text : RuleText) → HasOneAnswer (meaning_stage space files cube text)
single-meaning space files cube text = single-meant (meant_in (file_name files cube) (rules_of space cube text))

single-line : (automatic : Bool) (space : Layout) (cube : ℕ) (rules : CubeRules) (line : Option (Position × OrderLine)) → HasOneAnswer (by_line automatic space cube rules line)
single-line automatic space cube rules None = single-found rules
single-line automatic space cube rules (Some line) = single-meant (in_order rules line.0 (line_order automatic space cube line.1))

single-order : (space : Layout) (lines : List (Option (Position × OrderLine))) (cube : ℕ) (rules : CubeRules) → HasOneAnswer (order_stage space lines cube rules)
single-order space lines cube rules = single-line (is_automatic lines) space cube rules (slice_index_or lines cube None)

single-ranked : (automatic : Bool) (files : List (Option RuleFile)) (model : BoundModel) → HasOneAnswer (ranked_stage automatic files model)
single-ranked true files model = single-find model files
single-ranked false files model = single-found model

module _ (contents : Contents) (files : List (Option RuleFile)) where
  -- what comes after each stage of binding
  abbrev bound-of : List RuleText → BoundModel → Stage Bound
  bound-of texts model = found (record { model = model; asking = asking texts })

  abbrev ranking : List CubeRules → Stage BoundModel
  ranking rules = ranked_stage (is_automatic (order_lines contents.cubes)) files (model_of contents rules)

  abbrev model-next : List RuleText → List CubeRules → Stage Bound
  model-next texts rules = ranking rules >>= bound-of texts

  abbrev ordering : List CubeRules → Stage (List CubeRules)
  ordering meant = each (order_stage (layout_of contents) (order_lines contents.cubes)) 0 meant

  abbrev orders-next : List RuleText → List CubeRules → Stage Bound
  orders-next texts meant = ordering meant >>= model-next texts

  abbrev meaning : List RuleText → Stage (List CubeRules)
  meaning texts = each (meaning_stage (layout_of contents) files) 0 texts

  abbrev meanings-next : List RuleText → Stage Bound
  meanings-next texts = meaning texts >>= orders-next texts

  abbrev reading : Stage (List RuleText)
  reading = each (λ _. text_stage) 0 files

  abbrev texts-next : Unit {0} → Stage Bound
  texts-next _ = reading >>= meanings-next

  abbrev products : Stage (Unit {0})
  products = unless (products_refusal (cube_places contents.cubes) (layout_of contents))

  abbrev products-next : Unit {0} → Stage Bound
  products-next _ = products >>= texts-next

  abbrev cells : Stage (Unit {0})
  cells = unless (space_refusal (cube_places contents.cubes) (layout_of contents))

  abbrev cells-next : Unit {0} → Stage Bound
  cells-next _ = cells >>= products-next

  single-model : (texts : List RuleText) (rules : List CubeRules) → HasOneAnswer (model-next texts rules)
  single-model texts rules =
      single-then (ranking rules) (bound-of texts) (single-ranked (is_automatic (order_lines contents.cubes)) files (model_of contents rules))
      (λ model. single-found (record { model = model; asking = asking texts }))

  single-rules : HasOneAnswer (reading >>= meanings-next)
  single-rules =
      let lines = order_lines contents.cubes in
      let space = layout_of contents in
      single-then reading meanings-next (single-each (λ _. text_stage) (λ _. single-text) 0 files)
      (λ texts. single-then (meaning texts) (orders-next texts) (single-each (meaning_stage space files) (single-meaning space files) 0 texts)
      (λ meant. single-then (ordering meant) (model-next texts) (single-each (order_stage space lines) (single-order space lines) 0 meant) (single-model texts)))

  pub single-binding : HasOneAnswer (binding contents files)
  unfolding binding
  single-binding =
      single-then (unless (dimensions_refusal contents.dims)) cells-next (single-unless (dimensions_refusal contents.dims))
      (λ _. single-then cells products-next (single-unless (space_refusal (cube_places contents.cubes) (layout_of contents)))
      (λ _. single-then products texts-next (single-unless (products_refusal (cube_places contents.cubes) (layout_of contents))) (λ _. single-rules)))

  -- what comes after each check
  abbrev accepts : BoundModel → Unit {0} → Stage BoundModel
  accepts model _ = found model

  abbrev fed-next : BoundModel → Unit {0} → Stage BoundModel
  fed-next model _ = fed_stage model >>= accepts model

  abbrev feeders-next : BoundModel → Unit {0} → Stage BoundModel
  feeders-next model _ = feeders_stage files model >>= fed-next model

  single-checks : (model : BoundModel) → HasOneAnswer (checked files model)
  single-checks model =
      single-then (ordered_stage files model) (feeders-next model) (single-ordered model files)
      (λ _. single-then (feeders_stage files model) (fed-next model) (single-feeders model files) (λ _. single-then (fed_stage model) (accepts model) (single-fed model) (λ _. single-found model)))

  pub single-deployment : HasOneAnswer (deployment contents files)
  unfolding deployment
  single-deployment =
      single-then (binding contents files) (λ bound. checked files (fed_model bound)) single-binding
      (λ bound. single-checks (fed_model bound))
