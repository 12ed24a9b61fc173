-- The stages of binding, put together.
use Rattle.std.proofs.Common.{◌≡◌, ◌⊎◌, inl, inr, ℕ, Bool, [], Option, Some, None, Result, Ok, Err, List, length, map, refl, ap, sym, ◌∙◌, subst, IsErrAnd}
use Rattle.std.specs.Option.{option_or}
use Rattle.std.proofs.lemmas.List.{length-map}
use Rattle.cube_lex.specs.declared.position.Position.{Position}
use Rattle.cube_space.specs.Layout.{Layout}
use Rattle.model_text.specs.Contents.{Contents}
use Rattle.model_text.specs.declared.order.OrderLine.{OrderLine}
use Rattle.rule_tree.specs.declared.rule.RuleText.{RuleText}
use Rattle.rule_model.specs.BoundModel.{BoundModel}
use Rattle.rule_model.specs.declared.rules.CubeRules.{CubeRules}
use Rattle.model_bind.specs.Files.{RuleFile}
use Rattle.model_bind.specs.declared.bound.Bound.{Bound}
use Rattle.model_bind.specs.declared.bound.BoundRules.{BoundRules}
use Rattle.model_bind.specs.declared.fault.DeployFault.{DeployFault}
use Rattle.model_bind.specs.Foundation.{layout_of, cube_places, order_lines, shape_of, dimensions_refusal, space_refusal, products_refusal, foundation_refusal, memory, IsAnsweredBy}
use Rattle.model_bind.specs.Stages.{Stage, found, unless, each, ◌>>=◌, Comes}
use Rattle.bind_areas.specs.declared.cause.BindCause.TheVariants.{Memory}
use Rattle.rule_bind.specs.declared.fault.BindFault.{BindFault}
use Rattle.rule_bind.specs.Rules.{IsBound}
use Rattle.model_bind.specs.Rules.{is_automatic, text_stage, place_of, cause_of, meant_in, meaning_stage, order_stage, asking, rules_stage}
use Rattle.model_bind.specs.Binding.{ranked_stage, binding}
use Rattle.model_bind.specs.Inside.Grouped.{grouped}
use Rattle.model_bind.proofs.Stages.{stopped, goes-on, as-many, in-turn, behind, at-once, one-by-one}

answered-stage : (T : Type 0) (refusal : Option DeployFault) (fault : DeployFault) → IsAnsweredBy {T = T} refusal (Err fault) → Comes (unless refusal) (Err fault)
answered-stage T None fault is = inl is
answered-stage T (Some cause) fault (inl is) = inr (ap Some (sym is))
answered-stage T (Some cause) fault (inr want) = inl want

pub as-many-cubes : (contents : Contents) (space : Layout) → space ≡ layout_of contents → length space.cubes ≡ length contents.cubes
as-many-cubes contents space is = ap (λ (s : Layout). length s.cubes) is ∙ length-map contents.cubes shape_of

abbrev Lines : Type 0
Lines = List (Option (Position × OrderLine))

abbrev bound-of : List Bool → BoundModel → Bound
bound-of asks model = record { model = model; asking = asks }

-- the model of rules, and what is bound with it
abbrev ranking : Layout → Lines → List (Option RuleFile) → List CubeRules → Stage BoundModel
ranking space lines files rules = ranked_stage (is_automatic lines) files (record { space = space; rules = rules })

abbrev ending : Layout → Lines → List (Option RuleFile) → BoundRules → Stage Bound
ending space lines files bound = ranking space lines files bound.rules >>= (λ model. found (bound-of bound.asking model))

module _ (contents : Contents) (files : List (Option RuleFile)) where
  abbrev space : Layout
  space = layout_of contents

  abbrev lines : Lines
  lines = order_lines contents.cubes

  abbrev meanings : List RuleText → Stage (List CubeRules)
  meanings texts = each (meaning_stage space files) 0 texts

  abbrev orders : List CubeRules → Stage (List CubeRules)
  orders meant = each (order_stage space lines) 0 meant

  abbrev reading : Stage (List RuleText)
  reading = each (λ _. text_stage) 0 files

  abbrev rules-of : List RuleText → List CubeRules → BoundRules
  rules-of texts rules = record { rules = rules; asking = asking texts }

  abbrev bound : Unit {0} → Stage Bound
  bound _ = reading >>= (λ texts. meanings texts >>= (λ meant. orders meant >>= (λ rules. ending space lines files (rules-of texts rules))))

  rules-in-turn : (answer : Result Bound DeployFault) → Comes (rules_stage space lines files >>= ending space lines files) answer → Comes (bound tt) answer
  unfolding rules_stage
  rules-in-turn answer came =
      let end = ending space lines files in
      let last : List RuleText → List CubeRules → Stage BoundRules = λ texts rules. found (rules-of texts rules) in
      let ordered : List RuleText → List CubeRules → Stage BoundRules = λ texts meant. orders meant >>= last texts in
      let apart = in-turn (List RuleText) BoundRules Bound reading (λ texts. meanings texts >>= ordered texts) end answer came in
      behind (List RuleText) Bound reading (λ texts. (meanings texts >>= ordered texts) >>= end) (λ texts. meanings texts >>= (λ meant. orders meant >>= (λ rules. end (rules-of texts rules)))) answer
      (λ texts came.
      behind (List CubeRules) Bound (meanings texts) (λ meant. ordered texts meant >>= end) (λ meant. orders meant >>= (λ rules. end (rules-of texts rules))) answer
      (λ meant came.
      behind (List CubeRules) Bound (orders meant) (λ rules. last texts rules >>= end) (λ rules. end (rules-of texts rules)) answer
      (λ rules came. at-once BoundRules Bound (rules-of texts rules) end answer came)
      (in-turn (List CubeRules) BoundRules Bound (orders meant) (last texts) end answer came))
      (in-turn (List CubeRules) BoundRules Bound (meanings texts) (ordered texts) end answer came))
      apart

  -- the checks of a group are made one after another
  pub apart : (answer : Result Bound DeployFault) → Comes (grouped contents files) answer → Comes (binding contents files) answer
  unfolding binding foundation_refusal
  apart answer came =
      let dimensions = dimensions_refusal contents.dims in
      let cells = space_refusal (cube_places contents.cubes) space in
      let products = products_refusal (cube_places contents.cubes) space in
      let rules : Unit {0} → Stage Bound = λ _. rules_stage space lines files >>= ending space lines files in
      let ruled = behind (Unit {0}) Bound (unless (foundation_refusal contents)) rules bound answer (λ _ came. rules-in-turn answer came) came in
      let first = one-by-one Bound dimensions (option_or cells products) bound answer ruled in
      behind (Unit {0}) Bound (unless dimensions) (λ _. unless (option_or cells products) >>= bound) (λ _. unless cells >>= (λ _. unless products >>= bound)) answer
      (λ _ came. one-by-one Bound cells products bound answer came) first

module _ (contents : Contents) (files : List (Option RuleFile)) where
  abbrev after : Unit {0} → Stage Bound
  after _ = rules_stage (layout_of contents) (order_lines contents.cubes) files >>= ending (layout_of contents) (order_lines contents.cubes) files

  -- what a model stands on is refused
  pub unfounded : (T : Type 0) (fault : DeployFault) (answer : Result Bound DeployFault) → IsErrAnd answer (λ e. e ≡ fault) → IsAnsweredBy {T = T} (foundation_refusal contents) (Err fault)
      → Comes (binding contents files) answer
  unfounded T fault answer is answered =
      apart contents files answer
      (stopped (Unit {0}) Bound (unless (foundation_refusal contents)) after fault answer is (answered-stage T (foundation_refusal contents) fault answered))

  module _ (space : Layout) (lines : Lines) (none : foundation_refusal contents ≡ None) (s : space ≡ layout_of contents) (l : lines ≡ order_lines contents.cubes) where
    founded : (answer : Result Bound DeployFault) → Comes (rules_stage space lines files >>= ending space lines files) answer → Comes (binding contents files) answer
    founded answer came =
        let Q : Layout → Type 0 = λ z. Comes (rules_stage z lines files >>= ending z lines files) answer in
        let R : Lines → Type 0 = λ z. Comes (rules_stage (layout_of contents) z files >>= ending (layout_of contents) z files) answer in
        apart contents files answer (goes-on (Unit {0}) Bound (unless (foundation_refusal contents)) after tt answer none (subst R l (subst Q s came)))

    -- the rules are refused
    pub unruled : (fault : DeployFault) (answer : Result Bound DeployFault) → IsErrAnd answer (λ e. e ≡ fault) → Comes (rules_stage space lines files) (Err fault)
        → Comes (binding contents files) answer
    unruled fault answer is came = founded answer (stopped BoundRules Bound (rules_stage space lines files) (ending space lines files) fault answer is came)

    module _ (rules : BoundRules) (finds : (rules_stage space lines files).finds rules) where
      after-rules : (answer : Result Bound DeployFault) → Comes (ending space lines files rules) answer → Comes (binding contents files) answer
      after-rules answer came = founded answer (goes-on BoundRules Bound (rules_stage space lines files) (ending space lines files) rules answer finds came)

      -- no order is found
      pub unranked : (fault : DeployFault) (answer : Result Bound DeployFault) → IsErrAnd answer (λ e. e ≡ fault) → Comes (ranking space lines files rules.rules) (Err fault)
          → Comes (binding contents files) answer
      unranked fault answer is came =
          after-rules answer (stopped BoundModel Bound (ranking space lines files rules.rules) (λ model. found (bound-of rules.asking model)) fault answer is came)

      -- the model is bound
      pub ruled : (model : BoundModel) → (ranking space lines files rules.rules).finds model → Comes (binding contents files) (Ok (bound-of rules.asking model))
      ruled model ranked = after-rules (Ok (bound-of rules.asking model)) (model, ranked, refl)

module _ (space : Layout) (lines : Lines) (files : List (Option RuleFile)) where
  abbrev meaning : List RuleText → Stage (List CubeRules)
  meaning texts = each (meaning_stage space files) 0 texts

  abbrev ordering : List CubeRules → Stage (List CubeRules)
  ordering meant = each (order_stage space lines) 0 meant

  abbrev ordered : List RuleText → List CubeRules → Stage BoundRules
  ordered texts meant = ordering meant >>= (λ rules. found (record { rules = rules; asking = asking texts }))

  pub unread : (fault : DeployFault) (answer : Result BoundRules DeployFault) → IsErrAnd answer (λ e. e ≡ fault) → Comes (each (λ _. text_stage) 0 files) (Err fault)
      → Comes (rules_stage space lines files) answer
  unfolding rules_stage
  unread fault answer is came =
      stopped (List RuleText) BoundRules (each (λ _. text_stage) 0 files) (λ texts. meaning texts >>= ordered texts) fault answer is came

  module _ (texts : List RuleText) (read : (each (λ _. text_stage) 0 files).finds texts) where
    pub unmeant : (fault : DeployFault) (answer : Result BoundRules DeployFault) → IsErrAnd answer (λ e. e ≡ fault) → Comes (meaning texts) (Err fault)
        → Comes (rules_stage space lines files) answer
    unfolding rules_stage
    unmeant fault answer is came =
        goes-on (List RuleText) BoundRules (each (λ _. text_stage) 0 files) (λ t. meaning t >>= ordered t) texts answer read
        (stopped (List CubeRules) BoundRules (meaning texts) (ordered texts) fault answer is came)

    module _ (meant : List CubeRules) (finds : (meaning texts).finds meant) where
      behind-meant : (answer : Result BoundRules DeployFault) → Comes (ordered texts meant) answer → Comes (rules_stage space lines files) answer
      unfolding rules_stage
      behind-meant answer came =
          goes-on (List RuleText) BoundRules (each (λ _. text_stage) 0 files) (λ t. meaning t >>= ordered t) texts answer read
          (goes-on (List CubeRules) BoundRules (meaning texts) (ordered texts) meant answer finds came)

      pub unlined : (fault : DeployFault) (answer : Result BoundRules DeployFault) → IsErrAnd answer (λ e. e ≡ fault) → Comes (ordering meant) (Err fault)
          → Comes (rules_stage space lines files) answer
      unlined fault answer is came =
          behind-meant answer (stopped (List CubeRules) BoundRules (ordering meant) (λ rules. found (record { rules = rules; asking = asking texts })) fault answer is came)

      pub lined : (rules : List CubeRules) → (ordering meant).finds rules → (rules_stage space lines files).finds (record { rules = rules; asking = asking texts })
      lined rules ordered = behind-meant (Ok (record { rules = rules; asking = asking texts })) (rules, ordered, refl)

    pub as-many-texts : length texts ≡ length files
    as-many-texts = as-many (λ _. text_stage) 0 files texts read

-- a text without a meaning
pub without-meaning : (name : Option (List ℕ)) (meaning : Result CubeRules BindFault) (fault : BindFault) (told : DeployFault) → IsBound meaning (Err fault) → (fault.cause ≡ Memory → told ≡ memory)
    → (told ≡ memory) ⊎ (told ≡ record { file = name; at = place_of fault.at; cause = cause_of fault.cause }) → (told ≡ memory) ⊎ (meant_in name meaning ≡ Err told)
without-meaning name meaning fault told (inl want) wanting is = inl (wanting want)
without-meaning name meaning fault told (inr meant) wanting (inl want) = inl want
without-meaning name meaning fault told (inr meant) wanting (inr is) = inr (ap (meant_in name) meant ∙ ap (λ e. Err e) (sym is))
