-- The checks of a whole model, put together.
use Rattle.std.proofs.Common.{◌≡◌, ◌⊎◌, inl, inr, ℕ, suc, [], Result, Ok, Err, List, ap, sym, ◌∙◌, subst, IsErrAnd, Option}
use Rattle.cube_lex.specs.Positions.{text_begin}
use Rattle.check_order.specs.Verdict.{IsOrderFault}
use Rattle.check_order.specs.declared.fault.OrderFault.{OrderFault}
use Rattle.cell_store.specs.declared.entry.Entry.{Entry}
use Rattle.feed_map.specs.FedCells.{HasManyFed, most_fed}
use Rattle.feed_map.specs.declared.fault.FedFault.{FedFault}
use Rattle.feed_map.specs.declared.fault.FedFault.TheVariants.{FedLimit}
use Rattle.feed_map.specs.declared.fault.FedFault.TheVariants as feds
use Rattle.feed_check.specs.Verdict.{IsFirstFault}
use Rattle.feed_check.specs.declared.fault.FeedCheckFault.{FeedCheckFault}
use Rattle.rule_model.specs.BoundModel.{BoundModel}
use Rattle.model_bind.specs.Files.{RuleFile}
use Rattle.model_bind.specs.declared.fault.DeployFault.{DeployFault}
use Rattle.model_bind.specs.declared.fault.DeployCause.TheVariants as causes
use Rattle.model_bind.specs.Foundation.{refused_in_model, memory}
use Rattle.model_bind.specs.Stages.{Stage, found, ◌>>=◌, Comes}
use Rattle.model_deploy.specs.Deployment.{order_refusal, feeders_refusal, ordered_stage, feeders_stage, fed_stage, checked}
use Rattle.model_bind.proofs.Stages.{stopped, goes-on}

module _ (files : List (Option RuleFile)) (model : BoundModel) where
  abbrev order-first : Stage (Unit {0})
  order-first = ordered_stage files model

  abbrev fed-last : Unit {0} → Stage BoundModel
  fed-last _ = fed_stage model >>= (λ _. found model)

  abbrev feeders-next : Unit {0} → Stage BoundModel
  feeders-next _ = feeders_stage files model >>= fed-last

  pub unordered : (fault : OrderFault) (told : DeployFault) → IsOrderFault model fault → (told ≡ memory) ⊎ (told ≡ order_refusal files fault) → Comes (ordered_stage files model) (Err told)
  unordered fault told first (inl want) = inl want
  unordered fault told first (inr is) = inr (fault, first, is)

  pub uncovered : (fault : FeedCheckFault) (told : DeployFault) → IsFirstFault model fault → (told ≡ memory) ⊎ (told ≡ feeders_refusal files fault) → Comes (feeders_stage files model) (Err told)
  uncovered fault told first (inl want) = inl want
  uncovered fault told first (inr is) = inr (fault, first, is)

  module _ (fault : DeployFault) (answer : Result BoundModel DeployFault) (is : IsErrAnd answer (λ e. e ≡ fault)) where
    pub late : Comes order-first (Err fault) → Comes (checked files model) answer
    late came = stopped (Unit {0}) BoundModel order-first feeders-next fault answer is came

    module _ (ordered : Comes order-first (Ok tt)) where
      pub late-fed : Comes (feeders_stage files model) (Err fault) → Comes (checked files model) answer
      late-fed came = goes-on (Unit {0}) BoundModel order-first feeders-next tt answer ordered (stopped (Unit {0}) BoundModel (feeders_stage files model) fed-last fault answer is came)

      pub overfed : Comes (feeders_stage files model) (Ok tt) → Comes (fed_stage model) (Err fault) → Comes (checked files model) answer
      overfed fed came =
          let last = stopped (Unit {0}) BoundModel (fed_stage model) (λ _. found model) fault answer is came in
          goes-on (Unit {0}) BoundModel order-first feeders-next tt answer ordered (goes-on (Unit {0}) BoundModel (feeders_stage files model) fed-last tt answer fed last)

  pub passes : (accepted : BoundModel) → accepted ≡ model → Comes order-first (Ok tt) → Comes (feeders_stage files model) (Ok tt) → Comes (fed_stage model) (Ok tt) → Comes (checked files model) (Ok accepted)
  passes accepted is ordered fed few = (tt, ordered, (tt, fed, (tt, few, is)))

-- more cells are fed than may be
pub overfed-by : (model : BoundModel) (fault : FedFault) (count : ℕ) (told : DeployFault) (entries : List Entry) → fault ≡ FedLimit count → entries ≡ []
    → (fault ≡ feds.Memory) ⊎ ((fault ≡ FedLimit (suc most_fed)) × HasManyFed model entries) → told ≡ refused_in_model text_begin (causes.FedLimit count) → Comes (fed_stage model) (Err told)
overfed-by model fault count told entries this none (inl want) is = let clash : FedLimit count ≡ feds.Memory = sym this ∙ want in absurd (cc)
overfed-by model fault count told entries this none (inr (same, many)) is =
    let both : FedLimit count ≡ FedLimit (suc most_fed) = sym this ∙ same in
    let limit : count ≡ suc most_fed = cc in
    inr (subst (HasManyFed model) none many, is ∙ ap (λ n. refused_in_model text_begin (causes.FedLimit n)) limit)
