-- Where orders are to be found, each cube has one first position, for leaf cells and for consolidated cells.
use Rattle.std.proofs.Common.{◌≡◌, refl, sym, ap, if◌then◌else◌, ◌∙◌, subst, ℕ, ◌+◌, Bool, true, false, Option, Some, None, Result, Ok, Err, List, [], ◌∷◌, All}
use Rattle.std.specs.Prelude.{⊤, option_map, slice_index_or}
use Rattle.std.proofs.lemmas.List.Elements.{All-nil, All-cons, All-head, All-tail}
use Rattle.cube_lex.specs.declared.position.Position as texts
use Rattle.cube_space.specs.Layout.{Layout, axes}
use Rattle.model_text.specs.declared.order.OrderLine.{OrderLine}
use Rattle.rule_tree.specs.declared.rule.RuleText.{RuleText}
use Rattle.rule_model.specs.declared.order.Position.{Position}
use Rattle.rule_model.specs.declared.rules.CubeRules.{CubeRules}
use Rattle.rule_model.specs.Order.{position_in}
use Rattle.rule_model.specs.declared.rules.Statement.{Statement}
use Rattle.rule_model.specs.declared.rules.Feeder.{Feeder}
use Rattle.bind_areas.specs.Meaning.{◌>>=◌}
use Rattle.bind_order.specs.Lags.{lag_of, lag_positions, lag_order}
use Rattle.bind_order.specs.Orders.{plain_order, equal_order}
use Rattle.bind_order.specs.declared.lag.Lag.{Lag}
use Rattle.rule_bind.specs.declared.fault.BindFault.{BindFault}
use Rattle.rule_bind.specs.Rules.{statements_of, all_feeders_of, rules_of}
use Rattle.rule_bind.proofs.Got.{got}
use Rattle.arrow_laws.specs.Ranked.{HasOneLag}
use Rattle.model_bind.specs.Files.{RuleFile}
use Rattle.model_bind.specs.declared.bound.BoundRules.{BoundRules}
use Rattle.model_bind.specs.Rules.{file_name, meant_in, in_order, is_automatic, by_line, meaning_stage, order_stage, rules_stage}
use Rattle.model_bind.specs.Stages.{Stage, each}

-- what a stage finds of each
all-of : {A B : Type 0} (stage : ℕ → A → Stage B) (P : A → Type 0) (Q : B → Type 0) → ((n : ℕ) (x : A) (y : B) → P x → (stage n x).finds y → Q y)
    → (n : ℕ) (xs : List A) (ys : List B) → All P xs → (each stage n xs).finds ys → All Q ys
all-of stage P Q step n [] ys all none = subst (All Q) (sym none) (All-nil Q)
all-of stage P Q step n (x ∷ xs) ys all (y, one, (more, rest, is)) =
    subst (All Q) (sym is) (All-cons Q y more (step n x y (All-head P x xs all) one) (all-of stage P Q step (n + 1) xs more (All-tail P x xs all) rest))

-- what a rule text means declares no order
text-lag : (space : Layout) (cube : ℕ) (text : RuleText) (rules : CubeRules) → rules_of space cube text ≡ Ok rules → HasOneLag rules
unfolding rules_of
text-lag space cube text rules is =
    let make : List Statement → List Feeder → CubeRules = λ statements feeders. record { skipcheck = text.skipcheck; statements = statements; feeders = feeders; order = record { positions = []; totals = None } } in
    let (statements, first, more) = got (statements_of space cube 0 text.statements) (λ statements. all_feeders_of space cube 0 text.feeders >>= (λ feeders. Ok (make statements feeders))) rules is in
    let (feeders, second, rest) = got (all_feeders_of space cube 0 text.feeders) (λ feeders. Ok (make statements feeders)) rules more in
    let same : make statements feeders ≡ rules = cc rest in
    subst HasOneLag same refl

meant-is : (name : Option (List ℕ)) (meaning : Result CubeRules BindFault) (rules : CubeRules) → meant_in name meaning ≡ Ok rules → meaning ≡ Ok rules
meant-is name (Ok own) rules is = let same : own ≡ rules = cc is in ap (λ (r : CubeRules). Ok r) same
meant-is name (Err fault) rules is = absurd (cc is)

module _ (space : Layout) (lines : List (Option (texts.Position × OrderLine))) (files : List (Option RuleFile)) where
  meaning-lag : (cube : ℕ) (text : RuleText) (rules : CubeRules) → ⊤ → (meaning_stage space files cube text).finds rules → HasOneLag rules
  meaning-lag cube text rules any is = text-lag space cube text rules (meant-is (file_name files cube) (rules_of space cube text) rules is)

  -- an order line that says nothing but the lag
  said-lag : (cube : ℕ) (line : texts.Position) (own rules : CubeRules) (lag : Option Lag) → in_order own line (option_map (lag_order (axes space cube)) lag) ≡ Ok rules → HasOneLag rules
  said-lag cube line own rules None is = absurd (cc is)
  said-lag cube line own rules (Some lag) is =
      let made : CubeRules = record { skipcheck = own.skipcheck; statements = own.statements; feeders = own.feeders; order = lag_order (axes space cube) lag } in
      let same : made ≡ rules = cc is in
      subst HasOneLag same (lists-alike lag.totals (lag_positions (axes space cube) lag.place))
    where
      lists-alike : (totals : Bool) (list : List Position) → position_in (if totals then equal_order list else plain_order list) false 0 ≡ position_in (if totals then equal_order list else plain_order list) true 0
      lists-alike true list = refl
      lists-alike false list = refl

  line-lag : (automatic : Bool) → automatic ≡ true → (cube : ℕ) (own rules : CubeRules) (line : Option (texts.Position × OrderLine)) → HasOneLag own → (by_line automatic space cube own line).finds rules
      → HasOneLag rules
  line-lag false on cube own rules line one is = absurd (cc)
  line-lag true on cube own rules None one is = subst HasOneLag (sym is) one
  line-lag true on cube own rules (Some (line, words)) one is = said-lag cube line own rules (lag_of (axes space cube) words.words) is

  order-lag : is_automatic lines ≡ true → (cube : ℕ) (own rules : CubeRules) → HasOneLag own → (order_stage space lines cube own).finds rules → HasOneLag rules
  order-lag automatic cube own rules one is = line-lag (is_automatic lines) automatic cube own rules (slice_index_or lines cube None) one is

  pub one-lag : is_automatic lines ≡ true → (bound : BoundRules) → (rules_stage space lines files).finds bound → All HasOneLag bound.rules
  unfolding rules_stage
  one-lag automatic bound (texts, read, (meant, means, (rules, ordered, is))) =
      subst (λ (b : BoundRules). All HasOneLag b.rules) (sym is)
      (all-of (order_stage space lines) HasOneLag HasOneLag (order-lag automatic) 0 meant rules
      (all-of (meaning_stage space files) (λ _. ⊤) HasOneLag meaning-lag 0 texts meant (λ k d low. tt) means) ordered)
