-- The rules of all cubes, gathered cube by cube.
use Rattle.std.proofs.Common.{◌≡◌, ℕ, ◌<◌, ◌+◌, zero, suc, List, [], ◌∷◌, ◌++◌, length, slice_index_or, arith, sym, subst, refl, ◌∙◌, length-append}
use Rattle.cube_space.specs.Layout.{Layout}
use Rattle.rule_model.specs.declared.rules.CubeRules.{CubeRules}
use Rattle.rule_model.specs.declared.order.Order.{Order}
use Rattle.rule_model.specs.BoundModel.{no_rules}
use Rattle.rule_model.specs.Conditions.{AreCubeRules, AreRules, IsOrderOf}

pushed : {A : Type 0} (P : ℕ → A → Type 0) (d : A) (xs : List A) (x : A) → ((k : ℕ) → k < length xs → P k (slice_index_or xs k d)) → P (length xs) x
    → (k : ℕ) → k < suc (length xs) → P k (slice_index_or (xs ++ x ∷ []) k d)
pushed P d [] x each own zero h = own
pushed P d [] x each own (suc k) h = absurd (omega (arith, h))
pushed P d (y ∷ xs) x each own zero h = each 0 (omega arith)
pushed P d (y ∷ xs) x each own (suc k) h = pushed (λ n. P (suc n)) d xs x (λ j low. each (suc j) (omega (arith, low))) own k (omega (arith, h))

-- the rules of the first cubes
pub record AreFirst (space : Layout) (rules : List CubeRules) (count : ℕ) : Type 0 where
  pub long : length rules ≡ count
  pub each : (cube : ℕ) → cube < length rules → AreCubeRules space cube (slice_index_or rules cube no_rules)

pub none_yet : (space : Layout) (rules : List CubeRules) → rules ≡ [] → AreFirst space rules 0
none_yet space rules none = subst (λ r. AreFirst space r 0) (sym none) (record { long = refl; each = λ cube low. absurd (omega (arith, low)) })

pub one_more : (space : Layout) (rules later : List CubeRules) (more : CubeRules) (count : ℕ) → AreFirst space rules count → AreCubeRules space count more → later ≡ rules ++ more ∷ [] → AreFirst space later (count + 1)
one_more space rules later more count first own is = subst (λ r. AreFirst space r (count + 1)) (sym is) (record {
  long = length-append rules (more ∷ []) ∙ omega (arith, first.long);
  each = λ cube low. pushed (AreCubeRules space) no_rules rules more first.each (subst (λ n. AreCubeRules space n more) (sym first.long) own) cube (omega (arith, low, length-append rules (more ∷ [])));
})

pub all_cubes : (space : Layout) (rules : List CubeRules) (count : ℕ) → AreFirst space rules count → count ≡ length space.cubes → AreRules space rules
all_cubes space rules count first all = record {
  each_cube = first.long ∙ all;
  cube = λ cube low. first.each cube (omega (arith, low, first.long, all));
}

-- the same rules in another order of evaluation
pub in_order : (space : Layout) (cube : ℕ) (rules : CubeRules) (order : Order) → AreCubeRules space cube rules → IsOrderOf space cube order
    → AreCubeRules space cube (record { skipcheck = rules.skipcheck; statements = rules.statements; feeders = rules.feeders; order = order })
in_order space cube rules order are is = record {
  few_statements = are.few_statements;
  few_feeders = are.few_feeders;
  statements = are.statements;
  feeders = are.feeders;
  order = is;
}
