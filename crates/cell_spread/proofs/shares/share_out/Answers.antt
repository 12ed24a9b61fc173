use Rattle.std.proofs.Common.{rules, ◌≡◌, ◌≢◌, ◌∙◌, ap, subst, ℕ, ℤ, List, ◌⊎◌, inl, inr, true, false, pos, Result, Ok, Err, IfOk, IfErr, w64, to_z, of_z, FitsSigned}
use Rattle.std.proofs.lemmas.Int.{to_z-of_z}
use mir.Syntax.{w128}
use Rattle.cell_spread.specs.declared.fault.SpreadFault.{SpreadFault}
use Rattle.cell_spread.specs.declared.fault.SpreadFault.TheVariants.{Memory, NothingThere, OverWrite}
use Rattle.cell_spread.specs.Shares.{sum_of, rest_of, rounded_up, shared_out}
use Rattle.cell_spread.specs.Spread.{are_in_range}
use Rattle.cell_spread.proofs.Rounding.{rounded-same}
use Rattle.cell_spread.proofs.shares.share_out.Goals.{After-rounded_up}
use Rattle.cell_spread.proofs.shares.share_out.Goals as goal

same : (c : After-rounded_up) → rounded_up (to_z w64 (of_z w64 c.millionths-amount.result)) (to_z w128 (of_z w128 c.sum_of-total.result)) c.rest_of-up.result c.args.parts.now ≡ shared_out c.args.amount c.args.parts.now
unfolding shared_out
same c =
    let fa : FitsSigned w64 c.millionths-amount.result = search rules in
    let ft : FitsSigned w128 c.sum_of-total.result = search rules in
    let a = to_z-of_z w64 c.millionths-amount.result fa ∙ c.millionths-amount.ensures.value in
    let t = to_z-of_z w128 c.sum_of-total.result ft ∙ c.sum_of-total.ensures.sum in
    rounded-same c.args.parts.now a t (c.rest_of-up.ensures ∙ ap (λ (z : ℤ). rest_of z c.args.parts.now) a)

with-sum : (T Z S B : Type 0) → S → (r : Result T SpreadFault) → IfErr r (λ f. (f ≡ Memory) ⊎ ((f ≡ OverWrite) × B))
    → IfErr r (λ f. (f ≡ Memory) ⊎ (((f ≡ NothingThere) × Z) ⊎ ((f ≡ OverWrite) × S × B)))
with-sum T Z S B some (Ok value) fault = tt
with-sum T Z S B some (Err f) (inl memory) = inl memory
with-sum T Z S B some (Err f) (inr is) = inr (inr (is.0, some, is.1))

pub returns-clause-shares : goal.returns-clause-shares
returns-clause-shares c =
    subst (λ (xs : List (ℕ × ℤ)). IfOk c.rounded_up.result (λ shares. shares.items ≡ xs)) (same (goal.at.returns-clause-shares c).After-rounded_up) c.rounded_up.ensures.shares

pub returns-clause-within : goal.returns-clause-within
returns-clause-within c =
    subst (λ (xs : List (ℕ × ℤ)). IfOk c.rounded_up.result (λ _. are_in_range xs ≡ true)) (same (goal.at.returns-clause-within c).After-rounded_up) c.rounded_up.ensures.within

pub returns-clause-fault : goal.returns-clause-fault
returns-clause-fault c =
    let some : sum_of c.args.parts.now ≢ pos 0 = λ none. c.if-total-eq0.false (ap (of_z w128) (c.sum_of-total.ensures.sum ∙ none)) in
    with-sum _ _ _ _ some c.rounded_up.result
    (subst (λ (xs : List (ℕ × ℤ)). IfErr c.rounded_up.result (λ f. (f ≡ Memory) ⊎ ((f ≡ OverWrite) × (are_in_range xs ≡ false)))) (same (goal.at.returns-clause-fault c).After-rounded_up) c.rounded_up.ensures.fault)
