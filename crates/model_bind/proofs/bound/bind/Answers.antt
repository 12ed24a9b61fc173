use Rattle.model_bind.proofs.Firsts.{unrefused}
use Rattle.model_bind.proofs.OneLag.{one-lag}
use Rattle.model_bind.proofs.InStages.{unfounded, unruled, unranked, ruled}
use Rattle.model_bind.proofs.bound.bind.Goals as goal

pub returns-in_err-found : goal.returns-in_err-found
returns-in_err-found c =
    record { comes = unfounded c.args.text c.args.rules.now _ c.in_err-found.field-0.0 c.from_residual.result c.from_residual.ensures.1 c.in_err-found.ensures.answered }

pub returns-in_err-bound : goal.returns-in_err-bound
returns-in_err-bound c =
    let found = c.in_ok-found.found in
    let none = unrefused _ found c.in_ok-found.ensures.answered in
    record {
      comes = unruled c.args.text c.args.rules.now found.space found.orders none c.in_ok-found.ensures.space c.in_ok-found.ensures.orders c.in_err-bound.field-0.0 c.from_residual-in_err-bound.result
          c.from_residual-in_err-bound.ensures.1 c.in_err-bound.ensures.comes;
    }

pub model_of-requires-clause-one_lag : goal.model_of-requires-clause-one_lag
model_of-requires-clause-one_lag c = λ automatic.
    let found = c.in_ok-found.found in
    one-lag found.space found.orders c.args.rules.now automatic c.in_ok-bound.bound c.in_ok-bound.ensures.comes

pub returns-in_err-model : goal.returns-in_err-model
returns-in_err-model c =
    let found = c.in_ok-found.found in
    let none = unrefused _ found c.in_ok-found.ensures.answered in
    record {
      comes = unranked c.args.text c.args.rules.now found.space found.orders none c.in_ok-found.ensures.space c.in_ok-found.ensures.orders c.in_ok-bound.bound c.in_ok-bound.ensures.comes
          c.in_err-model.field-0.0 c.from_residual-in_err-model.result c.from_residual-in_err-model.ensures.1 c.in_err-model.ensures.comes;
    }

pub returns : goal.returns
returns c =
    let found = c.in_ok-found.found in
    let none = unrefused _ found c.in_ok-found.ensures.answered in
    record {
      comes = ruled c.args.text c.args.rules.now found.space found.orders none c.in_ok-found.ensures.space c.in_ok-found.ensures.orders c.in_ok-bound.bound c.in_ok-bound.ensures.comes
          c.in_ok-model.model c.in_ok-model.ensures.comes;
    }
