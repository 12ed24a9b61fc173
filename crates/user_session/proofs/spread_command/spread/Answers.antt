use Rattle.std.proofs.Common.{sym, subst, ℕ, ℤ, List}
use Rattle.cell_versions.specs.Versions.{AreLeafWrites}
use Rattle.rule_model.specs.BoundModel.{BoundModel}
use Rattle.user_session.proofs.Shares.{shares-leaves}
use Rattle.user_session.proofs.spread_command.spread.Goals as goal

pub written-requires : goal.written-requires
written-requires c =
    let model = c.model-model.result.now in
    let leaves : AreLeafWrites model.space c.in-Ok.writes.items =
    subst (λ (writes : List (ℕ × ℤ)). AreLeafWrites model.space writes) (sym c.in-Ok.ensures.writes)
    (shares-leaves model.space c.store.result.now c.in-Some.cell c.args.amount c.how_of.result) in
    subst (λ (m : BoundModel). AreLeafWrites m.space c.in-Ok.writes.items) c.model-model.ensures.model leaves
