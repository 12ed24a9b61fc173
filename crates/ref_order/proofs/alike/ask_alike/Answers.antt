use Rattle.ref_order.proofs.Likeness.{asked_alike}
use Rattle.ref_order.proofs.alike.ask_alike.Goals as goal

pub returns : goal.returns
returns c =
    λ on area numbers are.
    asked_alike c.args.model.now c.args.cube area numbers c.args.one c.args.other c.if-one-other.false c.if-one-other-2.false
    (c.same_kind.ensures c.if-not-same_kind.false) (c.same_kind-2.ensures c.if-not-same_kind-2.false) (c.read_alike.ensures on) are
