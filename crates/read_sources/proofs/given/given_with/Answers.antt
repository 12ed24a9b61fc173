use Rattle.std.proofs.Common.{sym, subst, inl, inr, ◌+◌}
use Rattle.read_sources.specs.Ways.{choice, asked}
use Rattle.read_sources.specs.Sources.{IsGiven}
use Rattle.read_sources.specs.Giving.{IsGivenIn, below}
use Rattle.read_sources.proofs.Beside.{skipped, one-more, next}
use Rattle.read_sources.proofs.Giving.{given-in}
use Rattle.read_sources.proofs.given.given_with.Goals as goal

pub returns-then-dim-beside-clause-given : goal.returns-then-dim-beside-clause-given
returns-then-dim-beside-clause-given c =
    let ch = choice c.args.model.now c.args.source in
    next ch c.args.beside.one c.args.beside.other c.args.dim (asked c.args.source) c.args.given
    (skipped ch c.args.beside.one c.args.beside.other c.args.dim (asked c.args.source) c.args.given (inl c.if-dim-beside.true) c.requires.given)

pub returns-then-dim-beside-2-clause-given : goal.returns-then-dim-beside-2-clause-given
returns-then-dim-beside-2-clause-given c =
    let ch = choice c.args.model.now c.args.source in
    next ch c.args.beside.one c.args.beside.other c.args.dim (asked c.args.source) c.args.given
    (skipped ch c.args.beside.one c.args.beside.other c.args.dim (asked c.args.source) c.args.given (inr c.if-dim-beside-2.true) c.requires.given)

pub returns-clause-given : goal.returns-clause-given
returns-clause-given c =
    let m = c.args.model.now in
    let s = c.args.source in
    let ch = choice m s in
    let here = subst (IsGivenIn ch c.args.dim (asked s)) (sym c.given_by.ensures) (given-in m s c.requires.source.asks c.args.dim c.kinds_in-kinds.result c.kinds_in-kinds.ensures.kinds) in
    subst (IsGiven (below ch (c.args.dim + 1)) c.args.beside.one c.args.beside.other (asked s)) (sym c.merged.ensures)
    (next ch c.args.beside.one c.args.beside.other c.args.dim (asked s) _
    (one-more ch c.args.beside.one c.args.beside.other c.args.dim (asked s) c.args.given c.given_by.result c.if-dim-beside.false c.if-dim-beside-2.false c.requires.given here))
