use Rattle.std.proofs.Common.{sym, subst, length}
use Rattle.cube_space.specs.Layout.{axes}
use Rattle.read_sources.specs.Ways.{width}
use Rattle.read_sources.specs.Ways.{Names, IsIn, precedent, cube_read}
use Rattle.read_sources.proofs.Within.{names-within, follows-in, reads-cube}
use Rattle.read_sources.proofs.ways.way.Goals as goal

pub returns-clause-names : goal.returns-clause-names
returns-clause-names c =
    let m = c.args.model.now in
    let s = c.args.source in
    subst (Names s.cube (cube_read s) (width m.space (cube_read s))) (sym c.way_of.ensures) (names-within m s.cube (precedent s) c.space-space.ensures.valid c.requires.reads)

pub returns-clause-dimension : goal.returns-clause-dimension
returns-clause-dimension c =
    let m = c.args.model.now in
    let s = c.args.source in
    subst (IsIn (length (axes m.space s.cube))) (sym c.way_of.ensures) (follows-in m s.cube (precedent s) c.space-space.ensures.valid c.requires.reads)

pub returns-clause-cube : goal.returns-clause-cube
returns-clause-cube c = reads-cube c.args.model.now c.args.source.cube (precedent c.args.source) c.requires.cube c.requires.reads
