use Rattle.read_sources.proofs.Gathered.{gathered-added, stay-added, taken-added}
use Rattle.read_sources.proofs.sources.take_kind.Goals as goal

pub returns-in_ok-add-in-Some-clause-gathered : goal.returns-in_ok-add-in-Some-clause-gathered
returns-in_ok-add-in-Some-clause-gathered c =
    gathered-added c.args.reading.part.model.now c.args.reading.part.cube c.args.sources.now.items c.add.new.sources.items c.in-Some.source c.in_ok-add-in-Some.ensures.added c.in_ok-add-in-Some.ensures.few
    c.in-Some.ensures.sought.read c.in-Some.ensures.sought.own c.requires.gathered

pub returns-in_ok-add-in-Some-clause-stay : goal.returns-in_ok-add-in-Some-clause-stay
returns-in_ok-add-in-Some-clause-stay c =
    stay-added c.args.sources.now.items c.add.new.sources.items c.in-Some.source c.in_ok-add-in-Some.ensures.added

pub returns-in_ok-add-in-Some-clause-taken : goal.returns-in_ok-add-in-Some-clause-taken
returns-in_ok-add-in-Some-clause-taken c =
    taken-added c.args.reading c.args.its c.args.sources.now.items c.add.new.sources.items c.in-Some.source c.in_ok-add-in-Some.ensures.added c.in-Some.ensures.sought
