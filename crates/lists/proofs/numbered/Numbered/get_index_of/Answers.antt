use Rattle.std.proofs.Common.{◌∙◌, ap, sym, position}
use Rattle.lists.proofs.NumberedFacts.{some_there, none_there}
use Rattle.lists.proofs.numbered.Numbered.get_index_of.Goals as goal

pub returns-in-Some-clause-found : goal.returns-in-Some-clause-found
returns-in-Some-clause-found g c =
    sym (some_there (g.K.PartialEq.eq c.args.key.now) c.args.self.now c.in-Some.number.now (ap (position (g.K.PartialEq.eq c.args.key.now)) (sym c.self.view_is) ∙ sym (c.self.invariant.found c.args.key.now) ∙ sym c.in-Some.ensures.value))

pub returns-in-None-clause-found : goal.returns-in-None-clause-found
returns-in-None-clause-found g c =
    sym (none_there (g.K.PartialEq.eq c.args.key.now) c.args.self.now (ap (position (g.K.PartialEq.eq c.args.key.now)) (sym c.self.view_is) ∙ sym (c.self.invariant.found c.args.key.now) ∙ sym c.in-None.ensures.value))
