use Rattle.std.proofs.Common.{◌∙◌, subst, IsPermutation, eqb}
use Rattle.std.proofs.lemmas.List.Filters.{dedup_is}
use Rattle.bind_areas.proofs.ElementFacts.{called_is}
use Rattle.bind_areas.proofs.area.elements_called.Goals as goal

pub returns : goal.returns
returns c =
    let moved = subst (λ l. IsPermutation l c.sort.new.self.items) c.in_ok-elements.ensures c.in_ok-sort.ensures.permutation in
    c.new.ensures ∙ dedup_is eqb c.sort.new.self.items c.dedup.new.self.items c.dedup.ensures.filtered
    ∙ called_is c.args.dimension.now c.args.names.now c.sort.new.self.items moved c.in_ok-sort.ensures.sorted
