use Rattle.std.proofs.Common.{rules, ◌∙◌, sym, ap, pos, w64}
use Rattle.std.specs.Option.{option_map_or}
use Rattle.std.proofs.lemmas.Int.{to_z-of_z}
use mir.Val.{SFits}
use Rattle.cell_spread.specs.Spread.{part_of}
use Rattle.cell_spread.proofs.Walks.{stored-number}
use Rattle.cell_spread.proofs.below.part_of.Goals as goal

pub returns-in-Some-clause-part : goal.returns-in-Some-clause-part
returns-in-Some-clause-part c entries cell same =
    let fits : SFits w64 c.millionths.result = search rules in
    to_z-of_z w64 c.millionths.result fits ∙ c.millionths.ensures.value
    ∙ sym (ap (λ o. option_map_or (λ n. n) o (pos 0)) c.in-Some.is) ∙ ap (λ o. option_map_or (λ n. n) o (pos 0)) same ∙ stored-number entries cell
    ∙ sym (ap (λ h. part_of h entries cell) c.in-Proportional.is)

pub returns-in-None-clause-part : goal.returns-in-None-clause-part
returns-in-None-clause-part c entries cell same =
    sym (ap (λ o. option_map_or (λ n. n) o (pos 0)) c.in-None.is) ∙ ap (λ o. option_map_or (λ n. n) o (pos 0)) same ∙ stored-number entries cell
    ∙ sym (ap (λ h. part_of h entries cell) c.in-Proportional.is)
