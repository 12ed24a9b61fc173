use Rattle.std.proofs.Common.{ap, ◌∙◌, max, min}
use Rattle.cell_reader.proofs.SlotFacts.{most, enough, few}
use Rattle.cell_reader.proofs.slots.slots_for.Goals as goal

pub returns-clause-most : goal.returns-clause-most
returns-clause-most c =
    let next = c.next_power_of_two.ensures in most _ next.power.0 c.next_power_of_two.result c.clamp-slots.result next.power.1 next.lower_bound next.upper_bound (c.clamp-slots.ensures ∙ ap (λ q. max 4096 (min q 262144)) c.min-wanted.ensures)

pub returns-clause-enough : goal.returns-clause-enough
returns-clause-enough c =
    let next = c.next_power_of_two.ensures in enough _ next.power.0 c.next_power_of_two.result c.clamp-slots.result next.power.1 next.lower_bound next.upper_bound (c.clamp-slots.ensures ∙ ap (λ q. max 4096 (min q 262144)) c.min-wanted.ensures)

pub returns-clause-few : goal.returns-clause-few
returns-clause-few c =
    let next = c.next_power_of_two.ensures in few _ next.power.0 c.next_power_of_two.result c.clamp-slots.result next.power.1 next.lower_bound next.upper_bound (c.clamp-slots.ensures ∙ ap (λ q. max 4096 (min q 262144)) c.min-wanted.ensures)
