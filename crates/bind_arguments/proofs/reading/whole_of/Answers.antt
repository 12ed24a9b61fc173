use Rattle.std.proofs.Common.{ap, sym, ◌∙◌}
use Rattle.bind_arguments.proofs.Parts.{part_number, number_whole, not_whole}
use Rattle.bind_arguments.specs.Written.{whole_number}
use Rattle.bind_arguments.specs.Inside.Reading.{whole_of_part}
use Rattle.bind_arguments.proofs.reading.whole_of.Goals as goal

pub returns-in-Number-clause-value : goal.returns-in-Number-clause-value
returns-in-Number-clause-value c =
    c.whole_number.ensures.value ∙ sym (ap whole_of_part (part_number c.args.tree.now c.in-Number.number c.in-Number.is) ∙ number_whole (whole_number c.in-Number.number))

pub returns-in_default : goal.returns-in_default
returns-in_default c = record { value = sym (not_whole c.args.tree.now c.in_default.not-Number); small = tt }
