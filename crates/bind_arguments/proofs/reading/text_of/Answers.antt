use Rattle.std.proofs.Common.{ap, sym, ◌∙◌, Some}
use Rattle.bind_arguments.proofs.Parts.{part_text, not_text}
use Rattle.bind_arguments.specs.Inside.Reading.{text_of_part}
use Rattle.bind_arguments.proofs.reading.text_of.Goals as goal

pub returns-in-Text : goal.returns-in-Text
returns-in-Text c = ap Some c.as_slice.ensures ∙ sym (ap text_of_part (part_text c.args.tree.now c.in-Text.text c.in-Text.is))

pub returns-in_default : goal.returns-in_default
returns-in_default c = sym (not_text c.args.tree.now c.in_default.not-Text)
