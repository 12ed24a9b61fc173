use Rattle.cube_words.proofs.Sizes.{not_a_size}
use Rattle.cube_words.proofs.size.size_of.Goals as goal

pub returns-in_default : goal.returns-in_default
returns-in_default c = λ size. not_a_size c.args.text.now c.in_default.field-0 size c.in_default.ensures.value.0
