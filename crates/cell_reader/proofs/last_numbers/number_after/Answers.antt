use Rattle.std.proofs.Common.{◌∙◌, None, Some}
use Rattle.cell_reader.proofs.LastNumbers.{number-told}
use Rattle.cell_reader.proofs.last_numbers.number_after.Goals as goal

pub returns-in-Some : goal.returns-in-Some
returns-in-Some c = λ writes are. number-told c.args.store.now writes c.args.numbers.now.entries c.args.cell (Some c.in-Some.number.now) are c.in-Some.ensures.value

pub returns-in-None : goal.returns-in-None
returns-in-None c = λ writes are. c.get-in-None.ensures ∙ number-told c.args.store.now writes c.args.numbers.now.entries c.args.cell None are c.in-None.ensures.value
