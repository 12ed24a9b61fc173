use Rattle.std.proofs.Common.{◌∙◌, ap, position, bytes_eq}
use Rattle.word_table.proofs.table.WordTable.place_of.Goals as goal

pub returns-in-Some : goal.returns-in-Some
returns-in-Some c = c.in-Some.ensures.value ∙ c.self.invariant.found c.args.word.now ∙ ap (position (λ other. bytes_eq other c.args.word.now)) c.self.view_is

pub returns-in-None : goal.returns-in-None
returns-in-None c = c.in-None.ensures.value ∙ c.self.invariant.found c.args.word.now ∙ ap (position (λ other. bytes_eq other c.args.word.now)) c.self.view_is
