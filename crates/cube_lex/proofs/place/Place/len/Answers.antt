use Rattle.std.proofs.Common.{length, ap, ◌∙◌}
use Rattle.cube_lex.proofs.Steps.{count-is}
use Rattle.cube_lex.proofs.place.Place.len.Goals as goal

pub returns : goal.returns
returns c = count-is c.self.inside.text.now c.self.inside.at c.self.inside.line c.self.inside.left c.self.inside.tokens.0 c.self.inside.tokens.1.0 ∙ ap length c.self.view_is
