use Rattle.std.proofs.Common.{[]}
use Rattle.cube_lex.proofs.Aheads.{the_ahead}
use Rattle.cube_lex.proofs.Steps.{none-ahead}
use Rattle.cube_lex.proofs.place.Place.end.Goals as goal

pub new-requires : goal.new-requires
new-requires c = the_ahead [] 0 1 0 [] ∣ none-ahead ∣₁

pub returns : goal.returns
returns c = c.new.ensures [] ∣ none-ahead ∣₁
