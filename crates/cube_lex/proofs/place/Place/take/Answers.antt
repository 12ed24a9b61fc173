use Rattle.std.proofs.Common.{◌≡◌, length, ap, sym, ◌∙◌, drop}
use Rattle.cube_lex.proofs.Aheads.{the_ahead}
use Rattle.cube_lex.proofs.Steps.{count-is, none-first}
use Rattle.cube_lex.proofs.place.Place.take.Goals as goal

pub returns-in_default-clause-token : goal.returns-in_default-clause-token
returns-in_default-clause-token c =
    let none : length c.args.self.now ≡ 0 = sym (ap length c.self.view_is)
    ∙ sym (count-is c.self.inside.text.now c.self.inside.at c.self.inside.line c.self.inside.left c.self.inside.tokens.0 c.self.inside.tokens.1.0) ∙ c.in_default.ensures in
    (none-first c.args.self.now none).0

pub returns-in_default-clause-rest : goal.returns-in_default-clause-rest
returns-in_default-clause-rest c =
    let none : length c.args.self.now ≡ 0 = sym (ap length c.self.view_is)
    ∙ sym (count-is c.self.inside.text.now c.self.inside.at c.self.inside.line c.self.inside.left c.self.inside.tokens.0 c.self.inside.tokens.1.0) ∙ c.in_default.ensures in
    (none-first c.args.self.now none).1

pub new-requires : goal.new-requires
new-requires c = the_ahead _ _ _ _ (drop 1 c.self.inside.tokens.0) (c.in-Some.ensures.1 c.self.inside.tokens.0 c.self.inside.tokens.1.0).1
