use Rattle.cube_lex.proofs.Insides.{closed-stands, forbidden-stops, open-stops}
use Rattle.cube_lex.proofs.front.quoted_front.Goals as goal

pub token-requires-clause-stands : goal.token-requires-clause-stands
token-requires-clause-stands c = (closed-stands c.args.rest.now c.in-Closed.place c.requires.opens (rw c.split_at.ensures.back at c.in-Closed.ensures)).1

pub returns-in-Forbidden : goal.returns-in-Forbidden
returns-in-Forbidden c = forbidden-stops c.args.rest.now c.args.at c.in-Forbidden.place c.requires.opens (rw c.split_at.ensures.back at c.in-Forbidden.ensures)

pub returns-in-Open : goal.returns-in-Open
returns-in-Open c = open-stops c.args.rest.now c.args.at c.requires.opens (rw c.split_at.ensures.back at c.in-Open.ensures)
