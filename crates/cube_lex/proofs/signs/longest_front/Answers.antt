use Rattle.cube_lex.proofs.SignTable.{sign-found, sign-none}
use Rattle.cube_lex.proofs.signs.longest_front.Goals as goal

pub returns-in-Some : goal.returns-in-Some
returns-in-Some c = sign-found c.args.bytes.now c.args.table.now c.in-Some.sign c.requires c.in-Some.ensures

pub returns-in-None : goal.returns-in-None
returns-in-None c = sign-none c.args.bytes.now c.args.table.now c.requires c.in-None.ensures
