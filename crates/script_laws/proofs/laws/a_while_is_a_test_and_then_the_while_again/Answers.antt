use Rattle.script_laws.proofs.Turns.{again}
use Rattle.script_laws.proofs.laws.a_while_is_a_test_and_then_the_while_again.Goals as goal

pub returns : goal.returns
returns c number test block store here progress writes = again number test block store here progress writes
