-- What is printed reads back: by the value that the call gives, which is the reading of the text.
use Rattle.cube_fixed.proofs.RoundTrip.{round_trip}
use Rattle.cube_fixed.proofs.reading.read.Goals as goal

pub returns-clause-round_trip : goal.returns-clause-round_trip
returns-clause-round_trip c = round_trip c.args.text.now c.read_with.result c.read_with.ensures
