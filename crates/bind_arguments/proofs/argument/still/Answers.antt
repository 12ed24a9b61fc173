use Rattle.bind_arguments.proofs.Tables.{cube_dims}
use Rattle.bind_arguments.proofs.argument.still.Goals as goal

pub axis_len-len-requires-clause-place : goal.axis_len-len-requires-clause-place
axis_len-len-requires-clause-place c = (cube_dims c.args.space.now c.args.cube c.requires.valid c.requires.cube).some
