use Rattle.model_text.proofs.WrittenParts.{model_written}
use Rattle.model_text.proofs.printing.write_model.Goals as goal

pub returns : goal.returns
returns c = model_written c.write_scripts.result c.args.text.now c.args.out.now.items c.write_opening.new.out.items c.write_dims.new.out.items c.write_cubes.new.out.items c.write_scripts.new.out.items
    (rw c.version.ensures.version at c.in_ok-write_opening.ensures) (rw c.dims.ensures.dims at c.in_ok-write_dims.ensures) (rw (c.dims-2.ensures.dims, c.cubes.ensures.cubes) at c.in_ok-write_cubes.ensures) (rw c.scripts.ensures.scripts at c.write_scripts.ensures)
