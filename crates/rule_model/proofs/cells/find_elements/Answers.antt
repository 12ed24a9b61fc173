use Rattle.std.proofs.Common.{◌∙◌, sym}
use Rattle.rule_model.proofs.Named.{other_count}
use Rattle.rule_model.proofs.Shapes.{axes_length}
use Rattle.cube_space.specs.Layout.{axes_of}
use Rattle.rule_model.proofs.cells.find_elements.Goals as goal

pub returns-then-dims-names-clause-missing : goal.returns-then-dims-names-clause-missing
returns-then-dims-names-clause-missing c = λ _.
    let long = axes_length c.args.space.now.dimensions c.args.dims.now c.requires.dims in
    other_count (axes_of c.args.space.now.dimensions c.args.dims.now) c.args.names.now (λ same. c.if-dims-names.true (sym long ∙ same))
