use Rattle.std.proofs.Common.{◌∙◌}
use Rattle.dim_text.proofs.Refusals.{finished_length}
use Rattle.dim_text.proofs.partial.PartialBlock.finish.Goals as goal

pub new-requires : goal.new-requires
new-requires c = c.self.invariant ∙ finished_length c.self.inside.builder c.in-Ok.dimension c.in-Ok.ensures.finished
