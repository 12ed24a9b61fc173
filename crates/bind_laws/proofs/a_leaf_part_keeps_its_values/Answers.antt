use Rattle.bind_laws.proofs.LeafValues.{part-same}
use Rattle.bind_laws.proofs.a_leaf_part_keeps_its_values.Goals as goal

pub returns : goal.returns
returns c space cube area tree settled cell named others there own leaf inside elements is = part-same space cube area tree settled cell named others there own leaf inside elements is
