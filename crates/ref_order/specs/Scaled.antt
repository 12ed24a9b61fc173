-- What a cell has at a position or as its level, as the code asks for it.
use Rattle.order_laws.specs.Scales.{Scale, scale_of}
use Rattle.ref_order.specs.declared.scale.KindScale.{KindScale}

-- the scale of the cells of a cube of a kind at a place
abbrev pub scale_by : KindScale → Scale
scale_by s = scale_of s.model.now s.cube s.kind s.place
