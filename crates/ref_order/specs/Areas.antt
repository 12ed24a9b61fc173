-- The cells of an area, as the code has them.
use Rattle.std.specs.Prelude.{ℕ, ◌<◌, Bool, ℤ, Option, length}
use Rattle.rule_model.specs.Conditions.{IsArea}
use Rattle.order_laws.specs.Earlier.{Kinds, greatest_of_kinds, greatest_ending}
use Rattle.ref_order.specs.declared.area_cells.AreaCells.{AreaCells}
use Rattle.ref_order.specs.declared.question.Question.{Question}
use Rattle.ref_order.specs.Known.{kinds_reading}
use Rattle.ref_order.specs.Reads.{precedent_of}

-- a cube of the model, and an area of it
pub record IsAreaCells (cells : AreaCells) : Type 0 where
  pub cube : cells.cube < length cells.model.now.space.cubes
  pub area : IsArea cells.model.now.space cells.cube cells.area.now

-- the greatest numbers in each dimension, where what is read is of this kind
abbrev pub numbers_reading : AreaCells → Question → Bool → ℕ → Kinds → Option ℤ
numbers_reading cells asked its =
    greatest_of_kinds cells.model.now cells.cube cells.area.now (kinds_reading asked its) asked.place
    (precedent_of asked.read)

-- the greatest sums of them over so many dimensions from the one that is asked for on
abbrev pub ending_reading : AreaCells → Question → Bool → ℕ → Kinds → Option ℤ
ending_reading cells asked its left before =
    greatest_ending (numbers_reading cells asked its) (kinds_reading asked its) before asked.dim left
