-- What has been built of a block, and what a finished block is.
use Rattle.std.specs.Prelude.{◌≡◌, ℕ, List}
use Rattle.cube_lex.specs.declared.position.Position.{Position}
use Rattle.dim_core.specs.Draft.{Draft, IsFinished}
use Rattle.dim_core.specs.Outline.{Outline}

-- the place of the head, the draft so far, and the places of its elements and of its attributes
pub record Progress : Type 0 where
  pub head : Position
  pub draft : Draft
  pub positions : List Position
  pub attribute_positions : List Position

-- a block: the place of its head, its dimension, and the place of each element's statement
pub record Text : Type 0 where
  pub head : Position
  pub dimension : Outline
  pub positions : List Position

-- the block is what has been built
pub record IsBuilt (text : Text) (p : Progress) : Type 0 where
  pub head : text.head ≡ p.head
  pub dimension : IsFinished p.draft text.dimension
  pub positions : text.positions ≡ p.positions
