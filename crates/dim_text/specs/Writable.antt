-- What can be written as quoted texts.
use Rattle.std.specs.Prelude.{All}
use Rattle.cube_lex.specs.Written.{IsQuotable}
use Rattle.dim_core.specs.Outline.{Outline}

-- the names and the texts of a dimension can be written
pub record IsWritable (d : Outline) : Type 0 where
  pub name : IsQuotable d.name
  pub elements : All (λ e. IsQuotable e.name) d.elements
  pub attributes : All (λ a. IsQuotable a.name × IsQuotable a.text) d.attributes
