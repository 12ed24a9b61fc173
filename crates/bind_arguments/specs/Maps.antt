-- The maps that were made of arguments, the tables that were made of functions, and the families of dimensions.
use Rattle.std.specs.Prelude.{◌≡◌, List, Option, All}
use Rattle.cube_space.specs.Layout.{Layout}
use Rattle.bind_arguments.specs.Argument.{table_over}
use Rattle.bind_arguments.specs.declared.own_maps.BoundMap.{BoundMap}
use Rattle.bind_arguments.specs.declared.bound_tables.BoundTable.{BoundTable}
use Rattle.bind_arguments.specs.declared.family.Family.{Family}
use Rattle.bind_arguments.specs.Inside.Families.{AreFamiliesIn}
use Rattle.bind_arguments.specs.Numbers.{AreTablesIn}

-- it leads from each element where its argument does in this space
abbrev pub IsMapIn : Layout → BoundMap → Type 0
IsMapIn space made = made.targets ≡ table_over space made.dim made.argument made.len

-- each of them does
unfoldable pub AreOwnMapsIn : Layout → List BoundMap → Type 0
AreOwnMapsIn space maps = All (IsMapIn space) maps

-- what was made so far
pub record Made : Type 0 where
  pub maps : List BoundMap
  pub tables : List BoundTable
  pub families : List (Option Family)

-- all of it is right in this space
unfoldable pub AreMapsIn : Layout → Made → Type 0
AreMapsIn space made =
    AreOwnMapsIn space made.maps × AreTablesIn space made.tables × AreFamiliesIn space made.families
