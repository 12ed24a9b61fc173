-- Links of a closed walk over a space.
use Rattle.std.specs.Prelude.{◌<◌, length}
use Rattle.cube_space.specs.Layout.{Layout}
use Rattle.order_find.specs.Numbers.{width}
use Rattle.order_find.specs.declared.link.Link.{Link}

-- a link names a cube, and an element of its last dimension
abbrev pub IsLinked : Layout → Link → Type 0
IsLinked space link = (link.cube < length space.cubes) × (link.element < width space link.cube)
