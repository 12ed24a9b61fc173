-- The list that a map means.
use Rattle.std.specs.Arc.{arc_value}
use Rattle.std.specs.Prelude.{ℕ, Option, List}
use Rattle.rule_laws.specs.declared.element_map.Form.{Form}
use Rattle.rule_laws.specs.declared.element_map.Form.TheVariants.{Identity, Nowhere, Behind, Before, Listed}
use Rattle.rule_laws.specs.Maps.{identity, nowhere, behind, before}

abbrev pub targets_of : Form → List (Option ℕ)
targets_of (Identity size) = identity size
targets_of (Nowhere size) = nowhere size
targets_of (Behind size places) = behind size places
targets_of (Before size places) = before size places
targets_of (Listed targets) = arc_value targets
