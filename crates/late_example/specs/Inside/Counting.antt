-- The references of a statement for cells of a kind, as they are counted.
use Rattle.std.specs.Prelude.{ℕ, ◌-◌, nat_lt, Bool, false, not, if◌then◌else◌, Option, None, List, slice_get}
use Rattle.rule_model.specs.declared.rules.Form.{Form}
use Rattle.rule_model.specs.declared.rules.Form.TheVariants.{Both, LeafFirst, ConsFirst}

-- whether those for cells of a kind are counted after those for cells of the other
abbrev pub comes_second : Form → Bool → Bool
comes_second Both kind = false
comes_second LeafFirst kind = not kind
comes_second ConsFirst kind = kind

-- the one at a place, where so many are counted before them
abbrev pub picked : {X : Type 0} → List X → ℕ → ℕ → Option X
picked list before place = if nat_lt place before then None else slice_get list (place - before)
