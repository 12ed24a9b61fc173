-- What a record and the records that are left stand in.
use Rattle.std.specs.Prelude.{List, []}
use Rattle.std.specs.Borrow.{Bor}
use Rattle.std.specs.declared.option.Option.{Option}
use Rattle.std.specs.declared.option.Option.TheVariants.{None, Some}

-- the list that is pointed to; without one it is empty
abbrev pub pointed : {X : Type 0} → Option (Bor (List X)) → List X
pointed None = []
pointed (Some list) = list.now
