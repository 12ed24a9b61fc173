-- Arguments that move the cell's own element by so many places.
use Rattle.std.specs.Prelude.{◌≡◌, ℕ, suc, ℤ, pos, negsuc, List, Option}
use Rattle.rule_laws.specs.Maps.{behind, before}
use Rattle.bind_arguments.specs.declared.bound_argument.BoundArgument.{BoundArgument}
use Rattle.bind_arguments.specs.declared.bound_argument.BoundArgument.TheVariants as bound

-- an argument is the element of a dimension so many places behind the cell's own one there
pub record IsOwnMove (dim : ℕ) (shift : ℤ) (argument : BoundArgument) : Type 0 where
  pub of : BoundArgument
  pub place : ℕ
  pub own : of ≡ bound.Current place dim
  pub moved : argument ≡ bound.AtPlace dim dim of shift

-- each of so many elements goes to the one so many places behind it, or before it by a number below 0
abbrev pub moved_by : ℕ → ℤ → List (Option ℕ)
moved_by size (pos places) = behind size places
moved_by size (negsuc places) = before size (suc places)
