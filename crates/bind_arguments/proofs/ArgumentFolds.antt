-- What a fold gives of a bound argument, by its root.
use Rattle.std.proofs.Common.{◌≡◌, sym, ◌∙◌, ap, ℕ, ℤ, List, Option}
use Rattle.bind_arguments.specs.declared.bound_argument.BoundArgument.{BoundArgument, fold-BoundArgument}
use Rattle.bind_arguments.specs.declared.bound_argument.BoundArgument.TheFolds.{fold-roll-BoundArgument}
use Rattle.bind_arguments.specs.declared.bound_argument.BoundArgument.TheOpen.{BoundArgument-F}
use Rattle.bind_arguments.specs.declared.bound_argument.BoundArgument.TheVariants as bound
use Rattle.bind_arguments.specs.declared.bound_argument.BoundArgument.TheVariants.{rolls-Text, rolls-Current, rolls-AtIndex, rolls-AtPlace, rolls-AttributeOf, rolls-RelativeOf}
use Rattle.bind_arguments.specs.declared.relative.Relative.{Relative}

module _ (V : Type 0) (step : BoundArgument-F V → V) where
  abbrev of : BoundArgument → V
  of = fold-BoundArgument V step

  pub of-text : (name : Option (List ℕ)) → of (bound.Text name) ≡ step (BoundArgument-F.Text name)
  of-text name = ap of (sym (rolls-Text name)) ∙ fold-roll-BoundArgument V step (BoundArgument-F.Text name)

  pub of-current : (place dim : ℕ) → of (bound.Current place dim) ≡ step (BoundArgument-F.Current place dim)
  of-current place dim = ap of (sym (rolls-Current place dim)) ∙ fold-roll-BoundArgument V step (BoundArgument-F.Current place dim)

  pub of-index : (dim : ℕ) (n : ℤ) → of (bound.AtIndex dim n) ≡ step (BoundArgument-F.AtIndex dim n)
  of-index dim n = ap of (sym (rolls-AtIndex dim n)) ∙ fold-roll-BoundArgument V step (BoundArgument-F.AtIndex dim n)

  pub of-place : (dim source : ℕ) (inner : BoundArgument) (n : ℤ) → of (bound.AtPlace dim source inner n) ≡ step (BoundArgument-F.AtPlace dim source (of inner) n)
  of-place dim source inner n = ap of (sym (rolls-AtPlace dim source inner n)) ∙ fold-roll-BoundArgument V step (BoundArgument-F.AtPlace dim source inner n)

  pub of-attribute : (dim : ℕ) (inner : BoundArgument) (name : List ℕ) → of (bound.AttributeOf dim inner name) ≡ step (BoundArgument-F.AttributeOf dim (of inner) name)
  of-attribute dim inner name = ap of (sym (rolls-AttributeOf dim inner name)) ∙ fold-roll-BoundArgument V step (BoundArgument-F.AttributeOf dim inner name)

  pub of-relative : (dim : ℕ) (inner : BoundArgument) (relative : Relative) → of (bound.RelativeOf dim inner relative) ≡ step (BoundArgument-F.RelativeOf dim (of inner) relative)
  of-relative dim inner relative = ap of (sym (rolls-RelativeOf dim inner relative)) ∙ fold-roll-BoundArgument V step (BoundArgument-F.RelativeOf dim inner relative)
