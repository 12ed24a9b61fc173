-- Why a model's declared order is refused.
use Rattle.std.specs.Prelude.{◌≡◌, Some, None}
use Rattle.rule_model.specs.BoundModel.{BoundModel}
use Rattle.check_order.specs.declared.fault.OrderFault.{OrderFault}
use Rattle.check_order.specs.declared.fault.OrderFault.TheVariants.{TooHigh, NotEarlier}
use Rattle.check_order.specs.FirstLate.{IsFirstLate}
use Rattle.check_order.specs.Heights.{first_too_high}

-- it is too high, or it isn't, and this is the first reference that isn't earlier
abbrev pub IsOrderFault : BoundModel → OrderFault → Type 0
IsOrderFault model (TooHigh height) = first_too_high model ≡ Some height
IsOrderFault model (NotEarlier cube statement reference) =
    (first_too_high model ≡ None) × IsFirstLate model cube statement reference
