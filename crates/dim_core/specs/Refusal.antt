-- Why a definition, or a whole dimension, is refused.
use Rattle.std.specs.Prelude.{◌≡◌, ◌⊎◌, ⊤, ℕ, ℤ, List, Option, Some, None, Result, Ok, Err, not, length, if◌then◌else◌}
use Rattle.dim_core.specs.declared.fault.DimFault.{DimFault}
use Rattle.dim_core.specs.declared.fault.DimFault.TheVariants.{Duplicate, UnknownComponent, BadAttribute, Loop}
use Rattle.dim_core.specs.declared.fault.DimFault.TheVariants.{WeightRange, TooMany, Memory}
use Rattle.dim_core.specs.Draft.{Draft, is_defined, has_weights, is_too_many, first_unknown, first_bad_attribute}
use Rattle.dim_core.specs.Draft.{first_loop}

-- the first cause, in this order: the name is there, a weight is out of range, a limit would be passed
abbrev pub refusal_of : Draft → List ℕ → List (List ℕ × ℤ) → Option DimFault
refusal_of draft name components =
    if is_defined draft name then Some Duplicate
    else if not (has_weights components) then Some WeightRange
    else if is_too_many draft.elements (length components) then Some TooMany
    else None

-- the first of these causes
abbrev pub first_cause : Option ℕ → Option ℕ → Option ℕ → Option DimFault
first_cause (Some element) bad loop = Some (UnknownComponent element)
first_cause None (Some at) loop = Some (BadAttribute at)
first_cause None None (Some element) = Some (Loop element)
first_cause None None None = None

-- why a draft is no dimension, the first cause in this order: a component isn't defined, an attribute is of no element
-- or repeated, elements lie on a loop
abbrev pub finish_refusal_of : Draft → Option DimFault
finish_refusal_of draft = first_cause (first_unknown draft) (first_bad_attribute draft) (first_loop draft)

-- an answer has this cause: it is Ok where there is none, and else the cause; an answer may always be out of memory
abbrev pub IsAnsweredBy : {T : Type 0} → Option DimFault → Result T DimFault → Type 0
IsAnsweredBy None (Ok value) = ⊤
IsAnsweredBy (Some cause) (Ok value) = ⊥
IsAnsweredBy None (Err fault) = fault ≡ Memory
IsAnsweredBy (Some cause) (Err fault) = (fault ≡ cause) ⊎ (fault ≡ Memory)
