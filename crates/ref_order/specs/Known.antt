-- What is remembered from reference to reference of a cube's statements.
use Rattle.std.specs.Prelude.{ℕ, ◌==◌, ◌^◌, Bool, if◌then◌else◌, ℤ, pos, ◌-ℤ◌, Option, None, Some, List, [], All}
use Rattle.cube_space.specs.Layout.{Layout, axes}
use Rattle.rule_laws.specs.declared.reference.Arg.{Arg}
use Rattle.rule_laws.specs.declared.reference.Arg.TheVariants.{Fixed, Moved}
use Rattle.rule_model.specs.declared.area.Area.{Area}
use Rattle.rule_model.specs.BoundModel.{BoundModel}
use Rattle.rule_model.specs.Conditions.{IsPrecedent}
use Rattle.order_laws.specs.Greatest.{only}
use Rattle.order_laws.specs.Scales.{scale_of, is_leaf_element}
use Rattle.order_laws.specs.Earlier.{Kinds, is_same, number_by_kinds, greatest_of_kinds}
use Rattle.ref_order.specs.declared.known.Known.{Known}
use Rattle.ref_order.specs.declared.question.Answer.{Answer}
use Rattle.ref_order.specs.declared.question.Question.{Question}
use Rattle.ref_order.specs.Kinds.{AreByKinds, AreAllWithin}
use Rattle.ref_order.specs.Reads.{precedent_of}

-- the map of an argument that follows a dimension
abbrev pub followed_by : ℕ → Arg → Option (List (Option ℕ))
followed_by dim (Fixed element) = None
followed_by dim (Moved from to) = if dim == from then Some to else None

-- the kinds whose scales are asked for, where what is read is of this kind
abbrev pub kinds_reading : Question → Bool → Kinds
kinds_reading asked its = record { own = asked.own; its = its }

abbrev pub kinds_asked : Question → Kinds
kinds_asked asked = kinds_reading asked asked.its

-- the number of an element where all that is named from it is a leaf (`true`), or isn't
abbrev pub number_asked : BoundModel → ℕ → Question → ℕ → Bool → Option ℤ
number_asked model cube asked =
    number_by_kinds model cube (kinds_asked asked) asked.place (precedent_of asked.read) asked.dim

-- where the components in another dimension are read: the element stays
abbrev pub kept_number : BoundModel → ℕ → Kinds → ℕ → ℕ → ℕ → Bool → Option ℤ
kept_number model cube kinds place i element leaf =
    only (is_same leaf (is_leaf_element (axes model.space cube) i element))
    (Some (pos ((scale_of model cube kinds.its place).worth i element)
    -ℤ pos ((scale_of model cube kinds.own place).worth i element)))

-- the answer to a question, over the cells of an area
abbrev pub answer_of : BoundModel → ℕ → Area → Question → Kinds → Option ℤ
answer_of model cube area asked =
    greatest_of_kinds model cube area (kinds_asked asked) asked.place (precedent_of asked.read) asked.dim

-- an answer is right
pub record IsRight (model : BoundModel) (cube : ℕ) (area : Area) (answer : Answer) : Type 0 where
  pub numbers : AreByKinds answer.numbers (answer_of model cube area answer.asked)
  pub size : AreAllWithin answer.numbers (2 ^ 40)

-- and each is that is kept; they are of what formulas of the cube read
abbrev pub AreRight : BoundModel → ℕ → Area → List Answer → Type 0
AreRight model cube area answers = All (IsRight model cube area) answers

abbrev pub AreReads : Layout → ℕ → List Answer → Type 0
AreReads space cube answers = All (λ answer. IsPrecedent space cube (precedent_of answer.asked.read)) answers

-- all cells of a cube
abbrev pub whole_area : Area
whole_area = record { sets = [] }

-- what is remembered of the statements of a cube, whatever their area
pub record IsKnownOf (model : BoundModel) (cube : ℕ) (known : Known) : Type 0 where
  pub reads : AreReads model.space cube known.whole.answers.items
  pub whole : AreRight model cube whole_area known.whole.answers.items

-- and of those with this area
pub record IsKnown (model : BoundModel) (cube : ℕ) (area : Area) (known : Known) : Type 0 where
  pub of_cube : IsKnownOf model cube known
  pub reads : AreReads model.space cube known.listed.answers.items
  pub listed : AreRight model cube area known.listed.answers.items
