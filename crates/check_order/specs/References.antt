-- Which references of a model don't stand before the cells of their statement in the declared order.
use Rattle.std.specs.Prelude.{ℕ, suc, ◌+◌, Bool, true, false, not, ◌&&◌, Option, None, option_map}
use Rattle.std.specs.Prelude.{List, [], ◌∷◌, ◌++◌, map, length, slice_get}
use Rattle.std.specs.List.{flat_map, filter_map, range_with_len, position}
use Rattle.std.specs.Option.{option_map_or}
use Rattle.rule_laws.specs.declared.formula.Formula.{Formula}
use Rattle.rule_laws.specs.Meaning.{precedents}
use Rattle.rule_model.specs.declared.area.Area.{Area}
use Rattle.rule_model.specs.declared.rules.Statement.{Statement}
use Rattle.rule_model.specs.declared.rules.Form.{Form}
use Rattle.rule_model.specs.declared.rules.Form.TheVariants.{Both, LeafFirst, ConsFirst}
use Rattle.rule_model.specs.BoundModel.{BoundModel, rules_of}
use Rattle.rule_model.specs.System.{cubes_of}
use Rattle.order_laws.specs.Earlier.{is_earlier}
use Rattle.check_order.specs.declared.fault.OrderFault.{OrderFault}
use Rattle.check_order.specs.declared.fault.OrderFault.TheVariants.{NotEarlier}

-- of each reference of a part, in reading order: whether it stands before the cells of an area of this kind, `true` for
-- leaf cells
abbrev pub part_marks : BoundModel → ℕ → Area → Bool → Option Formula → List Bool
part_marks model cube area kind part = option_map_or (λ f. map (is_earlier model cube area kind) (precedents f)) part []

-- a reference of a formula that is both parts has to stand before the cells of both kinds
abbrev pub both_marks : List Bool → List Bool → List Bool
both_marks [] cons = cons
both_marks (leaf ∷ leaves) [] = leaf ∷ leaves
both_marks (leaf ∷ leaves) (mark ∷ cons) = (leaf && mark) ∷ both_marks leaves cons

-- a formula that is both parts is counted once; else the references of the part that stands first come first
abbrev pub marks_by : Form → List Bool → List Bool → List Bool
marks_by Both leaf cons = both_marks leaf cons
marks_by LeafFirst leaf cons = leaf ++ cons
marks_by ConsFirst leaf cons = cons ++ leaf

-- of each reference of a statement, in the order in which they are counted: whether it stands before the cells
unfoldable pub marks_of : BoundModel → ℕ → Statement → List Bool
marks_of model cube s =
    marks_by s.form (part_marks model cube s.area true s.leaf) (part_marks model cube s.area false s.cons)

-- the number, from 1, of the first reference of a statement that doesn't
abbrev pub first_late : List Bool → Option ℕ
first_late marks = option_map suc (position not marks)

-- the first reference that is late of the statement of a cube at this place, counted from 0
abbrev pub late_in : BoundModel → ℕ → List Statement → ℕ → Option OrderFault
late_in model cube statements n =
    option_map_or (λ s. option_map (NotEarlier cube (n + 1)) (first_late (marks_of model cube s)))
    (slice_get statements n) None

-- of each statement of a cube that has such a reference, the first one
unfoldable pub late_of : BoundModel → ℕ → List OrderFault
late_of model cube =
    filter_map (late_in model cube (rules_of model cube).statements)
    (range_with_len 0 (length (rules_of model cube).statements))

-- and of each statement of the model, cube by cube
unfoldable pub late_references : BoundModel → List OrderFault
late_references model = flat_map (late_of model) (cubes_of model)
