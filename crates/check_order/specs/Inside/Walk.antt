-- The walk over what a statement reads: how much it has seen, and the first of it that doesn't stand before.
use Rattle.std.specs.Prelude.{ℕ, suc, ◌+◌, ◌<◌, ◌^◌, min, Bool, true, false, Option, Some, None}
use Rattle.std.specs.Prelude.{List, length, All, fold}
use Rattle.cube_space.specs.Layout.{Layout}
use Rattle.rule_laws.specs.Meaning.{Precedent}
use Rattle.rule_model.specs.Conditions.{IsPrecedent}
use Rattle.std.specs.List.{flat_map, filter_map, range_with_len}
use Rattle.rule_model.specs.declared.rules.Statement.{Statement}
use Rattle.rule_model.specs.BoundModel.{BoundModel}
use Rattle.check_order.specs.References.{late_in, late_of}
use Rattle.check_order.specs.declared.fault.OrderFault.{OrderFault}
use Rattle.check_order.specs.declared.walk.Seen.{Seen}

-- one more reference is seen, which stands before or doesn't
abbrev pub late_next : Option ℕ → ℕ → Bool → Option ℕ
late_next (Some late) number mark = Some late
late_next None number true = None
late_next None number false = Some number

abbrev pub seen_next : Seen → Bool → Seen
seen_next seen mark = record { count = suc seen.count; late = late_next seen.late (suc seen.count) mark }

abbrev pub seen_after : Seen → List Bool → Seen
seen_after = fold seen_next

abbrev pub none_seen : Seen
none_seen = record { count = 0; late = None }

-- the first of two numbers, where both are there
abbrev pub earliest : Option ℕ → Option ℕ → Option ℕ
earliest None second = second
earliest (Some first) None = Some first
earliest (Some first) (Some second) = Some (min first second)

-- what a formula of a cube reads, of which a count has room after so many
pub record AreReads (space : Layout) (cube before : ℕ) (ps : List Precedent) : Type 0 where
  pub each : All (IsPrecedent space cube) ps
  pub few : before + length ps < 2 ^ 32

-- what the statements of a cube, or the cubes, from a place on have late: of each statement the first reference
abbrev pub late_statements : BoundModel → ℕ → List Statement → ℕ → ℕ → List OrderFault
late_statements model cube statements from count =
    filter_map (late_in model cube statements) (range_with_len from count)

abbrev pub late_cubes : BoundModel → ℕ → ℕ → List OrderFault
late_cubes model from count = flat_map (late_of model) (range_with_len from count)
