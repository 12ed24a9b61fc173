-- Where a statement is run, and how far its load has come.
use Rattle.std.specs.Prelude.{ℕ, List, Option}
use Rattle.script_tree.specs.declared.script.Section.{Section}
use Rattle.script_values.specs.declared.kept.Kept.{Kept}
use Rattle.script_run.specs.declared.execution_place.ExecutionPlace.{ExecutionPlace}
use Rattle.script_run.specs.declared.reject.Reject.{Reject}

-- the section, the row of the record from 1, or 0 outside of Data, the columns of the record, and the byte between
-- units and decimals of numbers in columns
pub record Setting : Type 0 where
  pub section : Section
  pub row : ℕ
  pub columns : List (List ℕ)
  pub decimal : ℕ

-- the variables by their numbers, how many executions are left, where the last one stands, and the records that were
-- passed over
pub record Progress : Type 0 where
  pub variables : List (Option Kept)
  pub left : ℕ
  pub last : ExecutionPlace
  pub rejects : List Reject
