-- What the evaluation of a cell is answered.
use Rattle.std.specs.Prelude.{◌≡◌, ℕ, ◌==◌, nat_lt, Bool, true, false, ◌&&◌, None, length, All}
use Rattle.std.specs.Ordering.{int_eq}
use Rattle.cell_versions.specs.Versions.{NumberedVersion}
use Rattle.cube_fixed.specs.declared.value.Value.{Value}
use Rattle.cube_fixed.specs.declared.value.Value.TheVariants.{Num, Over}
use Rattle.cube_space.specs.Cells.{size_of}
use Rattle.rule_evaluate.specs.declared.ask.Ask.{Ask}
use Rattle.rule_evaluate.specs.declared.ask.Ask.TheVariants.{Value as of_value, Base as of_base}
use Rattle.rule_evaluate.specs.declared.ask.Ask.TheVariants.{Children as of_children}
use Rattle.rule_evaluate.specs.Known.{Known, listed}
use Rattle.rule_model.specs.Targets.{parts_at}
use Rattle.cell_values.specs.Reading.{value_on}
use Rattle.cell_values.specs.declared.missing.Missing.{Missing}
use Rattle.cell_values.specs.Inside.Questions.{depth_on, is_grounded, LeadsTo}

-- the evaluation of a cell, with the answers that are listed for it
pub record ListedAnswers : Type 0 where
  pub version : NumberedVersion
  pub known : Known
  pub cell : ℕ

-- and the values that are remembered
pub record AnswerTerms : Type 0 where
  pub listed : ListedAnswers
  pub values : ℕ → Value

-- whether two values are the same
abbrev pub is_same_value : Value → Value → Bool
is_same_value (Num a) (Num b) = int_eq a b
is_same_value (Num a) Over = false
is_same_value Over (Num b) = false
is_same_value Over Over = true

-- what is asked: less deep cells, of which the right values are remembered, what the cell would have, and sums over
-- components that lie less deep
abbrev pub may_ask : AnswerTerms → Ask → Bool
may_ask terms (of_value cell) =
    nat_lt cell (size_of terms.listed.version.model.space)
    && (nat_lt (depth_on terms.listed.version cell) (depth_on terms.listed.version terms.listed.cell)
    && is_same_value (terms.values cell) (value_on terms.listed.version cell))
may_ask terms (of_base cell) = nat_lt cell (size_of terms.listed.version.model.space) && (cell == terms.listed.cell)
may_ask terms (of_children cell dim) =
    (nat_lt cell (size_of terms.listed.version.model.space) && (cell == terms.listed.cell))
    && (nat_lt 0 (length (parts_at terms.listed.version.model.space cell dim))
    && is_grounded terms.listed.version cell dim)

-- a question that the evaluation leads to, and that isn't answered yet
pub record IsMissing (at : ListedAnswers) (question : Ask) : Type 0 where
  pub leads : LeadsTo at.version at.cell question
  pub unlisted : listed at.known question ≡ None

-- questions that the evaluation leads to, of which the first isn't answered yet
pub record AreMissing (at : ListedAnswers) (missing : Missing) : Type 0 where
  pub first : IsMissing at missing.first
  pub more : All (LeadsTo at.version at.cell) missing.more.items
