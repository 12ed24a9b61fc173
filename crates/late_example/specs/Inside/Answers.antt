-- The answer for cells of one kind, as it is put together.
use Rattle.std.specs.Prelude.{◌≡◌, ℕ, Bool, option_and_then, Option, Some, None}
use Rattle.cube_space.specs.Cells.{cube_of}
use Rattle.rule_laws.specs.Meaning.{Precedent}
use Rattle.rule_model.specs.declared.rules.Statement.{Statement}
use Rattle.rule_model.specs.BoundModel.{BoundModel}
use Rattle.rule_model.specs.System.{rule_of}
use Rattle.ref_order.specs.Counted.{counted_of}
use Rattle.ref_order.specs.Reads.{precedent_of}
use Rattle.check_order.specs.FirstLate.{IsEarlierFor}
use Rattle.late_example.specs.declared.example.LateExample.{LateExample}
use Rattle.late_example.specs.declared.search.Sought.{Sought}
use Rattle.late_example.specs.Example.{at_number, read_for, rank_at, IsExample}
use Rattle.late_example.specs.Inside.Shown.{IsFound}

-- of what is read for cells of a kind: no example where it is earlier
abbrev pub IsAnswerOf : BoundModel → ℕ → Statement → Bool → Precedent → Option LateExample → Type 0
IsAnswerOf model cube s kind p None = IsEarlierFor model cube s kind p
IsAnswerOf model cube s kind p (Some e) =
    (¬ IsEarlierFor model cube s kind p) × IsExample model (rule_of model.space cube s) kind p e

-- what the reference of this number reads for cells of a kind
abbrev pub read_at : Statement → ℕ → Bool → Option Precedent
read_at s reference kind = option_and_then (λ it. read_for it kind) (at_number (counted_of s) reference)

-- of a reference by its number, for cells of a kind
abbrev pub IsAnswerFor : BoundModel → ℕ → Statement → ℕ → Bool → Option LateExample → Type 0
IsAnswerFor model cube s reference kind None =
    (p : Precedent) → read_at s reference kind ≡ Some p → IsEarlierFor model cube s kind p
IsAnswerFor model cube s reference kind (Some e) =
    (p : Precedent) × (read_at s reference kind ≡ Some p) × IsAnswerOf model cube s kind p (Some e)

-- a cell as an example: what it reads, and the ranks of both
pub record IsShownBy (model : BoundModel) (cell : ℕ) (sought : Sought) (e : LateExample) : Type 0 where
  pub from : e.from ≡ cell
  pub position : e.position ≡ sought.position
  pub found : IsFound model cell sought.position (precedent_of sought.read) (Some e.to)
  pub from_rank : e.from_rank ≡ rank_at model sought.position cell
  pub to_rank : e.to_rank ≡ rank_at model sought.position e.to
  pub to_cube : e.to_cube ≡ cube_of model.space e.to

abbrev pub IsShown : BoundModel → ℕ → Sought → Option LateExample → Type 0
IsShown model cell sought None = IsFound model cell sought.position (precedent_of sought.read) None
IsShown model cell sought (Some e) = IsShownBy model cell sought e
