-- The arrows between the nodes of a model, and ranks that fit them.
use Rattle.std.specs.Prelude.{◌≡◌, ℕ, ◌+◌, ◌<◌, ◌≤◌, pos, Bool, true, false, Some, All, Contains, ◌⊎◌, ◌↔◌}
use Rattle.std.specs.Prelude.{slice_get, length, if◌then◌else◌}
use Rattle.dim_core.specs.Outline.{Outline, IsElement}
use Rattle.dim_weights.specs.Coefficients.{coef}
use Rattle.cube_space.specs.Layout.{axes}
use Rattle.cube_space.specs.Cells.{is_leaf}
use Rattle.rule_laws.specs.declared.formula.Formula.{Formula}
use Rattle.rule_laws.specs.Meaning.{Precedent, precedents}
use Rattle.rule_laws.specs.RuleSystem.{part_of}
use Rattle.rule_laws.specs.Ordered.{IsCellOf, HasPrecedent, Throughout}
use Rattle.rule_model.specs.declared.rules.Statement.{Statement}
use Rattle.rule_model.specs.BoundModel.{BoundModel, rules_of}
use Rattle.rule_model.specs.Order.{number_at, cell_level}
use Rattle.rule_model.specs.System.{system_of, rule_of}
use Rattle.arrow_laws.specs.Nodes.{Node, NodeRanks, node_of, node_kind, last_of, rank_of}

-- the lag of a cell: its number at the first position
abbrev pub lag : BoundModel → ℕ → ℕ
lag m cell = number_at m 0 cell

-- of a statement of a cube, a kind of cell and what a formula reads: each cell that is read has a smaller lag than its
-- cell, has at most the same lag, or is of a smaller level
abbrev pub IsLagged : BoundModel → ℕ → Statement → Bool → Precedent → Type 0
IsLagged m cube s kind p =
    Throughout (system_of m) (rule_of m.space cube s) kind p (λ cell read. lag m read < lag m cell)

abbrev pub IsLevel : BoundModel → ℕ → Statement → Bool → Precedent → Type 0
IsLevel m cube s kind p =
    Throughout (system_of m) (rule_of m.space cube s) kind p (λ cell read. lag m read ≤ lag m cell)

abbrev pub IsWeak : BoundModel → ℕ → Statement → Bool → Precedent → Type 0
IsWeak m cube s kind p =
    Throughout (system_of m) (rule_of m.space cube s) kind p
    (λ cell read. cell_level m.space read < cell_level m.space cell)

-- from a cell of this kind of the statement's area, of the one node, it reads a cell of the other
pub record IsJoined (m : BoundModel) (cube : ℕ) (s : Statement) (kind : Bool) (p : Precedent)
    (from to : Node) : Type 0 where
  pub cell : ℕ
  pub read : ℕ
  pub is_of : IsCellOf (system_of m) (rule_of m.space cube s) kind cell
  pub has : HasPrecedent (system_of m) p cell read
  pub source : node_of m cell ≡ from
  pub target : node_of m read ≡ to

-- the statement's part for this kind of cell reads it
abbrev pub Reads : BoundModel → ℕ → Statement → Bool → Precedent → Type 0
Reads m cube s kind p =
    (f : Formula) × (part_of (rule_of m.space cube s) kind ≡ Some f) × Contains (precedents f) p

-- an arrow that a formula makes by reading at the same lag: weak where all that is read is of a smaller level
pub record IsReadArrow (m : BoundModel) (from to : Node) (strict : Bool) : Type 0 where
  pub cube : ℕ
  pub within : cube < length m.space.cubes
  pub statement : Statement
  pub stands : Contains (rules_of m cube).statements statement
  pub kind : Bool
  pub precedent : Precedent
  pub reads : Reads m cube statement kind precedent
  pub level : IsLevel m cube statement kind precedent
  pub not_lagged : ¬ IsLagged m cube statement kind precedent
  pub weak : IsWeak m cube statement kind precedent ↔ (strict ≡ false)
  pub joined : IsJoined m cube statement kind precedent from to

-- the weak arrow from an element of a cube's last dimension to a leaf that counts in it: from the node of consolidated
-- cells to that of leaf cells, or, where both are one, from a consolidated element
pub record IsLeafArrow (m : BoundModel) (from to : Node) (strict : Bool) : Type 0 where
  pub within : from.cube < length m.space.cubes
  pub same_cube : to.cube ≡ from.cube
  pub dimension : Outline
  pub last : slice_get (axes m.space from.cube) (last_of m.space from.cube) ≡ Some dimension
  pub source : IsElement dimension from.element
  pub target : IsElement dimension to.element
  pub source_kind : from.kind ≡ node_kind m from.cube false
  pub target_kind : to.kind ≡ true
  pub consolidated : from.kind ≡ true → is_leaf dimension from.element ≡ false
  pub counts : coef dimension from.element to.element ≡ pos 0 → ⊥
  pub weak : strict ≡ false

abbrev pub IsArrow : BoundModel → Node → Node → Bool → Type 0
IsArrow m from to strict = IsReadArrow m from to strict ⊎ IsLeafArrow m from to strict

-- the ranks fall along each strict arrow, and don't rise along a weak one
abbrev pub FitArrows : BoundModel → NodeRanks → Type 0
FitArrows m ranks =
    (from to : Node) (strict : Bool) → IsArrow m from to strict
    → rank_of ranks to + (if strict then 1 else 0) ≤ rank_of ranks from

-- what is read never has a greater lag
abbrev pub IsLevelThroughout : BoundModel → Type 0
IsLevelThroughout m =
    (cube : ℕ) → cube < length m.space.cubes
    → All (λ s. (kind : Bool) (p : Precedent) → Reads m cube s kind p → IsLevel m cube s kind p)
    (rules_of m cube).statements
