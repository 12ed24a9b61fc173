-- Cells that are added to those that chains of feeds lead to.
use Rattle.std.specs.Prelude.{◌≡◌, ℕ, List, ◌++◌, Contains}

-- the most cells
abbrev pub most_led : ℕ
most_led = 64

-- the cells come after the earlier ones, and others may, too
pub record Adds (Added : ℕ → Type 0) (before after : List ℕ) : Type 0 where
  pub kept : (more : List ℕ) × (after ≡ before ++ more)
  pub each : (c : ℕ) → Added c → Contains after c
