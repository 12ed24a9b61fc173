-- The first number from some number on that counts, which is one whose value isn't 0.
use Rattle.std.specs.Prelude.{◌≡◌, ◌≢◌, ℕ, ◌<◌, ◌≤◌, ℤ, pos, true, Bool}

-- no number from the one to before the other counts
abbrev pub IsClear : (ℕ → ℤ) → ℕ → ℕ → Type 0
IsClear value from end = (n : ℕ) → from ≤ n → n < end → value n ≡ pos 0

-- a number with its value: the first before this end that counts
pub record IsFirst (value : ℕ → ℤ) (end from : ℕ) (found : ℕ × ℤ) : Type 0 where
  pub least : from ≤ found.0
  pub within : found.0 < end
  pub own : value found.0 ≡ found.1
  pub counts : found.1 ≢ pos 0
  pub clear : IsClear value from found.0

-- a number: the first that passes a test
pub record IsNext (test : ℕ → Bool) (from next : ℕ) : Type 0 where
  pub least : from ≤ next
  pub passes : test next ≡ true
  pub clear : (n : ℕ) → from ≤ n → n < next → test n ≢ true
