use Rattle.std.specs.Prelude.{ℕ, List, Option, find, ◌==◌}
use Rattle.std.specs.Option.{option_map}

-- how many bytes of its piece a call keeps that was given to fail, and none for any other call. The first naming holds
abbrev pub kept_at : List (ℕ × ℕ) → ℕ → Option ℕ
kept_at failing call = option_map (λ entry. entry.1) (find (λ entry. entry.0 == call) failing)
