-- Where characters begin, byte by byte.
use Rattle.std.specs.Prelude.{ℕ, zero, suc, Bool, true}
use Rattle.script_values.specs.Characters.{begins_character}

-- whether a byte begins a character behind so many
abbrev pub begins_behind : ℕ → ℕ → Bool
begins_behind zero byte = true
begins_behind (suc count) byte = begins_character byte
