-- Bytes that divide texts.
use Rattle.std.specs.Prelude.{ℕ}

abbrev pub tab : ℕ
tab = 9

-- LF
abbrev pub newline : ℕ
newline = 10

abbrev pub space : ℕ
space = 32
