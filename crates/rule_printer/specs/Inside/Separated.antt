-- Items of a list, one after another.
use Rattle.std.specs.Prelude.{ℕ, ◌==◌, List, [], ◌∷◌, codes, if◌then◌else◌}
use Rattle.cube_lex.specs.Written.{Spelling, sign_token}

-- before the item at an index
abbrev pub separator : ℕ → List Spelling
separator index = if index == 0 then [] else sign_token (codes ",") ∷ []
