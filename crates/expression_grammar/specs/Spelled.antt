-- How expressions are written with the fewest parentheses.
use Rattle.std.specs.Prelude.{ℕ, nat_lt, List, [], ◌∷◌, ◌++◌, codes, if◌then◌else◌}
use Rattle.cube_lex.specs.Written.{Spelling, sign_token}

abbrev pub in_parentheses : List Spelling → List Spelling
in_parentheses tokens = sign_token (codes "(") ∷ (tokens ++ sign_token (codes ")") ∷ [])

-- The root of a tree binds so tightly among trees of its sort:
-- 0: `+` and what stands beside it; of truths `%`
-- 1: `*` and what stands beside it; of truths `&`
-- 2: `-` before a value; `~` before a truth
-- 3: primaries; of truths comparisons
-- the tokens of a tree that binds so tightly, at a place where a tree must bind at least as tightly as level
abbrev pub placed : ℕ → ℕ → List Spelling → List Spelling
placed level rank tokens = if nat_lt rank level then in_parentheses tokens else tokens
