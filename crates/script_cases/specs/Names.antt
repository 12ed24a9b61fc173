-- Names with a comma between them.
use Rattle.std.specs.Prelude.{ℕ, List, [], ◌∷◌, ◌++◌}

abbrev pub joined : List ℕ → List (List ℕ) → List ℕ
joined names [] = names
joined names (name ∷ others) = joined ((names ++ 44 ∷ []) ++ name) others
