-- Lists of parents, as they grow by one parent at a time.
use Rattle.std.specs.Prelude.{ℕ, Bool, true, false, List, [], ◌∷◌, ◌++◌, Vec, map, get_or}
use Rattle.std.specs.declared.alloc.Global.{Global}

-- the parents of an element so far
abbrev pub kin_at : List (Vec ℕ Global) → ℕ → List ℕ
kin_at lists element = get_or (map (λ (list : Vec ℕ Global). list.items) lists) element []

-- these and one more, where it is one
abbrev pub with_parent : List ℕ → ℕ → Bool → List ℕ
with_parent parents parent true = parents ++ parent ∷ []
with_parent parents parent false = parents
