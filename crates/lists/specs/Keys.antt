-- Keys in the order in which they came.
use Rattle.std.specs.Prelude.{Bool, List, [], ◌∷◌, ◌++◌, if◌then◌else◌}
use Rattle.std.specs.List.{list_any}

-- one key more: it goes last, unless an earlier one equals it
abbrev pub insert_key : {K : Type 0} → (K → K → Bool) → List K → K → List K
insert_key eq keys key = if list_any (eq key) keys then keys else keys ++ key ∷ []
