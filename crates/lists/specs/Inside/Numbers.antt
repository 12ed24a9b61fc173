-- What the fields keep: the map finds the place of each key in the list.
use Rattle.std.specs.Prelude.{◌≡◌, ℕ, Bool, List, position}
use Rattle.std.specs.List.{IsDistinct}
use Rattle.std.specs.HashMap.{HashMap, get}

pub record AreNumbers {K S : Type 0} (eq : K → K → Bool) (keys : List K) (numbers : HashMap K ℕ S) : Type 0 where
  pub distinct : IsDistinct eq keys
  pub found : (k : K) → get eq numbers k ≡ position (eq k) keys
