-- What contracts see of a set of elements.
use Rattle.std.specs.Prelude.{ℕ, Bool, List, [], ◌∷◌, ◌++◌, nat_eq}
use Rattle.std.specs.List.{list_any}

-- the members in the order in which they joined, of elements below `room`
pub record Joined : Type 0 where
  pub room : ℕ
  pub list : List ℕ

-- whether an element is in the list
abbrev pub is_among : List ℕ → ℕ → Bool
is_among list element = list_any (nat_eq element) list

-- the set with one more member, as the last
abbrev pub with_member : Joined → ℕ → Joined
with_member joined element = record joined { list = joined.list ++ element ∷ [] }
