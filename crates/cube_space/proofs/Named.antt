-- The first item of a name.
use Rattle.std.proofs.Common.{◌≡◌, ℕ, Bool, List, [], ◌∷◌, map, refl, ap, position, cond, not, ◌+◌}
use Rattle.std.specs.List.{position_or_len}
use Rattle.std.proofs.lemmas.List.{length-map}
use Rattle.dim_name.specs.Name.{is_same_name, place_of}

position_or_len-map : {X Y : Type 0} (f : X → Y) (p : Y → Bool) (xs : List X) → position_or_len p (map f xs) ≡ position_or_len (λ x. p (f x)) xs
position_or_len-map f p [] = refl
position_or_len-map f p (x ∷ xs) = ap (λ n. cond (not (p (f x))) (1 + n) 0) (position_or_len-map f p xs)

-- where the name stands among the items' names is where the first item of the name stands
pub place-of_named : {X : Type 0} (name_of : X → List ℕ) (items : List X) (name : List ℕ) → position (λ x. is_same_name name (name_of x)) items ≡ place_of (map name_of items) name
place-of_named name_of items name = rw (position_or_len-map name_of (is_same_name name) items, length-map items name_of) refl
