-- Names, as texts are compared with them.
use Rattle.std.specs.Prelude.{ℕ, Bool, not, ◌&&◌, ◌==◌, List, map, filter, position, nat_eq, Option}
use Rattle.std.specs.Char.{is_ascii_control, to_ascii_lowercase}
use Rattle.std.specs.Cmp.Lexicographic.{pointwise}
use Rattle.std.specs.List.{list_all, list_any}
use Rattle.dim_name.specs.Bytes.{space}

-- any byte but a space
abbrev pub is_not_space : ℕ → Bool
is_not_space byte = not (byte == space)

-- a name has no control byte, which is one below 0x20 or 0x7F, and at least one byte that isn't a space
abbrev pub is_name : List ℕ → Bool
is_name text = list_all (λ byte. not (is_ascii_control byte)) text && list_any is_not_space text

-- what names are compared by: spaces are taken out, and A to Z are lowered
abbrev pub key_of : List ℕ → List ℕ
key_of text = map to_ascii_lowercase (filter is_not_space text)

-- two names are the same where their keys agree
abbrev pub is_same_name : List ℕ → List ℕ → Bool
is_same_name a b = pointwise nat_eq (key_of a) (key_of b)

-- whether a name is among these
abbrev pub has_name : List (List ℕ) → List ℕ → Bool
has_name names name = list_any (is_same_name name) names

-- where a name stands among these, of which no two are the same
abbrev pub place_of : List (List ℕ) → List ℕ → Option ℕ
place_of names name = position (is_same_name name) names
