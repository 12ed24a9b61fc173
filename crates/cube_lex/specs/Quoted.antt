-- Quoted texts: between quotes any bytes that may stand there, each quote among them doubled.
use Rattle.std.specs.Prelude.{ℕ, ◌-◌, if◌then◌else◌, List, [], ◌∷◌, ◌++◌, length, take, drop}
use Rattle.std.specs.List.{flat_map}
use Rattle.cube_lex.specs.Bytes.{is_quote}

-- the bytes with each quote doubled
abbrev pub doubled : List ℕ → List ℕ
doubled bytes = flat_map (λ b. if is_quote b then b ∷ b ∷ [] else b ∷ []) bytes

-- the quoted text that means the bytes
abbrev pub quoted : List ℕ → List ℕ
quoted bytes = 39 ∷ doubled bytes ++ 39 ∷ []

-- of each two quotes side by side, from the left, one is kept
abbrev pub undoubled : List ℕ → List ℕ
undoubled [] = []
undoubled (b ∷ []) = b ∷ []
undoubled (b ∷ c ∷ bs) = b ∷ (if is_quote b then undoubled bs else undoubled (c ∷ bs))

-- the bytes that a quoted text means: without the outer quotes, each doubled quote being one
abbrev pub unquoted : List ℕ → List ℕ
unquoted piece = undoubled (take (length piece - 2) (drop 1 piece))
