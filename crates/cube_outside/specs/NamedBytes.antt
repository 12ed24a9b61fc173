use Rattle.std.specs.Prelude.{ℕ, List, Option, Vec, find}
use Rattle.std.specs.Option.{option_map}
use Rattle.std.specs.Str.{bytes_eq}
use Rattle.std.specs.declared.alloc.Global.{Global}

-- the bytes of the first pair with this name
abbrev pub bytes_named : List (Vec ℕ Global × Vec ℕ Global) → List ℕ → Option (List ℕ)
bytes_named pairs name = option_map (λ pair. pair.1.items) (find (λ pair. bytes_eq pair.0.items name) pairs)
