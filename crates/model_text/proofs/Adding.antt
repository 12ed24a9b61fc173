-- Tokens of a model text that are added one after another.
use Rattle.std.proofs.Common.{◌≡◌, ◌≤◌, ◌-◌, List, [], ◌∷◌, ◌++◌, length, take, drop, get_or, ap, ◌∙◌, arith}
use Rattle.std.proofs.lemmas.List.{take_all}
use Rattle.std.specs.List.{flat_map}
use Rattle.cube_lex.specs.Written.{Spelling}
pub use Rattle.cube_lex.proofs.WrittenTexts.{adds-none as adds_nothing}

-- the first of a list, and then the rest
pub first_and_rest : {X : Type 0} (f g : X → List Spelling) (spelled : List X → List Spelling) → ((x : X) (rest : List X) → f x ++ flat_map g rest ≡ spelled (x ∷ rest)) → (xs : List X) (d : X) → 1 ≤ length xs
    → f (get_or xs 0 d) ++ flat_map g (take (length xs - 1) (drop 1 xs)) ≡ spelled xs
first_and_rest f g spelled is [] d some = absurd (omega (arith, some))
first_and_rest f g spelled is (x ∷ rest) d some = ap (λ l. f x ++ flat_map g l) (take_all (length (x ∷ rest) - 1) rest (omega arith)) ∙ is x rest
