use Rattle.std.proofs.Common.{◌≡◌, ℕ, ◌<◌, false, List, [], ◌∷◌, length, get_or, nat_eq, sym, arith}
use Rattle.std.proofs.lemmas.Bool.{ne_eqb}
use Rattle.std.specs.List.{starts_with}

-- they don't begin with what has another first byte
starts-other : (bytes sign : List ℕ) → 0 < length bytes → 0 < length sign → (get_or bytes 0 0 ≡ get_or sign 0 0 → ⊥) → false ≡ starts_with nat_eq bytes sign
starts-other [] sign some own other = absurd (omega (arith, some))
starts-other (b ∷ bs) [] some own other = absurd (omega (arith, own))
starts-other (b ∷ bs) (s ∷ ss) some own other = let apart = ne_eqb s b (λ same. other (sym same)) in sym (rw apart)
