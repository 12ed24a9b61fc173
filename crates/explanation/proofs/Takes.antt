-- As many as were taken are what was taken.
use Rattle.std.proofs.Common.{◌≡◌, ℕ, zero, suc, List, [], ◌∷◌, length, take, refl, ap}

pub take-as-long : (n : ℕ) (xs : List ℕ) → take (length (take n xs)) xs ≡ take n xs
take-as-long zero xs = refl
take-as-long (suc n) [] = refl
take-as-long (suc n) (x ∷ xs) = ap (λ rest. x ∷ rest) (take-as-long n xs)
