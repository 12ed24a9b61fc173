-- The columns of a record, taken one by one.
use Rattle.std.proofs.Common.{◌≡◌, ℕ, zero, suc, ◌+◌, List, [], ◌∷◌, ◌++◌, take, Some, None, refl, ap, sym, ◌∙◌, append_assoc, arith}
use Rattle.csv.specs.Records.{field_at}

take_more : (fields : List (List ℕ)) (at : ℕ) (field : List ℕ) → field_at fields at ≡ Some field
    → take (suc at) fields ≡ take at fields ++ field ∷ []
unfolding field_at
take_more [] at field is = cc is
take_more (x ∷ xs) zero field is = cc is
take_more (x ∷ xs) (suc at) field is = ap (λ (t : List (List ℕ)). x ∷ t) (take_more xs at field is)

take_next : (fields : List (List ℕ)) (at : ℕ) (field : List ℕ) → field_at fields at ≡ Some field
    → take (at + 1) fields ≡ take at fields ++ field ∷ []
take_next fields at field is =
    let next : at + 1 ≡ suc at = omega arith in
    rw next (take_more fields at field is)

pub add_next : (old fields : List (List ℕ)) (at : ℕ) (field : List ℕ) → field_at fields at ≡ Some field
    → (old ++ take at fields) ++ field ∷ [] ≡ old ++ take (at + 1) fields
add_next old fields at field is =
    append_assoc old (take at fields) (field ∷ []) ∙ ap (λ (t : List (List ℕ)). old ++ t) (sym (take_next fields at field is))

pub take_whole : (fields : List (List ℕ)) (at : ℕ) → field_at fields at ≡ None → take at fields ≡ fields
unfolding field_at
take_whole [] zero is = refl
take_whole [] (suc at) is = refl
take_whole (x ∷ xs) zero is = cc is
take_whole (x ∷ xs) (suc at) is = ap (λ (t : List (List ℕ)). x ∷ t) (take_whole xs at is)
