-- Tables of pairs.
use Rattle.std.proofs.Common.{◌≡◌, ℕ, zero, suc, ◌<◌, ◌≤◌, max, ℤ, List, [], ◌∷◌, ◌++◌, length, take, get_or, unsigned_abs, All, ap, ◌+◌, ◌∙◌, arith}
use Rattle.std.proofs.lemmas.List.{take_more}
use Rattle.dim_weights.specs.Table.{leaves_in, greatest_in, greatest_of}
use Rattle.dim_weights.proofs.Pairs.{greatest_in-at}

pub greatest_of-push : (rows : List (List (ℕ × ℤ))) (row : List (ℕ × ℤ)) → greatest_of (rows ++ row ∷ []) ≡ max (greatest_of rows) (greatest_in row)
greatest_of-push [] row = omega arith
greatest_of-push (r ∷ rows) row = let rest = greatest_of-push rows row in omega arith

pub greatest_of-at : (rows : List (List (ℕ × ℤ))) (element : ℕ) → greatest_in (leaves_in rows element) ≤ greatest_of rows
greatest_of-at [] zero = omega arith
greatest_of-at [] (suc element) = omega arith
greatest_of-at (r ∷ rows) zero = omega arith
greatest_of-at (r ∷ rows) (suc element) = let rest = greatest_of-at rows element in omega arith

pub greatest_of-le : (m : ℕ) (rows : List (List (ℕ × ℤ))) → ((element : ℕ) → greatest_in (leaves_in rows element) ≤ m) → greatest_of rows ≤ m
greatest_of-le m [] small = omega arith
greatest_of-le m (r ∷ rows) small =
    let here : greatest_in r ≤ m = small 0 in
    let rest = greatest_of-le m rows (λ e. small (suc e)) in
    omega arith

pub pair-size : (rows : List (List (ℕ × ℤ))) (element : ℕ) → All (λ pair. unsigned_abs pair.1 ≤ greatest_of rows) (leaves_in rows element)
pair-size rows element k d within =
    let here = greatest_in-at (leaves_in rows element) k d within in
    let all = greatest_of-at rows element in
    omega arith

pub greatest_of-more : (rows : List (List (ℕ × ℤ))) (i : ℕ) (d : List (ℕ × ℤ)) → i < length rows → greatest_of (take (i + 1) rows) ≡ max (greatest_of (take i rows)) (greatest_in (get_or rows i d))
greatest_of-more rows i d within = ap greatest_of (take_more rows i d within) ∙ greatest_of-push (take i rows) (get_or rows i d)
