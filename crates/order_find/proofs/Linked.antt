-- The links of steps, one after another.
use Rattle.std.proofs.Common.{◌≡◌, refl, sym, ap, ◌∙◌, arith, ℕ, zero, suc, ◌+◌, ◌<◌, ◌≤◌, Option, List, [], ◌∷◌, ◌++◌, length, drop, drop-cons}
use Rattle.std.specs.Prelude.{slice_get, slice_index_or}
use Rattle.std.proofs.lemmas.List.{append-nil, append_assoc}
use Rattle.least_ranks.specs.declared.arrow.Step.{Step}
use Rattle.order_find.specs.declared.link.Link.{Link}
use Rattle.order_find.specs.Slots.{Plan}
use Rattle.order_find.specs.Links.{links_at, links_of}

get-drop : {X : Type 0} (xs : List X) (n : ℕ) → slice_get (drop n xs) 0 ≡ slice_get xs n
get-drop [] zero = refl
get-drop [] (suc n) = refl
get-drop (x ∷ xs) zero = refl
get-drop (x ∷ xs) (suc n) = get-drop xs n

drop-past : {X : Type 0} (xs : List X) (n : ℕ) → length xs ≤ n → drop n xs ≡ []
drop-past [] zero low = refl
drop-past [] (suc n) low = refl
drop-past (x ∷ xs) zero low = absurd (omega (arith, low))
drop-past (x ∷ xs) (suc n) low = drop-past xs n (omega (arith, low))

pub links-more : (p : Plan) (steps : List Step) (k : ℕ) (step : Step) (old new : List Link) (next : Option Step) → k < length steps → step ≡ slice_index_or steps k step → next ≡ slice_get steps (k + 1)
    → new ≡ old ++ links_at p step next → old ++ links_of p (drop k steps) ≡ links_of p steps → new ++ links_of p (drop (k + 1) steps) ≡ links_of p steps
links-more p steps k step old new next low here there more so =
    let one : k + 1 ≡ suc k = omega arith in
    let cut : drop k steps ≡ step ∷ drop (suc k) steps = drop-cons steps k step low ∙ ap (λ s. s ∷ drop (suc k) steps) (sym here) in
    let late : slice_get (drop (suc k) steps) 0 ≡ next = get-drop steps (suc k) ∙ ap (slice_get steps) (sym one) ∙ sym there in
    let all : links_of p (drop k steps) ≡ links_at p step next ++ links_of p (drop (k + 1) steps) =
    ap (links_of p) cut ∙ ap (λ n. links_at p step n ++ links_of p (drop (suc k) steps)) late ∙ ap (λ n. links_at p step next ++ links_of p (drop n steps)) (sym one) in
    ap (λ ls. ls ++ links_of p (drop (k + 1) steps)) more ∙ append_assoc old (links_at p step next) (links_of p (drop (k + 1) steps)) ∙ ap (λ ls. old ++ ls) (sym all) ∙ so

pub links-done : (p : Plan) (steps : List Step) (k : ℕ) (links : List Link) → length steps ≤ k → links ++ links_of p (drop k steps) ≡ links_of p steps → links ≡ links_of p steps
links-done p steps k links past so = sym (append-nil links) ∙ ap (λ xs. links ++ links_of p xs) (sym (drop-past steps k past)) ∙ so
