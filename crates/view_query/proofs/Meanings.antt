-- How meanings follow one another.
use Rattle.std.proofs.Common.{◌≡◌, ◌<◌, ◌≤◌, ℕ, ◌+◌, List, [], ◌∷◌, ◌++◌, length, drop, get_or, Result, Ok, Err, inl, inr, refl, sym, ap, ◌∙◌, append_assoc, append-nil}
use Rattle.std.proofs.lemmas.List.{drop_more, drop_all}
use Rattle.view_query.specs.declared.fault.ViewFault.{ViewFault}
use Rattle.view_query.specs.Meaning.{Meaning, done, ◌>>=◌, each, Answers}

-- what stands later doesn't count
pub stops : {A B : Type 0} (meant : Meaning A) (next : A → Meaning B) (cause : ViewFault) → Answers meant (Err cause) → Answers (meant >>= next) (Err cause)
stops meant next cause (inl memory) = inl memory
stops meant next cause (inr is) = inr (rw is refl)

-- what stands later decides
pub goes_on : {A B : Type 0} (meant : Meaning A) (a : A) (next : A → Meaning B) (answer : Result B ViewFault) → meant ≡ Ok a → Answers (next a) answer → Answers (meant >>= next) answer
goes_on meant a next answer is h = rw is h

-- what is meant, in front of which these stand already
abbrev pub after_front : {B : Type 0} → List B → Meaning (List B) → Meaning (List B)
after_front front meant = meant >>= (λ further. done (front ++ further))

-- one item more
pub one_more : {A B : Type 0} (meaning : A → Meaning B) (xs : List A) (i : ℕ) (x : A) (y : B) (front : List B) → i < length xs → get_or xs i x ≡ x → meaning x ≡ Ok y
    → after_front front (each meaning (drop i xs)) ≡ after_front (front ++ y ∷ []) (each meaning (drop (i + 1) xs))
one_more {B = B} meaning xs i x y front low is own =
    ap (λ l. after_front front (each meaning l)) (drop_more xs i x low ∙ ap (λ a. a ∷ drop (i + 1) xs) is)
    ∙ ap (λ m. after_front front (m >>= (λ first. each meaning (drop (i + 1) xs) >>= (λ further. done (first ∷ further))))) own
    ∙ by (each meaning (drop (i + 1) xs))
  where
    by : (rest : Meaning (List B)) → after_front front (rest >>= (λ further. done (y ∷ further))) ≡ after_front (front ++ y ∷ []) rest
    by (Ok further) = ap Ok (sym (append_assoc front (y ∷ []) further))
    by (Err cause) = refl

-- an item that means nothing
pub one_stops : {A B : Type 0} (meaning : A → Meaning B) (xs : List A) (i : ℕ) (x : A) (front : List B) (cause : ViewFault) → i < length xs → get_or xs i x ≡ x
    → Answers (meaning x) (Err cause) → Answers (after_front front (each meaning (drop i xs))) (Err cause)
one_stops meaning xs i x front cause low is (inl memory) = inl memory
one_stops meaning xs i x front cause low is (inr own) =
    inr (ap (λ l. after_front front (each meaning l)) (drop_more xs i x low ∙ ap (λ a. a ∷ drop (i + 1) xs) is)
    ∙ ap (λ m. after_front front (m >>= (λ first. each meaning (drop (i + 1) xs) >>= (λ further. done (first ∷ further))))) own)

-- none is left
pub all_done : {A B : Type 0} (meaning : A → Meaning B) (xs : List A) (i : ℕ) (front : List B) → length xs ≤ i → after_front front (each meaning (drop i xs)) ≡ Ok front
all_done meaning xs i front past = ap (λ l. after_front front (each meaning l)) (drop_all i xs past) ∙ ap Ok (append-nil front)

-- at the start
pub from_start : {A B : Type 0} (meaning : A → Meaning B) (xs : List A) → each meaning xs ≡ after_front [] (each meaning xs)
from_start {B = B} meaning xs = by (each meaning xs)
  where
    by : (m : Meaning (List B)) → m ≡ after_front [] m
    by (Ok l) = refl
    by (Err e) = refl
