-- The first refusal is the answer.
use Rattle.std.proofs.Common.{◌≡◌, inr, ℕ, ◌+◌, ◌<◌, ◌≤◌, Option, Some, None, Result, Ok, Err, List, length, get_or, drop, refl, ap, sym, ◌∙◌, subst, IsErrAnd}
use Rattle.std.specs.Option.{option_or}
use Rattle.std.proofs.lemmas.List.{drop_more, drop_all}
use Rattle.model_bind.specs.declared.fault.DeployFault.{DeployFault}
use Rattle.model_bind.specs.Foundation.{first_refusal, memory, IsAnsweredBy}
pub use Rattle.model_text.proofs.Again.{zip_last as zip-push}

-- an Ok has no cause
pub unrefused : {T : Type 0} (cause : Option DeployFault) (x : T) → IsAnsweredBy cause (Ok x) → cause ≡ None
unrefused None x h = refl
unrefused (Some cause) x h = absurd h

-- want of memory answers anything
pub wanting : (T : Type 0) (cause : Option DeployFault) → IsAnsweredBy {T = T} cause (Err memory)
wanting T None = refl
wanting T (Some cause) = inr refl

pub wanting-as : (T : Type 0) (cause : Option DeployFault) (answer : Result T DeployFault) → IsErrAnd answer (λ e. e ≡ memory) → IsAnsweredBy {T = T} cause answer
wanting-as T cause (Ok x) is = absurd is
wanting-as T cause (Err e) is =
    let P : DeployFault → Type 0 = λ f. IsAnsweredBy {T = T} cause (Err f) in
    subst P (sym is) (wanting T cause)

-- a refusal goes before what would be refused later
pub refused-first : (A B : Type 0) (cause rest : Option DeployFault) (fault : DeployFault) → IsAnsweredBy {T = A} cause (Err fault) → IsAnsweredBy {T = B} (option_or cause rest) (Err fault)
refused-first A B (Some cause) rest fault h = h
refused-first A B None rest fault h =
    let P : DeployFault → Type 0 = λ f. IsAnsweredBy {T = B} rest (Err f) in
    subst P (sym h) (wanting B rest)

pub refused-as : (A B : Type 0) (cause rest : Option DeployFault) (fault : DeployFault) (answer : Result B DeployFault) → IsErrAnd answer (λ e. e ≡ fault) → IsAnsweredBy {T = A} cause (Err fault)
    → IsAnsweredBy {T = B} (option_or cause rest) answer
refused-as A B cause rest fault (Ok x) is h = absurd is
refused-as A B cause rest fault (Err e) is h =
    let P : DeployFault → Type 0 = λ f. IsAnsweredBy {T = B} (option_or cause rest) (Err f) in
    subst P (sym is) (refused-first A B cause rest fault h)

-- the first refusal from a place on
pub first-at : {A : Type 0} (refusal : A → Option DeployFault) (xs : List A) (i : ℕ) (x : A) → i < length xs → x ≡ get_or xs i x
    → first_refusal refusal (drop i xs) ≡ option_or (refusal x) (first_refusal refusal (drop (i + 1) xs))
first-at refusal xs i x h is =
    let rest = first_refusal refusal (drop (i + 1) xs) in
    ap (first_refusal refusal) (drop_more xs i x h) ∙ ap (λ y. option_or (refusal y) rest) (sym is)

-- where that place has none, it is the one from the next on
pub first-after : {A : Type 0} (refusal : A → Option DeployFault) (xs : List A) (i : ℕ) (x : A) → i < length xs → x ≡ get_or xs i x → refusal x ≡ None
    → first_refusal refusal (drop i xs) ≡ first_refusal refusal (drop (i + 1) xs)
first-after refusal xs i x h is none =
    let rest = first_refusal refusal (drop (i + 1) xs) in
    first-at refusal xs i x h is ∙ ap (λ o. option_or o rest) none

pub first-none : {A : Type 0} (refusal : A → Option DeployFault) (xs : List A) (i : ℕ) → length xs ≤ i → first_refusal refusal (drop i xs) ≡ None
first-none refusal xs i h = ap (first_refusal refusal) (drop_all i xs h)
