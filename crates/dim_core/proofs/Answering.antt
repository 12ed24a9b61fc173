-- Answers and their causes.
use Rattle.std.proofs.Common.{◌≡◌, ℕ, inr, Option, Some, None, option_map, Result, Ok, Err, IsOkUnless, refl, ap, ◌∙◌, rules}
use Rattle.dim_core.specs.declared.fault.DimFault.{DimFault}
use Rattle.dim_core.specs.declared.fault.DimFault.TheVariants.{BadAttribute, Loop, Memory}
use Rattle.dim_core.specs.Refusal.{first_cause, IsAnsweredBy}

-- an answer of another type, to the same cause
pub answered_ok : {A B : Type 0} (cause : Option DimFault) (x : A) (y : B) → IsAnsweredBy cause (Ok x) → IsAnsweredBy cause (Ok y)
answered_ok None x y h = h
answered_ok (Some fault) x y h = h

pub answered_err : (A B : Type 0) (cause : Option DimFault) (fault : DimFault) → IsAnsweredBy {T = A} cause (Err fault) → IsAnsweredBy {T = B} cause (Err fault)
answered_err A B None fault h = h
answered_err A B (Some cause) fault h = h

-- without a cause the only fault is out of memory
pub unless_memory : {A : Type 0} (r : Result A DimFault) → IsAnsweredBy None r → IsOkUnless r Memory
unless_memory (Ok x) h = search rules
unless_memory (Err fault) h = h

-- out of memory needs no cause
pub answered_memory : (A : Type 0) (cause : Option DimFault) (fault : DimFault) → fault ≡ Memory → IsAnsweredBy {T = A} cause (Err fault)
answered_memory A None fault h = h
answered_memory A (Some cause) fault h = inr h

-- the causes that are left after the first
loop_cause : (loop : Option ℕ) → first_cause None None loop ≡ option_map Loop loop
loop_cause None = refl
loop_cause (Some e) = refl

pub causes_left : (bad loop found : Option ℕ) → bad ≡ None → loop ≡ found → first_cause None bad loop ≡ option_map Loop found
causes_left bad loop found good same = ap (λ b. first_cause None b loop) good ∙ loop_cause loop ∙ ap (option_map Loop) same

pub none_bad : {A : Type 0} (bad : Option ℕ) (x : A) → IsAnsweredBy (option_map BadAttribute bad) (Ok x) → bad ≡ None
none_bad None x h = refl
none_bad (Some at) x h = absurd h

pub answered_bad : (A B : Type 0) (bad loop : Option ℕ) (fault : DimFault) → IsAnsweredBy {T = A} (option_map BadAttribute bad) (Err fault) → IsAnsweredBy {T = B} (first_cause None bad loop) (Err fault)
answered_bad A B None loop fault h = answered_memory B (first_cause None None loop) fault h
answered_bad A B (Some at) loop fault h = h
