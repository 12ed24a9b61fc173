-- A total over leaf cells that are asked for.
use Rattle.std.specs.Prelude.{◌≡◌, ℕ, ℤ, List, ◌∷◌, ◌++◌, map, Result, Ok, Err, fold}
use Rattle.cube_fixed.specs.declared.value.Value.{Value}
use Rattle.cube_fixed.specs.Total.{Total, no_terms, with_term, value_of}

-- a leaf cell with its weight, and the value that was answered for it
abbrev pub Answered : Type 0
Answered = (ℕ × ℤ) × Value

-- what is known of the calls after each of these cells was asked for, once and in this order
abbrev pub after_calls
    : {Calls Fault : Type 0} → (Calls → ℕ → Result Value Fault → Calls) → Calls → List Answered → Calls
after_calls after_call before answered = fold (λ calls one. after_call calls one.0.0 (Ok one.1)) before answered

-- the exact sum of the answers, each times its cell's weight
abbrev pub total_of : List Answered → Total
total_of answered = fold (λ total one. with_term total one.0.1 one.1) no_terms answered

-- each of these leaf cells was asked for, once and in their order, and the value is the exact weighted sum of the
-- answers, tested once at its end
pub record IsTotal {Calls Fault : Type 0} (after_call : Calls → ℕ → Result Value Fault → Calls)
    (cells : List (ℕ × ℤ)) (before after : Calls) (value : Value) : Type 0 where
  pub answered : List Answered
  pub all : map (λ one. one.0) answered ≡ cells
  pub asked : after ≡ after_calls after_call before answered
  pub sum : value ≡ value_of (total_of answered)

-- the first of these leaf cells were asked for, once and in their order; the call for the next one had this fault, and
-- was the last
pub record IsStopped {Calls Fault : Type 0} (after_call : Calls → ℕ → Result Value Fault → Calls)
    (cells : List (ℕ × ℤ)) (before after : Calls) (fault : Fault) : Type 0 where
  pub answered : List Answered
  pub failed : ℕ × ℤ
  pub rest : List (ℕ × ℤ)
  pub front : map (λ one. one.0) answered ++ (failed ∷ rest) ≡ cells
  pub asked : after ≡ after_call (after_calls after_call before answered) failed.0 (Err fault)
