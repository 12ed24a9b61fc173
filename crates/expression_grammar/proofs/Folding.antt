-- Loops that read operations, and join each to the tree so far.
use Rattle.std.proofs.Common.{◌≡◌, ℕ, ◌+◌, ◌<◌, ◌≤◌, zero, suc, List, [], ◌∷◌, length, Ok, Err, Bool, true, false, refl, sym, ◌∙◌, ap, subst, arith, if◌then◌else◌}
use Rattle.cube_lex.specs.Lexeme.{Lexeme}
use Rattle.grammar.specs.Cursor.{Gives}
use Rattle.grammar.specs.Reading.{Stop, Read, Reader, gives, bound, both_of, repeat, all_of, starts}
use Rattle.grammar.specs.declared.stop.Stop.{Stop as CodeStop}
use Rattle.grammar.specs.declared.stop.Stop.TheVariants as stops
use Rattle.expression_grammar.specs.Expression.{from_left}
use Rattle.grammar.proofs.Loops.{turn_is}

-- the tree so far with what is still read, and a sort that stays
abbrev pub with_operations : {T R C A O S : Type 0} → (O → A → A → A) → A → S → Read T R C (List (O × A)) → Read T R C (A × S)
with_operations joined e sort r = bound r (λ rest. gives (from_left joined e rest, sort))

-- the tree so far and what the turns that are left read give the total
pub record Folding {T R C A O S : Type 0} (p : T → Bool) (P : Reader T R C (O × A)) (joined : O → A → A → A) (e : A) (sort : S)
    (n : R) (ts : List T) (turn turns : ℕ) (total : Read T R C (A × S)) : Type 0 where
  pub left : ℕ
  pub count : left + turn ≡ turns
  pub holds : total ≡ with_operations joined e sort (repeat p P left n ts)

pub begun_folding : {T R C A O S : Type 0} (p : T → Bool) (P : Reader T R C (O × A)) (joined : O → A → A → A) (e : A) (sort : S) (n : R) (ts : List T) (turns : ℕ)
    → turns ≡ length ts → Folding p P joined e sort n ts 0 turns (with_operations joined e sort (all_of p P n ts))
begun_folding p P joined e sort n ts turns count = record { left = length ts; count = omega (arith, count); holds = refl }

one_further : {T R C A O S : Type 0} (joined : O → A → A → A) (e : A) (sort : S) (a : O × A) (r : Read T R C (List (O × A)))
    → with_operations joined e sort (bound r (λ rest. gives (a ∷ rest))) ≡ with_operations joined (joined a.0 e a.1) sort r
one_further joined e sort a (Ok x) = refl
one_further joined e sort a (Err halt) = refl

folding_on : {T R C A O S : Type 0} (p : T → Bool) (P : Reader T R C (O × A)) (joined : O → A → A → A) (e : A) (sort : S) (n : R) (ts : List T)
    (turn turns : ℕ) (total : Read T R C (A × S)) (a : O × A) (m : R) (rest : List T) (k : ℕ) → k + turn ≡ turns → turn < turns
    → total ≡ with_operations joined e sort (repeat p P k n ts) → starts p ts ≡ true → P n ts ≡ Ok (a, m, rest)
    → Folding p P joined (joined a.0 e a.1) sort m rest (turn + 1) turns total
folding_on p P joined e sort n ts turn turns total a m rest zero count early holds more read = absurd (omega (arith, count, early))
folding_on p P joined e sort n ts turn turns total a m rest (suc k) count early holds more read = record {
  left = k;
  count = omega (arith, count);
  holds = holds ∙ ap (with_operations joined e sort) (turn_is p P n ts k (Ok (a, m, rest)) more read) ∙ one_further joined e sort a (repeat p P k m rest);
}

-- after one more operation
pub folds_further : {T R C A O S : Type 0} {p : T → Bool} {P : Reader T R C (O × A)} {joined : O → A → A → A} {e next : A} {sort : S} {n : R} {ts : List T}
    {turn turns : ℕ} {total : Read T R C (A × S)} {a : O × A} {m : R} {rest : List T} → Folding p P joined e sort n ts turn turns total → turn < turns
    → true ≡ starts p ts → P n ts ≡ Ok (a, m, rest) → next ≡ joined a.0 e a.1 → Folding p P joined next sort m rest (turn + 1) turns total
folds_further {p = p} {P = P} {joined = joined} {e = e} {sort = sort} {n = n} {ts = ts} {turn = turn} {turns = turns} {total = total} {a = a} {m = m} {rest = rest} f early more read made =
    subst (λ x. Folding p P joined x sort m rest (turn + 1) turns total) (sym made)
    (folding_on p P joined e sort n ts turn turns total a m rest f.left f.count early f.holds (sym more) read)

folded_at : {T R C A O S : Type 0} (p : T → Bool) (P : Reader T R C (O × A)) (joined : O → A → A → A) (e : A) (sort : S) (n : R) (ts : List T)
    (turn turns : ℕ) (total : Read T R C (A × S)) (k : ℕ) → k + turn ≡ turns → turn < turns → total ≡ with_operations joined e sort (repeat p P k n ts)
    → starts p ts ≡ false → total ≡ Ok ((e, sort), n, ts)
folded_at p P joined e sort n ts turn turns total zero count early holds none = absurd (omega (arith, count, early))
folded_at p P joined e sort n ts turn turns total (suc k) count early holds none =
    holds ∙ ap (λ b. with_operations joined e sort (if b then bound (P n ts) (λ a. both_of (repeat p P k) (λ rest. gives (a ∷ rest))) else gives [] n ts)) none

-- where the loop ends
pub is_folded : {T R C A O S : Type 0} {p : T → Bool} {P : Reader T R C (O × A)} {joined : O → A → A → A} {e : A} {sort : S} {n : R} {ts : List T}
    {turn turns : ℕ} {total : Read T R C (A × S)} → Folding p P joined e sort n ts turn turns total → turn < turns → false ≡ starts p ts
    → total ≡ Ok ((e, sort), n, ts)
is_folded {p = p} {P = P} {joined = joined} {e = e} {sort = sort} {n = n} {ts = ts} {turn = turn} {turns = turns} {total = total} f early none =
    folded_at p P joined e sort n ts turn turns total f.left f.count early f.holds (sym none)

stopped_at : {T R C A O S : Type 0} (p : T → Bool) (P : Reader T R C (O × A)) (joined : O → A → A → A) (e : A) (sort : S) (n : R) (ts : List T)
    (turn turns : ℕ) (total : Read T R C (A × S)) (halt : Stop C) (k : ℕ) → k + turn ≡ turns → turn < turns
    → total ≡ with_operations joined e sort (repeat p P k n ts) → starts p ts ≡ true → P n ts ≡ Err halt → total ≡ Err halt
stopped_at p P joined e sort n ts turn turns total halt zero count early holds more read = absurd (omega (arith, count, early))
stopped_at p P joined e sort n ts turn turns total halt (suc k) count early holds more read =
    holds ∙ ap (with_operations joined e sort) (turn_is p P n ts k (Err halt) more read)

-- where an operation stops
folding_stops : {T R C A O S : Type 0} {p : T → Bool} {P : Reader T R C (O × A)} {joined : O → A → A → A} {e : A} {sort : S} {n : R} {ts : List T}
    {turn turns : ℕ} {total : Read T R C (A × S)} {halt : Stop C} → Folding p P joined e sort n ts turn turns total → turn < turns
    → true ≡ starts p ts → P n ts ≡ Err halt → total ≡ Err halt
folding_stops {p = p} {P = P} {joined = joined} {e = e} {sort = sort} {n = n} {ts = ts} {turn = turn} {turns = turns} {total = total} {halt = halt} f early more read =
    stopped_at p P joined e sort n ts turn turns total halt f.left f.count early f.holds (sym more) read

pub folding_stops_at : {X Y R C A O S : Type 0} {p : Lexeme → Bool} {P : Reader Lexeme R C (O × A)} {joined : O → A → A → A} {e : A} {sort : S} {n : R}
    {ts : List Lexeme} {turn turns : ℕ} {total : Read Lexeme R C (A × S)} (view : X → A × S) (item : Y → O × A) (m : R) (rest : List Lexeme) (stop : CodeStop C)
    → Folding p P joined e sort n ts turn turns total → turn < turns → true ≡ starts p ts → Gives item (Err stop) m rest (P n ts) → Gives view (Err stop) m rest total
folding_stops_at view item m rest stops.Memory f early more read = tt
folding_stops_at view item m rest (stops.Unexpected left) f early more read = folding_stops f early more read
folding_stops_at view item m rest (stops.Refused cause) f early more read = folding_stops f early more read

-- where the turns are used up
pub folding_runs_out : {T R C A O S : Type 0} {p : T → Bool} {P : Reader T R C (O × A)} {joined : O → A → A → A} {e : A} {sort : S} {n : R} {ts : List T}
    {turn turns : ℕ} {total : Read T R C (A × S)} → Folding p P joined e sort n ts turn turns total → turns ≤ turn → total ≡ Ok ((e, sort), n, ts)
folding_runs_out {p = p} {P = P} {joined = joined} {e = e} {sort = sort} {n = n} {ts = ts} f done =
    let none : f.left ≡ 0 = omega (arith, f.count, done) in
    f.holds ∙ ap (λ k. with_operations joined e sort (repeat p P k n ts)) none
