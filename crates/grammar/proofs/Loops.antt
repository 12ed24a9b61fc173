-- Loops that read again and again.
use Rattle.std.proofs.Common.{◌≡◌, ℕ, ◌<◌, ◌≤◌, zero, suc, List, [], ◌∷◌, ◌++◌, length, append-nil, Ok, Err, Bool, true, false, refl, sym, ◌∙◌, ap, subst, arith, if◌then◌else◌}
use Rattle.cube_lex.specs.Lexeme.{Lexeme}
use Rattle.grammar.specs.Cursor.{Gives}
use Rattle.grammar.specs.declared.stop.Stop as stops
use Rattle.grammar.specs.declared.stop.Stop.TheVariants as variants
use Rattle.grammar.proofs.After.{with_front, with_nothing, one_further, Turning, turning_from, turning_halts}
use Rattle.grammar.proofs.Many.{plain}
use Rattle.grammar.specs.Reading.{Stop, Read, Reader, gives, bound, both_of, repeat, all_of, starts}

-- what was read so far and what is still to be read give the total
pub record Going {T R C A : Type 0} (p : T → Bool) (P : Reader T R C A) (front : List A) (n : R) (ts : List T) (total : Read T R C (List A)) : Type 0 where
  pub turns : ℕ
  pub room : length ts ≤ turns
  pub holds : total ≡ with_front front (repeat p P turns n ts)

pub begun_all : {T R C A : Type 0} (p : T → Bool) (P : Reader T R C A) (n : R) (ts : List T) → Going p P [] n ts (all_of p P n ts)
begun_all p P n ts = record { turns = length ts; room = omega arith; holds = with_nothing (all_of p P n ts) }

-- where the first is read before the loop
pub begun_with : {T R C A : Type 0} (p : T → Bool) (P : Reader T R C A) (a : A) (n : R) (ts : List T) → Going p P (a ∷ []) n ts (both_of (all_of p P) (λ rest. gives (a ∷ rest)) n ts)
begun_with p P a n ts = record { turns = length ts; room = omega arith; holds = refl }

pub turn_is : {T R C A : Type 0} (p : T → Bool) (P : Reader T R C A) (n : R) (ts : List T) (k : ℕ) (r : Read T R C A) → starts p ts ≡ true → P n ts ≡ r → repeat p P (suc k) n ts ≡ bound r (λ a. both_of (repeat p P k) (λ rest. gives (a ∷ rest)))
turn_is p P n ts k r more read = ap (λ b. if b then bound (P n ts) (λ a. both_of (repeat p P k) (λ rest. gives (a ∷ rest))) else gives [] n ts) more ∙ ap (λ x. bound x (λ a. both_of (repeat p P k) (λ rest. gives (a ∷ rest)))) read

end_is : {T R C A : Type 0} (p : T → Bool) (P : Reader T R C A) (n : R) (ts : List T) (k : ℕ) → starts p ts ≡ false → repeat p P k n ts ≡ Ok ([], n, ts)
end_is p P n ts zero none = refl
end_is p P n ts (suc k) none = ap (λ b. if b then bound (P n ts) (λ a. both_of (repeat p P k) (λ rest. gives (a ∷ rest))) else gives [] n ts) none

going_on : {T R C A : Type 0} (p : T → Bool) (P : Reader T R C A) (front : List A) (n : R) (ts : List T) (total : Read T R C (List A)) (a : A) (m : R) (rest : List T) (k : ℕ) → length ts ≤ k → total ≡ with_front front (repeat p P k n ts) → starts p ts ≡ true → P n ts ≡ Ok (a, m, rest) → length rest < length ts → Going p P (front ++ a ∷ []) m rest total
going_on p P front n ts total a m rest zero room holds more read fewer = absurd (omega (arith, room, fewer))
going_on p P front n ts total a m rest (suc k) room holds more read fewer = record {
  turns = k;
  room = omega (arith, room, fewer);
  holds = holds ∙ ap (with_front front) (turn_is p P n ts k (Ok (a, m, rest)) more read) ∙ one_further front a (repeat p P k m rest);
}

-- after one more turn
pub goes_on : {T R C A : Type 0} {p : T → Bool} {P : Reader T R C A} {front : List A} {n : R} {ts : List T} {total : Read T R C (List A)} {a : A} {m : R} {rest : List T} → Going p P front n ts total → starts p ts ≡ true → P n ts ≡ Ok (a, m, rest) → length rest < length ts → Going p P (front ++ a ∷ []) m rest total
goes_on {p = p} {P = P} {front = front} {n = n} {ts = ts} {total = total} {a = a} {m = m} {rest = rest} g more read fewer = going_on p P front n ts total a m rest g.turns g.room g.holds more read fewer

-- the same, as code says it: the loop's test, the reading, and what was pushed
pub goes_further : {T R C A : Type 0} {p : T → Bool} {P : Reader T R C A} {front next : List A} {n : R} {ts : List T} {total : Read T R C (List A)} {a : A} {m : R} {rest : List T} → Going p P front n ts total → true ≡ starts p ts → P n ts ≡ Ok (a, m, rest) → length rest < length ts → next ≡ front ++ a ∷ [] → Going p P next m rest total
goes_further {p = p} {P = P} {total = total} {m = m} {rest = rest} g more read fewer pushed = subst (λ x. Going p P x m rest total) (sym pushed) (goes_on g (sym more) read fewer)

done_at : {T R C A : Type 0} (p : T → Bool) (P : Reader T R C A) (front : List A) (n : R) (ts : List T) (total : Read T R C (List A)) (k : ℕ) → length ts ≤ k → total ≡ with_front front (repeat p P k n ts) → starts p ts ≡ false → total ≡ Ok (front, n, ts)
done_at p P front n ts total k room holds none = holds ∙ ap (with_front front) (end_is p P n ts k none) ∙ ap (λ x. Ok (x, n, ts)) (append-nil front)

-- where the loop ends
pub is_done : {T R C A : Type 0} {p : T → Bool} {P : Reader T R C A} {front : List A} {n : R} {ts : List T} {total : Read T R C (List A)} → Going p P front n ts total → starts p ts ≡ false → total ≡ Ok (front, n, ts)
is_done {p = p} {P = P} {front = front} {n = n} {ts = ts} {total = total} g none = done_at p P front n ts total g.turns g.room g.holds none

stopped_at : {T R C A : Type 0} (p : T → Bool) (P : Reader T R C A) (front : List A) (n : R) (ts : List T) (total : Read T R C (List A)) (halt : Stop C) (k : ℕ) → length ts ≤ k → total ≡ with_front front (repeat p P k n ts) → starts p ts ≡ true → P n ts ≡ Err halt → total ≡ Err halt
stopped_at p P front n [] total halt zero room holds more read = absurd (cc more)
stopped_at p P front n (t ∷ ts) total halt zero room holds more read = absurd (omega (arith, room))
stopped_at p P front n ts total halt (suc k) room holds more read = holds ∙ ap (with_front front) (turn_is p P n ts k (Err halt) more read)

-- where a turn stops
pub is_stopped : {T R C A : Type 0} {p : T → Bool} {P : Reader T R C A} {front : List A} {n : R} {ts : List T} {total : Read T R C (List A)} {halt : Stop C} → Going p P front n ts total → starts p ts ≡ true → P n ts ≡ Err halt → total ≡ Err halt
is_stopped {p = p} {P = P} {front = front} {n = n} {ts = ts} {total = total} {halt = halt} g more read = stopped_at p P front n ts total halt g.turns g.room g.holds more read

-- A loop with as many turns as there are tokens (`Turning`), in which what came before doesn't count.
pub turning_from_plain : {T R C A : Type 0} (p : T → Bool) (P : Reader T R C A) (front : List A) (n : R) (ts : List T) (end : ℕ) → end ≡ length ts → Turning p (λ _. P) front n ts 0 end (with_front front (all_of p P n ts))
turning_from_plain p P front n ts end as_many =
    subst (λ x. Turning p (λ _. P) front n ts 0 end (with_front front x)) (plain p P (length ts) front n ts) (turning_from p (λ _. P) front n ts end as_many)

-- where a turn of either loop stops, as code says it
pub turning_stops : {X Y R C A : Type 0} {p : Lexeme → Bool} {P : List A → Reader Lexeme R C A} {front : List A} {n : R} {ts : List Lexeme} {turn end : ℕ} {total : Read Lexeme R C (List A)} (view : X → List A) (item : Y → A) (m : R) (rest : List Lexeme) (stop : stops.Stop C) → Turning p P front n ts turn end total → turn < end → true ≡ starts p ts → Gives item (Err stop) m rest (P front n ts) → Gives view (Err stop) m rest total
turning_stops view item m rest variants.Memory t room more read = tt
turning_stops view item m rest (variants.Unexpected left) t room more read = turning_halts t room more read
turning_stops view item m rest (variants.Refused cause) t room more read = turning_halts t room more read
