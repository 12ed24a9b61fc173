-- Repetition where what may come depends on what was there before: it is exact, and takes a token in each turn.
use Rattle.std.proofs.Common.{◌≡◌, ℕ, ◌+◌, ◌<◌, ◌≤◌, zero, suc, List, [], ◌∷◌, ◌++◌, length, length-append, append_assoc, append-nil, Ok, Err, Bool, true, false, refl, sym, ◌∙◌, ap, subst, inl, inr, arith, if◌then◌else◌}
use Rattle.grammar.specs.Grammar.{Grammar, done, both, either}
use Rattle.grammar.specs.Watch.{Watch}
use Rattle.grammar.specs.Reading.{Stop, Unexpected, Refused, OutOfTurns, Read, Reader, gives, bound, both_of, starts}
use Rattle.grammar.specs.After.{many_after, turn_after, repeat_after, all_after}
use Rattle.grammar.proofs.Exact.{Exact, Outcome, IsRead, Agrees, Always, Not, exact_gives, exact_both, exact_choose, exact_before, exact_by}
use Rattle.grammar.proofs.Begins.{Begins, starts_text}

-- The grammar of such a repetition, one text at a time.

abbrev one_turn : {T A : Type 0} → (List A → Grammar T A) → List A → Grammar T (List A)
one_turn G before = either (both (G before) (λ a. both (many_after G (before ++ a ∷ [])) (λ rest. done (a ∷ rest)))) (done [])

into_after : {T A : Type 0} (G : List A → Grammar T A) (before : List A) (u : List T) (list : List A) → one_turn G before u list → many_after G before u list
into_after {T = T} {A = A} G before u list (inl (v, w, a, parts, h, (x, y, rest, tail, more, nothing))) = made list nothing.1 where
  tail_is : w ≡ x
  tail_is = tail ∙ ap (λ z. x ++ z) nothing.0 ∙ append-nil x

  made : (bs : List A) → bs ≡ a ∷ rest → many_after G before u bs
  made bs e = subst (many_after G before u) (sym e) (v, w, parts, h, subst (λ z. many_after G (before ++ a ∷ []) z rest) (sym tail_is) more)
into_after G before u list (inr h) = subst (many_after G before u) (sym h.1) h.0

back_after : {T A : Type 0} (G : List A → Grammar T A) (before : List A) (u : List T) (list : List A) → many_after G before u list → one_turn G before u list
back_after G before u [] h = inr (h, refl)
back_after G before u (a ∷ list) (v, w, parts, h, more) = inl (v, w, a, parts, h, (w, [], list, sym (append-nil w), more, (refl, refl)))

-- The same reader, told apart where its turns are used up.

tries : {T R C A : Type 0} → (T → Bool) → (List A → Reader T R C A) → ℕ → List A → Reader T R C (List A)
tries p P zero front n ts = Err OutOfTurns
tries p P (suc k) front n ts = turn_after p (P front) (λ a. tries p P k (front ++ a ∷ [])) n ts

-- each stop of the whole is one of what is repeated, and so is each further turn
tries_exact : {T R C A : Type 0} {W : Watch T R C} {G H : List A → Grammar T A} {P : List A → Reader T R C A} {S S' : List T → Type 0} (p : T → Bool) → ((before : List A) → Begins (H before) p true) → ((rest : List T) → S' rest → Not p rest) → ((before list : List A) (v rest : List T) → many_after H before v list → S' rest → S (v ++ rest)) → ((before : List A) → Exact W (G before) (H before) (P before) S) → (k : ℕ) (front : List A) → Exact W (many_after G front) (many_after H front) (tries p P k front) S'
unfolding tries Outcome Agrees
tries_exact p begins ends follow e zero front = record {
  word = ([], [], refl);
  sound = λ n ts. tt;
  complete = λ n u list rest h stops. tt;
}
tries_exact {W = W} {G = G} {H = H} {S' = S'} p begins ends follow e (suc k) front =
    exact_by (into_after G front) (back_after H front)
    (exact_choose p
    (exact_both (e front) (λ a. exact_both (tries_exact p begins ends follow e k (front ++ a ∷ [])) (λ rest. exact_before {S' = S'} (λ _ _. tt) (exact_gives W (a ∷ rest))) (λ list v b rest nothing stops. subst (λ x. S' (x ++ rest)) (sym nothing.0) stops))
    (λ a v list rest (x, y, tail, parts, more, nothing) stops. follow (front ++ a ∷ []) tail v rest (subst (λ z. many_after H (front ++ a ∷ []) z tail) (sym (parts ∙ ap (λ z. x ++ z) nothing.0 ∙ append-nil x)) more) stops))
    (exact_gives W [])
    (λ u list rest (v, w, a, parts, h, more) stops. (ap (λ x. starts p (x ++ rest)) parts ∙ ap (starts p) (append_assoc v w rest) ∙ starts_text (begins front) v a (w ++ rest) h, stops))
    (λ u list rest nothing stops. (ap (λ x. starts p (x ++ rest)) nothing.0 ∙ ends rest stops, tt)))

-- Turns: more of them than there are tokens change nothing, since each takes a token; nor do more than what a reading used.

-- what is read is a token at least
abbrev pub Shortens : {T R C A : Type 0} → Reader T R C A → Type 0
Shortens {T = T} {R = R} {A = A} P = (n : R) (ts : List T) (a : A) (m : R) (rest : List T) → P n ts ≡ Ok (a, m, rest) → length rest < length ts

pub shortens : {T R C A : Type 0} {W : Watch T R C} {G H : Grammar T A} {P : Reader T R C A} {S : List T → Type 0} (p : T → Bool) (b : Bool) → Begins G p b → Exact W G H P S → Shortens P
unfolding Outcome
shortens {W = W} {G = G} {P = P} p b begins e n ts a m rest read =
    let f : IsRead G W P n ts a m rest = subst (Outcome G W P n ts) read (e.sound n ts) in
    let (t, v, is, _) = begins.at f.text a f.reads in
    let whole : ts ≡ t ∷ (v ++ rest) = f.parts ∙ ap (λ x. x ++ rest) is in
    omega (arith, ap length whole, length-append v rest)

-- the answer isn't that the turns are used up
abbrev pub IsSettled : {T R C A : Type 0} → Read T R C A → Type 0
IsSettled (Ok x) = Unit {0}
IsSettled (Err (Unexpected left)) = Unit {0}
IsSettled (Err (Refused cause)) = Unit {0}
IsSettled (Err OutOfTurns) = ⊥

settled_first : {T R C A B : Type 0} (q : Read T R C A) (K : A → Reader T R C B) → IsSettled (bound q K) → IsSettled q
settled_first (Ok x) K h = tt
settled_first (Err (Unexpected left)) K h = tt
settled_first (Err (Refused cause)) K h = tt
settled_first (Err OutOfTurns) K h = h

settled_choice : {T R C A : Type 0} (b : Bool) (x y z : Read T R C A) → (IsSettled x → y ≡ x) → IsSettled (if b then x else z) → (if b then y else z) ≡ (if b then x else z)
settled_choice true x y z e h = e h
settled_choice false x y z e h = refl

module _ {T R C A : Type 0} (p : T → Bool) (P : List A → Reader T R C A) where
  abbrev next_turn : ℕ → List A → A → Reader T R C (List A)
  next_turn k front a = both_of (tries p P k (front ++ a ∷ [])) (λ rest. gives (a ∷ rest))

  settled_here : (front : List A) (k : ℕ) → ((a : A) (n : R) (ts : List T) → IsSettled (tries p P k (front ++ a ∷ []) n ts) → tries p P (suc k) (front ++ a ∷ []) n ts ≡ tries p P k (front ++ a ∷ []) n ts) → (r : Read T R C A) → IsSettled (bound r (next_turn k front)) → bound r (next_turn (suc k) front) ≡ bound r (next_turn k front)
  settled_here front k before (Ok x) h = ap (λ y. bound y (λ rest. gives (x.0 ∷ rest))) (before x.0 x.1 x.2 (settled_first (tries p P k (front ++ x.0 ∷ []) x.1 x.2) (λ rest. gives (x.0 ∷ rest)) h))
  settled_here front k before (Err halt) h = refl

  one_more : (k : ℕ) (front : List A) (n : R) (ts : List T) → IsSettled (tries p P k front n ts) → tries p P (suc k) front n ts ≡ tries p P k front n ts
  unfolding tries
  one_more zero front n ts h = absurd h
  one_more (suc k) front n ts h = settled_choice (starts p ts) (bound (P front n ts) (next_turn k front)) (bound (P front n ts) (next_turn (suc k) front)) (gives [] n ts) (settled_here front k (λ a. one_more k (front ++ a ∷ [])) (P front n ts)) h

  settled_turns : (d k : ℕ) (front : List A) (n : R) (ts : List T) → IsSettled (tries p P k front n ts) → tries p P (d + k) front n ts ≡ tries p P k front n ts
  settled_turns zero k front n ts h = let e : 0 + k ≡ k = omega arith in ap (λ x. tries p P x front n ts) e
  settled_turns (suc d) k front n ts h =
      let e : suc d + k ≡ suc (d + k) = omega arith in
      let less : tries p P (d + k) front n ts ≡ tries p P k front n ts = settled_turns d k front n ts h in
      ap (λ x. tries p P x front n ts) e ∙ one_more (d + k) front n ts (subst IsSettled (sym less) h) ∙ less

  module _ (short : (front : List A) → Shortens (P front)) where
    -- the reader, with as many turns as there are tokens
    same_here : (k : ℕ) (front : List A) → ((a : A) (n : R) (ts : List T) → length ts ≤ k → repeat_after p P k (front ++ a ∷ []) n ts ≡ tries p P (suc k) (front ++ a ∷ []) n ts) → (n : R) (ts : List T) → length ts ≤ suc k → (r : Read T R C A) → P front n ts ≡ r → bound r (λ a. both_of (repeat_after p P k (front ++ a ∷ [])) (λ rest. gives (a ∷ rest))) ≡ bound r (next_turn (suc k) front)
    same_here k front before n ts h (Ok x) e =
        let fewer : length x.2 < length ts = short front n ts x.0 x.1 x.2 e in
        ap (λ y. bound y (λ rest. gives (x.0 ∷ rest))) (before x.0 x.1 x.2 (omega (arith, fewer, h)))
    same_here k front before n ts h (Err halt) e = refl

    same : (k : ℕ) (front : List A) (n : R) (ts : List T) → length ts ≤ k → repeat_after p P k front n ts ≡ tries p P (suc k) front n ts
    unfolding tries
    same zero front n [] h = refl
    same zero front n (t ∷ ts) h = absurd (omega (arith, h))
    same (suc k) front n ts h = ap (λ x. if starts p ts then x else gives [] n ts) (same_here k front (λ a. same k (front ++ a ∷ [])) n ts h (P front n ts) refl)

    enough_here : (k : ℕ) (front : List A) → ((a : A) (n : R) (ts : List T) → length ts < k → tries p P (suc k) (front ++ a ∷ []) n ts ≡ tries p P k (front ++ a ∷ []) n ts) → (n : R) (ts : List T) → length ts < suc k → (r : Read T R C A) → P front n ts ≡ r → bound r (next_turn (suc k) front) ≡ bound r (next_turn k front)
    enough_here k front before n ts h (Ok x) e =
        let fewer : length x.2 < length ts = short front n ts x.0 x.1 x.2 e in
        ap (λ y. bound y (λ rest. gives (x.0 ∷ rest))) (before x.0 x.1 x.2 (omega (arith, fewer, h)))
    enough_here k front before n ts h (Err halt) e = refl

    enough : (k : ℕ) (front : List A) (n : R) (ts : List T) → length ts < k → tries p P (suc k) front n ts ≡ tries p P k front n ts
    unfolding tries
    enough zero front n ts h = absurd (omega (arith, h))
    enough (suc k) front n ts h = ap (λ x. if starts p ts then x else gives [] n ts) (enough_here k front (λ a. enough k (front ++ a ∷ [])) n ts h (P front n ts) refl)

    -- turns above the number of tokens
    enough_turns : (d k : ℕ) (front : List A) (n : R) (ts : List T) → length ts < k → tries p P (d + k) front n ts ≡ tries p P k front n ts
    enough_turns zero k front n ts h = let e : 0 + k ≡ k = omega arith in ap (λ x. tries p P x front n ts) e
    enough_turns (suc d) k front n ts h =
        let e : suc d + k ≡ suc (d + k) = omega arith in
        ap (λ x. tries p P x front n ts) e ∙ enough (d + k) front n ts (omega (arith, h)) ∙ enough_turns d k front n ts h

    -- what so many turns answer, all turns answer
    all_from : (k : ℕ) (front : List A) (n : R) (ts : List T) (r : Read T R C (List A)) → IsSettled r → tries p P k front n ts ≡ r → all_after p P front n ts ≡ r
    all_from k front n ts r is e =
        let more : tries p P (k + suc (length ts)) front n ts ≡ tries p P (suc (length ts)) front n ts = enough_turns k (suc (length ts)) front n ts (omega arith) in
        let used : tries p P (suc (length ts) + k) front n ts ≡ tries p P k front n ts = settled_turns (suc (length ts)) k front n ts (subst IsSettled (sym e) is) in
        let swap : k + suc (length ts) ≡ suc (length ts) + k = omega arith in
        same (length ts) front n ts (omega arith) ∙ sym more ∙ ap (λ x. tries p P x front n ts) swap ∙ used ∙ e

    all_sound : (W : Watch T R C) (G : Grammar T (List A)) (k : ℕ) (front : List A) (n : R) (ts : List T) (r : Read T R C (List A)) → Outcome G W (tries p P k front) n ts r → Outcome G W (all_after p P front) n ts r
    unfolding Outcome
    all_sound W G k front n ts (Ok x) f = record {
      text = f.text;
      parts = f.parts;
      reads = f.reads;
      passes = f.passes;
      alone = λ other e. all_from k front n (f.text ++ other) (Ok (x.0, x.1, other)) tt (f.alone other e);
    }
    all_sound W G k front n ts (Err (Unexpected left)) f = record {
      text = f.text;
      rest = f.rest;
      parts = f.parts;
      left_is = f.left_is;
      alive = f.alive;
      within = f.within;
      alone = λ other e. all_from k front n (f.text ++ other) (Err (Unexpected (length other))) tt (f.alone other e);
    }
    all_sound W G k front n ts (Err (Refused cause)) f = record {
      before = f.before;
      last = f.last;
      rest = f.rest;
      parts = f.parts;
      alive = f.alive;
      refused = f.refused;
    }
    all_sound W G k front n ts (Err OutOfTurns) f = tt

-- any number of them, where what is repeated may itself go on
pub exact_all_after : {T R C A : Type 0} {W : Watch T R C} {G H : List A → Grammar T A} {P : List A → Reader T R C A} {S S' : List T → Type 0} (p : T → Bool) (b : Bool) → ((before : List A) → Begins (G before) p b) → ((before : List A) → Begins (H before) p true) → ((rest : List T) → S' rest → Not p rest) → ((before list : List A) (v rest : List T) → many_after H before v list → S' rest → S (v ++ rest)) → ((before : List A) → Exact W (G before) (H before) (P before) S) → (front : List A) → Exact W (many_after G front) (many_after H front) (all_after p P front) S'
exact_all_after {T = T} {R = R} {A = A} {W = W} {G = G} {H = H} {P = P} p b begins begins' ends follow e front = record {
  word = ([], [], refl);
  sound = λ n ts. all_sound p P short W (many_after G front) (suc (length ts)) front n ts (all_after p P front n ts) (subst (Outcome (many_after G front) W (tries p P (suc (length ts)) front) n ts) (sym (same p P short (length ts) front n ts (omega arith))) ((tries_exact p begins' ends follow e (suc (length ts)) front).sound n ts));
  complete = λ n u list rest h stops. subst (Agrees list rest) (sym (same p P short (length (u ++ rest)) front n (u ++ rest) (omega arith))) ((tries_exact p begins' ends follow e (suc (length (u ++ rest))) front).complete n u list rest h stops);
} where
  short : (front : List A) → Shortens (P front)
  short before = shortens p b (begins before) (e before)

-- any number of them, where each ends by itself
pub exact_rest_after : {T R C A : Type 0} {W : Watch T R C} {G : List A → Grammar T A} {P : List A → Reader T R C A} (p : T → Bool) → ((before : List A) → Begins (G before) p true) → ((before : List A) → Exact W (G before) (G before) (P before) Always) → (before : List A) → Exact W (many_after G before) (many_after G before) (all_after p P before) (Not p)
exact_rest_after p begins e before = exact_all_after p true begins begins (λ rest stops. stops) (λ before list v rest h stops. tt) e before

-- Loops with as many turns as there are tokens.

-- what was read so far, before what is still read
abbrev pub with_front : {T R C A : Type 0} → List A → Read T R C (List A) → Read T R C (List A)
with_front front r = bound r (λ rest. gives (front ++ rest))

pub with_nothing : {T R C A : Type 0} (r : Read T R C (List A)) → r ≡ with_front [] r
with_nothing (Ok x) = refl
with_nothing (Err halt) = refl

pub one_further : {T R C A : Type 0} (front : List A) (a : A) (r : Read T R C (List A)) → with_front front (bound r (λ rest. gives (a ∷ rest))) ≡ with_front (front ++ a ∷ []) r
one_further front a (Ok x) = ap (λ y. Ok (y, x.1, x.2)) (sym (append_assoc front (a ∷ []) x.0))
one_further front a (Err halt) = refl

module _ {T R C A : Type 0} (p : T → Bool) (P : List A → Reader T R C A) where
  abbrev later : ℕ → List A → A → Reader T R C (List A)
  later k front a = both_of (repeat_after p P k (front ++ a ∷ [])) (λ rest. gives (a ∷ rest))

  turn_is : (front : List A) (n : R) (ts : List T) (k : ℕ) (r : Read T R C A) → true ≡ starts p ts → P front n ts ≡ r → repeat_after p P (suc k) front n ts ≡ bound r (later k front)
  turn_is front n ts k r more read = ap (λ b. if b then bound (P front n ts) (later k front) else gives [] n ts) (sym more) ∙ ap (λ x. bound x (later k front)) read

  end_is : (front : List A) (n : R) (ts : List T) (k : ℕ) → false ≡ starts p ts → repeat_after p P k front n ts ≡ Ok ([], n, ts)
  end_is front n ts zero none = refl
  end_is front n ts (suc k) none = ap (λ b. if b then bound (P front n ts) (later k front) else gives [] n ts) (sym none)

-- what was read so far, and what is read in the turns that are left, give the total
pub record Turning {T R C A : Type 0} (p : T → Bool) (P : List A → Reader T R C A) (front : List A) (n : R) (ts : List T) (turn end : ℕ) (total : Read T R C (List A)) : Type 0 where
  pub left : ℕ
  pub sum : turn + left ≡ end
  pub holds : total ≡ with_front front (repeat_after p P left front n ts)

turned : {T R C A : Type 0} (p : T → Bool) (P : List A → Reader T R C A) (front next : List A) (n : R) (ts : List T) (turn end : ℕ) (total : Read T R C (List A)) (a : A) (m : R) (rest : List T) (left : ℕ) → turn < end → turn + left ≡ end → total ≡ with_front front (repeat_after p P left front n ts) → true ≡ starts p ts → P front n ts ≡ Ok (a, m, rest) → next ≡ front ++ a ∷ [] → Turning p P next m rest (turn + 1) end total
turned p P front next n ts turn end total a m rest zero room sum holds more read pushed = absurd (omega (arith, room, sum))
turned p P front next n ts turn end total a m rest (suc k) room sum holds more read pushed = subst (λ x. Turning p P x m rest (turn + 1) end total) (sym pushed) (record {
  left = k;
  sum = omega (arith, sum);
  holds = holds ∙ ap (with_front front) (turn_is p P front n ts k (Ok (a, m, rest)) more read) ∙ one_further front a (repeat_after p P k (front ++ a ∷ []) m rest);
})

halted : {T R C A : Type 0} (p : T → Bool) (P : List A → Reader T R C A) (front : List A) (n : R) (ts : List T) (turn end : ℕ) (total : Read T R C (List A)) (halt : Stop C) (left : ℕ) → turn < end → turn + left ≡ end → total ≡ with_front front (repeat_after p P left front n ts) → true ≡ starts p ts → P front n ts ≡ Err halt → total ≡ Err halt
halted p P front n ts turn end total halt zero room sum holds more read = absurd (omega (arith, room, sum))
halted p P front n ts turn end total halt (suc k) room sum holds more read = holds ∙ ap (with_front front) (turn_is p P front n ts k (Err halt) more read)

pub turning_from : {T R C A : Type 0} (p : T → Bool) (P : List A → Reader T R C A) (front : List A) (n : R) (ts : List T) (end : ℕ) → end ≡ length ts → Turning p P front n ts 0 end (with_front front (all_after p P front n ts))
turning_from p P front n ts end as_many = record { left = length ts; sum = omega (arith, as_many); holds = refl }

module _ {T R C A : Type 0} {p : T → Bool} {P : List A → Reader T R C A} {front : List A} {n : R} {ts : List T} {turn end : ℕ} {total : Read T R C (List A)} where
  -- after one more turn: the loop's test, the reading, and what was pushed
  pub turning_on : {next : List A} {a : A} {m : R} {rest : List T} → Turning p P front n ts turn end total → turn < end → true ≡ starts p ts → P front n ts ≡ Ok (a, m, rest) → next ≡ front ++ a ∷ [] → Turning p P next m rest (turn + 1) end total
  turning_on {next = next} {a = a} {m = m} {rest = rest} t room more read pushed = turned p P front next n ts turn end total a m rest t.left room t.sum t.holds more read pushed

  -- where no more comes
  pub turning_ends : Turning p P front n ts turn end total → false ≡ starts p ts → total ≡ Ok (front, n, ts)
  turning_ends t none = t.holds ∙ ap (with_front front) (end_is p P front n ts t.left none) ∙ ap (λ x. Ok (x, n, ts)) (append-nil front)

  -- where the turns are used up
  pub turning_runs_out : Turning p P front n ts turn end total → end ≤ turn → total ≡ Ok (front, n, ts)
  turning_runs_out t done =
      let none : t.left ≡ 0 = omega (arith, t.sum, done) in
      t.holds ∙ ap (λ k. with_front front (repeat_after p P k front n ts)) none ∙ ap (λ x. Ok (x, n, ts)) (append-nil front)

  -- where a turn stops
  pub turning_halts : {halt : Stop C} → Turning p P front n ts turn end total → turn < end → true ≡ starts p ts → P front n ts ≡ Err halt → total ≡ Err halt
  turning_halts {halt = halt} t room more read = halted p P front n ts turn end total halt t.left room t.sum t.holds more read
