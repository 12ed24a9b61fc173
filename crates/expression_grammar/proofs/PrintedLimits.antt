-- What is written of an expression is no deeper and no longer than any text of it.
use Rattle.std.proofs.Common.{◌≡◌, ◌≤◌, ◌<◌, ℕ, ◌+◌, List, [], ◌∷◌, ◌++◌, map, Bool, true, false, Option, Some, None, nat_lt, if◌then◌else◌, refl, sym, ap, ◌∙◌, subst, codes, arith}
use Rattle.std.proofs.lemmas.Bool.{ltb-true, lt-ltb}
use Rattle.cube_lex.specs.Lexeme.{Lexeme}
use Rattle.cube_lex.specs.Written.{Spelling, spelling_of, sign_token}
use Rattle.grammar.specs.Tokens.{is_sign}
use Rattle.expression_grammar.specs.Limits.{most_open, most_primaries}
use Rattle.expression_grammar.specs.Spelled.{in_parentheses}
use Rattle.grammar.proofs.Spells.{split_at, none_spelled}
use Rattle.expression_grammar.proofs.PrintedTokens.{split_next, is_written_sign}

-- a state after one more primary inside one more parenthesis, if there is room for them
abbrev pub opened : {S : Type 0} → (ℕ → ℕ → S) → ℕ → ℕ → Option S
opened due d p = if nat_lt p most_primaries then (if nat_lt d most_open then Some (due (d + 1) (p + 1)) else None) else None

-- How parentheses and primaries of an expression are counted, token by token, in the states of a text. An expression stands inside base parentheses.
pub record Counting : Type 1 where
  pub State : Type 0
  pub step : State → Lexeme → Option State
  pub base : ℕ
  -- before an operand, and behind one, where so many parentheses are open and so many primaries have begun
  pub due : ℕ → ℕ → State
  pub behind : ℕ → ℕ → State
  -- signs that stand before an operand, and signs that stand between two
  pub Precedes : Lexeme → Type 0
  pub Joins : Lexeme → Type 0
  pub before_operand : (t : Lexeme) (d p : ℕ) → base ≤ d → Precedes t → step (due d p) t ≡ Some (due d p)
  pub behind_operand : (t : Lexeme) (d p : ℕ) → base ≤ d → Joins t → step (behind d p) t ≡ Some (due d p)
  pub opens : (t : Lexeme) (d p : ℕ) → base ≤ d → is_sign (codes "(") t ≡ true → step (due d p) t ≡ opened due d p
  pub closes : (t : Lexeme) (d p : ℕ) → base ≤ d → is_sign (codes ")") t ≡ true → step (behind (d + 1) p) t ≡ Some (behind d p)

-- the tokens lead from one state to the other
abbrev pub Goes : {S : Type 0} → (S → Lexeme → Option S) → S → List Lexeme → S → Type 0
Goes step s [] r = r ≡ s
Goes step s (t ∷ ts) r = (m : _) × (step s t ≡ Some m) × Goes step m ts r

pub goes_on : {S : Type 0} (step : S → Lexeme → Option S) (u v : List Lexeme) (s m r : S) → Goes step s u m → Goes step m v r → Goes step s (u ++ v) r
goes_on step [] v s m r g h = subst (λ x. Goes step x v r) g h
goes_on step (t ∷ u) v s m r (n, first, g) h = (n, first, goes_on step u v n m r g h)

pub goes_through : {S : Type 0} (step : S → Lexeme → Option S) (u v : List Lexeme) (s r : S) → Goes step s (u ++ v) r → (m : S) × Goes step s u m × Goes step m v r
goes_through step [] v s r g = (s, refl, g)
goes_through step (t ∷ u) v s r (n, first, g) = let (m, h, k) = goes_through step u v n r g in (m, (n, first, h), k)

pub some_is : {A : Type 0} (x y : A) → ◌≡◌ {A = Option A} (Some x) (Some y) → x ≡ y
some_is x y e = cc

-- The tokens lead behind an operand wherever u does, from no more parentheses and primaries to no more primaries, and no parenthesis stays open.
pub record Fits (C : Counting) (ts u : List Lexeme) : Type 0 where
  pub at : (d e p q : ℕ) → C.base ≤ d → d ≤ e → p ≤ q → (r : C.State) → Goes C.step (C.due e q) u r
      → (m n : ℕ) × (r ≡ C.behind e n) × Goes C.step (C.due d p) ts (C.behind d m) × (m ≤ n)

pub record Shorter (C : Counting) (tokens : List Spelling) (u : List Lexeme) : Type 0 where
  pub at : (ts : List Lexeme) → map spelling_of ts ≡ tokens → Fits C ts u

-- an operator between
pub fits_joined : (C : Counting) (ts ws u v : List Lexeme) (s t : Lexeme) → C.Joins s → C.Joins t → Fits C ts u → Fits C ws v → Fits C (ts ++ s ∷ ws) (u ++ t ∷ v)
fits_joined C ts ws u v s t is-s is-t f g = record {
  at = λ d e p q base deep long r goes. (
      let (a, left, (b, taken, right)) = goes_through C.step u (t ∷ v) (C.due e q) r goes in
      let (m, n, a-is, before, less) = f.at d e p q base deep long a left in
      let between : b ≡ C.due e n = some_is b (C.due e n) (sym taken ∙ ap (λ x. C.step x t) a-is ∙ C.behind_operand t e n (omega (arith, base, deep)) is-t) in
      let (k, l, r-is, after, fewer) = g.at d e m n base deep less r (subst (λ x. Goes C.step x v r) between right) in
      (k, l, r-is, goes_on C.step ts (s ∷ ws) (C.due d p) (C.behind d m) (C.behind d k) before (C.due d m, C.behind_operand s d m base is-s, after), fewer));
}

-- an operator before
pub fits_prefixed : (C : Counting) (ts u : List Lexeme) (s t : Lexeme) → C.Precedes s → C.Precedes t → Fits C ts u → Fits C (s ∷ ts) (t ∷ u)
fits_prefixed C ts u s t is-s is-t f = record {
  at = λ d e p q base deep long r (a, taken, goes). (
      let same : a ≡ C.due e q = some_is a (C.due e q) (sym taken ∙ C.before_operand t e q (omega (arith, base, deep)) is-t) in
      let (m, n, r-is, after, less) = f.at d e p q base deep long r (subst (λ x. Goes C.step x u r) same goes) in
      (m, n, r-is, (C.due d p, C.before_operand s d p base is-s, after), less));
}

-- where a parenthesis opens, there was room for it
was_room : {S : Type 0} (due : ℕ → ℕ → S) (d p : ℕ) (a : S) (b c : Bool) → nat_lt p most_primaries ≡ b → nat_lt d most_open ≡ c → (if b then (if c then Some (due (d + 1) (p + 1)) else None) else None) ≡ Some a
    → (p < most_primaries) × (d < most_open) × (a ≡ due (d + 1) (p + 1))
was_room due d p a true true few shallow e = (ltb-true p most_primaries few, ltb-true d most_open shallow, cc)
was_room due d p a true false few shallow e = cc
was_room due d p a false c few shallow e = cc

is_room : {S : Type 0} (due : ℕ → ℕ → S) (d p : ℕ) → p < most_primaries → d < most_open → opened due d p ≡ Some (due (d + 1) (p + 1))
is_room due d p few shallow = rw (lt-ltb p most_primaries few, lt-ltb d most_open shallow) refl

-- the parts of what stands in parentheses
inside : (C : Counting) (u : List Lexeme) (x y : Lexeme) (e q : ℕ) (r : C.State) → C.base ≤ e → is_sign (codes "(") x ≡ true → Goes C.step (C.due e q) (x ∷ (u ++ y ∷ [])) r
    → (q < most_primaries) × (e < most_open) × ((m : C.State) × Goes C.step (C.due (e + 1) (q + 1)) u m × (C.step m y ≡ Some r))
inside C u x y e q r base opening (a, taken, goes) =
    let (few, shallow, a-is) = was_room C.due e q a (nat_lt q most_primaries) (nat_lt e most_open) refl refl (sym (C.opens x e q base opening) ∙ taken) in
    let (m, within, (b, closed, last)) = goes_through C.step u (y ∷ []) a r goes in
    (few, shallow, (m, subst (λ s. Goes C.step s u m) a-is within, closed ∙ ap Some (sym last)))

-- parentheses that are left out
pub fits_without : (C : Counting) (ts u : List Lexeme) (x y : Lexeme) → is_sign (codes "(") x ≡ true → is_sign (codes ")") y ≡ true → Fits C ts u → Fits C ts (x ∷ (u ++ y ∷ []))
fits_without C ts u x y opening closing f = record {
  at = λ d e p q base deep long r goes. (
      let above : C.base ≤ e = omega (arith, base, deep) in
      let (few, shallow, (a, within, closed)) = inside C u x y e q r above opening goes in
      let (m, n, a-is, after, less) = f.at d (e + 1) p (q + 1) base (omega (arith, deep)) (omega (arith, long)) a within in
      let ends : r ≡ C.behind e n = some_is r (C.behind e n) (sym closed ∙ ap (λ s. C.step s y) a-is ∙ C.closes y e n above closing) in
      (m, n, ends, after, less));
}

-- parentheses that are kept
pub fits_enclosed : (C : Counting) (ts u : List Lexeme) (v w x y : Lexeme) → is_sign (codes "(") v ≡ true → is_sign (codes ")") w ≡ true → is_sign (codes "(") x ≡ true → is_sign (codes ")") y ≡ true
    → Fits C ts u → Fits C (v ∷ (ts ++ w ∷ [])) (x ∷ (u ++ y ∷ []))
fits_enclosed C ts u v w x y opens closes opening closing f = record {
  at = λ d e p q base deep long r goes. (
      let above : C.base ≤ e = omega (arith, base, deep) in
      let (few, shallow, (a, within, closed)) = inside C u x y e q r above opening goes in
      let (m, n, a-is, after, less) = f.at (d + 1) (e + 1) (p + 1) (q + 1) (omega (arith, base)) (omega (arith, deep)) (omega (arith, long)) a within in
      let ends : r ≡ C.behind e n = some_is r (C.behind e n) (sym closed ∙ ap (λ s. C.step s y) a-is ∙ C.closes y e n above closing) in
      let begun : C.step (C.due d p) v ≡ Some (C.due (d + 1) (p + 1)) = C.opens v d p base opens ∙ is_room C.due d p (omega (arith, few, long)) (omega (arith, shallow, deep)) in
      let ended : Goes C.step (C.behind (d + 1) m) (w ∷ []) (C.behind d m) = (C.behind d m, C.closes w d m base closes, refl) in
      (m, n, ends, (C.due (d + 1) (p + 1), begun, goes_on C.step ts (w ∷ []) (C.due (d + 1) (p + 1)) (C.behind (d + 1) m) (C.behind d m) after ended), less));
}

-- The same of written tokens.

-- a written sign is one of P wherever it stands
pub record IsWrittenSign (P : Lexeme → Type 0) (s : List ℕ) : Type 0 where
  pub at : (t : Lexeme) → spelling_of t ≡ sign_token s → P t

pub shorter_joined : {C : Counting} {xs ys : List Spelling} {u v : List Lexeme} (s : List ℕ) (t : Lexeme) → IsWrittenSign C.Joins s → C.Joins t → Shorter C xs u → Shorter C ys v → Shorter C (xs ++ sign_token s ∷ ys) (u ++ t ∷ v)
shorter_joined {C = C} {xs = xs} {ys = ys} {u = u} {v = v} s t is-s is-t f g = record {
  at = λ ts e. (
      let (a, rest, parts, front, back) = split_at ts xs (sign_token s ∷ ys) e in
      let (x, b, is, first, last) = split_next rest (sign_token s) ys back in
      subst (λ l. Fits C l (u ++ t ∷ v)) (sym (parts ∙ ap (λ l. a ++ l) is)) (fits_joined C a b u v x t (is-s.at x first) is-t (f.at a front) (g.at b last)));
}

pub shorter_prefixed : {C : Counting} {xs : List Spelling} {u : List Lexeme} (s : List ℕ) (t : Lexeme) → IsWrittenSign C.Precedes s → C.Precedes t → Shorter C xs u → Shorter C (sign_token s ∷ xs) (t ∷ u)
shorter_prefixed {C = C} {xs = xs} {u = u} s t is-s is-t f = record {
  at = λ ts e. (
      let (x, b, is, first, last) = split_next ts (sign_token s) xs e in
      subst (λ l. Fits C l (t ∷ u)) (sym is) (fits_prefixed C b u x t (is-s.at x first) is-t (f.at b last)));
}

pub shorter_without : {C : Counting} {xs : List Spelling} {u : List Lexeme} (x y : Lexeme) → is_sign (codes "(") x ≡ true → is_sign (codes ")") y ≡ true → Shorter C xs u → Shorter C xs (x ∷ (u ++ y ∷ []))
shorter_without {C = C} {u = u} x y opening closing f = record { at = λ ts e. fits_without C ts u x y opening closing (f.at ts e) }

pub shorter_enclosed : {C : Counting} {xs : List Spelling} {u : List Lexeme} (x y : Lexeme) → is_sign (codes "(") x ≡ true → is_sign (codes ")") y ≡ true → Shorter C xs u → Shorter C (in_parentheses xs) (x ∷ (u ++ y ∷ []))
shorter_enclosed {C = C} {xs = xs} {u = u} x y opening closing f = record {
  at = λ ts e. (
      let (v, rest, is, first, back) = split_next ts (sign_token (codes "(")) (xs ++ sign_token (codes ")") ∷ []) e in
      let (a, last, parts, front, ends) = split_at rest xs (sign_token (codes ")") ∷ []) back in
      let (w, none, end, second, nothing) = split_next last (sign_token (codes ")")) [] ends in
      subst (λ l. Fits C l (x ∷ (u ++ y ∷ []))) (sym (is ∙ ap (λ l. v ∷ l) (parts ∙ ap (λ l. a ++ l) (end ∙ ap (λ l. w ∷ l) (none_spelled none nothing)))))
      (fits_enclosed C a u v w x y (is_written_sign (codes "(") v first) (is_written_sign (codes ")") w second) opening closing (f.at a front)));
}
