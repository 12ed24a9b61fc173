-- Grammars whose texts end at one place and have one tree, where the watch lets them and what follows pass.
use Rattle.std.proofs.Common.{◌≡◌, ℕ, suc, List, [], ◌∷◌, ◌++◌, length, Option, Some, Result, Ok, Err, Bool, true, false, refl, sym, ◌∙◌, ap, subst, inl, inr, append_assoc, arith}
use Rattle.grammar.specs.Grammar.{Grammar, done, one, both, either, many}
use Rattle.grammar.specs.Watch.{AllPass, joined, Passes, each_token}
use Rattle.grammar.specs.Reading.{Unexpected, Refused, OutOfTurns, Read, Reader, starts}
use Rattle.grammar.proofs.Begins.{Begins, starts_text}
use Rattle.grammar.proofs.Cuts.{no_token, token_cuts, passes_not_refused, same_head as same_token}
use Rattle.grammar.proofs.Exact.{Exact, Outcome, Agrees, Always, Not}
use Rattle.grammar.proofs.Many.{IsSettled}
use Rattle.rule_text_laws.proofs.SettlesBelow.{SettlesBelow, settled_of}
use Rattle.std.proofs.lemmas.Option.{same_Some as same_pick}

-- Behind a front of what passes the rest passes.

same_tail : {T : Type 0} (t s : T) (w z : List T) → t ∷ w ≡ s ∷ z → w ≡ z
same_tail t s w z e = cc

behind_piece : {T R C : Type 0} (scan : R → T → Result R C) (n m : R) (t : T) (w : List T) (ps : List (List T)) → t ∷ w ≡ joined ps → AllPass (each_token scan) n ps m → (k : R) × Passes (each_token scan) k w m
behind_piece scan n m t w [] e h = absurd (no_token t w (sym e))
behind_piece scan n m t w (p ∷ ps) e (k, (s, is, _), h) = (k, record { pieces = ps; parts = same_tail t s w (joined ps) (e ∙ ap (λ z. z ++ joined ps) is); pass = h })

behind_front : {T R C : Type 0} (scan : R → T → Result R C) (n m : R) (u v : List T) → Passes (each_token scan) n (u ++ v) m → (k : R) × Passes (each_token scan) k v m
behind_front scan n m [] v h = (n, h)
behind_front scan n m (t ∷ u) v h = let (k, g) = behind_piece scan n m t (u ++ v) h.pieces h.parts h.pass in behind_front scan k m u v g

-- Two texts of G at one place, before rests in S, are one.
pub record OneTree {T R C A : Type 0} (scan : R → T → Result R C) (G : Grammar T A) (S : List T → Type 0) : Type 0 where
  pub at : (n m : R) (u r v s : List T) (x y : A) → Passes (each_token scan) n (u ++ r) m → u ++ r ≡ v ++ s → G u x → G v y → S r → S s → (x ≡ y) × (r ≡ s)

-- From readers that are exact, and one for each length that settles below it.

read_once : {T R C A : Type 0} (scan : R → T → Result R C) (G : Grammar T A) (P : Reader T R C A) (n m : R) (ts r s : List T) (x y : A) → Passes (each_token scan) n ts m → (read : Read T R C A) → Outcome G (each_token scan) P n ts read → IsSettled read → Agrees x r read → Agrees y s read → (x ≡ y) × (r ≡ s)
unfolding Outcome Agrees
read_once scan G P n m ts r s x y passes (Ok z) f settled h g = (sym h.0 ∙ g.0, sym h.1 ∙ g.1)
read_once scan G P n m ts r s x y passes (Err (Unexpected left)) f settled h g = absurd h
read_once scan G P n m ts r s x y passes (Err (Refused c)) f settled h g = absurd (passes_not_refused (each_token scan) (token_cuts scan) n m c ts (f.before ++ f.last ∷ []) f.rest passes f.refused (f.parts ∙ sym (append_assoc f.before (f.last ∷ []) f.rest)))
read_once scan G P n m ts r s x y passes (Err OutOfTurns) f settled h g = absurd settled

pub once_read : {T R C A : Type 0} {scan : R → T → Result R C} {G : Grammar T A} {S : List T → Type 0} (P : ℕ → Reader T R C A) → ((k : ℕ) → Exact (each_token scan) G G (P k) S) → ((k : ℕ) → SettlesBelow k (P k)) → OneTree scan G S
once_read {T = T} {R = R} {C = C} {A = A} {scan = scan} {G = G} {S = S} P exact below = record { at = at } where
  at : (n m : R) (u r v s : List T) (x y : A) → Passes (each_token scan) n (u ++ r) m → u ++ r ≡ v ++ s → G u x → G v y → S r → S s → (x ≡ y) × (r ≡ s)
  at n m u r v s x y passes e h g stops ends =
      let k : ℕ = suc (length (u ++ r)) in
      let first : Agrees {R = R} {C = C} x r (P k n (u ++ r)) = (exact k).complete n u x r h stops in
      let second : Agrees {R = R} {C = C} y s (P k n (u ++ r)) = subst (λ z. Agrees {R = R} {C = C} y s (P k n z)) (sym e) ((exact k).complete n v y s g ends) in
      read_once scan G (P k) n m (u ++ r) r s x y passes (P k n (u ++ r)) ((exact k).sound n (u ++ r)) (settled_of (length (u ++ r)) (P k n (u ++ r)) ((below k).at n (u ++ r) (omega arith))) first second

-- The forms of grammars.

pub once_one : {T R C A : Type 0} {scan : R → T → Result R C} (pick : T → Option A) → OneTree scan (one pick) Always
once_one {T = T} {R = R} {A = A} {scan = scan} pick = record { at = λ n m u r v s x y passes e (t, is, picks) (q, same, takes) _ _. at r s x y t q (ap (λ z. z ++ r) (sym is) ∙ e ∙ ap (λ z. z ++ s) same) picks takes } where
  at : (r s : List T) (x y : A) (t q : T) → t ∷ r ≡ q ∷ s → pick t ≡ Some x → pick q ≡ Some y → (x ≡ y) × (r ≡ s)
  at r s x y t q e picks takes = let (token, rest) = same_token t q r s e in (same_pick x y (sym picks ∙ ap pick token ∙ takes), rest)

pub once_done : {T R C A : Type 0} {scan : R → T → Result R C} {S : List T → Type 0} (a : A) → OneTree scan (done a) S
once_done a = record { at = λ n m u r v s x y passes e (none, is) (nothing, same) _ _. (is ∙ sym same, ap (λ z. z ++ r) (sym none) ∙ e ∙ ap (λ z. z ++ s) nothing) }

pub once_before : {T R C A : Type 0} {scan : R → T → Result R C} {G : Grammar T A} {S S' : List T → Type 0} → ((rest : List T) → S' rest → S rest) → OneTree scan G S → OneTree scan G S'
once_before weaker e = record { at = λ n m u r v s x y passes is h g stops ends. e.at n m u r v s x y passes is h g (weaker r stops) (weaker s ends) }

-- one after the other
module _ {T R C A B : Type 0} {scan : R → T → Result R C} {G : Grammar T A} {K : A → Grammar T B} {S S' : List T → Type 0} (g : OneTree scan G S) (k : (a : A) → OneTree scan (K a) S') (follow : (a : A) (v : List T) (b : B) (rest : List T) → K a v b → S' rest → S (v ++ rest)) where
  both_at : (n m : R) (u r v s : List T) (x y : B) → Passes (each_token scan) n (u ++ r) m → u ++ r ≡ v ++ s → both G K u x → both G K v y → S' r → S' s → (x ≡ y) × (r ≡ s)
  both_at n m u r v s x y passes e (u1, u2, a, parts, h, l) (v1, v2, b, pieces, i, j) stops ends =
      let left : u ++ r ≡ u1 ++ (u2 ++ r) = ap (λ z. z ++ r) parts ∙ append_assoc u1 u2 r in
      let right : v ++ s ≡ v1 ++ (v2 ++ s) = ap (λ z. z ++ s) pieces ∙ append_assoc v1 v2 s in
      let passing : Passes (each_token scan) n (u1 ++ (u2 ++ r)) m = subst (λ z. Passes (each_token scan) n z m) left passes in
      let (tree, rest) = g.at n m u1 (u2 ++ r) v1 (v2 ++ s) a b passing (sym left ∙ e ∙ right) h i (follow a u2 x r l stops) (follow b v2 y s j ends) in
      let (p, behind) = behind_front scan n m u1 (u2 ++ r) passing in
      (k a).at p m u2 r v2 s x y behind rest l (subst (λ z. K z v2 y) (sym tree) j) stops ends

  pub once_both : OneTree scan (both G K) S'
  once_both = record { at = both_at }

pub once_then : {T R C A B : Type 0} {scan : R → T → Result R C} {G : Grammar T A} {K : A → Grammar T B} {S : List T → Type 0} → OneTree scan G Always → ((a : A) → OneTree scan (K a) S) → OneTree scan (both G K) S
once_then g k = once_both g k (λ a v b rest l stops. tt)

-- a text of G before what doesn't go on with it
pub once_before_next : {T R C A B : Type 0} {scan : R → T → Result R C} {G : Grammar T A} {K : A → Grammar T B} {p : T → Bool} {S : List T → Type 0} → OneTree scan G (Not p) → ((a : A) → OneTree scan (K a) S) → ((a : A) → Begins (K a) p false) → OneTree scan (both G K) S
once_before_next g k begins = once_both g k (λ a v b rest l stops. starts_text (begins a) v b rest l)

contrary : {T : Type 0} (test : List T → Bool) (u v : List T) → u ≡ v → test u ≡ true → test v ≡ false → ⊥
contrary test u v e h k = let f : true ≡ false = sym h ∙ ap test e ∙ k in cc

-- one or the other, as the test tells
module _ {T R C A : Type 0} {scan : R → T → Result R C} {G H : Grammar T A} {S S' S'' : List T → Type 0} (test : List T → Bool) (g : OneTree scan G S) (h : OneTree scan H S') (first_one : (u : List T) (a : A) (rest : List T) → G u a → S'' rest → (test (u ++ rest) ≡ true) × S rest) (other_one : (u : List T) (a : A) (rest : List T) → H u a → S'' rest → (test (u ++ rest) ≡ false) × S' rest) where
  either_at : (n m : R) (u r v s : List T) (x y : A) → Passes (each_token scan) n (u ++ r) m → u ++ r ≡ v ++ s → either G H u x → either G H v y → S'' r → S'' s → (x ≡ y) × (r ≡ s)
  either_at n m u r v s x y passes e (inl i) (inl j) stops ends = let (_, a) = first_one u x r i stops in let (_, b) = first_one v y s j ends in g.at n m u r v s x y passes e i j a b
  either_at n m u r v s x y passes e (inl i) (inr j) stops ends = let (a, _) = first_one u x r i stops in let (b, _) = other_one v y s j ends in absurd (contrary test (u ++ r) (v ++ s) e a b)
  either_at n m u r v s x y passes e (inr i) (inl j) stops ends = let (a, _) = other_one u x r i stops in let (b, _) = first_one v y s j ends in absurd (contrary test (v ++ s) (u ++ r) (sym e) b a)
  either_at n m u r v s x y passes e (inr i) (inr j) stops ends = let (_, a) = other_one u x r i stops in let (_, b) = other_one v y s j ends in h.at n m u r v s x y passes e i j a b

  pub once_either : OneTree scan (either G H) S''
  once_either = record { at = either_at }

-- two rules of which the first begins with one of these, and the second doesn't
pub once_or : {T R C A : Type 0} {scan : R → T → Result R C} {G H : Grammar T A} {S : List T → Type 0} (p : T → Bool) → Begins G p true → Begins H p false → OneTree scan G S → OneTree scan H S → OneTree scan (either G H) S
once_or p begins begins' g h = once_either (starts p) g h (λ u a rest i stops. (starts_text begins u a rest i, stops)) (λ u a rest i stops. (starts_text begins' u a rest i, stops))

-- a rule that begins with one of these, or no token
pub once_option : {T R C A : Type 0} {scan : R → T → Result R C} {G : Grammar T A} (p : T → Bool) (a : A) → Begins G p true → OneTree scan G Always → OneTree scan (either G (done a)) (Not p)
once_option p a begins g = once_either {S' = Always} (starts p) g (once_done a) (λ u b rest i stops. (starts_text begins u b rest i, tt)) (λ u b rest i stops. (ap (λ z. starts p (z ++ rest)) i.0 ∙ stops, tt))

-- any number of them, where what is repeated may itself go on
module _ {T R C A : Type 0} {scan : R → T → Result R C} {G : Grammar T A} {S S' : List T → Type 0} (p : T → Bool) (begins : Begins G p true) (stop : (rest : List T) → S' rest → Not p rest) (follow : (list : List A) (v rest : List T) → many G v list → S' rest → S (v ++ rest)) (g : OneTree scan G S) where
  begun : (u r : List T) (a : A) (list : List A) → many G u (a ∷ list) → starts p (u ++ r) ≡ true
  begun u r a list (v, w, parts, h, _) = ap (λ z. starts p (z ++ r)) parts ∙ ap (starts p) (append_assoc v w r) ∙ starts_text begins v a (w ++ r) h

  many_at : (xs ys : List A) (n m : R) (u r v s : List T) → Passes (each_token scan) n (u ++ r) m → u ++ r ≡ v ++ s → many G u xs → many G v ys → S' r → S' s → (xs ≡ ys) × (r ≡ s)
  many_at [] [] n m u r v s passes e h j stops ends = (refl, ap (λ z. z ++ r) (sym h) ∙ e ∙ ap (λ z. z ++ s) j)
  many_at [] (b ∷ ys) n m u r v s passes e h j stops ends = absurd (contrary (starts p) (v ++ s) (u ++ r) (sym e) (begun v s b ys j) (ap (λ z. starts p (z ++ r)) h ∙ stop r stops))
  many_at (a ∷ xs) [] n m u r v s passes e h j stops ends = absurd (contrary (starts p) (u ++ r) (v ++ s) e (begun u r a xs h) (ap (λ z. starts p (z ++ s)) j ∙ stop s ends))
  many_at (a ∷ xs) (b ∷ ys) n m u r v s passes e (u1, u2, parts, h, l) (v1, v2, pieces, i, j) stops ends =
      let left : u ++ r ≡ u1 ++ (u2 ++ r) = ap (λ z. z ++ r) parts ∙ append_assoc u1 u2 r in
      let right : v ++ s ≡ v1 ++ (v2 ++ s) = ap (λ z. z ++ s) pieces ∙ append_assoc v1 v2 s in
      let passing : Passes (each_token scan) n (u1 ++ (u2 ++ r)) m = subst (λ z. Passes (each_token scan) n z m) left passes in
      let (tree, rest) = g.at n m u1 (u2 ++ r) v1 (v2 ++ s) a b passing (sym left ∙ e ∙ right) h i (follow xs u2 r l stops) (follow ys v2 s j ends) in
      let (k, behind) = behind_front scan n m u1 (u2 ++ r) passing in
      let (trees, last) = many_at xs ys k m u2 r v2 s behind rest l j stops ends in
      (ap (λ z. z ∷ xs) tree ∙ ap (λ z. b ∷ z) trees, last)

  pub once_many : OneTree scan (many G) S'
  once_many = record { at = λ n m u r v s xs ys passes e h j stops ends. many_at xs ys n m u r v s passes e h j stops ends }
