-- What makes a reader exact for a grammar, and one lemma for each combinator.
use Rattle.std.proofs.Common.{◌≡◌, ℕ, List, [], ◌∷◌, ◌++◌, length, Option, Some, None, Result, Ok, Err, Bool, true, false, refl, sym, ◌∙◌, ap, subst, inl, inr, append_assoc, append-nil, if◌then◌else◌}
use Rattle.grammar.specs.Grammar.{Grammar, done, one, both, either, Alive}
use Rattle.grammar.specs.Watch.{Watch, AllPass, joined, Passes, Within, Refuses, each_token}
use Rattle.grammar.specs.Reading.{Unexpected, Refused, OutOfTurns, Read, Reader, first, starts, gives, taken, take_one, bound, both_of, choose}

-- Watches: what pieces do together.

pub passes_nothing : {T R C : Type 0} (W : Watch T R C) (r : R) → Passes W r [] r
passes_nothing W r = record { pieces = []; parts = refl; pass = refl }

all_pass-append : {T R C : Type 0} (W : Watch T R C) (r m s : R) (us vs : List (List T)) → AllPass W r us m → AllPass W m vs s → AllPass W r (us ++ vs) s
all_pass-append W r m s [] vs h k = subst (λ x. AllPass W x vs s) h k
all_pass-append W r m s (u ∷ us) vs (n, p, h) k = (n, p, all_pass-append W n m s us vs h k)

joined-append : {T : Type 0} (us vs : List (List T)) → joined us ++ joined vs ≡ joined (us ++ vs)
joined-append [] vs = refl
joined-append (u ∷ us) vs = append_assoc u (joined us) (joined vs) ∙ ap (λ x. u ++ x) (joined-append us vs)

pub passes-append : {T R C : Type 0} (W : Watch T R C) (r m s : R) (u v : List T) → Passes W r u m → Passes W m v s → Passes W r (u ++ v) s
passes-append W r m s u v h k = record {
  pieces = h.pieces ++ k.pieces;
  parts = ap (λ x. x ++ v) h.parts ∙ ap (λ x. joined h.pieces ++ x) k.parts ∙ joined-append h.pieces k.pieces;
  pass = all_pass-append W r m s h.pieces k.pieces h.pass k.pass;
}

pub passes_one : {T R C : Type 0} (W : Watch T R C) (r s : R) (u : List T) → W.passes r u s → Passes W r u s
passes_one W r s u h = record { pieces = u ∷ []; parts = sym (append-nil u); pass = (s, h, refl) }

pub within_passes : {T R C : Type 0} (W : Watch T R C) (r s : R) (u : List T) → Passes W r u s → Within W r u
within_passes W r s u h = record { whole = u; begun = []; state = s; parts = sym (append-nil u); pass = h; begins = inl refl }

pub within_nothing : {T R C : Type 0} (W : Watch T R C) (r : R) → Within W r []
within_nothing W r = within_passes W r r [] (passes_nothing W r)

pub within-append : {T R C : Type 0} (W : Watch T R C) (r m : R) (u v : List T) → Passes W r u m → Within W m v → Within W r (u ++ v)
within-append W r m u v h k = record {
  whole = u ++ k.whole;
  begun = k.begun;
  state = k.state;
  parts = ap (λ x. u ++ x) k.parts ∙ sym (append_assoc u k.whole k.begun);
  pass = passes-append W r m k.state u k.whole h k.pass;
  begins = k.begins;
}

pub refuses-append : {T R C : Type 0} (W : Watch T R C) (r m : R) (u v : List T) (cause : C) → Passes W r u m → Refuses W m v cause → Refuses W r (u ++ v) cause
refuses-append W r m u v cause h k = record {
  whole = u ++ k.whole;
  piece = k.piece;
  state = k.state;
  parts = ap (λ x. u ++ x) k.parts ∙ sym (append_assoc u k.whole k.piece);
  pass = passes-append W r m k.state u k.whole h k.pass;
  refused = k.refused;
}

pub refuses_one : {T R C : Type 0} (W : Watch T R C) (r : R) (u : List T) (cause : C) → W.refuses r u cause → Refuses W r u cause
refuses_one W r u cause h = record { whole = []; piece = u; state = r; parts = refl; pass = passes_nothing W r; refused = h }

-- What a reader's answer says. `alone`: it depends on no more than the next token after what was read.

pub record IsRead {T R C A : Type 0} (G : Grammar T A) (W : Watch T R C) (P : Reader T R C A) (n : R) (ts : List T) (a : A) (m : R) (rest : List T) : Type 0 where
  pub text : List T
  pub parts : ts ≡ text ++ rest
  pub reads : G text a
  pub passes : Passes W n text m
  pub alone : (other : List T) → first other ≡ first rest → P n (text ++ other) ≡ Ok (a, m, other)

pub record IsStuck {T R C A : Type 0} (G : Grammar T A) (W : Watch T R C) (P : Reader T R C A) (n : R) (ts : List T) (left : ℕ) : Type 0 where
  pub text : List T
  pub rest : List T
  pub parts : ts ≡ text ++ rest
  pub left_is : left ≡ length rest
  pub alive : Alive G text
  pub within : Within W n text
  pub alone : (other : List T) → first other ≡ first rest → P n (text ++ other) ≡ Err (Unexpected (length other))

pub record IsStopped {T R C A : Type 0} (G : Grammar T A) (W : Watch T R C) (n : R) (ts : List T) (cause : C) : Type 0 where
  pub before : List T
  pub last : T
  pub rest : List T
  pub parts : ts ≡ before ++ last ∷ rest
  pub alive : Alive G (before ++ last ∷ [])
  pub refused : Refuses W n (before ++ last ∷ []) cause

unfoldable pub Outcome : {T R C A : Type 0} → Grammar T A → Watch T R C → Reader T R C A → R → List T → Read T R C A → Type 0
Outcome G W P n ts (Ok x) = IsRead G W P n ts x.0 x.1 x.2
Outcome G W P n ts (Err (Unexpected left)) = IsStuck G W P n ts left
Outcome G W P n ts (Err (Refused cause)) = IsStopped G W n ts cause
Outcome G W P n ts (Err OutOfTurns) = Unit {0}

-- an answer that takes a text with this tree before this rest for what it is, if nothing is refused
unfoldable pub Agrees : {T R C A : Type 0} → A → List T → Read T R C A → Type 0
Agrees a rest (Ok x) = (x.0 ≡ a) × (x.2 ≡ rest)
Agrees a rest (Err (Unexpected left)) = ⊥
Agrees a rest (Err (Refused cause)) = Unit {0}
Agrees a rest (Err OutOfTurns) = Unit {0}

-- The reader answers what G says, and takes the texts of H before the rests of Stops for what they are. G and H are one, but
-- in a recursion: there G has the texts of the reader's own depth, and H those of any.
pub record Exact {T R C A : Type 0} (W : Watch T R C) (G H : Grammar T A) (P : Reader T R C A) (Stops : List T → Type 0) : Type 0 where
  -- G has a text, which completes what was begun
  pub word : (w : List T) × (a : A) × G w a
  pub sound : (n : R) (ts : List T) → Outcome G W P n ts (P n ts)
  pub complete : (n : R) (u : List T) (a : A) (rest : List T) → H u a → Stops rest → Agrees {R = R} {C = C} a rest (P n (u ++ rest))

-- what ends by itself
abbrev pub Always : {T : Type 0} → List T → Type 0
Always rest = Unit {0}

-- before what doesn't begin with one of these
abbrev pub Not : {T : Type 0} → (T → Bool) → List T → Type 0
Not p rest = starts p rest ≡ false

-- Lists.

pub first-append : {T : Type 0} (v other rest : List T) → first other ≡ first rest → first (v ++ other) ≡ first (v ++ rest)
first-append [] other rest e = e
first-append (t ∷ v) other rest e = refl

pub starts_by_first : {T : Type 0} (p : T → Bool) (a b : List T) → first a ≡ first b → starts p a ≡ starts p b
starts_by_first p [] [] e = refl
starts_by_first p [] (t ∷ b) e = cc
starts_by_first p (t ∷ a) [] e = cc
starts_by_first p (t ∷ a) (s ∷ b) e = let h : t ≡ s = cc in ap p h

-- No token.

pub exact_gives : {T R C A : Type 0} (W : Watch T R C) (a : A) → Exact {T = T} W (done a) (done a) (gives a) Always
unfolding Outcome Agrees
exact_gives W a = record {
  word = ([], a, (refl, refl));
  sound = λ n ts. record { text = []; parts = refl; reads = (refl, refl); passes = passes_nothing W n; alone = λ other e. refl };
  complete = λ n u b rest h _. (sym h.1, ap (λ x. x ++ rest) h.0);
}

-- One token.

one_alive : {T A : Type 0} (pick : T → Option A) (sample : T) (value : A) → pick sample ≡ Some value → Alive (one pick) []
one_alive pick sample value e = (sample ∷ [], value, (sample, refl, e))

one_end : {T R C A : Type 0} (scan : R → T → Result R C) (pick : T → Option A) (n : R) (other : List T) → first other ≡ first [] → take_one scan pick n other ≡ Err (Unexpected (length other))
one_end scan pick n [] e = refl
one_end scan pick n (t ∷ other) e = cc

one_dead : {T R C A : Type 0} (scan : R → T → Result R C) (pick : T → Option A) (n : R) (t : T) → pick t ≡ None → (other : List T) → first other ≡ Some t → take_one scan pick n other ≡ Err (Unexpected (length other))
one_dead scan pick n t none [] e = cc
one_dead scan pick n t none (s ∷ other) e =
    let same : s ≡ t = cc in
    let gone : pick s ≡ None = ap pick same ∙ none in
    ap (λ o. taken o (scan n s) other) gone

one_sound : {T R C A : Type 0} (scan : R → T → Result R C) (pick : T → Option A) (sample : T) (value : A) → pick sample ≡ Some value → (n : R) (t : T) (ts : List T) (o : Option A) (r : Result R C) → pick t ≡ o → scan n t ≡ r → Outcome (one pick) (each_token scan) (take_one scan pick) n (t ∷ ts) (taken o r ts)
unfolding Outcome
one_sound scan pick sample value e n t ts None r picks scans = record {
  text = [];
  rest = t ∷ ts;
  parts = refl;
  left_is = refl;
  alive = one_alive pick sample value e;
  within = within_nothing (each_token scan) n;
  alone = one_dead scan pick n t picks;
}
one_sound scan pick sample value e n t ts (Some a) (Ok s) picks scans = record {
  text = t ∷ [];
  parts = refl;
  reads = (t, refl, picks);
  passes = passes_one (each_token scan) n s (t ∷ []) (t, refl, scans);
  alone = λ other _. ap (λ o. taken o (scan n t) other) picks ∙ ap (λ r. taken (Some a) r other) scans;
}
one_sound scan pick sample value e n t ts (Some a) (Err cause) picks scans = record {
  before = [];
  last = t;
  rest = ts;
  parts = refl;
  alive = ([], a, (t, refl, picks));
  refused = refuses_one (each_token scan) n (t ∷ []) cause (t, refl, scans);
}

one_sound_at : {T R C A : Type 0} (scan : R → T → Result R C) (pick : T → Option A) (sample : T) (value : A) → pick sample ≡ Some value → (n : R) (ts : List T) → Outcome (one pick) (each_token scan) (take_one scan pick) n ts (take_one scan pick n ts)
unfolding Outcome
one_sound_at scan pick sample value e n [] = record {
  text = [];
  rest = [];
  parts = refl;
  left_is = refl;
  alive = one_alive pick sample value e;
  within = within_nothing (each_token scan) n;
  alone = one_end scan pick n;
}
one_sound_at scan pick sample value e n (t ∷ ts) = one_sound scan pick sample value e n t ts (pick t) (scan n t) refl refl

taken_agrees : {T R C A : Type 0} (a : A) (rest : List T) (r : Result R C) → Agrees {R = R} {C = C} a rest (taken (Some a) r rest)
unfolding Agrees
taken_agrees a rest (Ok s) = (refl, refl)
taken_agrees a rest (Err cause) = tt

one_complete : {T R C A : Type 0} (scan : R → T → Result R C) (pick : T → Option A) (n : R) (u : List T) (a : A) (rest : List T) → one pick u a → Agrees {R = R} {C = C} a rest (take_one scan pick n (u ++ rest))
one_complete {R = R} {C = C} scan pick n u a rest (t, is, picks) =
    let at_token : Agrees {R = R} {C = C} a rest (take_one scan pick n (t ∷ rest)) = subst (λ o. Agrees {R = R} {C = C} a rest (taken o (scan n t) rest)) (sym picks) (taken_agrees a rest (scan n t)) in
    subst (λ x. Agrees {R = R} {C = C} a rest (take_one scan pick n (x ++ rest))) (sym is) at_token

-- a token, which pick takes; the sample is one that it takes
pub exact_one : {T R C A : Type 0} (scan : R → T → Result R C) (pick : T → Option A) (sample : T) (value : A) → pick sample ≡ Some value → Exact (each_token scan) (one pick) (one pick) (take_one scan pick) Always
exact_one scan pick sample value e = record {
  word = (sample ∷ [], value, (sample, refl, e));
  sound = one_sound_at scan pick sample value e;
  complete = λ n u a rest h _. one_complete scan pick n u a rest h;
}

-- One after the other.

both_alive : {T A B : Type 0} (G : Grammar T A) (K : A → Grammar T B) → ((a : A) → (w : List T) × (b : B) × K a w b) → (text : List T) → Alive G text → Alive (both G K) text
both_alive G K word text (more, a, h) =
    let (w, b, k) = word a in
    (more ++ w, b, (text ++ more, w, a, sym (append_assoc text more w), h, k))

alive_behind : {T A B : Type 0} (G : Grammar T A) (K : A → Grammar T B) (u : List T) (a : A) → G u a → (v : List T) → Alive (K a) v → Alive (both G K) (u ++ v)
alive_behind G K u a h v (more, b, k) = (more, b, (u, v ++ more, a, append_assoc u v more, h, k))

-- the second reader's outcome, behind a text of the first
both_behind : {T R C A B : Type 0} (W : Watch T R C) (G : Grammar T A) (K : A → Grammar T B) (P : Reader T R C A) (Q : A → Reader T R C B) (n : R) (ts : List T) (a : A) (m : R) (rest : List T) → IsRead G W P n ts a m rest → (r : Read T R C B) → Outcome (K a) W (Q a) m rest r → Outcome (both G K) W (both_of P Q) n ts r
unfolding Outcome
both_behind W G K P Q n ts a m rest f (Ok x) k = record {
  text = f.text ++ k.text;
  parts = f.parts ∙ ap (λ x. f.text ++ x) k.parts ∙ sym (append_assoc f.text k.text x.2);
  reads = (f.text, k.text, a, refl, f.reads, k.reads);
  passes = passes-append W n m x.1 f.text k.text f.passes k.passes;
  alone = λ other e.
      let front : first (k.text ++ other) ≡ first rest = first-append k.text other x.2 e ∙ ap first (sym k.parts) in
      ap (λ x. bound (P n x) Q) (append_assoc f.text k.text other) ∙ ap (λ r. bound r Q) (f.alone (k.text ++ other) front) ∙ k.alone other e;
}
both_behind W G K P Q n ts a m rest f (Err (Unexpected left)) k = record {
  text = f.text ++ k.text;
  rest = k.rest;
  parts = f.parts ∙ ap (λ x. f.text ++ x) k.parts ∙ sym (append_assoc f.text k.text k.rest);
  left_is = k.left_is;
  alive = alive_behind G K f.text a f.reads k.text k.alive;
  within = within-append W n m f.text k.text f.passes k.within;
  alone = λ other e.
      let front : first (k.text ++ other) ≡ first rest = first-append k.text other k.rest e ∙ ap first (sym k.parts) in
      ap (λ x. bound (P n x) Q) (append_assoc f.text k.text other) ∙ ap (λ r. bound r Q) (f.alone (k.text ++ other) front) ∙ k.alone other e;
}
both_behind W G K P Q n ts a m rest f (Err (Refused cause)) k = record {
  before = f.text ++ k.before;
  last = k.last;
  rest = k.rest;
  parts = f.parts ∙ ap (λ x. f.text ++ x) k.parts ∙ sym (append_assoc f.text k.before (k.last ∷ k.rest));
  alive = subst (Alive (both G K)) (sym (append_assoc f.text k.before (k.last ∷ []))) (alive_behind G K f.text a f.reads (k.before ++ k.last ∷ []) k.alive);
  refused = subst (λ x. Refuses W n x cause) (sym (append_assoc f.text k.before (k.last ∷ []))) (refuses-append W n m f.text (k.before ++ k.last ∷ []) cause f.passes k.refused);
}
both_behind W G K P Q n ts a m rest f (Err OutOfTurns) k = tt

both_sound : {T R C A B : Type 0} (W : Watch T R C) (G : Grammar T A) (K : A → Grammar T B) (P : Reader T R C A) (Q : A → Reader T R C B) → ((a : A) → (w : List T) × (b : B) × K a w b) → ((a : A) (n : R) (ts : List T) → Outcome (K a) W (Q a) n ts (Q a n ts)) → (n : R) (ts : List T) (r : Read T R C A) → Outcome G W P n ts r → Outcome (both G K) W (both_of P Q) n ts (bound r Q)
unfolding Outcome
both_sound W G K P Q word k n ts (Ok x) f = both_behind W G K P Q n ts x.0 x.1 x.2 f (Q x.0 x.1 x.2) (k x.0 x.1 x.2)
both_sound W G K P Q word k n ts (Err (Unexpected left)) f = record {
  text = f.text;
  rest = f.rest;
  parts = f.parts;
  left_is = f.left_is;
  alive = both_alive G K word f.text f.alive;
  within = f.within;
  alone = λ other e. ap (λ r. bound r Q) (f.alone other e);
}
both_sound W G K P Q word k n ts (Err (Refused cause)) f = record {
  before = f.before;
  last = f.last;
  rest = f.rest;
  parts = f.parts;
  alive = both_alive G K word (f.before ++ f.last ∷ []) f.alive;
  refused = f.refused;
}
both_sound W G K P Q word k n ts (Err OutOfTurns) f = tt

both_agrees : {T R C A B : Type 0} (Q : A → Reader T R C B) (a : A) (b : B) (middle rest : List T) → ((m : R) → Agrees {R = R} {C = C} b rest (Q a m middle)) → (r : Read T R C A) → Agrees a middle r → Agrees b rest (bound r Q)
unfolding Agrees
both_agrees {R = R} {C = C} Q a b middle rest k (Ok x) h = subst (λ y. Agrees {R = R} {C = C} b rest (Q y x.1 x.2)) (sym h.0) (subst (λ y. Agrees {R = R} {C = C} b rest (Q a x.1 y)) (sym h.1) (k x.1))
both_agrees Q a b middle rest k (Err (Unexpected left)) h = absurd h
both_agrees Q a b middle rest k (Err (Refused cause)) h = tt
both_agrees Q a b middle rest k (Err OutOfTurns) h = tt

-- one reader and then another, where what the second reads and what follows it are rests of the first
pub exact_both : {T R C A B : Type 0} {W : Watch T R C} {G H : Grammar T A} {K L : A → Grammar T B} {P : Reader T R C A} {Q : A → Reader T R C B} {S S' : List T → Type 0} → Exact W G H P S → ((a : A) → Exact W (K a) (L a) (Q a) S') → ((a : A) (v : List T) (b : B) (rest : List T) → L a v b → S' rest → S (v ++ rest)) → Exact W (both G K) (both H L) (both_of P Q) S'
exact_both {R = R} {C = C} {W = W} {G = G} {K = K} {P = P} {Q = Q} e k follow = record {
  word = (let (u, a, h) = e.word in let (v, b, l) = (k a).word in (u ++ v, b, (u, v, a, refl, h, l)));
  sound = λ n ts. both_sound W G K P Q (λ a. (k a).word) (λ a. (k a).sound) n ts (P n ts) (e.sound n ts);
  complete = λ n w b rest (u, v, a, parts, h, l) stops.
      let middle : w ++ rest ≡ u ++ (v ++ rest) = ap (λ x. x ++ rest) parts ∙ append_assoc u v rest in
      let agreed : Agrees {R = R} {C = C} a (v ++ rest) (P n (u ++ (v ++ rest))) = e.complete n u a (v ++ rest) h (follow a v b rest l stops) in
      subst (λ x. Agrees {R = R} {C = C} b rest (bound (P n x) Q)) (sym middle) (both_agrees Q a b (v ++ rest) rest (λ m. (k a).complete m v b rest l stops) (P n (u ++ (v ++ rest))) agreed);
}

-- what ends by itself, and then another
pub exact_then : {T R C A B : Type 0} {W : Watch T R C} {G H : Grammar T A} {K L : A → Grammar T B} {P : Reader T R C A} {Q : A → Reader T R C B} {S : List T → Type 0} → Exact W G H P Always → ((a : A) → Exact W (K a) (L a) (Q a) S) → Exact W (both G K) (both H L) (both_of P Q) S
exact_then e k = exact_both e k (λ a v b rest l stops. tt)

-- The same reader for another grammar, or before fewer rests.

outcome_by : {T R C A : Type 0} (W : Watch T R C) (G G' : Grammar T A) (P P' : Reader T R C A) (n : R) (ts : List T) → ((u : List T) (a : A) → G u a → G' u a) → ((text other rest : List T) → ts ≡ text ++ rest → first other ≡ first rest → P' n (text ++ other) ≡ P n (text ++ other)) → (r : Read T R C A) → Outcome G W P n ts r → Outcome G' W P' n ts r
unfolding Outcome
outcome_by W G G' P P' n ts into same (Ok x) f = record {
  text = f.text;
  parts = f.parts;
  reads = into f.text x.0 f.reads;
  passes = f.passes;
  alone = λ other e. same f.text other x.2 f.parts e ∙ f.alone other e;
}
outcome_by W G G' P P' n ts into same (Err (Unexpected left)) f = record {
  text = f.text;
  rest = f.rest;
  parts = f.parts;
  left_is = f.left_is;
  alive = (let (more, a, h) = f.alive in (more, a, into (f.text ++ more) a h));
  within = f.within;
  alone = λ other e. same f.text other f.rest f.parts e ∙ f.alone other e;
}
outcome_by W G G' P P' n ts into same (Err (Refused cause)) f = record {
  before = f.before;
  last = f.last;
  rest = f.rest;
  parts = f.parts;
  alive = (let (more, a, h) = f.alive in (more, a, into ((f.before ++ f.last ∷ []) ++ more) a h));
  refused = f.refused;
}
outcome_by W G G' P P' n ts into same (Err OutOfTurns) f = tt

-- another grammar with the same texts
pub exact_by : {T R C A : Type 0} {W : Watch T R C} {G H G' H' : Grammar T A} {P : Reader T R C A} {S : List T → Type 0} → ((u : List T) (a : A) → G u a → G' u a) → ((u : List T) (a : A) → H' u a → H u a) → Exact W G H P S → Exact W G' H' P S
exact_by {W = W} {G = G} {G' = G'} {P = P} into back e = record {
  word = (let (w, a, h) = e.word in (w, a, into w a h));
  sound = λ n ts. outcome_by W G G' P P n ts into (λ text other rest _ _. refl) (P n ts) (e.sound n ts);
  complete = λ n u a rest h stops. e.complete n u a rest (back u a h) stops;
}

-- before fewer rests
pub exact_before : {T R C A : Type 0} {W : Watch T R C} {G H : Grammar T A} {P : Reader T R C A} {S S' : List T → Type 0} → ((rest : List T) → S' rest → S rest) → Exact W G H P S → Exact W G H P S'
exact_before weaker e = record {
  word = e.word;
  sound = e.sound;
  complete = λ n u a rest h stops. e.complete n u a rest h (weaker rest stops);
}

-- a tree is made of what was read
pub exact_made : {T R C A B : Type 0} {W : Watch T R C} {G H : Grammar T A} {P : Reader T R C A} {S : List T → Type 0} (make : A → B) → Exact W G H P S → Exact W (both G (λ a. done (make a))) (both H (λ a. done (make a))) (both_of P (λ a. gives (make a))) S
exact_made {W = W} {S = S} make e = exact_both e (λ a. exact_before (λ _ _. tt) (exact_gives W (make a))) (λ a v b rest nothing stops. subst (λ x. S (x ++ rest)) (sym nothing.0) stops)

-- By the next token.

starts_within : {T : Type 0} (p : T → Bool) (ts text other rest : List T) → ts ≡ text ++ rest → first other ≡ first rest → starts p (text ++ other) ≡ starts p ts
starts_within p ts text other rest parts e = starts_by_first p (text ++ other) ts (first-append text other rest e ∙ ap first (sym parts))

chosen : {T R C A : Type 0} (b : Bool) (x y : Read T R C A) (c : Bool) → b ≡ c → (if b then x else y) ≡ (if c then x else y)
chosen b x y c e = ap (λ d. if d then x else y) e

choose_sound : {T R C A : Type 0} (W : Watch T R C) (p : T → Bool) (G G' : Grammar T A) (P Q : Reader T R C A) (n : R) (ts : List T) (b : Bool) → starts p ts ≡ b → Outcome G W P n ts (P n ts) → Outcome G' W Q n ts (Q n ts) → Outcome (either G G') W (choose p P Q) n ts (if b then P n ts else Q n ts)
choose_sound W p G G' P Q n ts true e f g = outcome_by W G (either G G') P (choose p P Q) n ts (λ u a h. inl h) (λ text other rest parts same. chosen (starts p (text ++ other)) (P n (text ++ other)) (Q n (text ++ other)) true (starts_within p ts text other rest parts same ∙ e)) (P n ts) f
choose_sound W p G G' P Q n ts false e f g = outcome_by W G' (either G G') Q (choose p P Q) n ts (λ u a h. inr h) (λ text other rest parts same. chosen (starts p (text ++ other)) (P n (text ++ other)) (Q n (text ++ other)) false (starts_within p ts text other rest parts same ∙ e)) (Q n ts) g

agrees_at : {T R C A : Type 0} (a : A) (rest : List T) (b c : Bool) (x y : Read T R C A) → b ≡ c → Agrees a rest (if c then x else y) → Agrees a rest (if b then x else y)
agrees_at {R = R} {C = C} a rest b c x y e h = subst (λ d. Agrees {R = R} {C = C} a rest (if d then x else y)) (sym e) h

-- the general form: the next token tells which of the two it is
pub exact_choose : {T R C A : Type 0} {W : Watch T R C} {G H G' H' : Grammar T A} {P Q : Reader T R C A} {S S' S'' : List T → Type 0} (p : T → Bool) → Exact W G H P S → Exact W G' H' Q S' → ((u : List T) (a : A) (rest : List T) → H u a → S'' rest → (starts p (u ++ rest) ≡ true) × S rest) → ((u : List T) (a : A) (rest : List T) → H' u a → S'' rest → (starts p (u ++ rest) ≡ false) × S' rest) → Exact W (either G G') (either H H') (choose p P Q) S''
exact_choose {W = W} {G = G} {H = H} {G' = G'} {H' = H'} {P = P} {Q = Q} {S'' = S''} p e e' first_one other_one = record {
  word = (let (w, a, h) = e.word in (w, a, inl h));
  sound = λ n ts. choose_sound W p G G' P Q n ts (starts p ts) refl (e.sound n ts) (e'.sound n ts);
  complete = λ n u a rest h stops. complete_at n u a rest stops h;
} where
  complete_at : (n : _) (u : List _) (a : _) (rest : List _) → S'' rest → either H H' u a → Agrees a rest (choose p P Q n (u ++ rest))
  complete_at n u a rest stops (inl h) = let (t, s) = first_one u a rest h stops in agrees_at a rest (starts p (u ++ rest)) true (P n (u ++ rest)) (Q n (u ++ rest)) t (e.complete n u a rest h s)
  complete_at n u a rest stops (inr h) = let (t, s) = other_one u a rest h stops in agrees_at a rest (starts p (u ++ rest)) false (P n (u ++ rest)) (Q n (u ++ rest)) t (e'.complete n u a rest h s)

-- Readers that answer the same.

pub exact_same : {T R C A : Type 0} {W : Watch T R C} {G H : Grammar T A} {P Q : Reader T R C A} {S : List T → Type 0} → ((n : R) (ts : List T) → P n ts ≡ Q n ts) → Exact W G H P S → Exact W G H Q S
exact_same {W = W} {G = G} {P = P} {Q = Q} same e = record {
  word = e.word;
  sound = λ n ts. outcome_by W G G P Q n ts (λ u a h. h) (λ text other rest parts e. sym (same n (text ++ other))) (Q n ts) (subst (Outcome G W P n ts) (same n ts) (e.sound n ts));
  complete = λ n u a rest h stops. subst (Agrees a rest) (same n (u ++ rest)) (e.complete n u a rest h stops);
}
