-- From an exact reader to what a parser answers.
use Rattle.std.proofs.Common.{◌≡◌, ℕ, List, [], ◌∷◌, ◌++◌, length, Ok, Err, refl, sym, ◌∙◌, ap, subst, append-nil, append_assoc, Some, None, drop, ◌-◌, arith, length-append}
use Rattle.std.proofs.Math.Seq.{drop-append_seam}
use Rattle.grammar.specs.Grammar.{Grammar, done, both}
use Rattle.grammar.specs.Watch.{Watch}
use Rattle.grammar.specs.Fault.{IsText, Fails, place_at, IsSyntax, IsRefused}
use Rattle.grammar.specs.Reading.{Unexpected, Refused, Reader, first, finish, whole}
use Rattle.grammar.proofs.Exact.{Exact, Outcome, IsRead, IsStuck, IsStopped, Agrees, passes_nothing, within_nothing, exact_by, exact_both, exact_before, exact_gives}

-- A text that goes on is read to its end, so nothing stops its reader before.

never_stuck : {T R C A : Type 0} {W : Watch T R C} {G : Grammar T A} {P : Reader T R C A} {S : List T → Type 0} → Exact W G G P S → S [] → (n : R) (text other : List T) (tree : A) → P n (text ++ other) ≡ Err (Unexpected (length other)) → G (text ++ other) tree → ⊥
unfolding Agrees
never_stuck {C = C} {P = P} e nothing n text other tree stuck h =
    let agreed : Agrees {C = C} tree [] (P n ((text ++ other) ++ [])) = e.complete n (text ++ other) tree [] h nothing in
    subst (Agrees {C = C} tree []) (ap (P n) (append-nil (text ++ other)) ∙ stuck) agreed

never_short : {T R C A : Type 0} {W : Watch T R C} {G : Grammar T A} {P : Reader T R C A} {S : List T → Type 0} → Exact W G G P S → S [] → (n m : R) (text other : List T) (tree a : A) → P n (text ++ other) ≡ Ok (a, m, other) → G (text ++ other) tree → other ≡ []
unfolding Agrees
never_short {C = C} {P = P} e nothing n m text other tree a short h =
    let agreed : Agrees {C = C} tree [] (P n ((text ++ other) ++ [])) = e.complete n (text ++ other) tree [] h nothing in
    let at_end : (a ≡ tree) × (other ≡ []) = subst (Agrees {C = C} tree []) (ap (P n) (append-nil (text ++ other)) ∙ short) agreed in
    at_end.1

stuck_fails : {T R C A : Type 0} {W : Watch T R C} {G : Grammar T A} {P : Reader T R C A} {S : List T → Type 0} → Exact W G G P S → S [] → (n : R) (text rest : List T) → ((other : List T) → first other ≡ first rest → P n (text ++ other) ≡ Err (Unexpected (length other))) → Fails G text rest
stuck_fails {G = G} e nothing n text [] alone = λ tree h. never_stuck e nothing n text [] tree (alone [] refl) (subst (λ x. G x tree) (sym (append-nil text)) h)
stuck_fails {G = G} e nothing n text (t ∷ rest) alone = λ (more, tree, h). never_stuck e nothing n text (t ∷ more) tree (alone (t ∷ more) refl) (subst (λ x. G x tree) (append_assoc text (t ∷ []) more) h)

pub short_fails : {T R C A : Type 0} {W : Watch T R C} {G : Grammar T A} {P : Reader T R C A} {S : List T → Type 0} → Exact W G G P S → S [] → (n m : R) (a : A) (text : List T) (t : T) (rest : List T) → ((other : List T) → first other ≡ Some t → P n (text ++ other) ≡ Ok (a, m, other)) → Fails G text (t ∷ rest)
short_fails {G = G} e nothing n m a text t rest alone = λ (more, tree, h).
    let over : t ∷ more ≡ [] = never_short e nothing n m text (t ∷ more) tree a (alone (t ∷ more) refl) (subst (λ x. G x tree) (append_assoc text (t ∷ []) more) h) in
    cc over

left_behind : {T : Type 0} (text rest : List T) (left : ℕ) → left ≡ length rest → drop (length (text ++ rest) - left) (text ++ rest) ≡ rest
left_behind text rest left e =
    let place : length (text ++ rest) - left ≡ length text = omega (arith, length-append text rest, e) in
    ap (λ n. drop n (text ++ rest)) place ∙ drop-append_seam text rest

-- Where a reader of a text's beginning stops: the fault is one of the grammar, at the place of the token there.
pub stuck_told : {T Q R C A : Type 0} {W : Watch T R C} {G : Grammar T A} {P : Reader T R C A} {S : List T → Type 0} → Exact W G G P S → S [] → (place : T → Q) (end : Q) (n : R) (ts : List T) (left : ℕ) → P n ts ≡ Err (Unexpected left) → IsSyntax place G W n ts end (place_at place end (drop (length ts - left) ts))
unfolding Outcome
stuck_told {W = W} {G = G} {P = P} e nothing place end n ts left stuck =
    let f : IsStuck G W P n ts left = subst (Outcome G W P n ts) stuck (e.sound n ts) in
    record {
      before = f.text;
      rest = f.rest;
      parts = f.parts;
      place = ap (place_at place end) (ap (λ x. drop (length x - left) x) f.parts ∙ left_behind f.text f.rest left f.left_is);
      alive = f.alive;
      within = f.within;
      fails = stuck_fails e nothing n f.text f.rest f.alone;
    }

pub refused_told : {T R C A : Type 0} {W : Watch T R C} {G : Grammar T A} {P : Reader T R C A} {S : List T → Type 0} → Exact W G G P S → (n : R) (ts : List T) (cause : C) → P n ts ≡ Err (Refused cause) → IsRefused G W n ts cause
unfolding Outcome
refused_told {W = W} {G = G} {P = P} e n ts cause stopped =
    let f : IsStopped G W n ts cause = subst (Outcome G W P n ts) stopped (e.sound n ts) in
    record { before = f.before; last = f.last; rest = f.rest; parts = f.parts; alive = f.alive; refused = f.refused }

-- What is read of a text's beginning.
pub read_told : {T R C A : Type 0} {W : Watch T R C} {G : Grammar T A} {P : Reader T R C A} {S : List T → Type 0} → Exact W G G P S → (n : R) (ts : List T) (a : A) (m : R) (rest : List T) → P n ts ≡ Ok (a, m, rest) → (text : List T) × (ts ≡ text ++ rest) × IsText G W n text a m
unfolding Outcome
read_told {W = W} {G = G} {P = P} e n ts a m rest read =
    let f : IsRead G W P n ts a m rest = subst (Outcome G W P n ts) read (e.sound n ts) in
    (f.text, f.parts, record { text = f.reads; passes = f.passes })

-- A whole text.

end_fails : {T R C : Type 0} (n : R) (t : T) (other : List T) → first other ≡ Some t → finish {C = C} n other ≡ Err (Unexpected (length other))
end_fails n t [] e = cc
end_fails n t (s ∷ other) e = refl

end_is : {T R C : Type 0} (n : R) (other : List T) → first other ≡ None → finish {C = C} n other ≡ Ok (tt, n, other)
end_is n [] e = refl
end_is n (s ∷ other) e = cc

end_sound : {T R C : Type 0} (W : Watch T R C) (n : R) (ts : List T) → Outcome (done tt) W finish n ts (finish n ts)
unfolding Outcome
end_sound W n [] = record { text = []; parts = refl; reads = (refl, refl); passes = passes_nothing W n; alone = λ other e. end_is n other e }
end_sound W n (t ∷ ts) = record {
  text = [];
  rest = t ∷ ts;
  parts = refl;
  left_is = refl;
  alive = ([], tt, (refl, refl));
  within = within_nothing W n;
  alone = λ other e. end_fails n t other e;
}

-- the end of the text
abbrev pub AtEnd : {T : Type 0} → List T → Type 0
AtEnd rest = rest ≡ []

end_complete : {T R : Type 0} (C : Type 0) (n : R) (u rest : List T) → u ≡ [] → rest ≡ [] → Agrees {R = R} {C = C} tt rest (finish n (u ++ rest))
unfolding Agrees
end_complete {R = R} C n u rest e f = subst (λ x. Agrees {R = R} {C = C} tt rest (finish n (x ++ rest))) (sym e) (subst (λ x. Agrees {R = R} {C = C} tt x (finish n x)) (sym f) (refl, refl))

pub exact_finish : {T R C : Type 0} (W : Watch T R C) → Exact W (done tt) (done tt) finish AtEnd
exact_finish {C = C} W = record { word = ([], tt, (refl, refl)); sound = end_sound W; complete = λ n u a rest h stops. end_complete C n u rest h.0 stops }

whole_into : {T A : Type 0} (G : Grammar T A) (u : List T) (a : A) → both G (λ a. both (done {A = Unit {0}} tt) (λ _. done a)) u a → G u a
whole_into G u a (v, w, b, parts, h, (x, y, one, tail, nothing, made)) =
    let same : u ≡ v = parts ∙ ap (λ z. v ++ z) (tail ∙ ap (λ z. z ++ y) nothing.0 ∙ made.0) ∙ append-nil v in
    subst (λ z. G z a) (sym same) (subst (G v) (sym made.1) h)

whole_back : {T A : Type 0} (G : Grammar T A) (u : List T) (a : A) → G u a → both G (λ a. both (done {A = Unit {0}} tt) (λ _. done a)) u a
whole_back G u a h = (u, [], a, sym (append-nil u), h, ([], [], tt, refl, (refl, refl), (refl, refl)))

pub exact_whole : {T R C A : Type 0} {W : Watch T R C} {G H : Grammar T A} {P : Reader T R C A} {S : List T → Type 0} → S [] → Exact W G H P S → Exact W G H (whole P) AtEnd
exact_whole {W = W} {G = G} {H = H} {S = S} nothing e = exact_by (whole_into G) (whole_back H) (exact_both e (λ a. exact_both (exact_finish W) (λ _. exact_before (λ _ _. tt) (exact_gives W a)) (λ _ v b rest made stops. ap (λ x. x ++ rest) made.0 ∙ stops)) (λ a v b rest (x, y, one, tail, none, made) stops. subst S (sym (ap (λ z. z ++ rest) (tail ∙ ap (λ z. z ++ y) none.0 ∙ made.0) ∙ stops)) nothing))
