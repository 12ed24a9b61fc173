-- Pieces that are read unwatched and then checked.
use Rattle.std.proofs.Common.{◌≡◌, ℕ, List, [], ◌∷◌, ◌++◌, Result, Ok, Err, refl, sym, ◌∙◌, ap, subst, inr, append-nil, append_assoc}
use Rattle.grammar.specs.Grammar.{Grammar}
use Rattle.grammar.specs.Watch.{Within, each_text, unwatched}
use Rattle.grammar.specs.Reading.{Stop, Unexpected, Refused, OutOfTurns, Read, Reader, let_through, checked_result, checked}
use Rattle.grammar.proofs.Exact.{Exact, Outcome, IsRead, IsStuck, Agrees, Always, passes_one, passes_nothing, refuses_one}
use Rattle.grammar.proofs.Begins.{HasToken}

module _ {T U R C X : Type 0} (u : U) (add : R → X → Result R C) (P : Reader T U C X) (s : R) where
  pub checked_ok : {t : R} {ts rest : List T} {x : X} {v : U} → P u ts ≡ Ok (x, v, rest) → add s x ≡ Ok t → checked u add P s ts ≡ Ok (x, t, rest)
  checked_ok {rest = rest} {x = x} read added = ap (checked_result (add s)) read ∙ ap (let_through x rest) added

  pub checked_refused : {ts rest : List T} {x : X} {v : U} {cause : C} → P u ts ≡ Ok (x, v, rest) → add s x ≡ Err cause → checked u add P s ts ≡ Err (Refused cause)
  checked_refused {rest = rest} {x = x} read refused = ap (checked_result (add s)) read ∙ ap (let_through x rest) refused

  pub checked_halt : {ts : List T} {halt : Stop C} → P u ts ≡ Err halt → checked u add P s ts ≡ Err halt
  checked_halt read = ap (checked_result (add s)) read

-- the same list, cut before its last
pub cut_last : {T : Type 0} (t : T) (v : List T) → (before : List T) × (last : T) × (t ∷ v ≡ before ++ last ∷ [])
cut_last t [] = ([], t, refl)
cut_last t (s ∷ v) = let (before, last, e) = cut_last s v in (t ∷ before, last, ap (λ x. t ∷ x) e)

checked_read : {T U R C A : Type 0} (F : Grammar T A) (add : R → A → Result R C) (G : Grammar T A) (u0 : U) (P : Reader T U C A) → ((u : List T) (a : A) → G u a → F u a) → HasToken G → (n : R) (ts : List T) (x : A × U × List T) → IsRead G unwatched P u0 ts x.0 x.1 x.2 → (r : Result R C) → add n x.0 ≡ r → Outcome G (each_text F add) (checked u0 add P) n ts (let_through x.0 x.2 r)
unfolding Outcome
checked_read F add G u0 P into some n ts x f (Ok s) e = record {
  text = f.text;
  parts = f.parts;
  reads = f.reads;
  passes = passes_one (each_text F add) n s f.text (x.0, into f.text x.0 f.reads, e);
  alone = λ other same. ap (checked_result (add n)) (f.alone other same) ∙ ap (let_through x.0 other) e;
}
checked_read F add G u0 P into some n ts x f (Err cause) e =
    let (t, v, is) = some.at f.text x.0 f.reads in
    let (before, last, cut) = cut_last t v in
    let parted : f.text ≡ before ++ last ∷ [] = is ∙ cut in
    record {
      before = before;
      last = last;
      rest = x.2;
      parts = f.parts ∙ ap (λ y. y ++ x.2) parted ∙ append_assoc before (last ∷ []) x.2;
      alive = ([], x.0, subst (λ y. G y x.0) (parted ∙ sym (append-nil (before ++ last ∷ []))) f.reads);
      refused = refuses_one (each_text F add) n (before ++ last ∷ []) cause (x.0, subst (λ y. F y x.0) parted (into f.text x.0 f.reads), e);
    }

-- where the reader is stuck, the piece isn't whole
begun : {T U R C A : Type 0} (F : Grammar T A) (add : R → A → Result R C) (G : Grammar T A) (u0 : U) (P : Reader T U C A) → ((u : List T) (a : A) → G u a → F u a) → Exact unwatched G G P Always → (n : R) (ts : List T) (left : ℕ) (f : IsStuck G unwatched P u0 ts left) (more : List T) (a : A) → G (f.text ++ more) a → Within (each_text F add) n f.text
unfolding Agrees
begun {U = U} {C = C} F add G u0 P into e n ts left f [] a h =
    let whole : G f.text a = subst (λ y. G y a) (append-nil f.text) h in
    absurd (subst (Agrees {R = U} {C = C} a f.rest) (f.alone f.rest refl) (e.complete u0 f.text a f.rest whole tt))
begun F add G u0 P into e n ts left f (t ∷ more) a h = record {
  whole = [];
  begun = f.text;
  state = n;
  parts = refl;
  pass = passes_nothing (each_text F add) n;
  begins = inr (t, more, a, into (f.text ++ t ∷ more) a h);
}

checked_sound : {T U R C A : Type 0} (F : Grammar T A) (add : R → A → Result R C) (G : Grammar T A) (u0 : U) (P : Reader T U C A) → ((u : List T) (a : A) → G u a → F u a) → HasToken G → Exact unwatched G G P Always → (n : R) (ts : List T) (r : Read T U C A) → Outcome G unwatched P u0 ts r → Outcome G (each_text F add) (checked u0 add P) n ts (checked_result (add n) r)
unfolding Outcome
checked_sound F add G u0 P into some e n ts (Ok x) f = checked_read F add G u0 P into some n ts x f (add n x.0) refl
checked_sound F add G u0 P into some e n ts (Err (Unexpected left)) f = record {
  text = f.text;
  rest = f.rest;
  parts = f.parts;
  left_is = f.left_is;
  alive = f.alive;
  within = (let (more, a, h) = f.alive in begun F add G u0 P into e n ts left f more a h);
  alone = λ other same. ap (checked_result (add n)) (f.alone other same);
}
checked_sound F add G u0 P into some e n ts (Err (Refused cause)) f = let (t, is, never) = f.refused.refused in absurd (cc never)
checked_sound F add G u0 P into some e n ts (Err OutOfTurns) f = tt

through_agrees : {T R C A : Type 0} (a b : A) (rest ts : List T) → b ≡ a → ts ≡ rest → (r : Result R C) → Agrees {R = R} {C = C} a rest (let_through b ts r)
unfolding Agrees
through_agrees a b rest ts e f (Ok s) = (e, f)
through_agrees a b rest ts e f (Err cause) = tt

checked_agrees : {T U R C A : Type 0} (add : A → Result R C) (a : A) (rest : List T) (r : Read T U C A) → Agrees a rest r → Agrees {R = R} {C = C} a rest (checked_result add r)
unfolding Agrees
checked_agrees add a rest (Ok x) h = through_agrees a x.0 rest x.2 h.0 h.1 (add x.0)
checked_agrees add a rest (Err (Unexpected left)) h = absurd h
checked_agrees add a rest (Err (Refused cause)) h = tt
checked_agrees add a rest (Err OutOfTurns) h = tt

-- a piece of F that is read whole, and then let through or refused
pub exact_checked : {T U R C A : Type 0} {G F : Grammar T A} {P : Reader T U C A} (u0 : U) (add : R → A → Result R C) → ((u : List T) (a : A) → G u a → F u a) → HasToken G → Exact unwatched G G P Always → Exact (each_text F add) G G (checked u0 add P) Always
exact_checked {G = G} {F = F} {P = P} u0 add into some e = record {
  word = e.word;
  sound = λ n ts. checked_sound F add G u0 P into some e n ts (P u0 ts) (e.sound u0 ts);
  complete = λ n u a rest h stops. checked_agrees (add n) a rest (P u0 (u ++ rest)) (e.complete u0 u a rest h stops);
}
