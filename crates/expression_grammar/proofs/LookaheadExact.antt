-- A choice by the next two tokens is exact. What begins with the first of them takes it in both cases before it's decided, so that it
-- depends on no more than the next token after what was read.
use Rattle.std.proofs.Common.{◌≡◌, ℕ, List, [], ◌∷◌, ◌++◌, length, Ok, Err, Bool, true, false, ◌&&◌, if◌then◌else◌, refl, sym, ◌∙◌, ap, subst, inl, inr, append-nil}
use Rattle.cube_lex.specs.Lexeme.{Lexeme}
use Rattle.grammar.specs.Grammar.{Grammar, either}
use Rattle.grammar.specs.Reading.{Unexpected, Refused, OutOfTurns, Read, first, starts}
use Rattle.grammar.specs.Watch.{each_token}
use Rattle.grammar.proofs.Exact.{Exact, Outcome, Agrees, starts_by_first}
use Rattle.grammar.proofs.Begins.{HasToken}
use Rattle.expression_grammar.specs.Readers.Lookahead.{starts_pair, choose_pair}
use Rattle.expression_grammar.specs.Readers.Reading.{Scanner, Reads}

pub no_pair : (p q : Lexeme → Bool) (ts : List Lexeme) → starts p ts ≡ false → starts_pair p q ts ≡ false
no_pair p q [] e = refl
no_pair p q (t ∷ ts) e = ap (λ b. b && starts q ts) e

module _ {R C : Type 0} (scan : Scanner R C) (p q : Lexeme → Bool) where
  both_false : (a b : Bool) → a ≡ false → b ≡ false → a ≡ b
  both_false a b e f = e ∙ sym f

  same_at_start : (other rest : List Lexeme) → first other ≡ first rest → (b : Bool) → starts p rest ≡ b → (b ≡ true → ⊥) → starts_pair p q other ≡ starts_pair p q rest
  same_at_start other rest e true is never = absurd (never refl)
  same_at_start other rest e false is never = both_false (starts_pair p q other) (starts_pair p q rest) (no_pair p q other (starts_by_first p other rest e ∙ is)) (no_pair p q rest is)

  -- behind a text that has a token, if the word comes, the choice depends on no more than the next token
  same_part : (text other rest : List Lexeme) → first other ≡ first rest → (text ≡ [] → starts p rest ≡ true → ⊥) → starts_pair p q (text ++ other) ≡ starts_pair p q (text ++ rest)
  same_part [] other rest e never = same_at_start other rest e (starts p rest) refl (never refl)
  same_part (t ∷ []) other rest e never = ap (λ b. p t && b) (starts_by_first q other rest e)
  same_part (t ∷ s ∷ text) other rest e never = refl

  -- a reader doesn't stop before this token
  abbrev GoesOnWith : {A : Type 0} → Reads R C A → Lexeme → Type 0
  GoesOnWith P t = (n : R) → (v : List Lexeme) × ((left : ℕ) → P n (t ∷ v) ≡ Err (Unexpected left) → ⊥)

  -- since there is a text that begins with it
  goes_on_with : {A : Type 0} {G : Grammar Lexeme A} {P : Reads R C A} {S : List Lexeme → Type 0} → Exact (each_token scan) G G P S → S [] → (t : Lexeme) (v : List Lexeme) (a : A) → G (t ∷ v) a → GoesOnWith P t
  unfolding Agrees
  goes_on_with {P = P} e nothing t v a h = λ n. (
    v,
    λ left stuck.
        let agreed : Agrees {R = R} {C = C} a [] (P n ((t ∷ v) ++ [])) = e.complete n (t ∷ v) a [] h nothing in
        subst (Agrees {R = R} {C = C} a []) (ap (P n) (append-nil (t ∷ v)) ∙ stuck) agreed,
  )

  not_stuck : {A : Type 0} (P : Reads R C A) → ((t : Lexeme) → p t ≡ true → GoesOnWith P t) → (n : R) (rest : List Lexeme) → ((other : List Lexeme) → first other ≡ first rest → P n other ≡ Err (Unexpected (length other))) → starts p rest ≡ true → ⊥
  not_stuck P going n [] alone comes = cc comes
  not_stuck P going n (t ∷ rest) alone comes = let (v, never) = going t comes n in never (length (t ∷ v)) (alone (t ∷ v) refl)

  empty_text : {A : Type 0} {G : Grammar Lexeme A} → HasToken G → (u : List Lexeme) (a : A) → G u a → u ≡ [] → ⊥
  empty_text has u a h nothing = let (t, v, is) = has.at u a h in cc

  chosen_outcome : {A : Type 0} (G G' : Grammar Lexeme A) (P P' : Reads R C A) (n : R) (ts : List Lexeme) → HasToken G → ((t : Lexeme) → p t ≡ true → GoesOnWith P t) → ((u : List Lexeme) (a : A) → G u a → G' u a) → ((other : List Lexeme) → starts_pair p q other ≡ starts_pair p q ts → P' n other ≡ P n other) → (r : Read Lexeme R C A) → Outcome G (each_token scan) P n ts r → Outcome G' (each_token scan) P' n ts r
  unfolding Outcome
  chosen_outcome G G' P P' n ts has going into same (Ok x) f = record {
    text = f.text;
    parts = f.parts;
    reads = into f.text x.0 f.reads;
    passes = f.passes;
    alone = λ other e. same (f.text ++ other) (same_part f.text other x.2 e (λ nothing _. empty_text has f.text x.0 f.reads nothing) ∙ ap (starts_pair p q) (sym f.parts)) ∙ f.alone other e;
  }
  chosen_outcome G G' P P' n ts has going into same (Err (Unexpected left)) f = record {
    text = f.text;
    rest = f.rest;
    parts = f.parts;
    left_is = f.left_is;
    alive = (let (more, a, h) = f.alive in (more, a, into (f.text ++ more) a h));
    within = f.within;
    alone = λ other e. same (f.text ++ other) (same_part f.text other f.rest e (λ nothing comes. not_stuck P going n f.rest (λ more front. subst (λ x. P n (x ++ more) ≡ Err (Unexpected (length more))) nothing (f.alone more front)) comes) ∙ ap (starts_pair p q) (sym f.parts)) ∙ f.alone other e;
  }
  chosen_outcome G G' P P' n ts has going into same (Err (Refused cause)) f = record {
    before = f.before;
    last = f.last;
    rest = f.rest;
    parts = f.parts;
    alive = (let (more, a, h) = f.alive in (more, a, into ((f.before ++ f.last ∷ []) ++ more) a h));
    refused = f.refused;
  }
  chosen_outcome G G' P P' n ts has going into same (Err OutOfTurns) f = tt

  -- a grammar, its reader, and texts that begin with the word
  pub record Takes {A : Type 0} (G : Grammar Lexeme A) (P : Reads R C A) (S : List Lexeme → Type 0) : Type 0 where
    pub exact : Exact (each_token scan) G G P S
    pub ends : S []
    pub has : HasToken G
    pub begun : (t : Lexeme) → p t ≡ true → (v : List Lexeme) × (a : A) × G (t ∷ v) a

  takes_going : {A : Type 0} {G : Grammar Lexeme A} {P : Reads R C A} {S : List Lexeme → Type 0} → Takes G P S → (t : Lexeme) → p t ≡ true → GoesOnWith P t
  takes_going {P = P} k t comes = let (v, a, h) = k.begun t comes in goes_on_with k.exact k.ends t v a h

  module _ {A : Type 0} {G H : Grammar Lexeme A} {P Q : Reads R C A} {S S' : List Lexeme → Type 0} (k : Takes G P S) (l : Takes H Q S') where
    sound_at : (n : R) (ts : List Lexeme) (b : Bool) → starts_pair p q ts ≡ b → Outcome (either G H) (each_token scan) (choose_pair p q P Q) n ts (if b then P n ts else Q n ts)
    sound_at n ts true is = chosen_outcome G (either G H) P (choose_pair p q P Q) n ts k.has (takes_going k) (λ u a h. inl h) (λ other same. ap (λ b. if b then P n other else Q n other) (same ∙ is)) (P n ts) (k.exact.sound n ts)
    sound_at n ts false is = chosen_outcome H (either G H) Q (choose_pair p q P Q) n ts l.has (takes_going l) (λ u a h. inr h) (λ other same. ap (λ b. if b then P n other else Q n other) (same ∙ is)) (Q n ts) (l.exact.sound n ts)

    agrees_at : (n : R) (u : List Lexeme) (a : A) (rest : List Lexeme) (c : Bool) → starts_pair p q (u ++ rest) ≡ c → Agrees {R = R} {C = C} a rest (if c then P n (u ++ rest) else Q n (u ++ rest)) → Agrees {R = R} {C = C} a rest (choose_pair p q P Q n (u ++ rest))
    agrees_at n u a rest c is h = subst (λ b. Agrees {R = R} {C = C} a rest (if b then P n (u ++ rest) else Q n (u ++ rest))) (sym is) h

    -- before a rest of S'' the next two tokens tell which of the two it is
    module _ {S'' : List Lexeme → Type 0} (one : (u : List Lexeme) (a : A) (rest : List Lexeme) → G u a → S'' rest → (starts_pair p q (u ++ rest) ≡ true) × S rest) (other : (u : List Lexeme) (a : A) (rest : List Lexeme) → H u a → S'' rest → (starts_pair p q (u ++ rest) ≡ false) × S' rest) where
      complete_at : (n : R) (u : List Lexeme) (a : A) (rest : List Lexeme) → S'' rest → either G H u a → Agrees {R = R} {C = C} a rest (choose_pair p q P Q n (u ++ rest))
      complete_at n u a rest stops (inl h) = let (is, s) = one u a rest h stops in agrees_at n u a rest true is (k.exact.complete n u a rest h s)
      complete_at n u a rest stops (inr h) = let (is, s) = other u a rest h stops in agrees_at n u a rest false is (l.exact.complete n u a rest h s)

      pub exact_choose_pair : Exact (each_token scan) (either G H) (either G H) (choose_pair p q P Q) S''
      exact_choose_pair = record {
        word = (let (w, a, h) = k.exact.word in (w, a, inl h));
        sound = λ n ts. sound_at n ts (starts_pair p q ts) refl;
        complete = λ n u a rest h stops. complete_at n u a rest stops h;
      }
