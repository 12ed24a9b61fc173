-- The bytes of a text have one answer.
use Rattle.std.proofs.Common.{◌≡◌, ℕ, List, [], ◌∷◌, ◌++◌, sym, ◌∙◌, ap, subst, ◌⊎◌, inl, inr, append-nil, append_assoc, Option, Some, None, Ok, Err}
use Rattle.cube_lex.specs.Lexeme.{Lexeme}
use Rattle.cube_lex.specs.declared.fault.LexFault.{LexFault}
use Rattle.cube_lex.proofs.Unique.{reading-only}
use Rattle.cube_lex.specs.declared.position.Position.{Position}
use Rattle.grammar.specs.Grammar.{Grammar, Alive}
use Rattle.grammar.specs.Watch.{Watch, Passes, Within, Refuses}
use Rattle.grammar.specs.Reading.{Unexpected, Refused, OutOfTurns, Read, Reader}
use Rattle.grammar.specs.Whole.{IsWholeText, FailsBefore, place_of, IsWholeSyntax, IsWholeRefused, HasOneAnswer}
use Rattle.grammar.proofs.Exact.{Exact, Outcome, Agrees}
use Rattle.grammar.proofs.Many.{IsSettled}
use Rattle.grammar.proofs.Cuts.{Cuts, Longer, fronts, passes_not_refused, refuses_once, within_not_refused}
use Rattle.grammar.proofs.Settles.{Settles}

-- what begins a text is as alive as the text
front_alive : {T A : Type 0} (G : Grammar T A) (u v : List T) → Alive G (u ++ v) → Alive G u
front_alive G u v (more, a, h) = (v ++ more, a, subst (λ z. G z a) (append_assoc u v more) h)

-- tokens behind which nothing of the text goes on aren't followed by any of it
not_followed : {A : Type 0} (G : Grammar Lexeme A) (fault : Option LexFault) (before : List Lexeme) (t : Lexeme) (rest more : List Lexeme) → FailsBefore G fault before (t ∷ rest) → Alive G (before ++ (t ∷ more)) → ⊥
not_followed G None before t rest more fails alive = fails (front_alive G (before ++ t ∷ []) more (subst (Alive G) (sym (append_assoc before (t ∷ []) more)) alive))
not_followed G (Some f) before t rest more fails alive = fails (front_alive G (before ++ t ∷ []) more (subst (Alive G) (sym (append_assoc before (t ∷ []) more)) alive))

module _ {A R C : Type 0} (G : Grammar Lexeme A) (W : Watch Lexeme R C) (start : R) where
  -- of two fronts that are alive, the one behind which the text fails is no shorter
  no_longer : (fault : Option LexFault) (u x v y : List Lexeme) → FailsBefore G fault u x → Alive G v → Longer u x v y → (v ≡ u) × (x ≡ y)
  no_longer fault u x v y fails alive ([], is, rest) = (is ∙ append-nil u, rest)
  no_longer fault u [] v y fails alive (t ∷ w, is, rest) = absurd (nothing rest) where
    nothing : [] ≡ t ∷ (w ++ y) → ⊥
    nothing e = cc
  no_longer fault u (s ∷ x) v y fails alive (t ∷ w, is, rest) = absurd (not_followed G fault u s x w fails (subst (Alive G) (is ∙ ap (λ z. u ++ (z ∷ w)) (sym first)) alive)) where
    first : s ≡ t
    first = cc rest

  same_place : (fault : Option LexFault) (u x v y : List Lexeme) → FailsBefore G fault u x → Alive G u → FailsBefore G fault v y → Alive G v → u ++ x ≡ v ++ y → x ≡ y
  same_place fault u x v y fu au fv av e = by (fronts u x v y e) where
    by : Longer u x v y ⊎ Longer v y u x → x ≡ y
    by (inl l) = let (_, same) = no_longer fault u x v y fu av l in same
    by (inr l) = let (_, same) = no_longer fault v y u x fv au l in sym same

  one_place_is : (bytes : List ℕ) (k l : Position) → IsWholeSyntax G W start bytes k → IsWholeSyntax G W start bytes l → k ≡ l
  one_place_is bytes k l h g =
      let (lexed, fault) = reading-only bytes h.lexed g.lexed h.fault g.fault h.reading g.reading in
      let fails : FailsBefore G h.fault g.before g.rest = subst (λ f. FailsBefore G f g.before g.rest) (sym fault) g.fails in
      let same : h.rest ≡ g.rest = same_place h.fault h.before h.rest g.before g.rest h.fails h.alive fails g.alive (sym h.parts ∙ ap (λ z. z.lexemes) lexed ∙ g.parts) in
      h.place ∙ ap (place_of h.lexed) same ∙ ap (λ z. place_of z g.rest) lexed ∙ sym g.place

  text_alive : (ts : List Lexeme) (x : A) → G ts x → Alive G ts
  text_alive ts x h = ([], x, subst (λ z. G z x) (sym (append-nil ts)) h)

  -- a text doesn't fail
  not_failing : (ts before rest : List Lexeme) (x : A) → G ts x → ts ≡ before ++ rest → FailsBefore G None before rest → ⊥
  not_failing ts before [] x h e fails = fails x (subst (λ z. G z x) (e ∙ append-nil before) h)
  not_failing ts before (t ∷ rest) x h e fails = not_followed G None before t rest rest fails (subst (Alive G) e (text_alive ts x h))

  no_syntax_is : (bytes : List ℕ) (x : A) (r : R) (k : Position) → IsWholeText G W start bytes x r → IsWholeSyntax G W start bytes k → ⊥
  no_syntax_is bytes x r k h g =
      let (lexed, fault) = reading-only bytes h.lexed g.lexed None g.fault h.reading g.reading in
      not_failing h.lexed.lexemes g.before g.rest x h.text.text (ap (λ z. z.lexemes) lexed ∙ g.parts) (subst (λ f. FailsBefore G f g.before g.rest) (sym fault) g.fails)

  module _ (cuts : Cuts W) where
    no_refusal_is : (bytes : List ℕ) (x : A) (r : R) (c : C) → IsWholeText G W start bytes x r → IsWholeRefused G W start bytes c → ⊥
    no_refusal_is bytes x r c h g =
        let (lexed, fault) = reading-only bytes h.lexed g.lexed None g.fault h.reading g.reading in
        passes_not_refused W cuts start r c h.lexed.lexemes (g.refused.before ++ g.refused.last ∷ []) g.refused.rest h.text.passes g.refused.refused (ap (λ z. z.lexemes) lexed ∙ g.refused.parts ∙ sym (append_assoc g.refused.before (g.refused.last ∷ []) g.refused.rest))

    one_cause_is : (bytes : List ℕ) (c d : C) → IsWholeRefused G W start bytes c → IsWholeRefused G W start bytes d → c ≡ d
    one_cause_is bytes c d h g =
        let (lexed, fault) = reading-only bytes h.lexed g.lexed h.fault g.fault h.reading g.reading in
        refuses_once W cuts start c d (h.refused.before ++ h.refused.last ∷ []) h.refused.rest (g.refused.before ++ g.refused.last ∷ []) g.refused.rest h.refused.refused g.refused.refused
        (append_assoc h.refused.before (h.refused.last ∷ []) h.refused.rest ∙ sym h.refused.parts ∙ ap (λ z. z.lexemes) lexed ∙ g.refused.parts ∙ sym (append_assoc g.refused.before (g.refused.last ∷ []) g.refused.rest))

    apart : (fault : Option LexFault) (b x p y : List Lexeme) (c : C) → Within W start b → FailsBefore G fault b x → Refuses W start p c → Alive G p → Longer b x p y ⊎ Longer p y b x → ⊥
    apart fault b x p y c within fails refused alive (inr (w, is, _)) = within_not_refused W cuts start c b p w within refused is
    apart fault b x p y c within fails refused alive (inl l) =
        let (same, _) = no_longer fault b x p y fails alive l in
        within_not_refused W cuts start c b p [] within refused (sym same ∙ sym (append-nil p))

    one_fault_is : (bytes : List ℕ) (k : Position) (c : C) → IsWholeSyntax G W start bytes k → IsWholeRefused G W start bytes c → ⊥
    one_fault_is bytes k c h g =
        let (lexed, fault) = reading-only bytes h.lexed g.lexed h.fault g.fault h.reading g.reading in
        let front : List Lexeme = g.refused.before ++ g.refused.last ∷ [] in
        apart h.fault h.before h.rest front g.refused.rest c h.within h.fails g.refused.refused g.refused.alive
        (fronts h.before h.rest front g.refused.rest (sym h.parts ∙ ap (λ z. z.lexemes) lexed ∙ g.refused.parts ∙ sym (append_assoc g.refused.before (g.refused.last ∷ []) g.refused.rest)))

    -- where each text that passes has one tree
    module _ (one : (ts : List Lexeme) (x y : A) (r : R) → Passes W start ts r → G ts x → G ts y → x ≡ y) where
      one_tree_is : (bytes : List ℕ) (x y : A) (r m : R) → IsWholeText G W start bytes x r → IsWholeText G W start bytes y m → x ≡ y
      one_tree_is bytes x y r m h g =
          let (lexed, _) = reading-only bytes h.lexed g.lexed None None h.reading g.reading in
          one h.lexed.lexemes x y r h.text.passes h.text.text (subst (λ z. G z.lexemes y) (sym lexed) g.text.text)

      pub one_answer : HasOneAnswer G W start
      one_answer = record {
        one_tree = one_tree_is;
        one_place = one_place_is;
        one_cause = one_cause_is;
        no_syntax = no_syntax_is;
        no_refusal = no_refusal_is;
        one_fault = one_fault_is;
      }

    -- where one reader is exact and settles on every list
    module _ {P : Reader Lexeme R C A} {S : List Lexeme → Type 0} (e : Exact W G G P S) (nothing : S []) (s : Settles P) where
      agreed : (ts : List Lexeme) (x y : A) (r : R) → Passes W start ts r → (read : Read Lexeme R C A) → Outcome G W P start ts read → IsSettled read → Agrees x [] read → Agrees y [] read → x ≡ y
      unfolding Outcome Agrees
      agreed ts x y r passes (Ok z) f answer_of_text h g = sym h.0 ∙ g.0
      agreed ts x y r passes (Err (Unexpected left)) f answer_of_text h g = absurd h
      agreed ts x y r passes (Err (Refused c)) f answer_of_text h g = absurd (passes_not_refused W cuts start r c ts (f.before ++ f.last ∷ []) f.rest passes f.refused (f.parts ∙ sym (append_assoc f.before (f.last ∷ []) f.rest)))
      agreed ts x y r passes (Err OutOfTurns) f answer_of_text h g = absurd answer_of_text

      read_as : (ts : List Lexeme) (x : A) → G ts x → Agrees {R = R} {C = C} x [] (P start ts)
      read_as ts x h = subst (λ z. Agrees {R = R} {C = C} x [] (P start z)) (append-nil ts) (e.complete start ts x [] h nothing)

      read_once : (ts : List Lexeme) (x y : A) (r : R) → Passes W start ts r → G ts x → G ts y → x ≡ y
      read_once ts x y r passes h g = agreed ts x y r passes (P start ts) (e.sound start ts) (s.at start ts) (read_as ts x h) (read_as ts y g)

      pub has_one_answer : HasOneAnswer G W start
      has_one_answer = one_answer read_once
