-- A text inside another, which has a state and causes of its own.
use Rattle.std.proofs.Common.{List, [], ◌∷◌, ◌++◌, Ok, Err, ap}
use Rattle.grammar.specs.Grammar.{Grammar}
use Rattle.grammar.specs.Watch.{Watch, Passes, Within, Refuses}
use Rattle.grammar.specs.Reading.{Unexpected, Refused, OutOfTurns, Read, Reader, inside_result, inside}
use Rattle.grammar.proofs.Exact.{Exact, Outcome, Agrees}

-- what the inner watch says, the outer one says of the same tokens
pub record IsInside {T R S C D : Type 0} (W : Watch T R C) (V : Watch T S D) (begin : S → R) (back : S → R → S) (cause : S → C → D) : Type 0 where
  pub passes : (s : S) (ts : List T) (r : R) → Passes W (begin s) ts r → Passes V s ts (back s r)
  pub within : (s : S) (ts : List T) → Within W (begin s) ts → Within V s ts
  pub refuses : (s : S) (ts : List T) (c : C) → Refuses W (begin s) ts c → Refuses V s ts (cause s c)

inside_sound : {T R S C D A : Type 0} (W : Watch T R C) (V : Watch T S D) (begin : S → R) (back : S → R → S) (cause : S → C → D) → IsInside W V begin back cause → (G : Grammar T A) (P : Reader T R C A) (s : S) (ts : List T) (r : Read T R C A) → Outcome G W P (begin s) ts r → Outcome G V (inside begin back cause P) s ts (inside_result (back s) (cause s) r)
unfolding Outcome
inside_sound W V begin back cause tells G P s ts (Ok x) f = record {
  text = f.text;
  parts = f.parts;
  reads = f.reads;
  passes = tells.passes s f.text x.1 f.passes;
  alone = λ other e. ap (inside_result (back s) (cause s)) (f.alone other e);
}
inside_sound W V begin back cause tells G P s ts (Err (Unexpected left)) f = record {
  text = f.text;
  rest = f.rest;
  parts = f.parts;
  left_is = f.left_is;
  alive = f.alive;
  within = tells.within s f.text f.within;
  alone = λ other e. ap (inside_result (back s) (cause s)) (f.alone other e);
}
inside_sound W V begin back cause tells G P s ts (Err (Refused c)) f = record {
  before = f.before;
  last = f.last;
  rest = f.rest;
  parts = f.parts;
  alive = f.alive;
  refused = tells.refuses s (f.before ++ f.last ∷ []) c f.refused;
}
inside_sound W V begin back cause tells G P s ts (Err OutOfTurns) f = tt

inside_agrees : {T R S C D A : Type 0} (back : R → S) (cause : C → D) (a : A) (rest : List T) (r : Read T R C A) → Agrees a rest r → Agrees a rest (inside_result back cause r)
unfolding Agrees
inside_agrees back cause a rest (Ok x) h = h
inside_agrees back cause a rest (Err (Unexpected left)) h = absurd h
inside_agrees back cause a rest (Err (Refused c)) h = tt
inside_agrees back cause a rest (Err OutOfTurns) h = tt

pub exact_inside : {T R S C D A : Type 0} {W : Watch T R C} {V : Watch T S D} {G H : Grammar T A} {P : Reader T R C A} {Stops : List T → Type 0} (begin : S → R) (back : S → R → S) (cause : S → C → D) → IsInside W V begin back cause → Exact W G H P Stops → Exact V G H (inside begin back cause P) Stops
exact_inside {W = W} {V = V} {G = G} {P = P} begin back cause tells e = record {
  word = e.word;
  sound = λ s ts. inside_sound W V begin back cause tells G P s ts (P (begin s) ts) (e.sound (begin s) ts);
  complete = λ s u a rest h stops. inside_agrees (back s) (cause s) a rest (P (begin s) (u ++ rest)) (e.complete (begin s) u a rest h stops);
}
