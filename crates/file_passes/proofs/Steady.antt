-- Passes over files: each comes to one thing at most, keeps what it has found while more files are read, and doesn't
-- blame the words.
use Rattle.std.proofs.Common.{◌≡◌, ℕ, List, [], ◌∷◌, inl, inr}
use Rattle.cube_outside.specs.declared.files.Extent.{Extent}
use Rattle.file_passes.specs.Pass.{Readings, NotWords, Reads, Pass, Judgement, found, file, files, judged, ◌>>=◌}
use Rattle.file_passes.proofs.KeptFacts.{IsKept, kept-found, kept-file, kept-files, kept-judged, kept-bind}
use Rattle.file_passes.proofs.PassFacts.{AreAlike, alike-one, IsOne, IsOneJudgement, one-found, one-file, one-files, one-judged, one-bind}

pub record IsSteady {A : Type 0} (P : Pass A) : Type 0 where
  pub one : IsOne P
  pub kept : IsKept P
  pub worded : (readings : Readings) → P.stops readings NotWords → ⊥

pub steady-found : {A : Type 0} (a : A) → IsSteady (found a)
steady-found a = record { one = one-found a; kept = kept-found a; worded = λ readings stops. stops }

worded-file : (extent : Extent) (name : List ℕ) (readings : Readings) → (file extent name).stops readings NotWords → ⊥
worded-file extent name readings stops = (let never : NotWords ≡ Reads extent name = stops.1 in cc)

worded-files : (extent : Extent) (names : List (List ℕ)) (readings : Readings) → (files extent names).stops readings NotWords → ⊥
worded-files extent [] readings stops = stops
worded-files extent (name ∷ more) readings (inl stops) = worded-file extent name readings stops
worded-files extent (name ∷ more) readings (inr (first, is, inl stops)) = worded-files extent more readings stops
worded-files extent (name ∷ more) readings (inr (first, is, inr stops)) = stops.2

pub steady-file : (extent : Extent) (name : List ℕ) → IsSteady (file extent name)
steady-file extent name = record { one = one-file extent name; kept = kept-file extent name; worded = worded-file extent name }

pub steady-files : (extent : Extent) (names : List (List ℕ)) → IsSteady (files extent names)
steady-files extent names = record { one = one-files extent names; kept = kept-files extent names; worded = worded-files extent names }

pub worded-judged : {A : Type 0} (J : Judgement A) (readings : Readings) → (judged J).stops readings NotWords → ⊥
worded-judged J readings stops = (let never = stops.2 in cc)

pub steady-judged : {A : Type 0} (J : Judgement A) → IsOneJudgement J → IsSteady (judged J)
steady-judged J one = record { one = one-judged J one; kept = kept-judged J; worded = worded-judged J }

worded-bind : {A B : Type 0} (P : Pass A) (K : A → Pass B) → IsSteady P → ((a : A) → IsSteady (K a)) → (readings : Readings) → (P >>= K).stops readings NotWords → ⊥
worded-bind P K steady all readings (inl stops) = steady.worded readings stops
worded-bind P K steady all readings (inr (a, is, stops)) = (all a).worded readings stops

pub steady-bind : {A B : Type 0} (P : Pass A) (K : A → Pass B) → IsSteady P → ((a : A) → IsSteady (K a)) → IsSteady (P >>= K)
steady-bind P K steady all = record {
  one = one-bind P K steady.one (λ a. (all a).one);
  kept = kept-bind P K steady.kept (λ a. (all a).kept);
  worded = worded-bind P K steady all;
}

-- ---- passes that don't blame the words

-- what such passes find may be several things, but they stop in one way
pub record IsSettled {A : Type 0} (P : Pass A) : Type 0 where
  pub alike : AreAlike P P
  pub worded : (readings : Readings) → P.stops readings NotWords → ⊥

pub settled-steady : {A : Type 0} (P : Pass A) → IsSteady P → IsSettled P
settled-steady P steady = record { alike = alike-one P steady.one; worded = steady.worded }

pub worded-behind : {A B : Type 0} (P : Pass A) (K : A → Pass B) → ((readings : Readings) → P.stops readings NotWords → ⊥)
    → ((a : A) (readings : Readings) → (K a).stops readings NotWords → ⊥) → (readings : Readings) → (P >>= K).stops readings NotWords → ⊥
worded-behind P K first next readings (inl stops) = first readings stops
worded-behind P K first next readings (inr (a, is, stops)) = next a readings stops
