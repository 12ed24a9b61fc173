-- What a run does with its words and files, as passes: each reads all its files in order, and then judges what they
-- hold.
use Rattle.std.specs.Prelude.{◌≡◌, ℕ, List, [], ◌∷◌, Option, Some, None, find, ◌⊎◌}
use Rattle.std.specs.Option.{option_map}
use Rattle.std.specs.Str.{bytes_eq}
use Rattle.cube_outside.specs.declared.files.Extent.{Extent}
use Rattle.file_passes.specs.declared.refusal.Refusal.{Refusal}

-- a file that was read: its name and its bytes
abbrev pub Source : Type 0
Source = List ℕ × List ℕ

-- the files that a run has read so far, the last one first
abbrev pub Readings : Type 0
Readings = List Source

-- the bytes that were read under this name
abbrev pub bytes_of : Readings → List ℕ → Option (List ℕ)
bytes_of readings name = option_map (λ reading. reading.1) (find (λ reading. bytes_eq reading.0 name) readings)

-- why a pass goes no further: the words aren't in the grammar, as much as this of the file of this name is to be read
-- first, or a file is refused
pub data Obstacle : Type 0 where
  NotWords : Obstacle
  Reads : Extent → List ℕ → Obstacle
  Refuses : Refusal → Obstacle

-- a pass, by its outcome over the files read so far: it finds what the next pass needs, or it stops
pub record Pass (A : Type 0) : Type 1 where
  pub finds : Readings → A → Type 0
  pub stops : Readings → Obstacle → Type 0

-- nothing is left to do
abbrev pub found : {A : Type 0} → A → Pass A
found {A} a = record { finds = λ _ b. b ≡ a; stops = λ _ _. ⊥ }

-- what is of this kind, of which there is one at most; where there is none the pass stops
abbrev pub the : {A : Type 0} → (A → Type 0) → Obstacle → Pass A
the {A} Is otherwise = record {
  finds = λ _ a. Is a;
  stops = λ _ stop. ((a : A) → ¬ Is a) × (stop ≡ otherwise);
}

-- one pass, and then another that depends on what the first found
infixl 10 ◌>>=◌
abbrev pub ◌>>=◌ : {A B : Type 0} → Pass A → (A → Pass B) → Pass B
◌>>=◌ {A} {B} P K = record {
  finds = λ readings b. (a : A) × P.finds readings a × (K a).finds readings b;
  stops = λ readings stop. P.stops readings stop ⊎ ((a : A) × P.finds readings a × (K a).stops readings stop);
}

-- the file of this name is read, as much of it as this, unless it was read already
abbrev pub file : Extent → List ℕ → Pass Source
file extent name = record {
  finds = λ readings source. (bytes_of readings name ≡ Some source.1) × (source.0 ≡ name);
  stops = λ readings stop. (bytes_of readings name ≡ None) × (stop ≡ Reads extent name);
}

-- all these files are read, in order, as much of each as this
abbrev pub files : Extent → List (List ℕ) → Pass (List Source)
files extent [] = found []
files extent (name ∷ more) = file extent name >>= λ first. (files extent more >>= λ rest. found (first ∷ rest))

-- it is the turn of the file of this name
abbrev pub IsTurnOf : {A : Type 0} → Pass A → Readings → List ℕ → Type 0
IsTurnOf pass readings name = (extent : Extent) × pass.stops readings (Reads extent name)

-- the file of this name among those that were read
abbrev pub source_of : List Source → List ℕ → Option Source
source_of sources name = find (λ source. bytes_eq source.0 name) sources

-- how something that was read is judged: what it means, or why it is refused
pub record Judgement (A : Type 0) : Type 1 where
  pub stands_for : A → Type 0
  pub refused_for : Refusal → Type 0

-- what is found is what was read means; else it is refused
abbrev pub judged : {A : Type 0} → Judgement A → Pass A
judged {A} judgement = record {
  finds = λ _ a. judgement.stands_for a;
  stops = λ _ stop. (refusal : Refusal) × judgement.refused_for refusal × (stop ≡ Refuses refusal);
}
