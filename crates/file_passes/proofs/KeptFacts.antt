-- What a pass has found stays while more files are read.
use Rattle.std.proofs.Common.{◌≡◌, ℕ, List, [], ◌∷◌, Option, Some, None, find, Bool, true, false, cond, refl, sym, ◌∙◌, ap}
use Rattle.std.specs.Option.{option_map}
use Rattle.std.specs.Str.{bytes_eq}
use Rattle.std.proofs.lemmas.Slice.Eq.{bytes_eq-Decides}
use Rattle.cube_outside.specs.declared.files.Extent.{Extent}
use Rattle.file_passes.specs.Pass.{Source, Readings, bytes_of, Obstacle, Pass, Judgement, found, file, files, the, judged, ◌>>=◌}

-- every file that was read before was read with the same bytes since
abbrev pub Grows : Readings → Readings → Type 0
Grows old new = (name bytes : List ℕ) → bytes_of old name ≡ Some bytes → bytes_of new name ≡ Some bytes

past : (old : Readings) (reading : Source) (other known : List ℕ) (b : Bool) → (b ≡ true → reading.0 ≡ other) → bytes_of old reading.0 ≡ None → bytes_of old other ≡ Some known
    → option_map (λ reading. reading.1) (cond b (Some reading) (find (λ reading. bytes_eq reading.0 other) old)) ≡ Some known
past old reading other known false same unread is = is
past old reading other known true same unread is =
    let under : List ℕ → Option (List ℕ) = bytes_of old in
    let none = ap under (sym (same refl)) ∙ unread in
    let clash : Some known ≡ None = sym is ∙ none in
    cc

pub grows_past : (old : Readings) (reading : Source) → bytes_of old reading.0 ≡ None → Grows old (reading ∷ old)
grows_past old reading unread other known is =
    past old reading other known (bytes_eq reading.0 other) (bytes_eq-Decides reading.0 other).0 unread is

-- what the pass has found stays
abbrev pub IsKept : {A : Type 0} → Pass A → Type 0
IsKept {A} P = (old new : Readings) (a : A) → Grows old new → P.finds old a → P.finds new a

pub kept-found : {A : Type 0} (a : A) → IsKept (found a)
kept-found a old new b grows p = p

pub kept-the : {A : Type 0} (Is : A → Type 0) (otherwise : Obstacle) → IsKept (the Is otherwise)
kept-the Is otherwise old new a grows p = p

pub kept-file : (extent : Extent) (name : List ℕ) → IsKept (file extent name)
kept-file extent name old new source grows p = (grows name source.1 p.0, p.1)

pub kept-judged : {A : Type 0} (J : Judgement A) → IsKept (judged J)
kept-judged J old new a grows p = p

pub kept-bind : {A B : Type 0} (P : Pass A) (K : A → Pass B) → IsKept P → ((a : A) → IsKept (K a)) → IsKept (P >>= K)
kept-bind P K keeps all old new b grows p = (p.0, keeps old new p.0 grows p.1, all p.0 old new b grows p.2)

pub kept-files : (extent : Extent) (names : List (List ℕ)) → IsKept (files extent names)
kept-files extent [] = kept-found []
kept-files extent (name ∷ more) =
    kept-bind (file extent name) (λ first. files extent more >>= λ rest. found (first ∷ rest)) (kept-file extent name)
    (λ first. kept-bind (files extent more) (λ rest. found (first ∷ rest)) (kept-files extent more) (λ rest. kept-found (first ∷ rest)))
