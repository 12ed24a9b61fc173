-- Files that were read, one after another.
use Rattle.std.proofs.Common.{◌≡◌, ℕ, zero, suc, List, [], ◌∷◌, ◌++◌, refl, arith, inl, inr, Option, Some, None, All}
use Rattle.std.specs.Prelude.{IsSome}
use Rattle.cube_outside.specs.declared.files.Extent.{Extent}
use Rattle.file_passes.specs.Pass.{Readings, Obstacle, Source, Reads, bytes_of, file, files}

-- the file of a name that was read
read : (extent : Extent) (readings : Readings) (name : List ℕ) → IsSome (bytes_of readings name) → (source : Source) × (file extent name).finds readings source
read extent readings name is = by (bytes_of readings name) refl is where
  by : (found : Option (List ℕ)) → bytes_of readings name ≡ found → IsSome found → (source : Source) × (file extent name).finds readings source
  by (Some bytes) same some = ((name, bytes), (same, refl))
  by None same none = cc none

-- all were read
pub all-read : (extent : Extent) (readings : Readings) (names : List (List ℕ)) → All (λ name. IsSome (bytes_of readings name)) names → (all : List Source) × (files extent names).finds readings all
all-read extent readings [] is = ([], refl)
all-read extent readings (name ∷ names) is =
    let first = read extent readings name (is 0 [] (omega arith)) in
    let rest = all-read extent readings names (λ k other inside. is (suc k) other (omega (arith, inside))) in
    (first.0 ∷ rest.0, (first.0, first.1, (rest.0, rest.1, refl)))

-- behind files that were read is one that wasn't
pub one-unread : (extent : Extent) (readings : Readings) (names : List (List ℕ)) (name : List ℕ) (more : List (List ℕ)) → All (λ name. IsSome (bytes_of readings name)) names → bytes_of readings name ≡ None
    → (stop : Obstacle) × (files extent (names ++ name ∷ more)).stops readings stop
one-unread extent readings [] name more is none = (Reads extent name, inl (none, refl))
one-unread extent readings (first ∷ names) name more is none =
    let source = read extent readings first (is 0 [] (omega arith)) in
    let rest = one-unread extent readings names name more (λ k other inside. is (suc k) other (omega (arith, inside))) none in
    (rest.0, inr (source.0, source.1, inl rest.1))
