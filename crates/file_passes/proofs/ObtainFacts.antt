-- Reading one file, and all files of a list.
use Rattle.std.proofs.Common.{◌≡◌, ℕ, List, [], ◌∷◌, ◌++◌, Option, Some, None, IsSome, Result, Ok, Err, true, refl, sym, ◌∙◌, ap, inl, inr, ◌⊎◌}
use Rattle.std.specs.Str.{bytes_eq}
use Rattle.std.proofs.lemmas.Slice.Eq.{bytes_eq-Decides}
use Rattle.cube_outside.specs.Counts.{Rose}
use Rattle.cube_outside.specs.Seen.{Seen}
use Rattle.cube_outside.specs.declared.files.Extent.{Extent}
use Rattle.cube_outside.specs.declared.files.FileFault.{FileFault}
use Rattle.cube_outside.specs.declared.files.FileFault.TheVariants as fault
use Rattle.file_passes.specs.declared.halt.Halt.{Halt}
use Rattle.file_passes.specs.Course.{names_of}
use Rattle.file_passes.specs.Outside.{Outside, outside}
use Rattle.file_passes.specs.Pass.{Source, Readings, bytes_of, found, file, files, ◌>>=◌}
use Rattle.file_passes.specs.Inside.Steps.{IsReadOnce, CarriesOn}
use Rattle.file_passes.specs.Halting.{unread, ComesThrough}
use Rattle.file_passes.proofs.KeptFacts.{kept-file}
use Rattle.file_passes.proofs.Going.{on-refl}
use Rattle.file_passes.proofs.Coming.{comes-stopped, goes-found, through-mapped, through-next}

some_of : (o : Option (List ℕ)) → IsSome o → (x : List ℕ) × (o ≡ Some x)
some_of None some = cc
some_of (Some x) some = (x, refl)

found_first : (name bytes : List ℕ) (old : Readings) → bytes_of ((name, bytes) ∷ old) name ≡ Some bytes
found_first name bytes old = let same : bytes_eq name name ≡ true = (bytes_eq-Decides name name).1 refl in rw same refl

module _ {F : Type 0} (seen : F → Seen) where
  abbrev from : F → F → Outside
  from a b = outside seen a b

  pub obtained : (extent : Extent) (a b : F) (name : List ℕ) (old new : Readings) (u : Unit {0})
      → IsReadOnce (seen a).known extent name old new (seen a).asked (seen b).asked → (seen b).faults ≡ (seen a).faults
      → ComesThrough (file extent name) (from a b) old new (Ok u)
  obtained extent a b name old new u (inl (some, same, quiet)) still =
      let known_bytes = some_of (bytes_of old name) some in
      rw same (
        (on-refl (file extent name) (seen a).known old, still, λ base is. quiet ∙ is),
        ((name, known_bytes.0), (known_bytes.1, refl)),
      )
  obtained extent a b name old new u (inr (bytes, unread, tells, added, more)) still =
      rw added (
        (inr ((extent, (unread, refl), tells), unread, on-refl (file extent name) (seen a).known old), still, λ base is. more ∙ ap (λ l. name ∷ l) is),
        ((name, bytes), (found_first name bytes old, refl)),
      )

  pub unobtained : (extent : Extent) (a b : F) (name : List ℕ) (old new : Readings) (f : FileFault) (h : Halt)
      → bytes_of old name ≡ None → new ≡ old → h ≡ unread f
      → (f ≡ fault.Failed → Rose (seen a).faults (seen b).faults) → (f ≡ fault.Failed → (seen b).missed ≡ name) → (f ≡ fault.Failed → (seen b).asked ≡ name ∷ (seen a).asked)
      → ((seen b).asked ≡ name ∷ (seen a).asked) ⊎ ((seen b).asked ≡ (seen a).asked)
      → ComesThrough (file extent name) (from a b) old new (Err h)
  unobtained extent a b name old new fault.Failed h none same is rose name_is more most =
      rw (same, is) (
        on-refl (file extent name) (seen a).known old,
        ((extent, (rw (name_is refl) (none, refl))), rose refl, λ base begun. more refl ∙ ap (λ l. name ∷ l) begun ∙ ap (λ n. n ∷ (names_of old ++ base)) (sym (name_is refl))),
      )
  unobtained extent a b name old new fault.Memory h none same is rose name_is more (inl asked) =
      rw (same, is) (on-refl (file extent name) (seen a).known old, inr (name, (extent, (none, refl)), λ base begun. asked ∙ ap (λ l. name ∷ l) begun))
  unobtained extent a b name old new fault.Memory h none same is rose name_is more (inr asked) =
      rw (same, is) (on-refl (file extent name) (seen a).known old, inl (λ base begun. asked ∙ begun))

  -- one file, and then the rest of them
  files-next : (extent : Extent) (a b c : F) (name : List ℕ) (more : List (List ℕ)) (old mid new : Readings) (u : Unit {0}) (r : Result (Unit {0}) Halt)
      → (seen b).known ≡ (seen a).known → ComesThrough (file extent name) (from a b) old mid (Ok u) → ComesThrough (files extent more) (from b c) mid new r
      → ComesThrough (files extent (name ∷ more)) (from a c) old new r
  files-next extent a b c name more old mid new u r same here there =
      let after : Source → _ = λ first. files extent more >>= λ rest. found (first ∷ rest) in
      let first = here.1.0 in
      through-next seen (file extent name) after (kept-file extent name) a b c old mid new first same here.0 here.1.1 r
      (through-mapped (files extent more) (λ rest. first ∷ rest) (from b c) mid new r there)

  module _ (extent : Extent) (names : List (List ℕ)) (start : F) (first : Readings) where
    pub carries-begin : CarriesOn seen extent names start first names start first
    carries-begin end new r came = came

    pub carries-next : (name : List ℕ) (more : List (List ℕ)) (now next : F) (readings later : Readings) (u : Unit {0})
        → CarriesOn seen extent names start first (name ∷ more) now readings
        → (seen next).known ≡ (seen now).known → ComesThrough (file extent name) (from now next) readings later (Ok u)
        → CarriesOn seen extent names start first more next later
    carries-next name more now next readings later u on same here end new r came =
        on end new r (files-next extent now next end name more readings later new u r same here came)

    pub carries-stop : (name : List ℕ) (more : List (List ℕ)) (now next : F) (readings later : Readings) (h : Halt)
        → CarriesOn seen extent names start first (name ∷ more) now readings
        → ComesThrough (file extent name) (from now next) readings later (Err h)
        → ComesThrough (files extent names) (from start next) first later (Err h)
    carries-stop name more now next readings later h on stop =
        on next later (Err h) (comes-stopped (file extent name) (λ first. files extent more >>= λ rest. found (first ∷ rest)) (from now next) readings later h stop)

    pub carries-end : (now : F) (readings : Readings) (u : Unit {0})
        → CarriesOn seen extent names start first [] now readings
        → ComesThrough (files extent names) (from start now) first readings (Ok u)
    carries-end now readings u on =
        let nothing : List Source = [] in
        on now readings (Ok u) (goes-found seen nothing now readings, (nothing, refl))
