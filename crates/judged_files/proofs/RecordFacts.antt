-- The records of files, as they are kept.
use Rattle.std.proofs.Common.{◌≡◌, ◌∙◌, ℕ, zero, suc, drop, Bool, true, false, List, [], ◌<◌, ◌∷◌, ◌++◌, length, length-append, map, cond, Option, Some, None, IfSome, option_map, slice_get, position, bytes_eq, IsSome, refl, sym, ap, subst, arith}
use Rattle.std.specs.Arc.{arc_value}
use Rattle.std.specs.Option.{option_and_then}
use Rattle.std.specs.declared.alloc.Global.{Global}
use Rattle.std.specs.declared.sync.Arc.{Arc}
use Rattle.std.proofs.lemmas.List.{length-map, map-append}
use Rattle.std.proofs.lemmas.List.Quantifiers.{position-Some}
use Rattle.std.proofs.lemmas.Option.{slice_get-map}
use Rattle.std.proofs.lemmas.Slice.Eq.{bytes_eq-Decides}
use Rattle.lists.proofs.Found.{there, some_same}
use Rattle.word_table.proofs.Pairs.{pair_nowhere, pair_there, place_low}
use Rattle.word_table.proofs.Pushed.{or_else, position-push}
use Rattle.file_passes.specs.Pass.{Source, source_of}
use Rattle.file_passes.proofs.ReadingsFacts.{got-before, got-last}
use Rattle.user_text.specs.Rows.{rows_of}
use Rattle.judged_files.specs.Inside.Kept.{Records, names_of, file_records, key_of, kept_records, AreRecords}

abbrev Kept : Type 0
Kept = List (Arc Records Global)

abbrev values : Kept → List Records
values kept = map arc_value kept

-- a key that has a place has records
pub has_records : (keys : List (List ℕ)) (kept : Kept) (key : List ℕ) (i : ℕ) → length kept ≡ length keys → position (λ other. bytes_eq other key) keys ≡ Some i
    → (records : Records) × (slice_get (values kept) i ≡ Some records)
has_records keys kept key i each at =
    let low = (position-Some (λ other. bytes_eq other key) keys i key at).0 in
    there (values kept) i (omega (arith, low, each, length-map kept arc_value))

-- the first, and where there is none the second
abbrev first_of : Option Records → Option Records → Option Records
first_of (Some records) other = Some records
first_of None other = other

-- ---- one key more

module _ (keys : List (List ℕ)) (kept : Kept) (word : List ℕ) (records : Arc Records Global) (each : length kept ≡ length keys) where
  longer : values (kept ++ records ∷ []) ≡ values kept ++ arc_value records ∷ []
  longer = map-append arc_value kept (records ∷ [])

  at_last : slice_get (values kept ++ arc_value records ∷ []) (length keys) ≡ Some (arc_value records)
  at_last =
      let long : length (values kept) ≡ length keys = length-map kept arc_value ∙ each in
      subst (λ n. slice_get (values kept ++ arc_value records ∷ []) n ≡ Some (arc_value records)) long (got-last (values kept) (arc_value records))

  by_old : (key : List ℕ) (b : Bool) (o : Option ℕ) → position (λ other. bytes_eq other key) keys ≡ o
      → option_and_then (λ place. slice_get (values kept ++ arc_value records ∷ []) place) (or_else o (cond b (Some (length keys)) None))
      ≡ first_of (option_and_then (λ place. slice_get (values kept) place) o) (cond b (Some (arc_value records)) None)
  by_old key b (Some i) at =
      let has = has_records keys kept key i each at in
      let low = (position-Some (λ other. bytes_eq other key) keys i key at).0 in
      got-before (values kept) (arc_value records) i (omega (arith, low, each, length-map kept arc_value)) ∙ has.1
      ∙ sym (ap (λ r. first_of r (cond b (Some (arc_value records)) None)) has.1)
  by_old key true None at = at_last
  by_old key false None at = refl

  kept-push : (key : List ℕ) → kept_records (keys ++ word ∷ []) (kept ++ records ∷ []) key
      ≡ first_of (kept_records keys kept key) (cond (bytes_eq word key) (Some (arc_value records)) None)
  kept-push key =
      ap (λ vs. option_and_then (λ place. slice_get vs place) (position (λ other. bytes_eq other key) (keys ++ word ∷ []))) longer
      ∙ ap (option_and_then (λ place. slice_get (values kept ++ arc_value records ∷ []) place)) (position-push (λ other. bytes_eq other key) keys word)
      ∙ by_old key (bytes_eq word key) (position (λ other. bytes_eq other key) keys) refl

added : (old : Option Records) (same : Bool) (records : Records) (file : Option Records)
    → IfSome old (λ found. file ≡ Some found) → (same ≡ true → file ≡ Some records)
    → IfSome (first_of old (cond same (Some records) None)) (λ found. file ≡ Some found)
added (Some found) same records file before now = before
added None true records file before now = now refl
added None false records file before now = tt

same_key : (separator other : ℕ) (name again : List ℕ) → bytes_eq (key_of separator name) (key_of other again) ≡ true → (separator ≡ other) × (name ≡ again)
same_key separator other name again is =
    let same : separator ∷ name ≡ other ∷ again = (bytes_eq-Decides (key_of separator name) (key_of other again)).0 is in
    (cc same, cc same)

-- with the records of one more file
pub records-added : (sources : List Source) (keys : List (List ℕ)) (kept : Kept) (separator : ℕ) (name : List ℕ) (records : Arc Records Global)
    → file_records sources separator name ≡ Some (arc_value records) → AreRecords sources keys kept
    → AreRecords sources (keys ++ key_of separator name ∷ []) (kept ++ records ∷ [])
records-added sources keys kept separator name records is are = record {
  each = (let long = are.each in omega (arith, long, length-append keys (key_of separator name ∷ []), length-append kept (records ∷ [])));
  found = λ other again.
      subst (λ found. IfSome found (λ rows. file_records sources other again ≡ Some rows)) (sym (kept-push keys kept (key_of separator name) records are.each (key_of other again)))
      (added (kept_records keys kept (key_of other again)) (bytes_eq (key_of separator name) (key_of other again)) (arc_value records) (file_records sources other again) (are.found other again)
      (λ same. let (signs, names) = same_key separator other name again same in rw (← signs, ← names) is));
}

pub records-none : (sources : List Source) → AreRecords sources [] []
records-none sources = record { each = refl; found = λ separator name. tt }

-- what is kept under a key
pub records-kept : (sources : List Source) (keys : List (List ℕ)) (kept : Kept) (separator : ℕ) (name : List ℕ) (place : ℕ) (records : Arc Records Global)
    → AreRecords sources keys kept → position (λ other. bytes_eq other (key_of separator name)) keys ≡ Some place → slice_get kept place ≡ Some records
    → file_records sources separator name ≡ Some (arc_value records)
records-kept sources keys kept separator name place records are at got =
    let here : kept_records keys kept (key_of separator name) ≡ Some (arc_value records) =
    ap (option_and_then (λ place. slice_get (values kept) place)) at ∙ slice_get-map arc_value kept place ∙ ap (option_map arc_value) got in
    subst (λ found. IfSome found (λ rows. file_records sources separator name ≡ Some rows)) here (are.found separator name)

pub kept-low : (sources : List Source) (keys : List (List ℕ)) (kept : Kept) (key : List ℕ) (place : ℕ) → AreRecords sources keys kept
    → position (λ other. bytes_eq other key) keys ≡ Some place → place < length kept
kept-low sources keys kept key place are at =
    let low = (position-Some (λ other. bytes_eq other key) keys place key at).0 in
    let long = are.each in
    omega (arith, low, long)

-- ---- a file by its name

place_at : (sources : List Source) (name : List ℕ) (o : Option ℕ) → position (λ other. bytes_eq other name) (names_of sources) ≡ o → IsSome (source_of sources name)
    → IsSome o
place_at sources name (Some place) at has = refl
place_at sources name None at has = absurd (cc (subst IsSome (pair_nowhere name sources at) has))

-- a file that is there has a place
pub place-there : (sources : List Source) (names : List (List ℕ)) (name : List ℕ) → names ≡ names_of sources → IsSome (source_of sources name)
    → IsSome (position (λ other. bytes_eq other name) names)
place-there sources names name are has = rw are (place_at sources name (position (λ other. bytes_eq other name) (names_of sources)) refl has)

-- the file at this place
pub file-there : (sources : List Source) (names : List (List ℕ)) (name : List ℕ) (place : ℕ) → names ≡ names_of sources
    → position (λ other. bytes_eq other name) names ≡ Some place → (place < length sources) × (source_of sources name ≡ slice_get sources place)
file-there sources names name place are at =
    let here = rw are at at in
    (place_low name sources place here, pair_there name sources place here)

-- ---- the records of a load

pub records-behind : (found : Option Source) (records : Records) (separator skip : ℕ) → option_map (λ source. rows_of separator 0 source.1) found ≡ Some records
    → option_map (λ source. rows_of separator skip source.1) found ≡ Some (drop skip records)
records-behind None records separator skip is = absurd (cc is)
records-behind (Some source) records separator skip is =
    let same : rows_of separator 0 source.1 ≡ records = some_same is in
    ap (λ rows. Some (drop skip rows)) same

-- the records that these bytes have
pub bytes-read : (found : Option Source) (bytes : List ℕ) (separator : ℕ) → option_map (λ source. source.1) found ≡ Some bytes
    → option_map (λ source. rows_of separator 0 source.1) found ≡ Some (rows_of separator 0 bytes)
bytes-read None bytes separator is = absurd (cc is)
bytes-read (Some source) bytes separator is = (let same : source.1 ≡ bytes = some_same is in ap (λ b. Some (rows_of separator 0 b)) same)

abbrev rows_none : Records
rows_none = []

pub nothing-behind : (skip : ℕ) → drop skip rows_none ≡ rows_none
nothing-behind zero = refl
nothing-behind (suc skip) = refl
