-- The records that a reader has left, read one by one.
use Rattle.std.proofs.Common.{◌≡◌, ℕ, zero, suc, List, [], ◌∷◌, ◌++◌, append_assoc, drop, Option, Some, true, false, refl, sym, ◌∙◌}
use Rattle.std.proofs.lemmas.List.{append-nil}
use Rattle.csv.specs.Reading.{ReadRecord, Reached, records_from, source_of}
use Rattle.csv.specs.declared.parser.Config.{Config}
use Rattle.csv.specs.declared.parser.State.{State}
use Rattle.csv.specs.declared.reader.Reader.{Reader}
use Rattle.csv.proofs.ReadFacts.{rows-end, rows-more}

one_more : (by : Config) (n : ℕ) (s t : State) (y z : List ℕ) (field : List (List ℕ)) → Reached by s y (field ∷ []) t z
    → records_from by (suc n) s y ≡ field ∷ records_from by n t z
unfolding Reached records_from
one_more by n s t y z field h = rw (h.1, h.2, ← h.3.0, ← h.3.1) refl

pub turn_reads : {R : Type 0} (by : Config) (rem : R → Option (List ℕ)) (a b : Reader R) (fields : List (List ℕ)) (n : ℕ) (y : List ℕ)
    → a.config ≡ by → source_of rem a ≡ Some y → ReadRecord rem a b true fields
    → (z : List ℕ) × (source_of rem b ≡ Some z)
    × (records_from by (suc n) a.state y ≡ fields ∷ records_from by n b.state z)
unfolding Reached
turn_reads by rem a b fields n y config left read =
    let (z, rest, reached) = rows-more rem a b fields by a.state y y [] config left (refl, refl) read in
    (z, rest, one_more by n a.state b.state y z fields reached)

pub turn_ends : {R : Type 0} (by : Config) (rem : R → Option (List ℕ)) (a b : Reader R) (fields : List (List ℕ)) (n : ℕ) (y : List ℕ)
    → a.config ≡ by → source_of rem a ≡ Some y → ReadRecord rem a b false fields
    → records_from by n a.state y ≡ []
unfolding records_from
turn_ends by rem a b fields zero y config left read = refl
turn_ends by rem a b fields (suc n) y config left read = rw (rows-end rem a b fields by y config left read) refl

-- a record that is skipped, and one that is kept
pub passes_over : (n m : ℕ) (rows left rest all : List (List (List ℕ))) (fields : List (List ℕ))
    → n ≡ suc m → left ≡ fields ∷ rest → rows ++ drop n left ≡ all → rows ++ drop m rest ≡ all
passes_over n m rows left rest all fields one is whole = rw (one, is) at whole

pub keeps_it : (n : ℕ) (rows left rest all : List (List (List ℕ))) (fields : List (List ℕ))
    → n ≡ 0 → left ≡ fields ∷ rest → rows ++ drop n left ≡ all → (rows ++ fields ∷ []) ++ drop n rest ≡ all
keeps_it n rows left rest all fields none is whole = rw (none, append_assoc rows (fields ∷ []) rest) (rw (none, is) at whole)

-- behind the last turn nothing is left
pub no_turn : (by : Config) (n : ℕ) (s : State) (y : List ℕ) → n ≡ 0 → records_from by n s y ≡ []
unfolding records_from
no_turn by n s y none = rw none refl

drop_none : (n : ℕ) → drop {A = List (List ℕ)} n [] ≡ []
drop_none zero = refl
drop_none (suc n) = refl

pub nothing_left : (n : ℕ) (rows left all : List (List (List ℕ))) → left ≡ [] → rows ++ drop n left ≡ all → rows ≡ all
nothing_left n rows left all none whole = sym (append-nil rows) ∙ rw (none, drop_none n) at whole
