-- What `clap` makes of the model and of any number of users, behind no word, a flag or a size.
use Rattle.std.proofs.Common.{◌≡◌, ◌∙◌, suc, List, [], ◌∷◌, ◌++◌, Bool, false, true, Option, Some, None, ap, ap₂, sym, refl, codes, length, append_assoc, append-nil, fold, arith, is_some, cond, nat_lt, ◌==◌}
use Rattle.std.specs.Prelude.{⊤}
use Rattle.std.specs.Str.{bytes_eq}
use Rattle.std.specs.List.{list_all}
use Rattle.std.proofs.lemmas.Bool.{and_parts}
use Rattle.std.proofs.lemmas.Bool.Decides.{nat_tests}
use Rattle.clap.specs.Lexer.{long_of, short_of}
use Rattle.clap.specs.Walk.{idle, Row, Rule, Text, Walk, finished, nothing_held, one_of, first_of, positional, settled, walk, walk_from, walked}
use Rattle.clap.specs.Simple.{Shape, built, entered, matches_of}
use Rattle.clap.specs.Faults.{check_fault, defaults_fault, entered_fault, fault_of, settle_fault, turn_fault, values_fault, walk_fault}
use Rattle.clap.specs.Kinds.{Kinds, or_else}
use Rattle.clap.specs.Values.{bool_text}
use Rattle.clap.specs.declared.error.kind.ErrorKind.TheVariants.{TooManyValues}
use Rattle.clap.specs.declared.builder.value_parser.Reading.TheVariants.{AsWritten}
use Rattle.clap.specs.declared.parser.matches.ValueSource.TheVariants.{CommandLine}
use Rattle.clap.proofs.OnLiterals.{clap_on_literals}
use Rattle.cube_words.specs.Inside.Command.{cube, users_rule}
use Rattle.cube_words.specs.Words.{names_a_file}

abbrev pub top : Shape
top = (built cube).top

abbrev pub rules_here : List Rule
rules_here = top.rules

-- the texts that the getters read
abbrev pub Seen : Type 0
Seen = Option Text × Option Text × Option Text × Option Text × Option Text × Option Text

abbrev seen_in : List Row → Seen
seen_in rows = (
  one_of (codes "check") rows,
  one_of (codes "feeders") rows,
  one_of (codes "explain") rows,
  first_of (codes "sample") rows,
  first_of (codes "model") rows,
  first_of (codes "users") rows,
)

abbrev pub seen : List Text → Seen
seen words = seen_in (matches_of cube words)

-- `clap` takes the word for no flag
pub record IsPlain (w : Text) : Type 0 where
  pub dashes : bytes_eq w (45 ∷ 45 ∷ []) ≡ false
  pub long : long_of w ≡ None
  pub short : short_of w ≡ None

pub plain_file : (w : Text) → names_a_file w ≡ true → IsPlain w
plain_file [] file = cc file
plain_file (c ∷ cs) file =
    let other : (c == 45) ≡ false = grind (arith, nat_tests) in
    record { dashes = rw other refl; long = rw other refl; short = rw other refl }

-- what stands before the model: no word, a flag, or a size as one word or as two
pub data Before : Type 0 where
  nothing : Before
  checking : Before
  feeding : Before
  explaining : Before
  joined_size : Text → Before
  apart_size : Text → Before

abbrev pub words_before : Before → List Text
words_before nothing = []
words_before checking = codes "--check" ∷ []
words_before feeding = codes "--feeders" ∷ []
words_before explaining = codes "--explain" ∷ []
words_before (joined_size v) = (codes "--sample=" ++ v) ∷ []
words_before (apart_size v) = codes "--sample" ∷ v ∷ []

-- a size that is a word of its own is no flag
abbrev pub IsClear : Before → Type 0
IsClear (apart_size v) = IsPlain v
IsClear _ = ⊤

abbrev given : Text → Text → Row
given id value = record { id = id; values = value ∷ []; count = None; source = Some CommandLine; reading = AsWritten }

abbrev rows_before : Before → List Row
rows_before nothing = []
rows_before checking = given (codes "check") (codes "true") ∷ []
rows_before feeding = given (codes "feeders") (codes "true") ∷ []
rows_before explaining = given (codes "explain") (codes "true") ∷ []
rows_before (joined_size v) = given (codes "sample") v ∷ []
rows_before (apart_size v) = given (codes "sample") v ∷ []

abbrev rows_with : Before → Text → List Row
rows_with b m = rows_before b ++ given (codes "model") m ∷ []

-- where the walk stands after the model
abbrev at_model : List Row → Text → Walk
at_model rows m = record {
  held = record { rows = rows; pending = Some (codes "model", m ∷ []); skip = 0 };
  waiting = idle;
  position = 2;
  is_trailing = false;
  stopped = None;
}

-- where it stands after these users
abbrev at_users : List Row → List Text → Walk
at_users rows us = record {
  held = record { rows = rows; pending = Some (codes "users", us); skip = 0 };
  waiting = positional;
  position = 2;
  is_trailing = false;
  stopped = None;
}

more_words : (rows : List Row) (us : List Text) (w : Text) → IsPlain w → walked rules_here [] (at_users rows us) w ≡ at_users rows (us ++ w ∷ [])
unfolding clap_on_literals
more_words rows us w p = rw (p.dashes, p.long, p.short) refl

no_turn_fault : (rows : List Row) (us : List Text) (w : Text) → IsPlain w → turn_fault top [] (at_users rows us) w ≡ []
unfolding clap_on_literals
no_turn_fault rows us w p = rw (p.dashes, p.long, p.short) refl

pub first_and_rest : (u : Text) (us : List Text) → list_all names_a_file (u ∷ us) ≡ true → (names_a_file u ≡ true) × (list_all names_a_file us ≡ true)
first_and_rest u us files = and_parts (names_a_file u) (list_all names_a_file us) files

walk_more : (rows : List Row) (vs us : List Text) → list_all names_a_file us ≡ true → fold (walked rules_here []) (at_users rows vs) us ≡ at_users rows (vs ++ us)
walk_more rows vs [] files = ap (at_users rows) (sym (append-nil vs))
walk_more rows vs (u ∷ us) files =
    let (file, rest) = first_and_rest u us files in
    ap (λ w. fold (walked rules_here []) w us) (more_words rows vs u (plain_file u file))
    ∙ walk_more rows (vs ++ u ∷ []) us rest ∙ ap (at_users rows) (append_assoc vs (u ∷ []) us)

fault_more : (rows : List Row) (vs us : List Text) → list_all names_a_file us ≡ true → walk_fault top [] (at_users rows vs) us ≡ []
unfolding walk_fault
fault_more rows vs [] files = refl
fault_more rows vs (u ∷ us) files =
    let (file, rest) = first_and_rest u us files in
    ap₂ or_else (no_turn_fault rows vs u (plain_file u file))
    (ap (λ w. walk_fault top [] w us) (more_words rows vs u (plain_file u file)) ∙ fault_more rows (vs ++ u ∷ []) us rest)

-- the walk up to the model
abbrev pub start : Walk
start = walk_from nothing_held

walk_to_model : (b : Before) (m : Text) (us : List Text) → IsClear b → IsPlain m
    → walk rules_here [] nothing_held (words_before b ++ m ∷ us) ≡ fold (walked rules_here []) (at_model (rows_before b) m) us
unfolding clap_on_literals
walk_to_model nothing m us clear p = rw (p.dashes, p.long, p.short) refl
walk_to_model checking m us clear p = rw (p.dashes, p.long, p.short) refl
walk_to_model feeding m us clear p = rw (p.dashes, p.long, p.short) refl
walk_to_model explaining m us clear p = rw (p.dashes, p.long, p.short) refl
walk_to_model (joined_size v) m us clear p = rw (p.dashes, p.long, p.short) refl
walk_to_model (apart_size v) m us clear p = rw (clear.dashes, clear.long, clear.short, p.dashes, p.long, p.short) refl

fault_to_model : (b : Before) (m : Text) (us : List Text) → IsClear b → IsPlain m
    → walk_fault top [] start (words_before b ++ m ∷ us) ≡ walk_fault top [] (at_model (rows_before b) m) us
unfolding clap_on_literals
fault_to_model nothing m us clear p = rw (p.dashes, p.long, p.short) refl
fault_to_model checking m us clear p = rw (p.dashes, p.long, p.short) refl
fault_to_model feeding m us clear p = rw (p.dashes, p.long, p.short) refl
fault_to_model explaining m us clear p = rw (p.dashes, p.long, p.short) refl
fault_to_model (joined_size v) m us clear p = rw (p.dashes, p.long, p.short) refl
fault_to_model (apart_size v) m us clear p = rw (clear.dashes, clear.long, clear.short, p.dashes, p.long, p.short) refl

first_user : (b : Before) (m u : Text) → IsPlain u
    → (walked rules_here [] (at_model (rows_before b) m) u ≡ at_users (rows_with b m) (u ∷ [])) × (turn_fault top [] (at_model (rows_before b) m) u ≡ [])
unfolding clap_on_literals
first_user nothing m u p = (rw (p.dashes, p.long, p.short) refl, rw (p.dashes, p.long, p.short) refl)
first_user checking m u p = (rw (p.dashes, p.long, p.short) refl, rw (p.dashes, p.long, p.short) refl)
first_user feeding m u p = (rw (p.dashes, p.long, p.short) refl, rw (p.dashes, p.long, p.short) refl)
first_user explaining m u p = (rw (p.dashes, p.long, p.short) refl, rw (p.dashes, p.long, p.short) refl)
first_user (joined_size v) m u p = (rw (p.dashes, p.long, p.short) refl, rw (p.dashes, p.long, p.short) refl)
first_user (apart_size v) m u p = (rw (p.dashes, p.long, p.short) refl, rw (p.dashes, p.long, p.short) refl)

module _ (b : Before) (m u : Text) (us : List Text) (clear : IsClear b) (files : list_all names_a_file (m ∷ u ∷ us) ≡ true) where
  model_plain : IsPlain m
  model_plain = plain_file m (first_and_rest m (u ∷ us) files).0

  user_plain : IsPlain u
  user_plain = plain_file u (first_and_rest u us (first_and_rest m (u ∷ us) files).1).0

  others : list_all names_a_file us ≡ true
  others = (first_and_rest u us (first_and_rest m (u ∷ us) files).1).1

  walk_of_run : walk rules_here [] nothing_held (words_before b ++ m ∷ u ∷ us) ≡ at_users (rows_with b m) (u ∷ us)
  walk_of_run = walk_to_model b m (u ∷ us) clear model_plain
      ∙ ap (λ w. fold (walked rules_here []) w us) (first_user b m u user_plain).0 ∙ walk_more (rows_with b m) (u ∷ []) us others

  walk_fault_of_run : walk_fault top [] start (words_before b ++ m ∷ u ∷ us) ≡ []
  unfolding walk_fault
  walk_fault_of_run = fault_to_model b m (u ∷ us) clear model_plain ∙ ap₂ or_else (first_user b m u user_plain).1
      (ap (λ w. walk_fault top [] w us) (first_user b m u user_plain).0 ∙ fault_more (rows_with b m) (u ∷ []) us others)

-- the faults and the getters' texts, by the walk
abbrev fault_at : Kinds → Walk → Kinds
fault_at f w = or_else f (or_else (entered_fault (built cube) w.stopped)
    (or_else (settle_fault rules_here false w.held) (or_else (defaults_fault (settled rules_here w.held).rows rules_here)
    (check_fault top (finished rules_here w.held) (is_some (entered (built cube) w.stopped))))))

abbrev seen_at : Walk → Seen
seen_at w = seen_in (finished rules_here w.held)

no_value_fault : (us : List Text) → values_fault users_rule us ≡ []
no_value_fault [] = refl
no_value_fault (u ∷ us) = no_value_fault us

abbrev pub faults_of : Bool → Kinds
faults_of too_many = cond too_many (TooManyValues ∷ []) []

module _ (us : List Text) where
  fault_of_count : (x : Bool) → or_else (or_else (faults_of x) (values_fault users_rule us)) [] ≡ faults_of x
  fault_of_count true = refl
  fault_of_count false = ap (λ f. or_else f []) (no_value_fault us)

  fault_at_users : (b : Before) (m u : Text) (x : Bool) → nat_lt 16 (suc (length us)) ≡ x
      → (suc (length us) == 0) ≡ false → nat_lt (suc (length us)) 1 ≡ false → fault_at [] (at_users (rows_with b m) (u ∷ us)) ≡ faults_of x
  unfolding clap_on_literals
  fault_at_users nothing m u x many some enough = rw (some, enough, many) (fault_of_count x)
  fault_at_users checking m u x many some enough = rw (some, enough, many) (fault_of_count x)
  fault_at_users feeding m u x many some enough = rw (some, enough, many) (fault_of_count x)
  fault_at_users explaining m u x many some enough = rw (some, enough, many) (fault_of_count x)
  fault_at_users (joined_size v) m u x many some enough = rw (some, enough, many) (fault_of_count x)
  fault_at_users (apart_size v) m u x many some enough = rw (some, enough, many) (fault_of_count x)

pub fault_of_run : (b : Before) (m u : Text) (us : List Text) → IsClear b → list_all names_a_file (m ∷ u ∷ us) ≡ true
    → fault_of cube (words_before b ++ m ∷ u ∷ us) ≡ faults_of (nat_lt 16 (suc (length us)))
fault_of_run b m u us clear files =
    let some : (suc (length us) == 0) ≡ false = grind (arith, nat_tests) in
    let enough : nat_lt (suc (length us)) 1 ≡ false = grind (arith, nat_tests) in
    ap₂ fault_at (walk_fault_of_run b m u us clear files) (walk_of_run b m u us clear files) ∙ fault_at_users us b m u _ refl some enough

-- what the getters read where these words stand before the model
abbrev pub is_checking : Before → Bool
is_checking checking = true
is_checking _ = false

abbrev pub is_feeding : Before → Bool
is_feeding feeding = true
is_feeding _ = false

abbrev pub is_explaining : Before → Bool
is_explaining explaining = true
is_explaining _ = false

abbrev pub size_before : Before → Option Text
size_before (joined_size v) = Some v
size_before (apart_size v) = Some v
size_before _ = None

abbrev pub seen_before : Before → Text → Text → Seen
seen_before b m u = (
  Some (bool_text (is_checking b)),
  Some (bool_text (is_feeding b)),
  Some (bool_text (is_explaining b)),
  size_before b,
  Some m,
  Some u,
)

seen_at_users : (b : Before) (m u : Text) (us : List Text) → seen_at (at_users (rows_with b m) (u ∷ us)) ≡ seen_before b m u
seen_at_users nothing m u us = refl
seen_at_users checking m u us = refl
seen_at_users feeding m u us = refl
seen_at_users explaining m u us = refl
seen_at_users (joined_size v) m u us = refl
seen_at_users (apart_size v) m u us = refl

pub seen_of_run : (b : Before) (m u : Text) (us : List Text) → IsClear b → list_all names_a_file (m ∷ u ∷ us) ≡ true
    → seen (words_before b ++ m ∷ u ∷ us) ≡ seen_before b m u
seen_of_run b m u us clear files = ap seen_at (walk_of_run b m u us clear files) ∙ seen_at_users b m u us
