-- What `clap` makes of words that pass the test, and of the words of a plan.
use Rattle.std.proofs.Common.{◌≡◌, ◌∙◌, ◌==◌, ◌≤◌, ◌&&◌, ℕ, suc, List, [], ◌∷◌, ◌++◌, Bool, false, true, Option, Some, None, ap, ap₂, subst, refl, arith, codes, inl, inr, length, drop, nat_lt}
use Rattle.std.specs.Prelude.{⊤, ◌⊎◌}
use Rattle.std.specs.List.{list_all}
use Rattle.std.specs.Char.{is_ascii_digit}
use Rattle.std.proofs.lemmas.Bool.{and_parts}
use Rattle.std.proofs.lemmas.Bool.Decides.{nat_tests}
use Rattle.cube_fixed.proofs.Decimals.{digit_from_test}
use Rattle.clap.specs.Values.{bool_text}
use Rattle.clap.specs.Kinds.{Kinds, or_else}
use Rattle.clap.specs.Faults.{fault_of, turn_fault}
use Rattle.clap.specs.Walk.{Text, Waiting, Walk, idle, option, positional, subcommand_met, walked}
use Rattle.clap.proofs.OnLiterals.{clap_on_literals}
use Rattle.cube_words.specs.Inside.Command.{are_spelled, cube, is_spelled}
use Rattle.cube_words.specs.Words.{IsCheck, IsExplain, IsFeeders, IsPlan, IsRun, IsSample, IsSize, Plan, Run, Check, Explain, Feeders, Sample, names_a_file}
use Rattle.cube_words.proofs.Classes.{IsRefused, Sort, file, check, feeders, explain, sample, given, refused, sort_of}
use Rattle.cube_words.proofs.OfClap.{Before, IsClear, IsPlain, Seen, apart_size, checking, explaining, fault_of_run, faults_of, feeding, first_and_rest, is_checking, is_explaining, is_feeding, joined_size, nothing, plain_file, rules_here, seen, seen_before, seen_of_run, size_before, start, top, words_before}

-- the words are those of the plan that was seen
abbrev pub Fits : Bool → Bool → Bool → Option Text → Option Text → Option Text → List Text → Type 0
Fits false false false None (Some model) (Some user) words = IsRun words model (drop 1 words)
Fits true false false None (Some model) None words = IsCheck words model
Fits false true false None (Some model) None words = IsFeeders words model
Fits false false true None (Some model) user words = IsExplain words model (drop 2 words)
Fits false false false (Some digits) None None words = (size : ℕ) → IsSize digits size → IsSample words size
Fits _ _ _ _ _ _ words = ⊤

abbrev pub Judged : Kinds → Seen → List Text → Type 0
Judged (k ∷ ks) s words = ⊤
Judged [] s words = (check : Bool) × (feeders : Bool) × (explain : Bool) × (s.0 ≡ Some (bool_text check))
    × (s.1 ≡ Some (bool_text feeders)) × (s.2 ≡ Some (bool_text explain)) × Fits check feeders explain s.3 s.4 s.5 words

-- ---- a word that `clap` refuses

no_first : (f g : Kinds) → or_else f g ≡ [] → f ≡ []
no_first [] g e = refl
no_first (k ∷ ks) g e = cc e

no_second : (f g : Kinds) → or_else f g ≡ [] → g ≡ []
no_second [] g e = e
no_second (k ∷ ks) g e = cc e

if_refused : (f : Kinds) (s : Seen) (words : List Text) → (f ≡ [] → ⊥) → Judged f s words
if_refused [] s words never = absurd (never refl)
if_refused (k ∷ ks) s words never = tt

no_subcommand : (waiting : Waiting) (w : Text) → subcommand_met [] waiting w ≡ None
no_subcommand idle w = refl
no_subcommand (option id) w = refl
no_subcommand positional w = refl

refused_turn : (at : Walk) (w : Text) → IsRefused w → at.stopped ≡ None → at.is_trailing ≡ false → turn_fault top [] at w ≡ [] → ⊥
unfolding clap_on_literals
refused_turn at w r going leading e =
    let step = rw (going, leading, no_subcommand at.waiting w, r.dashes, r.refused at.held) at e in
    cc step

refused_first : (a : Text) (rest : List Text) → IsRefused a → fault_of cube (a ∷ rest) ≡ [] → ⊥
unfolding clap_on_literals
refused_first a rest r e = refused_turn start a r refl refl (no_first _ _ (no_first _ _ e))

refused_second : (a b : Text) → IsRefused b → (walked rules_here [] start a).stopped ≡ None → (walked rules_here [] start a).is_trailing ≡ false
    → fault_of cube (a ∷ b ∷ []) ≡ [] → ⊥
unfolding clap_on_literals
refused_second a b r going leading e =
    refused_turn (walked rules_here [] start a) b r going leading (no_first _ _ (no_second _ _ (no_first _ _ e)))

-- ---- each list of words

-- the words before the model, and a model with users behind them
module _ (m u : Text) (us : List Text) (files : list_all names_a_file (m ∷ u ∷ us) ≡ true) where
  users_fit : (b : Before) → suc (length us) ≤ 16
      → Fits (is_checking b) (is_feeding b) (is_explaining b) (size_before b) (Some m) (Some u) (words_before b ++ m ∷ u ∷ us)
  users_fit nothing few = record { all = refl; some = omega arith; few = few; files = files }
  users_fit checking few = tt
  users_fit feeding few = tt
  users_fit explaining few = record { all = inl refl; few = few; files = files }
  users_fit (joined_size v) few = tt
  users_fit (apart_size v) few = tt

  with_users : (b : Before) → IsClear b
      → Judged (fault_of cube (words_before b ++ m ∷ u ∷ us)) (seen (words_before b ++ m ∷ u ∷ us)) (words_before b ++ m ∷ u ∷ us)
  with_users b clear =
      rw (fault_of_run b m u us clear files, seen_of_run b m u us clear files) (by (nat_lt 16 (suc (length us))) refl)
    where
      by : (many : Bool) → nat_lt 16 (suc (length us)) ≡ many → Judged (faults_of many) (seen_before b m u) (words_before b ++ m ∷ u ∷ us)
      by true e = tt
      by false e =
          let few : suc (length us) ≤ 16 = grind (arith, nat_tests) in
          (is_checking b, is_feeding b, is_explaining b, refl, refl, refl, users_fit b few)

one_word : (a : Text) → Sort a → Judged (fault_of cube (a ∷ [])) (seen (a ∷ [])) (a ∷ [])
unfolding clap_on_literals
one_word a (file f) = let p = plain_file a f in rw (p.dashes, p.long, p.short) (false, false, false, refl, refl, refl, tt)
one_word a (check e) = rw e (true, false, false, refl, refl, refl, tt)
one_word a (feeders e) = rw e (false, true, false, refl, refl, refl, tt)
one_word a (explain e) = rw e (false, false, true, refl, refl, refl, tt)
one_word a (sample e) = rw e tt
one_word a (given v e) = rw e (false, false, false, refl, refl, refl, λ size is. (v, is, inr refl))
one_word a (refused r) = if_refused _ _ _ (refused_first a [] r)

two_words : (a b : Text) → Sort a → Sort b → Judged (fault_of cube (a ∷ b ∷ [])) (seen (a ∷ b ∷ [])) (a ∷ b ∷ [])
unfolding clap_on_literals
two_words a b (refused r) y = if_refused _ _ _ (refused_first a (b ∷ []) r)
two_words a b (file f) (file g) = with_users a b [] (rw (f, g) refl) nothing tt
two_words a b (file f) (check e) =
    let p = plain_file a f in rw (e, p.dashes, p.long, p.short) (true, false, false, refl, refl, refl, record { all = inr refl; file = f })
two_words a b (file f) (feeders e) =
    let p = plain_file a f in rw (e, p.dashes, p.long, p.short) (false, true, false, refl, refl, refl, record { all = inr refl; file = f })
two_words a b (file f) (explain e) =
    let p = plain_file a f in rw (e, p.dashes, p.long, p.short) (false, false, true, refl, refl, refl, record { all = inr (refl, refl); few = omega arith; files = rw f refl })
two_words a b (file f) (sample e) = let p = plain_file a f in rw (e, p.dashes, p.long, p.short) tt
two_words a b (file f) (given v e) = let p = plain_file a f in rw (e, p.dashes, p.long, p.short) (false, false, false, refl, refl, refl, tt)
two_words a b (check e) (file g) =
    let p = plain_file b g in rw (e, p.dashes, p.long, p.short) (true, false, false, refl, refl, refl, record { all = inl refl; file = g })
two_words a b (check e) (check d) = rw (e, d) tt
two_words a b (check e) (feeders d) = rw (e, d) (true, true, false, refl, refl, refl, tt)
two_words a b (check e) (explain d) = rw (e, d) (true, false, true, refl, refl, refl, tt)
two_words a b (check e) (sample d) = rw (e, d) tt
two_words a b (check e) (given v d) = rw (e, d) (true, false, false, refl, refl, refl, tt)
two_words a b (feeders e) (file g) =
    let p = plain_file b g in rw (e, p.dashes, p.long, p.short) (false, true, false, refl, refl, refl, record { all = inl refl; file = g })
two_words a b (feeders e) (check d) = rw (e, d) (true, true, false, refl, refl, refl, tt)
two_words a b (feeders e) (feeders d) = rw (e, d) tt
two_words a b (feeders e) (explain d) = rw (e, d) (false, true, true, refl, refl, refl, tt)
two_words a b (feeders e) (sample d) = rw (e, d) tt
two_words a b (feeders e) (given v d) = rw (e, d) (false, true, false, refl, refl, refl, tt)
two_words a b (explain e) (file g) =
    let p = plain_file b g in rw (e, p.dashes, p.long, p.short) (false, false, true, refl, refl, refl, record { all = inl refl; few = omega arith; files = rw g refl })
two_words a b (explain e) (check d) = rw (e, d) (true, false, true, refl, refl, refl, tt)
two_words a b (explain e) (feeders d) = rw (e, d) (false, true, true, refl, refl, refl, tt)
two_words a b (explain e) (explain d) = rw (e, d) tt
two_words a b (explain e) (sample d) = rw (e, d) tt
two_words a b (explain e) (given v d) = rw (e, d) (false, false, true, refl, refl, refl, tt)
two_words a b (sample e) (file g) =
    let p = plain_file b g in rw (e, p.dashes, p.long, p.short) (false, false, false, refl, refl, refl, λ size is. (b, is, inl refl))
two_words a b (sample e) (check d) = rw (e, d) tt
two_words a b (sample e) (feeders d) = rw (e, d) tt
two_words a b (sample e) (explain d) = rw (e, d) tt
two_words a b (sample e) (sample d) = rw (e, d) tt
two_words a b (sample e) (given v d) = rw (e, d) tt
two_words a b (given v e) (file g) = let p = plain_file b g in rw (e, p.dashes, p.long, p.short) (false, false, false, refl, refl, refl, tt)
two_words a b (given v e) (check d) = rw (e, d) (true, false, false, refl, refl, refl, tt)
two_words a b (given v e) (feeders d) = rw (e, d) (false, true, false, refl, refl, refl, tt)
two_words a b (given v e) (explain d) = rw (e, d) (false, false, true, refl, refl, refl, tt)
two_words a b (given v e) (sample d) = rw (e, d) tt
two_words a b (given v e) (given w d) = rw (e, d) tt
two_words a b (file f) (refused r) = let p = plain_file a f in if_refused _ _ _ (refused_second a b r (rw (p.dashes, p.long, p.short) refl) (rw (p.dashes, p.long, p.short) refl))
two_words a b (check e) (refused r) = if_refused _ _ _ (refused_second a b r (rw e refl) (rw e refl))
two_words a b (feeders e) (refused r) = if_refused _ _ _ (refused_second a b r (rw e refl) (rw e refl))
two_words a b (explain e) (refused r) = if_refused _ _ _ (refused_second a b r (rw e refl) (rw e refl))
two_words a b (sample e) (refused r) = if_refused _ _ _ (refused_second a b r (rw e refl) (rw e refl))
two_words a b (given v e) (refused r) = if_refused _ _ _ (refused_second a b r (rw e refl) (rw e refl))

-- a size before the model, and no user
size_and_model : (v m : Text) → IsPlain v → IsPlain m
    → Judged (fault_of cube (codes "--sample" ∷ v ∷ m ∷ [])) (seen (codes "--sample" ∷ v ∷ m ∷ [])) (codes "--sample" ∷ v ∷ m ∷ [])
unfolding clap_on_literals
size_and_model v m q p =
    rw (q.dashes, q.long, q.short, p.dashes, p.long, p.short) (false, false, false, refl, refl, refl, tt)

behind_size : (v m : Text) (us : List Text) → list_all names_a_file (v ∷ m ∷ us) ≡ true
    → Judged (fault_of cube (codes "--sample" ∷ v ∷ m ∷ us)) (seen (codes "--sample" ∷ v ∷ m ∷ us)) (codes "--sample" ∷ v ∷ m ∷ us)
behind_size v m [] files =
    let (size, others) = first_and_rest v (m ∷ []) files in
    size_and_model v m (plain_file v size) (plain_file m (first_and_rest m [] others).0)
behind_size v m (u ∷ us) files =
    let (size, others) = first_and_rest v (m ∷ u ∷ us) files in with_users m u us others (apart_size v) (plain_file v size)

-- a word of any sort, and two files or more
more_words : (a b c : Text) (rest : List Text) → Sort a → list_all names_a_file (b ∷ c ∷ rest) ≡ true
    → Judged (fault_of cube (a ∷ b ∷ c ∷ rest)) (seen (a ∷ b ∷ c ∷ rest)) (a ∷ b ∷ c ∷ rest)
more_words a b c rest (file f) files = with_users a b (c ∷ rest) (ap₂ (λ x y. x && y) f files) nothing tt
more_words a b c rest (check e) files = rw e (with_users b c rest files checking tt)
more_words a b c rest (feeders e) files = rw e (with_users b c rest files feeding tt)
more_words a b c rest (explain e) files = rw e (with_users b c rest files explaining tt)
more_words a b c rest (sample e) files = rw e (behind_size b c rest files)
more_words a b c rest (given v e) files = rw e (with_users b c rest files (joined_size v) tt)
more_words a b c rest (refused r) files = if_refused _ _ _ (refused_first a (b ∷ c ∷ rest) r)

no_words : Judged (fault_of cube []) (seen []) []
unfolding clap_on_literals
no_words = (false, false, false, refl, refl, refl, tt)

pub judged : (words : List Text) → are_spelled words ≡ true → Judged (fault_of cube words) (seen words) words
judged [] spelled = no_words
judged (a ∷ []) spelled = one_word a (sort_of a spelled)
judged (a ∷ b ∷ []) spelled =
    let (first, second) = and_parts (is_spelled a) (is_spelled b) spelled in
    two_words a b (sort_of a first) (sort_of b second)
judged (a ∷ b ∷ c ∷ rest) spelled =
    let (first, files) = and_parts (is_spelled a) (list_all names_a_file (b ∷ c ∷ rest)) spelled in
    more_words a b c rest (sort_of a first) files

-- ---- the words of a plan

pub record IsTaken (words : List Text) (check feeders explain : Bool) (size model user : Option Text) : Type 0 where
  pub spelled : are_spelled words ≡ true
  pub taken : fault_of cube words ≡ []
  pub shown : seen words ≡ (Some (bool_text check), Some (bool_text feeders), Some (bool_text explain), size, model, user)

file_spelled : (w : Text) → names_a_file w ≡ true → is_spelled w ≡ true
file_spelled w f = rw f refl

all_spelled : (words : List Text) → list_all names_a_file words ≡ true → are_spelled words ≡ true
all_spelled [] files = files
all_spelled (a ∷ []) files = file_spelled a (first_and_rest a [] files).0
all_spelled (a ∷ b ∷ []) files =
    let (first, rest) = first_and_rest a (b ∷ []) files in
    ap₂ (λ x y. x && y) (file_spelled a first) (file_spelled b (first_and_rest b [] rest).0)
all_spelled (a ∷ b ∷ c ∷ rest) files =
    let (first, others) = first_and_rest a (b ∷ c ∷ rest) files in ap₂ (λ x y. x && y) (file_spelled a first) others

few_enough : (n : ℕ) → suc n ≤ 16 → faults_of (nat_lt 16 (suc n)) ≡ []
few_enough n few =
    let enough : nat_lt 16 (suc n) ≡ false = grind (arith, nat_tests) in
    ap faults_of enough

pub run_taken : (words : List Text) (m : Text) (us : List Text) → IsRun words m us → (u : Text) × IsTaken words false false false None (Some m) (Some u)
run_taken words m [] is = let some = is.some in absurd (omega arith)
run_taken words m (u ∷ us) is =
    let files : list_all names_a_file (m ∷ u ∷ us) ≡ true = subst (λ ws. list_all names_a_file ws ≡ true) is.all is.files in (
      u,
      rw is.all (record {
        spelled = all_spelled (m ∷ u ∷ us) files;
        taken = fault_of_run nothing m u us tt files ∙ few_enough (length us) is.few;
        shown = seen_of_run nothing m u us tt files;
      }),
    )

-- an explanation with no user
explain_alone : (words : List Text) (m : Text) → names_a_file m ≡ true
    → (words ≡ codes "--explain" ∷ m ∷ []) ⊎ (words ≡ m ∷ codes "--explain" ∷ []) → IsTaken words false false true None (Some m) None
unfolding clap_on_literals
explain_alone words m is all =
    let p = plain_file m is in
    elim all [
      | inl e ↦ rw e (record { spelled = rw is refl; taken = rw (p.dashes, p.long, p.short) refl; shown = rw (p.dashes, p.long, p.short) refl })
      | inr e ↦ rw e (record { spelled = rw is refl; taken = rw (p.dashes, p.long, p.short) refl; shown = rw (p.dashes, p.long, p.short) refl })
    ]

no_user : (us : List Text) (u : Text) → u ∷ us ≡ [] → ⊥
no_user us u e = cc e

pub explain_taken : (words : List Text) (m : Text) (us : List Text) → IsExplain words m us
    → (user : Option Text) × IsTaken words false false true None (Some m) user
explain_taken words m [] is =
    let (named, others) = first_and_rest m [] is.files in (
      None,
      elim is.all [
        | inl e ↦ explain_alone words m named (inl e)
        | inr (none, e) ↦ explain_alone words m named (inr e)
      ],
    )
explain_taken words m (u ∷ us) is = (
  Some u,
  elim is.all [
    | inl e ↦ rw e (record {
      spelled = is.files;
      taken = fault_of_run explaining m u us tt is.files ∙ few_enough (length us) is.few;
      shown = seen_of_run explaining m u us tt is.files;
    })
    | inr (none, e) ↦ absurd (no_user us u none)
  ],
)

pub check_taken : (words : List Text) (m : Text) → IsCheck words m → IsTaken words true false false None (Some m) None
unfolding clap_on_literals
check_taken words m is =
    let p = plain_file m is.file in
    elim is.all [
      | inl e ↦ rw e (record { spelled = rw is.file refl; taken = rw (p.dashes, p.long, p.short) refl; shown = rw (p.dashes, p.long, p.short) refl })
      | inr e ↦ rw e (record { spelled = rw is.file refl; taken = rw (p.dashes, p.long, p.short) refl; shown = rw (p.dashes, p.long, p.short) refl })
    ]

pub feeders_taken : (words : List Text) (m : Text) → IsFeeders words m → IsTaken words false true false None (Some m) None
unfolding clap_on_literals
feeders_taken words m is =
    let p = plain_file m is.file in
    elim is.all [
      | inl e ↦ rw e (record { spelled = rw is.file refl; taken = rw (p.dashes, p.long, p.short) refl; shown = rw (p.dashes, p.long, p.short) refl })
      | inr e ↦ rw e (record { spelled = rw is.file refl; taken = rw (p.dashes, p.long, p.short) refl; shown = rw (p.dashes, p.long, p.short) refl })
    ]

digits_file : (digits : Text) (size : ℕ) → IsSize digits size → names_a_file digits ≡ true
digits_file [] size is =
    let none : 0 ≡ size = is.value in
    let least = is.least in
    absurd (omega arith)
digits_file (d ∷ ds) size is =
    let (low, high) = digit_from_test d (and_parts (is_ascii_digit d) (list_all is_ascii_digit ds) is.digits_only).0 in
    let other : (d == 45) ≡ false = grind (arith, nat_tests) in
    rw other refl

pub sample_taken : (words : List Text) (size : ℕ) → IsSample words size → (digits : Text) × IsSize digits size × IsTaken words false false false (Some digits) None None
unfolding clap_on_literals
sample_taken words size (digits, is, all) =
    let f = digits_file digits size is in
    let p = plain_file digits f in (
      digits,
      is,
      elim all [
        | inl e ↦ rw e (record { spelled = rw f refl; taken = rw (p.dashes, p.long, p.short) refl; shown = rw (p.dashes, p.long, p.short) refl })
        | inr e ↦ rw e (record { spelled = refl; taken = refl; shown = refl })
      ],
    )

-- the words of a plan pass the test, and `clap` takes them
pub plan_passes : (words : List Text) (plan : Plan) → IsPlan words plan → (are_spelled words ≡ true) × (fault_of cube words ≡ [])
plan_passes words (Run m us) is = let (u, t) = run_taken words m us is in (t.spelled, t.taken)
plan_passes words (Check m) is = let t = check_taken words m is in (t.spelled, t.taken)
plan_passes words (Explain m us) is = let (u, t) = explain_taken words m us is in (t.spelled, t.taken)
plan_passes words (Feeders m) is = let t = feeders_taken words m is in (t.spelled, t.taken)
plan_passes words (Sample size) is = let (digits, of, t) = sample_taken words size is in (t.spelled, t.taken)
