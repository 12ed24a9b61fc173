-- What the variables held at the mark, while some of them are set.
use Rattle.std.proofs.Common.{◌≡◌, ◌≢◌, ℕ, ◌<◌, Bool, true, false, ◌||◌, cond, eqb, List, [], ◌∷◌, ◌++◌, length, Option, None, Some, get_or, set, refl, ap, sym, ◌∙◌, subst, All}
use Rattle.std.proofs.Math.ListN.{length-set}
use Rattle.std.proofs.lemmas.Bool.{eqb-true, eqb-false}
use Rattle.std.proofs.lemmas.List.{get_or-set_same, get_or-set_other, set-set, set_comm, set-get_or}
use Rattle.std.proofs.lemmas.List.Elements.{All-pop, All-push}
use Rattle.std.proofs.lemmas.List.Folds.{list_any-append}
use Rattle.script_values.specs.declared.kept.Kept.{Kept}
use Rattle.script_run.specs.Inside.Running.{before_changes, is_changed, AreFlagged}

abbrev Changes : Type 0
Changes = List (ℕ × Option Kept)

abbrev Variables : Type 0
Variables = List (Option Kept)

-- the last change is undone first
pub before-last : (changes : Changes) (change : ℕ × Option Kept) (vs : Variables)
    → before_changes (changes ++ change ∷ []) vs ≡ before_changes changes (set vs change.0 change.1)
before-last [] change vs = refl
before-last (c ∷ changes) change vs = ap (λ (b : Variables). set b c.0 c.1) (before-last changes change vs)

-- a variable that is set and set again
off_by : (c : ℕ × Option Kept) (now was : Variables) (place : ℕ) (x : Option Kept) (b : Bool) → eqb c.0 place ≡ b
    → set now place x ≡ set was place x → set (set now c.0 c.1) place x ≡ set (set was c.0 c.1) place x
off_by c now was place x true e same =
    subst (λ (k : ℕ). set (set now k c.1) place x ≡ set (set was k c.1) place x) (sym (eqb-true c.0 place e))
    (set-set now place c.1 x ∙ same ∙ sym (set-set was place c.1 x))
off_by c now was place x false e same =
    let other : c.0 ≢ place = eqb-false c.0 place e in
    set_comm now c.0 place c.1 x other ∙ ap (λ (b : Variables). set b c.0 c.1) same ∙ sym (set_comm was c.0 place c.1 x other)

off : (changes : Changes) (vs : Variables) (place : ℕ) (v x : Option Kept)
    → set (before_changes changes (set vs place v)) place x ≡ set (before_changes changes vs) place x
off [] vs place v x = set-set vs place v x
off (c ∷ changes) vs place v x =
    off_by c (before_changes changes (set vs place v)) (before_changes changes vs) place x (eqb c.0 place) refl (off changes vs place v x)

before_by : (c : ℕ × Option Kept) (changes : Changes) (now was : Variables) (place : ℕ) (b : Bool) → eqb c.0 place ≡ b
    → set now place c.1 ≡ set was place c.1 → (is_changed changes place ≡ true → now ≡ was) → (b || is_changed changes place) ≡ true
    → set now c.0 c.1 ≡ set was c.0 c.1
before_by c changes now was place true e set_same same is = subst (λ (k : ℕ). set now k c.1 ≡ set was k c.1) (sym (eqb-true c.0 place e)) set_same
before_by c changes now was place false e set_same same is = ap (λ (b : Variables). set b c.0 c.1) (same is)

-- to set a variable that is among the changes doesn't matter
pub before-set : (changes : Changes) (vs : Variables) (place : ℕ) (v : Option Kept) → is_changed changes place ≡ true
    → before_changes changes (set vs place v) ≡ before_changes changes vs
before-set [] vs place v is = absurd (cc is)
before-set (c ∷ changes) vs place v is =
    before_by c changes (before_changes changes (set vs place v)) (before_changes changes vs) place (eqb c.0 place) refl
    (off changes vs place v c.1) (before-set changes vs place v) is

-- what it held is listed
pub before-listed : (changes : Changes) (vs : Variables) (place : ℕ) (v : Option Kept)
    → before_changes (changes ++ (place, get_or vs place None) ∷ []) (set vs place v) ≡ before_changes changes vs
before-listed changes vs place v =
    before-last changes (place, get_or vs place None) (set vs place v)
    ∙ ap (before_changes changes) (set-set vs place v (get_or vs place None) ∙ set-get_or vs place None)

or_true : (b : Bool) → (b || true) ≡ true
or_true true = refl
or_true false = refl

or_false : (b : Bool) → (b || false) ≡ b
or_false true = refl
or_false false = refl

-- which are changed behind one more change
changed-last : (changes : Changes) (c : ℕ × Option Kept) (k : ℕ) → is_changed (changes ++ c ∷ []) k ≡ (is_changed changes k || (eqb c.0 k || false))
changed-last changes c k = list_any-append (λ (change : ℕ × Option Kept). eqb change.0 k) changes (c ∷ [])

-- a change is listed and gets its flag
pub flagged-listed : (changes : Changes) (flags : List Bool) (place : ℕ) (before : Option Kept) → place < length flags → AreFlagged changes flags
    → AreFlagged (changes ++ (place, before) ∷ []) (set flags place true)
flagged-listed changes flags place before there is = record {
  within = subst (λ (n : ℕ). All (λ c. c.0 < n) (changes ++ (place, before) ∷ [])) (sym (length-set flags place true)) (All-push (λ c. c.0 < length flags) changes (place, before) is.within there);
  listed = λ k on. changed-last changes (place, before) k ∙ by k (eqb place k) refl on;
}
  where
    by : (k : ℕ) (b : Bool) → eqb place k ≡ b → get_or (set flags place true) k false ≡ true → (is_changed changes k || (eqb place k || false)) ≡ true
    by k true e on = ap (λ (b : Bool). is_changed changes k || (b || false)) e ∙ or_true (is_changed changes k)
    by k false e on =
        let other : k ≢ place = (λ same. eqb-false place k e (sym same)) in
        ap (λ (b : Bool). b || (eqb place k || false)) (is.listed k (sym (get_or-set_other flags place k true false other) ∙ on))

-- what has its flag stays listed
pub flagged-again : (changes : Changes) (flags : List Bool) (place : ℕ) → get_or flags place false ≡ true → AreFlagged changes flags
    → AreFlagged changes (set flags place true)
flagged-again changes flags place on is =
    subst (AreFlagged changes) (sym (ap (set flags place) (sym on) ∙ set-get_or flags place false)) is

-- the last change is taken out of the list
taken_by : (changes rest : Changes) (flags : List Bool) (c : ℕ × Option Kept) → changes ≡ rest ++ c ∷ [] → AreFlagged changes flags
    → c.0 < length flags → (k : ℕ) (b : Bool) → eqb c.0 k ≡ b → get_or (set flags c.0 false) k false ≡ true → is_changed rest k ≡ true
taken_by changes rest flags c same is there k true e on =
    let none : get_or (set flags c.0 false) k false ≡ false =
    subst (λ (j : ℕ). get_or (set flags c.0 false) j false ≡ false) (eqb-true c.0 k e) (get_or-set_same flags c.0 false false there) in
    absurd (cc (none, on))
taken_by changes rest flags c same is there k false e on =
    let other : k ≢ c.0 = (λ is. eqb-false c.0 k e (sym is)) in
    let was : is_changed changes k ≡ true = is.listed k (sym (get_or-set_other flags c.0 k false false other) ∙ on) in
    sym (or_false (is_changed rest k)) ∙ sym (ap (λ (b : Bool). is_changed rest k || (b || false)) e)
    ∙ sym (changed-last rest c k) ∙ sym (ap (λ (cs : Changes). is_changed cs k) same) ∙ was

pub flagged-taken : (changes rest : Changes) (flags : List Bool) (c : ℕ × Option Kept) → changes ≡ rest ++ c ∷ [] → AreFlagged changes flags
    → (c.0 < length flags) × AreFlagged rest (set flags c.0 false)
flagged-taken changes rest flags c same is =
    let all = All-pop (λ (change : ℕ × Option Kept). change.0 < length flags) changes rest (Some c) same is.within in (
      all.1,
      record {
        within = subst (λ (n : ℕ). All (λ change. change.0 < n) rest) (sym (length-set flags c.0 false)) all.0;
        listed = λ k on. taken_by changes rest flags c same is all.1 k (eqb c.0 k) refl on;
      },
    )

-- the changes after a variable is set, and their flags
abbrev with_change : Changes → List Bool → ℕ → Option Kept → Changes
with_change changes flags place before = cond (get_or flags place false) changes (changes ++ (place, before) ∷ [])

pub before-kept : (changes : Changes) (flags : List Bool) (vs : Variables) (place : ℕ) (v before : Option Kept) → AreFlagged changes flags → before ≡ get_or vs place None
    → before_changes (with_change changes flags place before) (set vs place v) ≡ before_changes changes vs
before-kept changes flags vs place v before is was = by (get_or flags place false) refl
  where
    by : (b : Bool) → get_or flags place false ≡ b → before_changes (cond b changes (changes ++ (place, before) ∷ [])) (set vs place v) ≡ before_changes changes vs
    by true on = before-set changes vs place v (is.listed place on)
    by false on = ap (λ (x : Option Kept). before_changes (changes ++ (place, x) ∷ []) (set vs place v)) was ∙ before-listed changes vs place v

pub flagged-kept : (changes : Changes) (flags : List Bool) (place : ℕ) (before : Option Kept) → place < length flags → AreFlagged changes flags
    → AreFlagged (with_change changes flags place before) (set flags place true)
flagged-kept changes flags place before there is = by (get_or flags place false) refl
  where
    by : (b : Bool) → get_or flags place false ≡ b → AreFlagged (cond b changes (changes ++ (place, before) ∷ [])) (set flags place true)
    by true on = flagged-again changes flags place on is
    by false on = flagged-listed changes flags place before there is
