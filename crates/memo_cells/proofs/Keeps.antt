-- Each step keeps the rule, and tells what it should.
use Rattle.std.proofs.Common.{◌≡◌, ◌≢◌, ℕ, ◌+◌, ◌-◌, ◌*◌, ◌%◌, ◌<◌, true, cond, List, get_or, set, Some, None, sym, refl, ap, ◌∙◌, subst, ⊎_elim, arith, eqb, length-set, get_or-set_same}
use mathlib.Core.Logic.{dite}
use mathlib.Core.Option.{none, some}
use native.Mathlib.Decide.{ℕ_discrete}
use lib.ListN.{get_elem?}
use prog.Atomic.{either}
use Rattle.std.proofs.lemmas.Bool.{eq-eqb, ne_eqb}
use Rattle.std.proofs.lemmas.List.{set-get_or}
use Rattle.atomic_table.specs.Table.{State, keeps, stepped, step, Allows, Splits, Joins}
use Rattle.atomic_table.proofs.Lists.{at_set, at_snoc, exchanged}
use Rattle.memo_cells.specs.declared.version.Version.{Version}
use Rattle.memo_cells.specs.declared.version.About.{About}
use Rattle.memo_cells.specs.declared.seat.SeatView.{SeatView}
use Rattle.memo_cells.specs.Values.{cell_value, value_in}
use Rattle.memo_cells.specs.Seats.{key_at, value_at, has_word}
use Rattle.memo_cells.specs.Inside.Rule.{Fits, IsMemo, nobody}
use Rattle.memo_cells.specs.Inside.Plays.{Found, Sitting, learned, missed, claiming, after_load, after_claim, after_put, loads, claims, puts, another, together}
use Rattle.memo_cells.proofs.Words.{Grows, HoldSlots, grows-set, holds-key, holds-value, fits-grows, fits-learned, fits-together}

abbrev St : Type 0
St = State (Unit {0}) SeatView

-- a seat that isn't joined away is of the memo's version
fits-of : (about : About) (s : St) (id : ℕ) (v : SeatView) → IsMemo about s → get_elem? s.views id ≡ some v
    → v.version ≡ Some about.version → Fits about s.words v
fits-of about s id v memo at live = memo.views id v about.version at live

-- what a step finds
pub finds : (about : About) (s : St) (v : SeatView) (at : ℕ) → IsMemo about s → Fits about s.words v → at < 2 * about.slots
    → Found v at (get_or s.words at 0)
finds about s v at memo fits below =
    record {
      known = λ w has. (fits.known at w has).0;
      some = λ has. fits.some at has;
      named = λ slot cell is key.
          ap (λ n. cell % n) fits.slots ∙
          (memo.slots slot (omega arith)).named cell (ap (λ k. get_or s.words k 0) (sym is) ∙ key);
      valued = λ slot cell version live is has more.
          let there = ap (λ k. get_or s.words k 0) is in
          let same : about.version ≡ version = same_version version (sym fits.version ∙ live) in
          ap value_in there ∙
          ((memo.slots slot (omega arith)).valued cell (fits.known (key_at slot) (cell + 1) has).0 (λ none. more (there ∙ none)) ∙
          ap (λ (x : Version). cell_value x cell) same);
    }
  where
    same_version : (version : Version) → Some about.version ≡ Some version → about.version ≡ version
    same_version version e = cc

-- the rule after a step of one seat on one word
moved : (about : About) (s : St) (at n id : ℕ) (me : Sitting) (w : SeatView) → IsMemo about s → Grows s.words (set s.words at n)
    → HoldSlots about (set s.words at n) → Fits about (set s.words at n) w
    → IsMemo about (stepped s at n id me.1 w keeps)
moved about s at n id me w memo grows holds fits =
    record {
      size = length-set s.words at n ∙ memo.size;
      slots = holds;
      views = λ seat view version is live.
          ⊎_elim
          (λ here. subst (Fits about (set s.words at n)) here.1 fits)
          (λ there. fits-grows about s.words (set s.words at n) view grows (memo.views seat view version there.1 live))
          (at_set s.views id seat w view is);
    }

-- the same where the word stays
stayed : (about : About) (s : St) (at id : ℕ) (me : Sitting) (w : SeatView) → IsMemo about s → Fits about s.words w
    → IsMemo about (stepped s at (get_or s.words at 0) id me.1 w keeps)
stayed about s at id me w memo fits =
    let same = sym (set-get_or s.words at 0) in
    moved about s at (get_or s.words at 0) id me w memo
    (λ i more. ap (λ (ws : List ℕ). get_or ws i 0) (sym same))
    (subst (HoldSlots about) same memo.slots)
    (subst (λ (ws : List ℕ). Fits about ws w) same fits)

pub load_allowed : (about : About) (slots id : ℕ) (me : Sitting) (at : ℕ) → me.0.version ≡ Some about.version
    → at < 2 * about.slots → Allows (IsMemo about) slots id me at (λ n. n) (loads (step slots at 0 0 none) me)
load_allowed about slots id me at live below s memo _ is _ = (
  w,
  keeps,
  tt,
  stayed about s at id me w memo fits,
  (refl, finds about s me.0 at memo old below),
)
  where
    n : ℕ
    n = get_or s.words at 0

    w : SeatView
    w = after_load me.0 at n

    old : Fits about s.words me.0
    old = fits-of about s id me.0 memo is live

    fits_missed : Fits about s.words (missed me.0 at)
    fits_missed = record { version = old.version; slots = old.slots; known = old.known; some = old.some }

    fits : Fits about s.words w
    fits =
        dite (ℕ_discrete n 0)
        (λ none. subst (λ (v : SeatView). Fits about s.words v) (sym (loads_none none)) fits_missed)
        (λ more. subst (λ (v : SeatView). Fits about s.words v) (sym (loads_some more))
        (fits-learned about s.words me.0 at n refl more old))
      where
        loads_none : n ≡ 0 → after_load me.0 at n ≡ missed me.0 at
        loads_none e = ap (λ b. cond b (missed me.0 at) (learned me.0 at n)) (eq-eqb n 0 e)

        loads_some : n ≢ 0 → after_load me.0 at n ≡ learned me.0 at n
        loads_some e = ap (λ b. cond b (missed me.0 at) (learned me.0 at n)) (ne_eqb n 0 e)

-- after an exchange of 0 for a word that fits its slot: where the word was 0 the seat is as `x`, which knows the new one
exchanged_allowed : (about : About) (s : St) (at new id : ℕ) (me : Sitting) (x : SeatView) → IsMemo about s
    → at < 2 * about.slots → 0 < new → Fits about s.words me.0
    → (get_or s.words at 0 ≡ 0 → HoldSlots about (set s.words at new))
    → (Fits about (set s.words at new) (learned me.0 at new) → Fits about (set s.words at new) x)
    → IsMemo about (stepped s at (either (eqb (get_or s.words at 0) 0) new (get_or s.words at 0)) id me.1
    (cond (eqb (get_or s.words at 0) 0) x (learned me.0 at (get_or s.words at 0))) keeps)
exchanged_allowed about s at new id me x memo below more old holds fits =
    exchanged n 0 new (λ z. IsMemo about (stepped s at z id me.1 w keeps))
    (λ empty. moved about s at new id me w memo (grows-set s.words at new empty) (holds empty) (hit empty))
    (λ full. stayed about s at id me w memo (miss full))
  where
    n : ℕ
    n = get_or s.words at 0

    w : SeatView
    w = cond (eqb n 0) x (learned me.0 at n)

    us : List ℕ
    us = set s.words at new

    hit : n ≡ 0 → Fits about us w
    hit empty =
        let size = memo.size in
        let there = get_or-set_same s.words at new 0 (omega arith) in
        let grown = fits-grows about s.words us me.0 (grows-set s.words at new empty) old in
        let is : w ≡ x = ap (λ b. cond b x (learned me.0 at n)) (eq-eqb n 0 empty) in
        subst (λ (v : SeatView). Fits about us v) (sym is)
        (fits (fits-learned about us me.0 at new there (λ e. omega arith) grown))

    miss : n ≢ 0 → Fits about s.words w
    miss full =
        let is : w ≡ learned me.0 at n = ap (λ b. cond b x (learned me.0 at n)) (ne_eqb n 0 full) in
        subst (λ (v : SeatView). Fits about s.words v) (sym is) (fits-learned about s.words me.0 at n refl full old)

pub claim_allowed : (about : About) (slots id : ℕ) (me : Sitting) (slot cell : ℕ) → me.0.version ≡ Some about.version
    → slot < about.slots → cell % about.slots ≡ slot
    → Allows (IsMemo about) slots id me (key_at slot) (λ n. either (eqb n 0) (cell + 1) n)
    (claims (step slots (key_at slot) 0 (cell + 1) none) me)
claim_allowed about slots id me slot cell live below of_slot s memo _ is _ = (
  after_claim me.0 at (cell + 1) (get_or s.words at 0),
  keeps,
  tt,
  exchanged_allowed about s at (cell + 1) id me (claiming (learned me.0 at (cell + 1)) (cell + 1 - 1)) memo
      (omega arith) (omega arith) old
      (λ empty. holds-key about s.words slot cell memo.size below of_slot empty memo.slots)
      (λ fits. record { version = fits.version; slots = fits.slots; known = fits.known; some = fits.some }),
  (refl, finds about s me.0 at memo old (omega arith)),
)
  where
    at : ℕ
    at = key_at slot

    old : Fits about s.words me.0
    old = fits-of about s id me.0 memo is live

pub put_allowed : (about : About) (slots id : ℕ) (me : Sitting) (slot cell word : ℕ) → me.0.version ≡ Some about.version
    → slot < about.slots → has_word me.0.known (key_at slot) (cell + 1) ≡ true → 0 < word
    → value_in word ≡ cell_value about.version cell
    → Allows (IsMemo about) slots id me (value_at slot) (λ n. either (eqb n 0) word n)
    (puts (step slots (value_at slot) 0 word none) me)
put_allowed about slots id me slot cell word live below has more right s memo _ is _ = (
  after_put me.0 at word (get_or s.words at 0),
  keeps,
  tt,
  exchanged_allowed about s at word id me (learned me.0 at word) memo (omega arith) more old
      (λ _. holds-value about s.words slot cell word memo.size below key more right memo.slots)
      (λ fits. fits),
  (refl, finds about s me.0 at memo old (omega arith)),
)
  where
    at : ℕ
    at = value_at slot

    old : Fits about s.words me.0
    old = fits-of about s id me.0 memo is live

    key : get_or s.words (key_at slot) 0 ≡ cell + 1
    key = (old.known (key_at slot) (cell + 1) has).0

pub split_allowed : (about : About) (id : ℕ) (v : SeatView) → v.version ≡ Some about.version
    → Splits (IsMemo about) id v v (another v)
split_allowed about id v live s memo is =
    record {
      size = memo.size;
      slots = memo.slots;
      views = λ seat view version at here.
          ⊎_elim
          (λ old. ⊎_elim
          (λ own. subst (Fits about s.words) own.1 fits)
          (λ other. memo.views seat view version other.1 here)
          (at_set s.views id seat v view old))
          (λ new. subst (Fits about s.words) new fits_another)
          (at_snoc (set s.views id v) (another v) view seat at);
    }
  where
    fits : Fits about s.words v
    fits = fits-of about s id v memo is live

    fits_another : Fits about s.words (another v)
    fits_another = record { version = fits.version; slots = fits.slots; known = fits.known; some = fits.some }

pub join_allowed : (about : About) (id : ℕ) (v : SeatView) (other : ℕ) (w : SeatView) → v.version ≡ Some about.version
    → w.version ≡ Some about.version → Joins (IsMemo about) id v other w (together v w) nobody
join_allowed about id v other w live there s memo is apart at =
    record {
      size = memo.size;
      slots = memo.slots;
      views = λ seat view version place here.
          ⊎_elim
          (λ spent. absurd (none_left view version spent.1 here))
          (λ left. ⊎_elim
          (λ own. subst (Fits about s.words) own.1 (fits-together about s.words v w fits fits_other))
          (λ old. memo.views seat view version old.1 here)
          (at_set s.views id seat (together v w) view left.1))
          (at_set (set s.views id (together v w)) other seat nobody view place);
    }
  where
    fits : Fits about s.words v
    fits = fits-of about s id v memo is live

    fits_other : Fits about s.words w
    fits_other = ⊎_elim (λ same. absurd (apart same.0)) (λ old. fits-of about s other w memo old.1 there)
        (at_set s.views id other (together v w) w at)

    none_left : (view : SeatView) (version : Version) → nobody ≡ view → view.version ≡ Some version → ⊥
    none_left view version gone here = let none : None ≡ Some version = ap (λ (x : SeatView). x.version) gone ∙ here in cc
