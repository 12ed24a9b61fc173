-- Each step keeps the rule, and tells what it should.
use Rattle.std.proofs.Common.{◌≡◌, ◌≢◌, ℕ, ◌<◌, ◌≤◌, true, false, cond, zero, suc, List, [], ◌∷◌, ◌++◌, length, get_or, set, Option, Some, sym, refl, ap, ◌∙◌, subst, ⊎_elim, ◌⊎◌, inl, inr, arith, eqb}
use mathlib.Core.Option as maybe
use lib.ListN.{get_elem?}
use prog.Atomic.{either}
use Rattle.std.specs.List.{slice_get}
use Rattle.std.proofs.lemmas.Bool.{eq-eqb, ne_eqb}
use Rattle.std.proofs.lemmas.List.{append-nil, set-get_or}
use Rattle.atomic_table.specs.Table.{State, keeps, takes, gives, put_back, stepped, step, Allows}
use Rattle.atomic_table.proofs.Lists.{at_set, set_again, exchanged}
use Rattle.history.specs.declared.entry.Entry.{Entry}
use Rattle.history.proofs.Lists.{get_split}
use Rattle.version_book.specs.declared.pass_view.PassView.{PassView}
use Rattle.version_book.specs.declared.pass_view.Older.{Older}
use Rattle.version_book.specs.declared.pass_view.Stage.{Stage}
use Rattle.version_book.specs.declared.pass_view.Stage.TheVariants.{Idle, Turn, Looked, Away}
use Rattle.version_book.specs.Lists.{GoesOn}
use Rattle.version_book.specs.Inside.Rule.{has_turn, has_looked, turn_word, home, LiveAt, Among, Fits, IsNext, Keeps, IsBook}
use Rattle.version_book.specs.Inside.Plays.{PassSeat, staged, saw, grown, turns, looks, takes_ledger, log_held, counts, puts, frees}
use Rattle.version_book.proofs.Lists.{has-first, same-goes, goes-more}
use Rattle.version_book.specs.Numbers.{has, numbers}

-- ---- stages

turn_of_looked : (t : Stage) → has_looked t ≡ true → has_turn t ≡ true
turn_of_looked Idle is = cc
turn_of_looked Turn is = refl
turn_of_looked Looked is = refl
turn_of_looked Away is = refl

idle_is : (t : Stage) → turn_word t ≡ 0 → t ≡ Idle
idle_is Idle is = refl
idle_is Turn is = absurd (omega arith)
idle_is Looked is = absurd (omega arith)
idle_is Away is = absurd (omega arith)

no_turn : (t : Stage) → (has_turn t ≡ true → has_turn t ≡ false) → has_turn t ≡ false
no_turn Idle from = refl
no_turn Turn from = from refl
no_turn Looked from = from refl
no_turn Away from = from refl

-- ---- lists

pub set_at : {A : Type 0} (xs : List A) (i : ℕ) (a b : A) → get_elem? xs i ≡ maybe.some a → get_elem? (set xs i b) i ≡ maybe.some b
set_at [] i a b is = absurd (maybe.some-ne-none a (sym is))
set_at (x ∷ xs) zero a b is = refl
set_at (x ∷ xs) (suc i) a b is = set_at xs i a b is

module _ {C T : Type 0} where
  -- the same pass: its numbers, its opening and its next number stay
  pub record Same (v w : PassView C T) : Type 0 where
    pub number : w.number ≡ v.number
    pub joined : w.joined ≡ v.joined
    pub opening : w.opening ≡ v.opening
    pub next : w.next ≡ v.next

  same_numbers : (v w : PassView C T) → Same v w → numbers w ≡ numbers v
  same_numbers v w same = ap (λ n. n ∷ w.joined) same.number ∙ ap (λ ns. v.number ∷ ns) same.joined

  -- what the rule says of numbers it says of the pass before the step
  pub record WasAt (key : C) (views : List (PassView C T)) (id : ℕ) (w : PassView C T) : Type 0 where
    pub before : PassView C T
    pub live : LiveAt key views id before
    pub numbers_same : numbers w ≡ numbers before
    pub next_same : w.next ≡ before.next

  pub live_set : (key : C) (views : List (PassView C T)) (id other : ℕ) (w u : PassView C T) → LiveAt key (set views id w) other u
      → ((other ≡ id) × (w ≡ u)) ⊎ ((other ≢ id) × LiveAt key views other u)
  live_set key views id other w u live =
      ⊎_elim (λ here. inl here) (λ there. inr (there.0, (there.1, live.1))) (at_set views id other w u live.0)

  was_at : (key : C) (views : List (PassView C T)) (id : ℕ) (v w : PassView C T) → LiveAt key views id v → Same v w
      → (other : ℕ) (u : PassView C T) → LiveAt key (set views id w) other u → WasAt key views other u
  was_at key views id v w live same other u at =
      ⊎_elim
      (λ here. record {
        before = v;
        live = subst (λ (k : ℕ). LiveAt key views k v) (sym here.0) live;
        numbers_same = ap numbers (sym here.1) ∙ same_numbers v w same;
        next_same = ap (λ (x : PassView C T). x.next) (sym here.1) ∙ same.next;
      })
      (λ there. record { before = u; live = there.1; numbers_same = refl; next_same = refl })
      (live_set key views id other w u at)

module _ {C T : Type 0} where
  -- a pass that has no turn fits the history after an entry of another one
  fits_more : (log added : List (Entry T)) (u : PassView C T) (number : ℕ) → Fits log u → has_turn u.stage ≡ false
      → ((p : ℕ) (entry : Entry T) → slice_get added p ≡ Some entry → entry.user ≡ number)
      → (has (numbers u) number ≡ true → has (numbers u) number ≡ false) → Fits (log ++ added) u
  fits_more log added u number fits idle own other =
      record {
        seen = goes-more u.seen log added (numbers u) fits.seen none;
        older = λ k old at. goes-more old.seen log added old.numbers (fits.older k old at) (λ user has_user. none user (fits.among k old at user has_user));
        among = fits.among;
        whole = λ looked. let turn = turn_of_looked u.stage looked in let never : true ≡ false = sym turn ∙ idle in cc;
      }
    where
      none : (user : ℕ) → has (numbers u) user ≡ true → (p : ℕ) (entry : Entry T) → 0 ≤ p → slice_get added p ≡ Some entry → entry.user ≢ user
      none user has_user p entry least at is =
          let same : user ≡ number = sym is ∙ own p entry at in
          let mine : has (numbers u) number ≡ true = subst (λ n. has (numbers u) n ≡ true) same has_user in
          let never : true ≡ false = sym mine ∙ other mine in cc

module _ {L C T : Type 0} (log_of : L → List (Entry T)) (opens : L → C) (key : C) where
  abbrev St : Type 0
  St = State (Option L) (PassView C T)

  abbrev Ok : St → Type 0
  Ok = IsBook log_of opens key

  -- no other pass has the turn, once this one has it, or nobody
  abbrev OthersIdle : (s : St) → Ok s → ℕ → Type 0
  OthersIdle s b id = (other : ℕ) (u : PassView C T) → LiveAt key s.views other u → other ≢ id → has_turn u.stage ≡ false

  mine_idle : (s : St) (b : Ok s) (id : ℕ) (v : PassView C T) → LiveAt key s.views id v → has_turn v.stage ≡ true → OthersIdle s b id
  mine_idle s b id v live turn other u at apart =
      no_turn u.stage (λ theirs. absurd (apart ((b.alone other u at theirs).0 ∙ sym (b.alone id v live turn).0)))

  -- The rule after a step of one pass, by which it has this view, and the history the entries of its own number
  record Moves (s : St) (b : Ok s) (id : ℕ) (v w : PassView C T) (log : List (Entry T)) (ledger : L) : Type 0 where
    live : LiveAt key s.views id v
    same : Same v w
    others : OthersIdle s b id
    added : List (Entry T)
    more : log ≡ b.log ++ added
    own : (p : ℕ) (entry : Entry T) → slice_get added p ≡ Some entry → entry.user ≡ v.number
    fits : Fits log w
    held : Keeps log_of opens key w.stage ledger log

  moved : (s : St) (b : Ok s) (id : ℕ) (v w : PassView C T) (log : List (Entry T)) (ledger : L) (words : List ℕ) (homes : List (maybe.Option (Option L)))
      → Moves s b id v w log ledger → words ≡ turn_word w.stage ∷ length log ∷ [] → homes ≡ home w.stage ledger ∷ []
      → Ok (record { words = words; homes = homes; views = set s.views id w })
  moved s b id v w log ledger words homes m words_are homes_are =
      record {
        stage = w.stage;
        holder = id;
        log = log;
        ledger = ledger;
        words = words_are;
        homes = homes_are;
        keeps = m.held;
        there = λ turn. (w, (set_at s.views id v w m.live.0, m.same.opening ∙ m.live.1), refl);
        alone = λ other u at turn.
            ⊎_elim
            (λ here. (here.0, ap (λ (x : PassView C T). x.stage) (sym here.1)))
            (λ there. let never : true ≡ false = sym turn ∙ m.others other u there.1 there.0 in cc)
            (live_set key s.views id other w u at);
        fits = λ other u at.
            ⊎_elim
            (λ here. subst (Fits log) here.1 m.fits)
            (λ there. fits_other other u there.0 there.1)
            (live_set key s.views id other w u at);
        apart = λ i j x y n at_i at_j has_x has_y.
            let a = was i x at_i in
            let c = was j y at_j in
            b.apart i j a.before c.before n a.live c.live
            (subst (λ ns. has ns n ≡ true) a.numbers_same has_x)
            (subst (λ ns. has ns n ≡ true) c.numbers_same has_y);
        one = λ i j x y n k at_i at_j next_x next_y.
            let a = was i x at_i in
            let c = was j y at_j in
            b.one i j a.before c.before n k a.live c.live (sym a.next_same ∙ next_x) (sym c.next_same ∙ next_y);
        next = λ i x n at next_x.
            let a = was i x at in
            next_kept n (b.next i a.before n a.live (sym a.next_same ∙ next_x));
      }
    where
      was : (i : ℕ) (x : PassView C T) → LiveAt key (set s.views id w) i x → WasAt key s.views i x
      was = was_at key s.views id v w m.live m.same

      fits_other : (i : ℕ) (u : PassView C T) → i ≢ id → LiveAt key s.views i u → Fits log u
      fits_other i u apart at =
          subst (λ (xs : List (Entry T)). Fits xs u) (sym m.more)
          (fits_more b.log m.added u v.number (b.fits i u at) (m.others i u at apart) m.own
          (λ mine. absurd (apart (b.apart i id u v v.number at m.live mine (has-first v.number v.joined)))))

      next_kept : (n : ℕ) → IsNext key b.log s.views n → IsNext key log (set s.views id w) n
      next_kept n is =
          record {
            entries = λ p entry at.
                ⊎_elim
                (λ old. is.entries p entry old)
                (λ new. subst (λ k. k < n) (sym (m.own new.0 entry new.2)) (is.passes id v v.number m.live (has-first v.number v.joined)))
                (get_split b.log m.added p entry (subst (λ (xs : List (Entry T)). slice_get xs p ≡ Some entry) m.more at));
            passes = λ i x k at has_x.
                let a = was i x at in
                is.passes i a.before k a.live (subst (λ ns. has ns k ≡ true) a.numbers_same has_x);
          }

  -- a step that adds no entry
  stays : (s : St) (b : Ok s) (id : ℕ) (v w : PassView C T) → LiveAt key s.views id v → Same v w → OthersIdle s b id → Fits b.log w
      → Keeps log_of opens key w.stage b.ledger b.log → Moves s b id v w b.log b.ledger
  stays s b id v w live same others fits held =
      record {
        live = live;
        same = same;
        others = others;
        added = [];
        more = sym (append-nil b.log);
        own = λ p entry is. cc;
        fits = fits;
        held = held;
      }

  -- nothing changes
  unmoved : (s : St) (id i : ℕ) (v : PassView C T) → Ok s → get_elem? s.views id ≡ maybe.some v
      → Ok (record { words = set s.words i (get_or s.words i 0); homes = s.homes; views = set s.views id v })
  unmoved s id i v b at =
      subst (λ (ws : List ℕ). Ok (record { words = ws; homes = s.homes; views = set s.views id v })) (sym (set-get_or s.words i 0))
      (subst (λ (vs : List (PassView C T)). Ok (record { words = s.words; homes = s.homes; views = vs })) (sym (set_again s.views id v at)) b)

  -- ---- the turn

  pub turn_allowed : (slots id : ℕ) (me : PassSeat L C T) → me.0.opening ≡ Some key → me.0.stage ≡ Idle
      → Allows Ok slots id me 0 (λ n. either (eqb n 0) 1 n) (turns (step slots 0 0 1 maybe.none) me)
  turn_allowed slots id me opening idle s b _ at _ = (
    w,
    keeps,
    tt,
    exchanged n 0 1 (λ z. Ok (stepped s 0 z id me.1 w keeps)) hit miss,
    refl,
  )
    where
      n : ℕ
      n = get_or s.words 0 0

      w : PassView C T
      w = cond (eqb n 0) (staged me.0 Turn) me.0

      word : n ≡ turn_word b.stage
      word = ap (λ (ws : List ℕ). get_or ws 0 0) b.words

      miss : n ≢ 0 → Ok (stepped s 0 n id me.1 w keeps)
      miss taken =
          subst (λ (x : PassView C T). Ok (stepped s 0 n id me.1 x keeps))
          (sym (ap (λ c. cond c (staged me.0 Turn) me.0) (ne_eqb n 0 taken))) (unmoved s id 0 me.0 b at)

      hit : n ≡ 0 → Ok (stepped s 0 1 id me.1 w keeps)
      hit free =
          subst (λ (x : PassView C T). Ok (stepped s 0 1 id me.1 x keeps))
          (sym (ap (λ c. cond c (staged me.0 Turn) me.0) (eq-eqb n 0 free)))
          (moved s b id me.0 (staged me.0 Turn) b.log b.ledger _ _
          (stays s b id me.0 (staged me.0 Turn) (at, opening)
          (record { number = refl; joined = refl; opening = refl; next = refl })
          (λ other u there apart. no_turn u.stage (λ turn. let never : true ≡ false = sym turn ∙ ap has_turn ((b.alone other u there turn).1 ∙ stage_idle) in cc))
          (record { seen = old.seen; older = old.older; among = old.among; whole = λ looked. cc })
          (subst (λ t. Keeps log_of opens key t b.ledger b.log) stage_idle b.keeps))
          (ap (λ (ws : List ℕ). set ws 0 1) b.words)
          (b.homes ∙ ap (λ t. home t b.ledger ∷ []) stage_idle))
        where
          stage_idle : b.stage ≡ Idle
          stage_idle = idle_is b.stage (sym word ∙ free)

          old : Fits b.log me.0
          old = b.fits id me.0 (at, opening)

  -- where a pass has the turn, it is the table's stage
  stage_of : (s : St) (b : Ok s) (id : ℕ) (v : PassView C T) (stage : Stage) → LiveAt key s.views id v → v.stage ≡ stage → has_turn stage ≡ true → b.stage ≡ stage
  stage_of s b id v stage live is turn = sym (b.alone id v live (ap has_turn is ∙ turn)).1 ∙ is

  -- a step of the pass that has the turn, which adds no entry
  holds_still : (s : St) (b : Ok s) (id : ℕ) (v w : PassView C T) (before : Stage) → LiveAt key s.views id v → v.stage ≡ before → has_turn before ≡ true
      → Same v w → Fits b.log w → Keeps log_of opens key w.stage b.ledger b.log → Moves s b id v w b.log b.ledger
  holds_still s b id v w before live is turn same fits held =
      stays s b id v w live same (mine_idle s b id v live (ap has_turn is ∙ turn)) fits held

  words_of : (s : St) (b : Ok s) (stage : Stage) → b.stage ≡ stage → s.words ≡ turn_word stage ∷ length b.log ∷ []
  words_of s b stage is = b.words ∙ ap (λ t. turn_word t ∷ length b.log ∷ []) is

  homes_of : (s : St) (b : Ok s) (stage : Stage) → b.stage ≡ stage → s.homes ≡ home stage b.ledger ∷ []
  homes_of s b stage is = b.homes ∙ ap (λ t. home t b.ledger ∷ []) is

  keeps_of : (s : St) (b : Ok s) (stage : Stage) → b.stage ≡ stage → Keeps log_of opens key stage b.ledger b.log
  keeps_of s b stage is = subst (λ t. Keeps log_of opens key t b.ledger b.log) is b.keeps

  pub look_allowed : (slots id : ℕ) (me : PassSeat L C T) → me.0.opening ≡ Some key → me.0.stage ≡ Turn
      → Allows Ok slots id me 1 (λ n. n) (looks (step slots 1 0 0 maybe.none) me)
  look_allowed slots id me opening is s b _ at _ = (
    w,
    keeps,
    tt,
    moved s b id me.0 w b.log b.ledger _ _
        (holds_still s b id me.0 w Turn live is refl (record { number = refl; joined = refl; opening = refl; next = refl }) fits (keeps_of s b Turn stage))
        words (homes_of s b Turn stage),
    (refl, count, old.seen, old.older),
  )
    where
      w : PassView C T
      w = saw me.0 b.log

      live : LiveAt key s.views id me.0
      live = (at, opening)

      stage : b.stage ≡ Turn
      stage = stage_of s b id me.0 Turn live is refl

      old : Fits b.log me.0
      old = b.fits id me.0 live

      count : get_or s.words 1 0 ≡ length b.log
      count = ap (λ (ws : List ℕ). get_or ws 1 0) b.words

      words : set s.words 1 (get_or s.words 1 0) ≡ 1 ∷ length b.log ∷ []
      words = set-get_or s.words 1 0 ∙ words_of s b Turn stage

      fits : Fits b.log w
      fits = record { seen = same-goes b.log (numbers w); older = older; among = among; whole = λ _. refl }
        where
          older : (k : ℕ) (o : Older T) → slice_get w.older k ≡ Some o → GoesOn o.seen b.log o.numbers
          older zero o first = let same : record { seen = me.0.seen; numbers = numbers me.0 } ≡ o = cc in subst (λ (x : Older T). GoesOn x.seen b.log x.numbers) same old.seen
          older (suc k) o later = old.older k o later

          among : (k : ℕ) (o : Older T) → slice_get w.older k ≡ Some o → Among o.numbers (numbers w)
          among zero o first = let same : record { seen = me.0.seen; numbers = numbers me.0 } ≡ o = cc in subst (λ (x : Older T). Among x.numbers (numbers w)) same (λ n has_n. has_n)
          among (suc k) o later = old.among k o later

  -- ---- the ledger

  pub take_allowed : (slots id : ℕ) (me : PassSeat L C T) → me.0.opening ≡ Some key → me.0.stage ≡ Looked
      → Allows Ok slots id me 0 (λ n. n) (takes_ledger log_of opens (step slots 0 0 0 maybe.none) me)
  take_allowed slots id me opening is s b _ at _ = (
    w,
    takes 0 (Some b.ledger),
    ap (λ (hs : List (maybe.Option (Option L))). get_elem? hs 0) homes,
    moved s b id me.0 w b.log b.ledger _ _
        (holds_still s b id me.0 w Looked live is refl (record { number = refl; joined = refl; opening = refl; next = refl }) fits tt)
        (set-get_or s.words 0 0 ∙ words_of s b Looked stage)
        (ap (λ (hs : List (maybe.Option (Option L))). set hs 0 maybe.none) homes),
    (b.ledger, refl, (held.0 ∙ sym (old.whole (ap has_looked is))), (λ k opened. held.1 ∙ (let same : key ≡ k = cc in same))),
  )
    where
      w : PassView C T
      w = staged me.0 Away

      live : LiveAt key s.views id me.0
      live = (at, opening)

      stage : b.stage ≡ Looked
      stage = stage_of s b id me.0 Looked live is refl

      old : Fits b.log me.0
      old = b.fits id me.0 live

      homes : s.homes ≡ maybe.some (Some b.ledger) ∷ []
      homes = homes_of s b Looked stage

      held : (log_of b.ledger ≡ b.log) × (opens b.ledger ≡ key)
      held = keeps_of s b Looked stage

      fits : Fits b.log w
      fits = record { seen = old.seen; older = old.older; among = old.among; whole = λ _. old.whole (ap has_looked is) }

  pub put_allowed : (slots id : ℕ) (me : PassSeat L C T) (ledger : L) → me.0.opening ≡ Some key → me.0.stage ≡ Away
      → me.1 ≡ (0, Some ledger) ∷ [] → log_of ledger ≡ me.0.seen → opens ledger ≡ key
      → Allows Ok slots id me 0 (λ n. n) (puts (step slots 0 0 0 maybe.none) me)
  put_allowed slots id me ledger opening is hand same opened s b _ at _ = (
    w,
    gives,
    tt,
    moved s b id me.0 w b.log ledger _ _
        (record {
          live = live;
          same = record { number = refl; joined = refl; opening = refl; next = refl };
          others = mine_idle s b id me.0 live (ap has_turn is);
          added = [];
          more = sym (append-nil b.log);
          own = λ p entry none. cc;
          fits = record { seen = old.seen; older = old.older; among = old.among; whole = λ _. old.whole (ap has_looked is) };
          held = (same ∙ old.whole (ap has_looked is), opened);
        })
        (set-get_or s.words 0 0 ∙ words_of s b Away stage)
        homes,
    refl,
  )
    where
      w : PassView C T
      w = staged me.0 Looked

      live : LiveAt key s.views id me.0
      live = (at, opening)

      stage : b.stage ≡ Away
      stage = stage_of s b id me.0 Away live is refl

      old : Fits b.log me.0
      old = b.fits id me.0 live

      homes : put_back s.homes me.1 ≡ maybe.some (Some ledger) ∷ []
      homes =
          ap (put_back s.homes) hand ∙
          ap (λ (hs : List (maybe.Option (Option L))). set hs 0 (maybe.some (Some ledger))) (homes_of s b Away stage)

  -- ---- an entry of the pass

  pub count_allowed : (slots id : ℕ) (me : PassSeat L C T) (ledger : L) (entry : Entry T) (count : ℕ) → me.0.opening ≡ Some key → me.0.stage ≡ Away
      → me.1 ≡ (0, Some ledger) ∷ [] → log_of ledger ≡ me.0.seen ++ entry ∷ [] → entry.user ≡ me.0.number → count ≡ length (log_of ledger)
      → Allows Ok slots id me 1 (λ _. count) (λ _. counts log_of (step slots 1 count 0 maybe.none) me count)
  count_allowed slots id me ledger entry count opening is hand same own is_count s b _ at _ = (
    w,
    keeps,
    tt,
    moved s b id me.0 w log b.ledger _ _
        (record {
          live = live;
          same = record { number = refl; joined = refl; opening = refl; next = refl };
          others = mine_idle s b id me.0 live (ap has_turn is);
          added = entry ∷ [];
          more = held ∙ (same ∙ ap (λ xs. xs ++ entry ∷ []) (old.whole (ap has_looked is)));
          own = in_one;
          fits = record { seen = same-goes log (numbers w); older = λ k o none. cc; among = λ k o none. cc; whole = λ _. refl };
          held = subst (λ t. Keeps log_of opens key t b.ledger log) (sym is) tt;
        })
        words
        (homes_of s b me.0.stage (stage ∙ sym is)),
    refl,
  )
    where
      log : List (Entry T)
      log = log_held log_of me.1

      w : PassView C T
      w = grown me.0 log

      held : log ≡ log_of ledger
      held = ap (log_held log_of) hand

      live : LiveAt key s.views id me.0
      live = (at, opening)

      stage : b.stage ≡ Away
      stage = stage_of s b id me.0 Away live is refl

      old : Fits b.log me.0
      old = b.fits id me.0 live

      in_one : (p : ℕ) (e : Entry T) → slice_get (entry ∷ []) p ≡ Some e → e.user ≡ me.0.number
      in_one zero e first = let this : entry ≡ e = cc in ap (λ (x : Entry T). x.user) (sym this) ∙ own
      in_one (suc p) e none = cc

      words : set s.words 1 count ≡ turn_word me.0.stage ∷ length log ∷ []
      words =
          ap (λ (ws : List ℕ). set ws 1 count) (words_of s b me.0.stage (stage ∙ sym is)) ∙
          ap (λ n. turn_word me.0.stage ∷ n ∷ []) (is_count ∙ ap length (sym held))

  pub free_allowed : (slots id : ℕ) (me : PassSeat L C T) → me.0.opening ≡ Some key → me.0.stage ≡ Looked
      → Allows Ok slots id me 0 (λ _. 0) (λ _. frees (step slots 0 0 0 maybe.none) me 0)
  free_allowed slots id me opening is s b _ at _ = (
    w,
    keeps,
    tt,
    moved s b id me.0 w b.log b.ledger _ _
        (holds_still s b id me.0 w Looked live is refl (record { number = refl; joined = refl; opening = refl; next = refl }) fits (keeps_of s b Looked stage))
        (ap (λ (ws : List ℕ). set ws 0 0) b.words)
        (homes_of s b Looked stage),
    refl,
  )
    where
      w : PassView C T
      w = staged me.0 Idle

      live : LiveAt key s.views id me.0
      live = (at, opening)

      stage : b.stage ≡ Looked
      stage = stage_of s b id me.0 Looked live is refl

      old : Fits b.log me.0
      old = b.fits id me.0 live

      fits : Fits b.log w
      fits = record { seen = old.seen; older = old.older; among = old.among; whole = λ looked. cc }

  -- ---- the same, where the pass has just laid the ledger into its slot

  pub put_at : (slots id : ℕ) (me : PassSeat L C T) (v : PassView C T) (ledger : L) → me ≡ (v, (0, Some ledger) ∷ []) → v.opening ≡ Some key → v.stage ≡ Away
      → log_of ledger ≡ v.seen → opens ledger ≡ key → Allows Ok slots id me 0 (λ n. n) (puts (step slots 0 0 0 maybe.none) me)
  put_at slots id me v ledger laid opening is same opened =
      put_allowed slots id me ledger (ap (λ (m : PassSeat L C T). m.0.opening) laid ∙ opening) (ap (λ (m : PassSeat L C T). m.0.stage) laid ∙ is)
      (ap (λ (m : PassSeat L C T). m.1) laid) (same ∙ sym (ap (λ (m : PassSeat L C T). m.0.seen) laid)) opened

  pub count_at : (slots id : ℕ) (me : PassSeat L C T) (v : PassView C T) (ledger : L) (entry : Entry T) (count : ℕ) → me ≡ (v, (0, Some ledger) ∷ []) → v.opening ≡ Some key → v.stage ≡ Away
      → log_of ledger ≡ v.seen ++ entry ∷ [] → entry.user ≡ v.number → count ≡ length (log_of ledger)
      → Allows Ok slots id me 1 (λ _. count) (λ _. counts log_of (step slots 1 count 0 maybe.none) me count)
  count_at slots id me v ledger entry count laid opening is same own is_count =
      count_allowed slots id me ledger entry count (ap (λ (m : PassSeat L C T). m.0.opening) laid ∙ opening) (ap (λ (m : PassSeat L C T). m.0.stage) laid ∙ is)
      (ap (λ (m : PassSeat L C T). m.1) laid) (same ∙ sym (ap (λ (m : PassSeat L C T). m.0.seen ++ entry ∷ []) laid))
      (own ∙ sym (ap (λ (m : PassSeat L C T). m.0.number) laid)) is_count
