-- A split keeps the rule.
use Rattle.std.proofs.Common.{◌≡◌, ◌≢◌, ℕ, ◌+◌, ◌<◌, ◌≤◌, true, false, zero, suc, List, [], ◌∷◌, ◌++◌, length, set, Option, Some, None, sym, refl, ap, ◌∙◌, subst, ⊎_elim, ◌⊎◌, inl, inr, arith}
use mathlib.Core.Option as maybe
use mathlib.Core.Logic.{dite}
use native.Mathlib.Decide.{ℕ_discrete}
use lib.ListN.{get_elem?}
use Rattle.std.specs.List.{slice_get}
use Rattle.atomic_table.specs.Table.{State, Splits}
use Rattle.atomic_table.proofs.Lists.{set_else, at_longer}
use Rattle.history.specs.declared.entry.Entry.{Entry}
use Rattle.version_book.specs.declared.pass_view.PassView.{PassView}
use Rattle.version_book.specs.Inside.Rule.{has_turn, LiveAt, Fits, IsNext, IsBook}
use Rattle.version_book.specs.Inside.Plays.{giving, another, number_given}
use Rattle.version_book.proofs.Lists.{has-one, get_right}
use Rattle.version_book.proofs.Keeps.{set_at, live_set}
use Rattle.version_book.specs.Numbers.{has, numbers}

at_end : {A : Type 0} (xs : List A) (a b : A) (j : ℕ) → get_elem? (xs ++ a ∷ []) j ≡ maybe.some b → (get_elem? xs j ≡ maybe.some b) ⊎ ((j ≡ length xs) × (a ≡ b))
at_end [] a b zero is = inr (refl, maybe.some-injective a b is)
at_end [] a b (suc j) is = absurd (maybe.some-ne-none b (sym is))
at_end (x ∷ xs) a b zero is = inl is
at_end (x ∷ xs) a b (suc j) is = ⊎_elim (λ old. inl old) (λ new. inr (ap suc new.0, new.1)) (at_end xs a b j is)

module _ {L C T : Type 0} (log_of : L → List (Entry T)) (opens : L → C) (key : C) where
  abbrev St : Type 0
  St = State (Option L) (PassView C T)

  abbrev Ok : St → Type 0
  Ok = IsBook log_of opens key

  -- a pass that was there before the split: all but its next number stays
  record Before (s : St) (log : List (Entry T)) (id : ℕ) (u : PassView C T) : Type 0 where
    before : PassView C T
    live : LiveAt key s.views id before
    numbers_same : numbers u ≡ numbers before
    stage_same : u.stage ≡ before.stage
    fits : Fits log u

  pub split_allowed : (id : ℕ) (v : PassView C T) (n : ℕ) → v.opening ≡ Some key → v.next ≡ Some n → Splits Ok id v (giving v) (another v)
  split_allowed id v n opening gives s b at =
      record {
        stage = b.stage;
        holder = b.holder;
        log = b.log;
        ledger = b.ledger;
        words = b.words;
        homes = b.homes;
        keeps = b.keeps;
        there = there;
        alone = λ i u is turn.
            ⊎_elim
            (λ old. let a = b.alone i old.before old.live (ap has_turn (sym old.stage_same) ∙ turn) in (a.0, old.stage_same ∙ a.1))
            (λ new. let never : false ≡ true = ap (λ (x : PassView C T). has_turn x.stage) new.1 ∙ turn in cc)
            (was i u is);
        fits = λ i u is. ⊎_elim (λ old. old.fits) (λ new. subst (Fits b.log) new.1 fits_new) (was i u is);
        apart = apart;
        one = λ i j x y k m at_i at_j next_x next_y. (giver i x k at_i next_x).0 ∙ sym (giver j y m at_j next_y).0;
        next = λ i u k is next_u. subst (IsNext key b.log views) (sym (giver i u k is next_u).1) next_kept;
      }
    where
      views : List (PassView C T)
      views = set s.views id (giving v) ++ another v ∷ []

      live : LiveAt key s.views id v
      live = (at, opening)

      old_next : IsNext key b.log s.views n
      old_next = b.next id v n live gives

      old_fits : Fits b.log v
      old_fits = b.fits id v live

      number : number_given v.next ≡ n
      number = ap number_given gives

      was : (i : ℕ) (u : PassView C T) → LiveAt key views i u → Before s b.log i u ⊎ ((i ≡ length (set s.views id (giving v))) × (another v ≡ u))
      was i u is =
          ⊎_elim
          (λ old. inl (⊎_elim
          (λ here. record {
            before = v;
            live = subst (λ (k : ℕ). LiveAt key s.views k v) (sym here.0) live;
            numbers_same = ap numbers (sym here.1);
            stage_same = ap (λ (x : PassView C T). x.stage) (sym here.1);
            fits = subst (Fits b.log) here.1 (record { seen = old_fits.seen; older = old_fits.older; among = old_fits.among; whole = old_fits.whole });
          })
          (λ else. record { before = u; live = else.1; numbers_same = refl; stage_same = refl; fits = b.fits i u else.1 })
          (live_set key s.views id i (giving v) u (old, is.1))))
          (λ new. inr new)
          (at_end (set s.views id (giving v)) (another v) u i is.0)

      -- the pass that gives is still the same, and its next number is one more
      giver : (i : ℕ) (u : PassView C T) (k : ℕ) → LiveAt key views i u → u.next ≡ Some k → (i ≡ id) × (k ≡ n + 1)
      giver i u k is next_u =
          ⊎_elim
          (λ old. ⊎_elim
          (λ here. (here.0, one_more (ap (λ (x : PassView C T). x.next) here.1 ∙ next_u)))
          (λ else. absurd (else.0 (b.one i id u v k n else.1 live next_u gives)))
          (live_set key s.views id i (giving v) u (old, is.1)))
          (λ new. let never : None ≡ Some k = ap (λ (x : PassView C T). x.next) new.1 ∙ next_u in cc)
          (at_end (set s.views id (giving v)) (another v) u i is.0)
        where
          one_more : (giving v).next ≡ Some k → k ≡ n + 1
          one_more next_is = let same : Some (n + 1) ≡ Some k = sym (ap (λ m. (giving (record v { next = m })).next) gives) ∙ next_is in cc

      fits_new : Fits b.log (another v)
      fits_new =
          record {
            seen = record { added = old_fits.seen.added; is = old_fits.seen.is; none = none };
            older = λ k o is. cc;
            among = λ k o is. cc;
            whole = λ looked. cc;
          }
        where
          none : (user : ℕ) → has (number_given v.next ∷ []) user ≡ true → (p : ℕ) (entry : Entry T) → 0 ≤ p → slice_get old_fits.seen.added p ≡ Some entry → entry.user ≢ user
          none user own p entry least is theirs =
              let below = old_next.entries (length v.seen + p) entry (ap (λ xs. slice_get xs (length v.seen + p)) old_fits.seen.is ∙ (get_right v.seen old_fits.seen.added p ∙ is)) in
              let user_is = has-one (number_given v.next) user own in
              absurd (omega (arith, number, user_is, theirs, below))

      numbers_old : (i : ℕ) (u : PassView C T) (m : ℕ) → Before s b.log i u → has (numbers u) m ≡ true → m < n
      numbers_old i u m old has_m = old_next.passes i old.before m old.live (subst (λ ns. has ns m ≡ true) old.numbers_same has_m)

      number_new : (u : PassView C T) (m : ℕ) → another v ≡ u → has (numbers u) m ≡ true → m ≡ n
      number_new u m new has_m = sym (has-one (number_given v.next) m (subst (λ (x : PassView C T). has (numbers x) m ≡ true) (sym new) has_m)) ∙ number

      next_kept : IsNext key b.log views (n + 1)
      next_kept =
          record {
            entries = λ p entry is. let below = old_next.entries p entry is in omega arith;
            passes = λ i u m is has_m.
                ⊎_elim
                (λ old. let below = numbers_old i u m old has_m in omega arith)
                (λ new. let same = number_new u m new.1 has_m in omega arith)
                (was i u is);
          }

      apart : (i j : ℕ) (x y : PassView C T) (m : ℕ) → LiveAt key views i x → LiveAt key views j y → has (numbers x) m ≡ true → has (numbers y) m ≡ true → i ≡ j
      apart i j x y m at_i at_j has_x has_y =
          ⊎_elim
          (λ a. ⊎_elim
          (λ c. b.apart i j a.before c.before m a.live c.live (subst (λ ns. has ns m ≡ true) a.numbers_same has_x) (subst (λ ns. has ns m ≡ true) c.numbers_same has_y))
          (λ c. let below = numbers_old i x m a has_x in let same = number_new y m c.1 has_y in absurd (omega arith))
          (was j y at_j))
          (λ a. ⊎_elim
          (λ c. let below = numbers_old j y m c has_y in let same = number_new x m a.1 has_x in absurd (omega arith))
          (λ c. a.0 ∙ sym c.0)
          (was j y at_j))
          (was i x at_i)

      there : has_turn b.stage ≡ true → (u : PassView C T) × LiveAt key views b.holder u × (u.stage ≡ b.stage)
      there turn =
          let held = b.there turn in
          dite (ℕ_discrete b.holder id)
          (λ here.
          let same : held.0 ≡ v = maybe.some-injective held.0 v (sym held.1.0 ∙ (ap (get_elem? s.views) here ∙ at)) in
          (giving v, (at_longer (set s.views id (giving v)) (another v ∷ []) b.holder (giving v) (ap (get_elem? (set s.views id (giving v))) here ∙ set_at s.views id v (giving v) at), opening), ap (λ (x : PassView C T). x.stage) (sym same) ∙ held.2))
          (λ else. (held.0, (at_longer (set s.views id (giving v)) (another v ∷ []) b.holder held.0 (set_else s.views id b.holder (giving v) else ∙ held.1.0), held.1.1), held.2))
