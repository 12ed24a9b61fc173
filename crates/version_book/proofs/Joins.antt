-- A join keeps the rule.
use Rattle.std.proofs.Common.{◌≡◌, ◌≢◌, ℕ, ◌<◌, ◌≤◌, true, false, cond, zero, suc, ltb, List, ◌++◌, length, set, Option, Some, None, sym, refl, ap, ◌∙◌, subst, ⊎_elim, ◌⊎◌, inl, inr, arith}
use mathlib.Core.Option as maybe
use lib.ListN.{get_elem?}
use Rattle.std.specs.List.{slice_get}
use Rattle.std.proofs.lemmas.Bool.{cases_Bool, ltb-true, ltb-false}
use Rattle.atomic_table.specs.Table.{State, Joins}
use Rattle.atomic_table.proofs.Lists.{at_set, set_else}
use Rattle.history.specs.declared.entry.Entry.{Entry}
use Rattle.version_book.specs.declared.pass_view.PassView.{PassView}
use Rattle.version_book.specs.declared.pass_view.Older.{Older}
use Rattle.version_book.specs.declared.pass_view.Stage.TheVariants.{Idle}
use Rattle.version_book.specs.Lists.{GoesOn}
use Rattle.version_book.specs.Inside.Rule.{has_turn, has_looked, LiveAt, Among, Fits, IsBook, nobody}
use Rattle.version_book.specs.Inside.Plays.{together}
use Rattle.version_book.proofs.Lists.{has-append, has-left, has-right, goes-both}
use Rattle.version_book.specs.Numbers.{has, numbers, next_of_both}

next_of_one : (one other : Option ℕ) (n : ℕ) → next_of_both one other ≡ Some n → (one ≡ Some n) ⊎ (other ≡ Some n)
next_of_one None other n is = inr is
next_of_one (Some m) other n is = inl is

module _ {L C T : Type 0} (log_of : L → List (Entry T)) (opens : L → C) (key : C) where
  abbrev St : Type 0
  St = State (Option L) (PassView C T)

  abbrev Ok : St → Type 0
  Ok = IsBook log_of opens key

  -- the numbers of the pass `other` are now those of the pass `id`
  abbrev MovesTo : ℕ → ℕ → ℕ → ℕ → Type 0
  MovesTo id other i j = ((i ≢ other) × (i ≡ j)) ⊎ ((i ≡ other) × (id ≡ j))

  one_place : (id other i j k : ℕ) → MovesTo id other i j → MovesTo id other i k → j ≡ k
  one_place id other i j k to_j to_k =
      ⊎_elim
      (λ a. ⊎_elim (λ c. sym a.1 ∙ c.1) (λ c. absurd (a.0 c.0)) to_k)
      (λ a. ⊎_elim (λ c. absurd (c.0 a.0)) (λ c. sym a.1 ∙ c.1) to_k)
      to_j

  fits_both : (log : List (Entry T)) (v w : PassView C T) → Fits log v → Fits log w → v.stage ≡ Idle → Fits log (together v w)
  fits_both log v w one two idle =
      record {
        seen = ⊎_elim
            (λ less. subst (λ c. GoesOn (cond c w.seen v.seen) log (numbers v ++ numbers w)) (sym less) (second (ltb-true _ _ less)))
            (λ not. subst (λ c. GoesOn (cond c w.seen v.seen) log (numbers v ++ numbers w)) (sym not) (first (ltb-false _ _ not)))
            (cases_Bool (ltb (length v.seen) (length w.seen)));
        older = older;
        among = among;
        whole = λ looked. let never : false ≡ true = sym (ap has_looked idle) ∙ looked in cc;
      }
    where
      second : length v.seen < length w.seen → GoesOn w.seen log (numbers v ++ numbers w)
      second less = goes-both v.seen w.seen log (numbers v) (numbers w) _ (omega arith) one.seen two.seen (has-append (numbers v) (numbers w))

      first : length w.seen ≤ length v.seen → GoesOn v.seen log (numbers v ++ numbers w)
      first less =
          goes-both w.seen v.seen log (numbers w) (numbers v) _ less two.seen one.seen
          (λ user own. ⊎_elim (λ a. inr a) (λ c. inl c) (has-append (numbers v) (numbers w) user own))

      older : (k : ℕ) (o : Older T) → slice_get (together v w).older k ≡ Some o → GoesOn o.seen log o.numbers
      older zero o is = let same : record { seen = v.seen; numbers = numbers v } ≡ o = cc in subst (λ (x : Older T). GoesOn x.seen log x.numbers) same one.seen
      older (suc zero) o is = let same : record { seen = w.seen; numbers = numbers w } ≡ o = cc in subst (λ (x : Older T). GoesOn x.seen log x.numbers) same two.seen
      older (suc (suc k)) o is = cc

      among : (k : ℕ) (o : Older T) → slice_get (together v w).older k ≡ Some o → Among o.numbers (numbers v ++ numbers w)
      among zero o is = let same : record { seen = v.seen; numbers = numbers v } ≡ o = cc in subst (λ (x : Older T). Among x.numbers (numbers v ++ numbers w)) same (has-left (numbers v) (numbers w))
      among (suc zero) o is = let same : record { seen = w.seen; numbers = numbers w } ≡ o = cc in subst (λ (x : Older T). Among x.numbers (numbers v ++ numbers w)) same (has-right (numbers v) (numbers w))
      among (suc (suc k)) o is = cc

  pub join_allowed : (id : ℕ) (v : PassView C T) (other : ℕ) (w : PassView C T) → v.opening ≡ Some key → w.opening ≡ Some key → v.stage ≡ Idle → w.stage ≡ Idle
      → Joins Ok id v other w (together v w) nobody
  join_allowed id v other w opening_v opening_w idle_v idle_w s b at_v apart_ids at =
      record {
        stage = b.stage;
        holder = b.holder;
        log = b.log;
        ledger = b.ledger;
        words = b.words;
        homes = b.homes;
        keeps = b.keeps;
        there = there;
        alone = λ i u is turn.
            ⊎_elim
            (λ here. let never : false ≡ true = sym (ap has_turn idle_v) ∙ (ap (λ (x : PassView C T). has_turn x.stage) here.1 ∙ turn) in cc)
            (λ else. b.alone i u else.2 turn)
            (was i u is);
        fits = λ i u is.
            ⊎_elim
            (λ here. subst (Fits b.log) here.1 (fits_both b.log v w (b.fits id v live_v) (b.fits other w live_w) idle_v))
            (λ else. b.fits i u else.2)
            (was i u is);
        apart = λ i j x y m at_i at_j has_x has_y.
            let a = of_number i x m at_i has_x in
            let c = of_number j y m at_j has_y in
            let same = b.apart a.0 c.0 a.1 c.1 m a.2 c.2 a.3 c.3 in
            one_place id other a.0 i j a.4 (subst (λ k. MovesTo id other k j) (sym same) c.4);
        one = λ i j x y n m at_i at_j next_x next_y.
            let a = of_next i x n at_i next_x in
            let c = of_next j y m at_j next_y in
            let same = b.one a.0 c.0 a.1 c.1 n m a.2 c.2 a.3 c.3 in
            one_place id other a.0 i j a.4 (subst (λ k. MovesTo id other k j) (sym same) c.4);
        next = λ i u n is next_u.
            let a = of_next i u n is next_u in
            let old = b.next a.0 a.1 n a.2 a.3 in
            record { entries = old.entries; passes = λ j y m at_j has_y. let c = of_number j y m at_j has_y in old.passes c.0 c.1 m c.2 c.3 };
      }
    where
      views : List (PassView C T)
      views = set (set s.views id (together v w)) other nobody

      live_v : LiveAt key s.views id v
      live_v = (at_v, opening_v)

      live_w : LiveAt key s.views other w
      live_w = ⊎_elim (λ same. absurd (apart_ids same.0)) (λ old. (old.1, opening_w)) (at_set s.views id other (together v w) w at)

      was : (i : ℕ) (u : PassView C T) → LiveAt key views i u → ((i ≡ id) × (together v w ≡ u)) ⊎ ((i ≢ id) × (i ≢ other) × LiveAt key s.views i u)
      was i u is =
          ⊎_elim
          (λ spent. let never : None ≡ Some key = ap (λ (x : PassView C T). x.opening) spent.1 ∙ is.1 in cc)
          (λ left. ⊎_elim (λ here. inl here) (λ else. inr (else.0, left.0, (else.1, is.1))) (at_set s.views id i (together v w) u left.1))
          (at_set (set s.views id (together v w)) other i nobody u is.0)

      away : id ≢ other
      away same = apart_ids (sym same)

      -- who had the number before
      of_number : (i : ℕ) (u : PassView C T) (m : ℕ) → LiveAt key views i u → has (numbers u) m ≡ true
          → (j : ℕ) × (x : PassView C T) × LiveAt key s.views j x × (has (numbers x) m ≡ true) × MovesTo id other j i
      of_number i u m is has_m =
          ⊎_elim
          (λ here. ⊎_elim
          (λ of_v. (id, v, live_v, of_v, inl (away, sym here.0)))
          (λ of_w. (other, w, live_w, of_w, inr (refl, sym here.0)))
          (has-append (numbers v) (numbers w) m (subst (λ (x : PassView C T). has (numbers x) m ≡ true) (sym here.1) has_m)))
          (λ else. (i, u, else.2, has_m, inl (else.1, refl)))
          (was i u is)

      of_next : (i : ℕ) (u : PassView C T) (n : ℕ) → LiveAt key views i u → u.next ≡ Some n
          → (j : ℕ) × (x : PassView C T) × LiveAt key s.views j x × (x.next ≡ Some n) × MovesTo id other j i
      of_next i u n is next_u =
          ⊎_elim
          (λ here. ⊎_elim
          (λ of_v. (id, v, live_v, of_v, inl (away, sym here.0)))
          (λ of_w. (other, w, live_w, of_w, inr (refl, sym here.0)))
          (next_of_one v.next w.next n (ap (λ (x : PassView C T). x.next) here.1 ∙ next_u)))
          (λ else. (i, u, else.2, next_u, inl (else.1, refl)))
          (was i u is)

      -- neither of the two has the turn
      not_idle : (k : ℕ) (x : PassView C T) → get_elem? s.views k ≡ maybe.some x → x.stage ≡ Idle → has_turn b.stage ≡ true → b.holder ≢ k
      not_idle k x is idle turn same =
          let held = b.there turn in
          let this : held.0 ≡ x = maybe.some-injective held.0 x (sym held.1.0 ∙ (ap (get_elem? s.views) same ∙ is)) in
          let never : true ≡ false = sym turn ∙ (ap has_turn (sym held.2) ∙ (ap (λ (y : PassView C T). has_turn y.stage) this ∙ ap has_turn idle)) in
          cc

      there : has_turn b.stage ≡ true → (u : PassView C T) × LiveAt key views b.holder u × (u.stage ≡ b.stage)
      there turn =
          let held = b.there turn in
          let first = not_idle id v at_v idle_v turn in
          let second = not_idle other w live_w.0 idle_w turn in
          (held.0, (set_else (set s.views id (together v w)) other b.holder nobody second ∙ (set_else s.views id b.holder (together v w) first ∙ held.1.0), held.1.1), held.2)
