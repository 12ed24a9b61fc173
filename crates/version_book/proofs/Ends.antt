-- How a book begins and how it ends.
use Rattle.std.proofs.Common.{◌≡◌, ℕ, ◌+◌, ◌<◌, true, false, zero, suc, List, [], ◌∷◌, ◌++◌, length, Option, Some, None, sym, refl, ap, ◌∙◌, subst, arith}
use mathlib.Core.Option as maybe
use lib.ListN.{get_elem?}
use Rattle.std.specs.List.{slice_get}
use Rattle.std.proofs.lemmas.List.{append-nil}
use Rattle.atomic_table.specs.Table.{State, opening, Final, Seen}
use Rattle.history.specs.declared.entry.Entry.{Entry}
use Rattle.version_book.specs.declared.pass_view.PassView.{PassView}
use Rattle.version_book.specs.declared.pass_view.Stage.{Stage}
use Rattle.version_book.specs.declared.pass_view.Stage.TheVariants.{Idle, Turn, Looked, Away}
use Rattle.version_book.specs.Inside.Rule.{has_turn, home, LiveAt, Fits, IsNext, Keeps, IsBook, founder}
use Rattle.version_book.proofs.Lists.{has-first, has-one, same-goes, get_right, empty}
use Rattle.version_book.specs.Numbers.{has, numbers}

idle_of : (t : Stage) → (has_turn t ≡ true → ⊥) → t ≡ Idle
idle_of Idle none = refl
idle_of Turn none = absurd (none refl)
idle_of Looked none = absurd (none refl)
idle_of Away none = absurd (none refl)

module _ {L C T : Type 0} (log_of : L → List (Entry T)) (opens : L → C) (key : C) where
  abbrev St : Type 0
  St = State (Option L) (PassView C T)

  abbrev Ok : St → Type 0
  Ok = IsBook log_of opens key

  pub opens_at : (ledger : L) → log_of ledger ≡ [] → opens ledger ≡ key → Ok (opening (0 ∷ 0 ∷ []) (Some ledger ∷ []) (founder key))
  opens_at ledger log opened =
      record {
        stage = Idle;
        holder = 0;
        log = [];
        ledger = ledger;
        words = refl;
        homes = refl;
        keeps = (log, opened);
        there = λ turn. cc;
        alone = λ i u at turn. let never : false ≡ true = ap (λ (x : PassView C T). has_turn x.stage) (only i u at).1 ∙ turn in cc;
        fits = λ i u at. subst (Fits []) (only i u at).1 (record { seen = same-goes [] (0 ∷ []); older = λ k o is. cc; among = λ k o is. cc; whole = λ looked. refl });
        apart = λ i j x y n at_i at_j has_x has_y. (only i x at_i).0 ∙ sym (only j y at_j).0;
        one = λ i j x y n m at_i at_j next_x next_y. (only i x at_i).0 ∙ sym (only j y at_j).0;
        next = λ i u n at next_u.
            let one : n ≡ 1 = one_next n (ap (λ (x : PassView C T). x.next) (only i u at).1 ∙ next_u) in
            record {
              entries = λ p entry is. cc;
              passes = λ j y m at_j has_y.
                  let zero_is = has-one 0 m (subst (λ (x : PassView C T). has (numbers x) m ≡ true) (sym (only j y at_j).1) has_y) in
                  omega (arith, one, zero_is);
            };
      }
    where
      only : (i : ℕ) (u : PassView C T) → LiveAt key (founder key ∷ []) i u → (i ≡ 0) × (founder key ≡ u)
      only zero u is = (refl, maybe.some-injective (founder key) u is.0)
      only (suc i) u is = absurd (maybe.some-ne-none u (sym is.0))

      one_next : (n : ℕ) → Some 1 ≡ Some n → n ≡ 1
      one_next n is = cc

  -- the book at its end, closed with a pass that gives numbers and has all below its next one
  pub record Ended (v : PassView C T) (items : List (Option L)) : Type 0 where
    pub ledger : L
    pub slot : get_elem? items 0 ≡ maybe.some (Some ledger)
    pub log : log_of ledger ≡ v.seen
    pub opened : opens ledger ≡ key
    pub users : (p : ℕ) (entry : Entry T) → slice_get v.seen p ≡ Some entry → has (numbers v) entry.user ≡ true

  pub closes : (id : ℕ) (v : PassView C T) (n : ℕ) (ws : List ℕ) (items : List (Option L)) → v.opening ≡ Some key → v.stage ≡ Idle → v.next ≡ Some n
      → ((m : ℕ) → m < n → has (numbers v) m ≡ true) → Final (Seen Ok id v) ws items → Ended v items
  closes id v n ws items opened idle gives all (s, (b, at), words, counts, at_home) =
      record {
        ledger = b.ledger;
        slot = at_home 0 (Some b.ledger) (ap (λ (hs : List (maybe.Option (Option L))). get_elem? hs 0) (b.homes ∙ ap (λ t. home t b.ledger ∷ []) stage));
        log = held.0 ∙ whole;
        opened = held.1;
        users = λ p entry is. all entry.user (next.entries p entry (ap (λ xs. slice_get xs p) whole ∙ is));
      }
    where
      live : LiveAt key s.views id v
      live = (at, opened)

      next : IsNext key b.log s.views n
      next = b.next id v n live gives

      fits : Fits b.log v
      fits = b.fits id v live

      stage : b.stage ≡ Idle
      stage = idle_of b.stage (λ turn.
          let held = b.there turn in
          let theirs = has-first held.0.number held.0.joined in
          let mine = all held.0.number (next.passes b.holder held.0 held.0.number held.1 theirs) in
          let same = b.apart id b.holder v held.0 held.0.number live held.1 mine theirs in
          let this : held.0 ≡ v = maybe.some-injective held.0 v (sym held.1.0 ∙ (ap (get_elem? s.views) (sym same) ∙ at)) in
          let never : true ≡ false = sym turn ∙ (ap has_turn (sym held.2) ∙ (ap (λ (y : PassView C T). has_turn y.stage) this ∙ ap has_turn idle)) in
          cc)

      held : (log_of b.ledger ≡ b.log) × (opens b.ledger ≡ key)
      held = subst (λ t. Keeps log_of opens key t b.ledger b.log) stage b.keeps

      nothing : fits.seen.added ≡ []
      nothing = empty fits.seen.added (λ entry is.
          let below = next.entries (length v.seen + 0) entry (ap (λ xs. slice_get xs (length v.seen + 0)) fits.seen.is ∙ (get_right v.seen fits.seen.added 0 ∙ is)) in
          fits.seen.none entry.user (all entry.user below) 0 entry (omega arith) is refl)

      whole : b.log ≡ v.seen
      whole = fits.seen.is ∙ (ap (λ xs. v.seen ++ xs) nothing ∙ append-nil v.seen)

  -- what the closed slot has is that ledger
  pub ended_with : (v : PassView C T) (items : List (Option L)) (slot : Option L) (ledger : L) → Ended v items → get_elem? items 0 ≡ maybe.some slot → slot ≡ Some ledger
      → (log_of ledger ≡ v.seen) × (opens ledger ≡ key)
  ended_with v items slot ledger ended at is =
      let same : Some ended.ledger ≡ Some ledger = maybe.some-injective (Some ended.ledger) slot (sym ended.slot ∙ at) ∙ is in
      let this : ended.ledger ≡ ledger = cc in
      (ap log_of (sym this) ∙ ended.log, ap opens (sym this) ∙ ended.opened)

  pub ended_none : (v : PassView C T) (items : List (Option L)) (slot : Option L) → Ended v items → get_elem? items 0 ≡ maybe.some slot → slot ≡ None → ⊥
  ended_none v items slot ended at is =
      let never : Some ended.ledger ≡ None = maybe.some-injective (Some ended.ledger) slot (sym ended.slot ∙ at) ∙ is in cc

  pub opens_in : (items before : List (Option L)) (ledger : L) → items ≡ before ++ Some ledger ∷ [] → before ≡ [] → log_of ledger ≡ [] → opens ledger ≡ key
      → Ok (opening (0 ∷ 0 ∷ []) items (founder key))
  opens_in items before ledger is none log opened =
      subst (λ (xs : List (Option L)). Ok (opening (0 ∷ 0 ∷ []) xs (founder key))) (sym (is ∙ ap (λ xs. xs ++ Some ledger ∷ []) none)) (opens_at ledger log opened)
