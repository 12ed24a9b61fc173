-- Lists that go on, and whose the entries are that come after.
use Rattle.std.proofs.Common.{◌≡◌, ℕ, ◌+◌, ◌≤◌, true, suc, List, [], ◌∷◌, ◌++◌, length, Some, sym, refl, ap, ◌∙◌, subst, ⊎_elim, ◌⊎◌, arith}
use Rattle.std.specs.List.{slice_get}
use Rattle.std.proofs.lemmas.Bool.{or_cases, or_left, or_right, eq-eqb, eqb-true}
use Rattle.std.proofs.lemmas.List.{append-nil, append_assoc}
use Rattle.std.proofs.lemmas.List.Folds.{list_any-append}
use Rattle.history.specs.declared.entry.Entry.{Entry}
use Rattle.history.specs.Version.{NoneFrom}
use Rattle.history.proofs.Lists.{get_split}
use Rattle.std.proofs.lemmas.Option.{slice_get_within}
use Rattle.history.proofs.Runs.{none_from-append, none_in_nothing}
use Rattle.version_book.specs.Lists.{GoesOn}
use Rattle.version_book.specs.Inside.Rule.{Among}
use Rattle.version_book.specs.Numbers.{has}

-- ---- numbers

pub has-first : (n : ℕ) (ns : List ℕ) → has (n ∷ ns) n ≡ true
has-first n ns = or_left _ _ (eq-eqb n n refl)

pub has-append : (ms ns : List ℕ) (n : ℕ) → has (ms ++ ns) n ≡ true → (has ms n ≡ true) ⊎ (has ns n ≡ true)
has-append ms ns n is = or_cases _ _ (sym (list_any-append _ ms ns) ∙ is)

pub has-left : (ms ns : List ℕ) (n : ℕ) → has ms n ≡ true → has (ms ++ ns) n ≡ true
has-left ms ns n is = list_any-append _ ms ns ∙ or_left _ _ is

pub has-right : (ms ns : List ℕ) (n : ℕ) → has ns n ≡ true → has (ms ++ ns) n ≡ true
has-right ms ns n is = list_any-append _ ms ns ∙ or_right _ _ is

pub has-one : (m n : ℕ) → has (m ∷ []) n ≡ true → m ≡ n
has-one m n is = ⊎_elim (λ here. eqb-true m n here) (λ none. cc) (or_cases _ _ is)

-- ---- lists

module _ {T : Type 0} where
  pub get_right : (xs ys : List (Entry T)) (k : ℕ) → slice_get (xs ++ ys) (length xs + k) ≡ slice_get ys k
  get_right [] ys k = let at : 0 + k ≡ k = omega arith in ap (slice_get ys) at
  get_right (x ∷ xs) ys k =
      let at : suc (length xs) + k ≡ suc (length xs + k) = omega arith in
      ap (slice_get (x ∷ (xs ++ ys))) at ∙ get_right xs ys k

  pub same-goes : (log : List (Entry T)) (users : List ℕ) → GoesOn log log users
  same-goes log users = record { added = []; is = sym (append-nil log); none = λ user own. none_in_nothing 0 user }

  pub goes-more : (earlier later added : List (Entry T)) (users : List ℕ) → GoesOn earlier later users
      → ((user : ℕ) → has users user ≡ true → NoneFrom added 0 user) → GoesOn earlier (later ++ added) users
  goes-more earlier later added users goes none =
      record {
        added = goes.added ++ added;
        is = ap (λ xs. xs ++ added) goes.is ∙ append_assoc earlier goes.added added;
        none = λ user own. none_from-append goes.added added 0 user (goes.none user own) (none user own);
      }

  pub goes-on : (one two three : List (Entry T)) (users : List ℕ) → GoesOn one two users → GoesOn two three users → GoesOn one three users
  goes-on one two three users first second =
      subst (λ (xs : List (Entry T)). GoesOn one xs users) (sym second.is) (goes-more one two second.added users first second.none)

  pub goes-fewer : (earlier later : List (Entry T)) (few many : List ℕ) → Among few many → GoesOn earlier later many → GoesOn earlier later few
  goes-fewer earlier later few many among goes =
      record { added = goes.added; is = goes.is; none = λ user own. goes.none user (among user own) }

  -- past the earlier list none is theirs
  none-past : (earlier later : List (Entry T)) (users : List ℕ) (user : ℕ) → GoesOn earlier later users → has users user ≡ true → NoneFrom later (length earlier) user
  none-past earlier later users user goes own p entry least is =
      ⊎_elim
      (λ here. absurd (omega (arith, slice_get_within earlier p entry here)))
      (λ there. goes.none user own there.0 entry (omega arith) there.2)
      (get_split earlier goes.added p entry (subst (λ (xs : List (Entry T)). slice_get xs p ≡ Some entry) goes.is is))

  -- nor past a longer one
  none-longer : (one two log : List (Entry T)) (users others : List ℕ) → length one ≤ length two → GoesOn one log users → (second : GoesOn two log others)
      → (user : ℕ) → has users user ≡ true → NoneFrom second.added 0 user
  none-longer one two log users others shorter first second user own p entry least is =
      none-past one log users user first own (length two + p) entry (omega arith)
      (ap (λ xs. slice_get xs (length two + p)) second.is ∙ (get_right two second.added p ∙ is))

  -- past the longer list there is none of either pass
  pub goes-both : (one two log : List (Entry T)) (users others all : List ℕ) → length one ≤ length two → GoesOn one log users → GoesOn two log others
      → ((user : ℕ) → has all user ≡ true → (has users user ≡ true) ⊎ (has others user ≡ true)) → GoesOn two log all
  goes-both one two log users others all shorter first second split =
      record {
        added = second.added;
        is = second.is;
        none = λ user own. ⊎_elim (none-longer one two log users others shorter first second user) (second.none user) (split user own);
      }

  pub empty : (xs : List (Entry T)) → ((entry : Entry T) → slice_get xs 0 ≡ Some entry → ⊥) → xs ≡ []
  empty [] none = refl
  empty (x ∷ xs) none = absurd (none x refl)
