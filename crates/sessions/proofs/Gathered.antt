-- From the passes of all sessions to one history of all users.
use Rattle.std.proofs.Common.{◌≡◌, ◌≢◌, ◌⊎◌, ℕ, ◌+◌, ◌<◌, ◌≤◌, true, zero, suc, List, [], ◌∷◌, ◌++◌, length, length-append, Option, None, Some, slice_get, refl, ap, sym, ◌∙◌, subst, arith, inl, inr}
use Rattle.std.proofs.lemmas.Bool.{cases_lt}
use Rattle.std.proofs.lemmas.List.{length-map}
use Rattle.history.specs.declared.entry.Entry.{Entry}
use Rattle.history.specs.declared.told.Told.{Told}
use Rattle.history.specs.declared.effect.Effect.{Effect}
use Rattle.history.specs.Version.{NoneFrom}
use Rattle.std.proofs.lemmas.Option.{slice_get_within}
use Rattle.history.proofs.Lists.{get_end, get_left, get_split}
use Rattle.history.proofs.Runs.{none_from-append, none_in_nothing}
use Rattle.layers.specs.Layered.{LayeredSoFar, LayeredRun, IsLayeredHistoryOf}
use Rattle.layers.specs.Laws.{EachLayeredRun}
use Rattle.layers.proofs.Histories.{layered_history}
use Rattle.layers.proofs.Runs.{layered_whole, layered_whole_more}
use Rattle.version_book.specs.declared.book.PassOf.{PassOf}
use Rattle.version_book.specs.Lists.{GoesOn}
use Rattle.version_book.specs.Numbers.{has, next_of_both}
use Rattle.version_book.specs.Passes.{numbers_of, seen}
use Rattle.version_book.proofs.Lists.{has-append, has-first, has-left, has-one, has-right}
use Rattle.sessions.specs.declared.session.SessionOf.{SessionOf}
use Rattle.sessions.specs.Inside.AllSessions.{commands_of}
use Rattle.sessions.specs.Inside.Gathered.{IsGathered, IsGiver}
use Rattle.sessions.proofs.Answered.{run_seen}
use Rattle.sessions.proofs.Opened.{commands-append, one_there}

up_to : (n most : ℕ) → n ≤ most + 1 → (n ≤ most) ⊎ (n ≡ most + 1)
up_to n most within = elim (cases_lt most n) [ inl above ↦ inr (omega arith) | inr below ↦ inl below ]

-- the pass that gives numbers goes on giving them
pub gives_on : (result mine other first : Option ℕ) (next : ℕ) → result ≡ next_of_both mine other → mine ≡ first → first ≡ Some next → result ≡ first
gives_on result mine other first next is same gives = is ∙ (ap (λ (x : Option ℕ). next_of_both x other) (same ∙ gives) ∙ sym gives)

not_zero : (n : ℕ) → n ≢ 0 → 1 ≤ n
not_zero zero different = absurd (different refl)
not_zero (suc n) different = omega arith

module _ {C K T R : Type 0} (answer : C → Option T → K → Effect T R × Option T) (after : C → T → C) (first : C) where
  -- the giver's pass alone
  pub gathered_none : {L S : Type 0} (pass : PassOf L S T) (next : ℕ) → IsGiver pass next → IsGathered answer after first [] [] (numbers_of pass) (seen pass)
  gathered_none pass next giver =
      subst (λ (ns : List ℕ). IsGathered answer after first [] [] ns (seen pass)) (sym giver.numbers)
      (subst (λ (log : List (Entry T)). IsGathered answer after first [] [] (0 ∷ []) log) (sym giver.seen_none) (record {
        below = λ n within. let zeroth : 0 ≡ n = omega arith in subst (λ (m : ℕ). has (0 ∷ []) m ≡ true) zeroth (has-first 0 []);
        only = λ n own. let zeroth = has-one 0 n own in omega (arith, zeroth);
        giver = none_in_nothing 0 0;
        all = refl;
        runs = λ index commands replies is told_is. cc;
      }))

  module _ (users : List (List K)) (told : List (List (Told R))) (ns own : List ℕ) (log mine later : List (Entry T)) (commands : List K) (replies : List (Told R)) (user : ℕ)
      (gathered : IsGathered answer after first users told ns log) (next : user ≡ length users + 1) (goes : GoesOn log later ns) where
    runs_more : length replies ≡ length commands → LayeredSoFar answer after first later user None replies commands → EachLayeredRun answer after first None (users ++ commands ∷ []) (told ++ replies ∷ []) later
    runs_more answered run index ks ts is told_is =
        elim (get_split users (commands ∷ []) index ks is) [
          | inl here ↦
              let within : index < length users = slice_get_within users index ks here in
              let below : index < length told = omega (arith, within, gathered.all) in
              let there : slice_get told index ≡ Some ts = sym (get_left told (replies ∷ []) index below) ∙ told_is in
              let before = gathered.runs index ks ts here there in
              let none : NoneFrom goes.added 0 (index + 1) = goes.none (index + 1) (gathered.below (index + 1) (omega (arith, within))) in
              subst (λ (xs : List (Entry T)). LayeredRun answer after first xs (index + 1) None ts ks) (sym goes.is) (layered_whole_more answer after first log goes.added (index + 1) None ts ks before none)
          | inr there ↦
              let one = one_there commands ks there.0 there.2 in
              let last : index ≡ length told = omega (arith, there.1, one.0, gathered.all) in
              let here : slice_get (told ++ replies ∷ []) (length told) ≡ Some ts = rw last at told_is in
              let same : replies ≡ ts = cc (get_end told replies) in
              let number : user ≡ index + 1 = omega (arith, last, gathered.all, next) in
              let whole : LayeredRun answer after first later user None replies commands = layered_whole answer after first later user None replies commands answered run in
              subst (λ (u : ℕ). LayeredRun answer after first later u None ts ks) number
              (subst (λ (xs : List (Told R)). LayeredRun answer after first later user None xs ks) same
              (subst (λ (cs : List K). LayeredRun answer after first later user None replies cs) one.1 whole))
        ]

    -- and the pass of one session more
    pub gathered_more : length replies ≡ length commands → LayeredSoFar answer after first mine user None replies commands → own ≡ user ∷ [] → GoesOn mine later own
        → IsGathered answer after first (users ++ commands ∷ []) (told ++ replies ∷ []) (ns ++ own) later
    gathered_more answered run alone mine_goes =
        let longer : length (users ++ commands ∷ []) ≡ length users + 1 = length-append users (commands ∷ []) in
        let both : has own user ≡ true = subst (λ (ms : List ℕ). has ms user ≡ true) (sym alone) (has-first user []) in
        record {
          below = λ n within.
              elim (up_to n (length users) (omega (arith, within, longer))) [
                | inl before ↦ has-left ns own n (gathered.below n before)
                | inr last ↦ (let here : user ≡ n = omega (arith, last, next) in has-right ns own n (subst (λ (m : ℕ). has own m ≡ true) here both))
              ];
          only = λ n is.
              elim (has-append ns own n is) [
                | inl before ↦ omega (arith, gathered.only n before, longer)
                | inr last ↦ (let here = has-one user n (subst (λ (ms : List ℕ). has ms n ≡ true) alone last) in omega (arith, here, next, longer))
              ];
          giver =
              subst (λ (xs : List (Entry T)). NoneFrom xs 0 0) (sym goes.is)
              (none_from-append log goes.added 0 0 gathered.giver (goes.none 0 (gathered.below 0 (omega arith))));
          all = omega (arith, length-append told (replies ∷ []), longer, gathered.all);
          runs = runs_more answered (run_seen answer after first mine later user own None replies commands run mine_goes alone).0;
        }

  -- a session that has answered all is met
  pub met_more : {L S Y : Type 0} (sessions : List (SessionOf L S T K R Y)) (session : SessionOf L S T K R Y) (told : List (List (Told R))) (replies : List (Told R)) (all pass later : PassOf L S T)
      → IsGathered answer after first (commands_of sessions) told (numbers_of all) (seen all)
      → pass ≡ session.pass → replies ≡ session.told.items → session.user ≡ length sessions + 1 → numbers_of session.pass ≡ session.user ∷ [] → length session.told.items ≡ length session.commands
      → LayeredSoFar answer after first (seen session.pass) session.user None session.told.items session.commands
      → numbers_of later ≡ numbers_of all ++ numbers_of pass → GoesOn (seen all) (seen later) (numbers_of all) → GoesOn (seen pass) (seen later) (numbers_of pass)
      → IsGathered answer after first (commands_of (sessions ++ session ∷ [])) (told ++ replies ∷ []) (numbers_of later) (seen later)
  met_more sessions session told replies all pass later gathered pass_is replies_are user alone answered run both goes own_goes =
      let next : session.user ≡ length (commands_of sessions) + 1 = omega (arith, user, length-map sessions (λ s. s.commands)) in
      let mine : GoesOn (seen session.pass) (seen later) (numbers_of session.pass) = rw (sym pass_is) own_goes in
      let added : IsGathered answer after first (commands_of sessions ++ session.commands ∷ []) (told ++ session.told.items ∷ []) (numbers_of all ++ numbers_of session.pass) (seen later) =
      gathered_more (commands_of sessions) told (numbers_of all) (numbers_of session.pass) (seen all) (seen session.pass) (seen later) session.commands session.told.items session.user
      gathered next goes answered run alone mine in
      rw (commands-append sessions session, replies_are, both, pass_is) added

  -- when each entry has one of the numbers, it is the history of all users
  pub gathered_all : (users : List (List K)) (told : List (List (Told R))) (ns : List ℕ) (log : List (Entry T)) → IsGathered answer after first users told ns log
      → ((place : ℕ) (entry : Entry T) → slice_get log place ≡ Some entry → has ns entry.user ≡ true) → IsLayeredHistoryOf answer after first None users told log
  gathered_all users told ns log gathered known =
      layered_history answer after first log None users told gathered.all
      (λ place entry is. (not_zero entry.user (gathered.giver place entry (omega arith) is), gathered.only entry.user (known place entry is))) gathered.runs
