-- The entries of a layered history are those of its users' runs, and the writes follow from who wrote them.
use Rattle.std.proofs.Common.{◌≡◌, ℕ, ◌+◌, ◌<◌, ◌≤◌, zero, suc, List, [], ◌∷◌, ◌++◌, length, take, Some, refl, sym, ap, ◌∙◌, subst, arith}
use Rattle.std.specs.List.{slice_get}
use Rattle.std.proofs.lemmas.Option.{slice_get_within}
use Rattle.history.specs.declared.entry.Entry.{Entry}
use Rattle.history.specs.declared.told.Told.{Told}
use Rattle.history.specs.declared.effect.Effect.{Effect}
use Rattle.history.specs.declared.effect.Effect.TheVariants.{Commit}
use Rattle.history.specs.Version.{content_after, version}
use Rattle.history.specs.UserRun.{least_after, ToldFrom}
use Rattle.history.proofs.Histories.{IsAnswered, told_entry}
use Rattle.history.proofs.Runs.{place_le}
use Rattle.layers.specs.Layered.{effect_of, layered, all_layered, LayeredRun, IsLayeredHistoryOf}
use Rattle.layers.proofs.Histories.{layered_runs}
use Rattle.lists.proofs.Found.{none_some, some_same, there}
use Rattle.output_laws.proofs.Entries.{AreOfSame}

-- ---- lists that begin alike

take_again : {A : Type 0} (n m : ℕ) (xs : List A) → n ≤ m → take n (take m xs) ≡ take n xs
take_again zero m xs less = refl
take_again (suc n) zero xs less = absurd (omega (arith, less))
take_again (suc n) (suc m) [] less = refl
take_again (suc n) (suc m) (x ∷ xs) less = ap (λ ys. x ∷ ys) (take_again n m xs (omega (arith, less)))

take_next : {A : Type 0} (xs : List A) (n : ℕ) (x : A) → slice_get xs n ≡ Some x → take (suc n) xs ≡ take n xs ++ x ∷ []
take_next [] n x is = absurd (none_some is)
take_next (y ∷ xs) zero x is = ap (λ z. z ∷ []) (some_same is)
take_next (y ∷ xs) (suc n) x is = ap (λ ys. y ∷ ys) (take_next xs n x is)

take_whole : {A : Type 0} (xs : List A) → take (length xs) xs ≡ xs
take_whole [] = refl
take_whole (x ∷ xs) = ap (λ ys. x ∷ ys) (take_whole xs)

-- ---- entries of the same commands

same_length : {T : Type 0} (log other : List (Entry T)) → AreOfSame log other → length log ≡ length other
same_length [] [] same = refl
same_length [] (b ∷ other) same = absurd same
same_length (a ∷ log) [] same = absurd same
same_length (a ∷ log) (b ∷ other) same = ap suc (same_length log other same.2)

same_at : {T : Type 0} (log other : List (Entry T)) (place : ℕ) (a b : Entry T) → AreOfSame log other → slice_get log place ≡ Some a → slice_get other place ≡ Some b
    → (a.user ≡ b.user) × (a.command ≡ b.command)
same_at [] other place a b same is at = absurd (none_some is)
same_at (c ∷ log) [] place a b same is at = absurd same
same_at (c ∷ log) (d ∷ other) zero a b same is at =
    let here : c ≡ a = some_same is in
    let there : d ≡ b = some_same at in
    (ap (λ e. e.user) (sym here) ∙ same.0 ∙ ap (λ e. e.user) there, ap (λ e. e.command) (sym here) ∙ same.1 ∙ ap (λ e. e.command) there)
same_at (c ∷ log) (d ∷ other) (suc place) a b same is at = same_at log other place a b same.2 is at

entry_of : {T : Type 0} → ℕ → ℕ → T → Entry T
entry_of user command writes = record { user = user; command = command; writes = writes }

entry_same : {T : Type 0} (a b : Entry T) → a.user ≡ b.user → a.command ≡ b.command → a.writes ≡ b.writes → a ≡ b
unfolding entry_of
entry_same a b us ks ws = ap (λ u. entry_of u a.command a.writes) us ∙ ap (λ k. entry_of b.user k a.writes) ks ∙ ap (λ w. entry_of b.user b.command w) ws

module _ {C L K T R : Type 0} (answer : C → L → K → Effect T R × L) (after : C → T → C) (first : C) (layer : L) (users : List (List K)) where
  -- ---- an entry is that of an answer to one of the users

  pub record HasOwner (log : List (Entry T)) (told : List (List (Told R))) (place : ℕ) (entry : Entry T) : Type 0 where
    pub index : ℕ
    pub commands : List K
    pub own : List (Told R)
    pub is_user : entry.user ≡ index + 1
    pub are_commands : slice_get users index ≡ Some commands
    pub are_told : slice_get told index ≡ Some own
    pub run : LayeredRun answer after first log (index + 1) layer own commands
    pub answered : IsAnswered (effect_of answer) after first log place entry 1 own (layered answer after first log layer own commands)

  pub owner : (log : List (Entry T)) (told : List (List (Told R))) → IsLayeredHistoryOf answer after first layer users told log
      → (place : ℕ) (entry : Entry T) → slice_get log place ≡ Some entry → HasOwner log told place entry
  owner log told history place entry is =
      let at = history.legal place entry is in
      let runs = layered_runs answer after first log layer users told history in
      let low = slice_get_within (all_layered answer after first log layer told users) at.index at.commands at.are_commands in
      let commands = there users at.index (omega (arith, low, history.all, runs.0)) in
      let own = there told at.index (omega (arith, low, history.all)) in
      let run = runs.1 at.index commands.0 own.0 commands.1 own.1 in
      record {
        index = at.index;
        commands = commands.0;
        own = own.0;
        is_user = at.is_user;
        are_commands = commands.1;
        are_told = own.1;
        run = run;
        answered = told_entry (effect_of answer) after first log (at.index + 1) place entry is at.is_user 1 0 own.0 (layered answer after first log layer own.0 commands.0) run.1 (omega arith);
      }

  -- ---- while the versions agree, so do the layers

  module _ (log other : List (Entry T)) where
    least_first : (user number least : ℕ) (own : List (Told R)) (pairs : List (L × K)) → ToldFrom (effect_of answer) after first log user number least own pairs
        → (i : ℕ) (one : Told R) → slice_get own i ≡ Some one → least ≤ one.place
    least_first user number least [] pairs t i one is = absurd (none_some is)
    least_first user number least (told ∷ own) [] t i one is = absurd t
    least_first user number least (told ∷ own) (pair ∷ pairs) t zero one is = subst (λ (here : Told R). least ≤ here.place) (some_same is) t.0
    least_first user number least (told ∷ own) (pair ∷ pairs) t (suc i) one is =
        let found = effect_of answer (version after first log told.place) pair in
        omega (arith, t.0, place_le found told.place, least_first user (number + 1) (least_after found told.place) own pairs t.4 i one is)

    same_pair : (last : ℕ) → ((place : ℕ) → place ≤ last → version after first log place ≡ version after first other place)
        → (user number least : ℕ) (now : L) (own : List (Told R)) (commands : List K)
        → ToldFrom (effect_of answer) after first log user number least own (layered answer after first log now own commands)
        → (i : ℕ) (one : Told R) → slice_get own i ≡ Some one → one.place ≤ last
        → slice_get (layered answer after first log now own commands) i ≡ slice_get (layered answer after first other now own commands) i
    same_pair last agree user number least now [] commands t i one is low = absurd (none_some is)
    same_pair last agree user number least now (told ∷ own) [] t i one is low = absurd t
    same_pair last agree user number least now (told ∷ own) (command ∷ commands) t zero one is low = refl
    same_pair last agree user number least now (told ∷ own) (command ∷ commands) t (suc i) one is low =
        let found = effect_of answer (version after first log told.place) (now, command) in
        let next = (answer (version after first log told.place) now command).1 in
        let later = least_first user (number + 1) (least_after found told.place) own (layered answer after first log next own commands) t.4 i one is in
        let before : told.place ≤ last = omega (arith, place_le found told.place, later, low) in
        same_pair last agree user (number + 1) (least_after found told.place) next own commands t.4 i one is low
        ∙ ap (λ (l : L). slice_get (layered answer after first other l own commands) i) (ap (λ (c : C). (answer c now command).1) (agree told.place before))

    -- ---- the writes follow

    committed_same : (v w : T) (r s : R) → Commit v r ≡ Commit w s → v ≡ w
    committed_same v w r s same = cc

    next_same : (told : List (List (Told R))) → IsLayeredHistoryOf answer after first layer users told log → IsLayeredHistoryOf answer after first layer users told other
        → (place : ℕ) → take place log ≡ take place other → (a b : Entry T) → slice_get log place ≡ Some a → slice_get other place ≡ Some b
        → a.user ≡ b.user → a.command ≡ b.command → a ≡ b
    next_same told history history_too place same a b is at same_user same_command =
        let mine = owner log told history place a is in
        let again = owner other told history_too place b at in
        let index : again.index ≡ mine.index = omega (arith, mine.is_user, again.is_user, same_user) in
        let commands : again.commands ≡ mine.commands = some_same (sym again.are_commands ∙ ap (slice_get users) index ∙ mine.are_commands) in
        let own : again.own ≡ mine.own = some_same (sym again.are_told ∙ ap (slice_get told) index ∙ mine.are_told) in
        let i : again.answered.by.index ≡ mine.answered.by.index = omega (arith, mine.answered.is_number, again.answered.is_number, same_command) in
        let agree : (p : ℕ) → p ≤ place → version after first log p ≡ version after first other p =
        λ p low. ap (content_after after first) (sym (take_again p place log low) ∙ ap (take p) same ∙ take_again p place other low) in
        let pairs = same_pair place agree (mine.index + 1) 1 0 layer mine.own mine.commands mine.run.1 mine.answered.by.index mine.answered.by.answer mine.answered.by.is_answer (omega (arith, mine.answered.by.is_place)) in
        let lists : layered answer after first other layer again.own again.commands ≡ layered answer after first other layer mine.own mine.commands =
        ap (λ (ts : List (Told R)). layered answer after first other layer ts again.commands) own ∙ ap (λ (ks : List K). layered answer after first other layer mine.own ks) commands in
        let pair : mine.answered.by.command ≡ again.answered.by.command =
        some_same (sym mine.answered.by.is_command ∙ pairs ∙ ap (slice_get (layered answer after first other layer mine.own mine.commands)) (sym i)
        ∙ ap (λ (ps : List (L × K)). slice_get ps again.answered.by.index) (sym lists) ∙ again.answered.by.is_command) in
        let writes = committed_same a.writes b.writes mine.answered.by.reply again.answered.by.reply
        (sym mine.answered.by.is_accepted ∙ ap (effect_of answer (version after first log place)) pair
        ∙ ap (λ (c : C). effect_of answer c again.answered.by.command) (agree place (omega arith)) ∙ again.answered.by.is_accepted) in
        entry_same a b same_user same_command writes

    pub writes_follow : (told : List (List (Told R))) → IsLayeredHistoryOf answer after first layer users told log → IsLayeredHistoryOf answer after first layer users told other
        → AreOfSame log other → log ≡ other
    writes_follow told history history_too same =
        let long = same_length log other same in
        sym (take_whole log) ∙ up_to (length log) (omega arith) ∙ ap (λ n. take n other) long ∙ take_whole other
      where
        up_to : (n : ℕ) → n ≤ length log → take n log ≡ take n other
        up_to zero low = refl
        up_to (suc n) low =
            let before = up_to n (omega (arith, low)) in
            let a = there log n (omega (arith, low)) in
            let b = there other n (omega (arith, low, same_length log other same)) in
            let of = same_at log other n a.0 b.0 same a.1 b.1 in
            let one = next_same told history history_too n before a.0 b.0 a.1 b.1 of.0 of.1 in
            take_next log n a.0 a.1 ∙ ap (λ front. front ++ a.0 ∷ []) before ∙ ap (λ e. take n other ++ e ∷ []) one ∙ sym (take_next other n b.0 b.1)
