-- A user's layered run, while others commit and by one answer more.
use Rattle.std.proofs.Common.{◌≡◌, ℕ, ◌+◌, ◌≤◌, zero, suc, List, [], ◌∷◌, ◌++◌, length, take, Some, refl, ap, sym, ◌∙◌, subst, arith}
use Rattle.std.specs.List.{slice_get}
use Rattle.std.proofs.lemmas.List.{length-map}
use Rattle.history.specs.declared.entry.Entry.{Entry}
use Rattle.history.specs.declared.told.Told.{Told}
use Rattle.history.specs.declared.effect.Effect.{Effect}
use Rattle.history.specs.Version.{content_after, version, NoneFrom}
use Rattle.history.specs.UserRun.{reply_of, least_after, Stands, ToldFrom}
use Rattle.history.proofs.Runs.{least_after_le, place_le, version-append, version-all, told_more, told_one}
use Rattle.lists.proofs.Found.{none_some, some_same}
use Rattle.layers.specs.Layered.{effect_of, layered, layer_after, LayeredSoFar, LayeredRun}

module _ {C L K T R : Type 0} (answer : C → L → K → Effect T R × L) (after : C → T → C) (first : C) where
  -- the place of a told answer is a version of the history
  place_within : (log : List (Entry T)) (one : Told R) (layer : L) (command : K) (user number : ℕ)
      → Stands (effect_of answer (version after first log one.place) (layer, command)) log one.place user number → one.place ≤ length log
  place_within log one layer command user number stands =
      let found = effect_of answer (version after first log one.place) (layer, command) in
      omega (arith, place_le found one.place, least_after_le found log one.place user number stands)

  -- the commands with their layers, and the last layer, are the same over a longer history
  pub layered_beside : (log extra : List (Entry T)) (user number least : ℕ) (layer : L) (told : List (Told R)) (commands : List K)
      → ToldFrom (effect_of answer) after first log user number least told (layered answer after first log layer told commands)
      → (layered answer after first (log ++ extra) layer told commands ≡ layered answer after first log layer told commands)
      × (layer_after answer after first (log ++ extra) layer told commands ≡ layer_after answer after first log layer told commands)
  layered_beside log extra user number least layer [] commands t = (refl, refl)
  layered_beside log extra user number least layer (one ∷ told) [] t = absurd t
  layered_beside log extra user number least layer (one ∷ told) (command ∷ commands) t =
      let within : one.place ≤ length log = place_within log one layer command user number t.3 in
      let found = effect_of answer (version after first log one.place) (layer, command) in
      let next = (answer (version after first log one.place) layer command).1 in
      let rest = layered_beside log extra user (number + 1) (least_after found one.place) next told commands t.4 in
      rw (version-append after first log extra one.place within) (ap (λ (xs : List (L × K)). (layer, command) ∷ xs) rest.0, rest.1)

  pub layered_at : (log : List (Entry T)) (layer : L) (told : List (Told R)) (commands : List K) (command : K) → slice_get commands (length told) ≡ Some command
      → slice_get (layered answer after first log layer told commands) (length told) ≡ Some (layer_after answer after first log layer told commands, command)
  layered_at log layer [] [] command is = absurd (none_some is)
  layered_at log layer [] (next ∷ commands) command is = ap (λ (k : K). Some (layer, k)) (some_same is)
  layered_at log layer (one ∷ told) [] command is = absurd (none_some is)
  layered_at log layer (one ∷ told) (next ∷ commands) command is = layered_at log (answer (version after first log one.place) layer next).1 told commands command is

  -- one answer more gives the commands that are left another layer, of which a run says nothing
  pub layered_push : (log : List (Entry T)) (user number least : ℕ) (layer : L) (told : List (Told R)) (one : Told R) (commands : List K)
      → ToldFrom (effect_of answer) after first log user number least (told ++ one ∷ []) (layered answer after first log layer told commands)
      → ToldFrom (effect_of answer) after first log user number least (told ++ one ∷ []) (layered answer after first log layer (told ++ one ∷ []) commands)
  layered_push log user number least layer [] one [] t = absurd t
  layered_push log user number least layer [] one (command ∷ commands) t = t
  layered_push log user number least layer (earlier ∷ told) one [] t = absurd t
  layered_push log user number least layer (earlier ∷ told) one (command ∷ commands) t =
      let found = effect_of answer (version after first log earlier.place) (layer, command) in
      (t.0, t.1, t.2, t.3, layered_push log user (number + 1) (least_after found earlier.place) (answer (version after first log earlier.place) layer command).1 told one commands t.4)

  pub layer_after_push : (log : List (Entry T)) (layer : L) (told : List (Told R)) (one : Told R) (commands : List K) (command : K) → slice_get commands (length told) ≡ Some command
      → layer_after answer after first log layer (told ++ one ∷ []) commands
      ≡ (answer (version after first log one.place) (layer_after answer after first log layer told commands) command).1
  layer_after_push log layer [] one [] command is = absurd (none_some is)
  layer_after_push log layer [] one (next ∷ commands) command is = ap (λ (k : K). (answer (version after first log one.place) layer k).1) (some_same is)
  layer_after_push log layer (earlier ∷ told) one [] command is = absurd (none_some is)
  layer_after_push log layer (earlier ∷ told) one (next ∷ commands) command is =
      layer_after_push log (answer (version after first log earlier.place) layer next).1 told one commands command is

  pub layered_more : (log extra : List (Entry T)) (user : ℕ) (layer : L) (told : List (Told R)) (commands : List K)
      → LayeredSoFar answer after first log user layer told commands → NoneFrom extra 0 user
      → LayeredSoFar answer after first (log ++ extra) user layer told commands
      × (layer_after answer after first (log ++ extra) layer told commands ≡ layer_after answer after first log layer told commands)
  layered_more log extra user layer told commands run none =
      let same = layered_beside log extra user 1 0 layer told commands run in
      let more = told_more (effect_of answer) after first log extra user none 1 0 told (layered answer after first log layer told commands) run in
      (rw (← same.0) at more, same.1)

  pub layered_one : (log extra : List (Entry T)) (user : ℕ) (layer : L) (told : List (Told R)) (commands : List K)
      (command : K) (one : Told R) (found : Effect T R) (next : L)
      → LayeredSoFar answer after first log user layer told commands → slice_get commands (length told) ≡ Some command
      → one.place ≡ length log
      → answer (content_after after first log) (layer_after answer after first log layer told commands) command ≡ (found, next)
      → one.reply ≡ reply_of found → Stands found (log ++ extra) (length log) user (length told + 1)
      → NoneFrom (log ++ extra) (least_after found (length log)) user
      → LayeredSoFar answer after first (log ++ extra) user layer (told ++ one ∷ []) commands
      × (layer_after answer after first (log ++ extra) layer (told ++ one ∷ []) commands ≡ next)
  layered_one log extra user layer told commands command one found next run is at found_is reply stands none =
      let now = layer_after answer after first log layer told commands in
      let same = layered_beside log extra user 1 0 layer told commands run in
      let effect : effect_of answer (content_after after first log) (now, command) ≡ found = ap (λ (p : Effect T R × L). p.0) found_is in
      let more = told_one (effect_of answer) after first log extra user 1 0 told (layered answer after first log layer told commands) (now, command) one found
      run (layered_at log layer told commands command is) at effect reply stands none in
      let moved = subst (λ (ks : List (L × K)). ToldFrom (effect_of answer) after first (log ++ extra) user 1 0 (told ++ one ∷ []) ks) (sym same.0) more in
      let here : version after first (log ++ extra) one.place ≡ content_after after first log =
      ap (version after first (log ++ extra)) at ∙ version-all after first log extra in (
        layered_push (log ++ extra) user 1 0 layer told one commands moved,
        layer_after_push (log ++ extra) layer told one commands command is
            ∙ ap (λ (c : C). (answer c (layer_after answer after first (log ++ extra) layer told commands) command).1) here
            ∙ ap (λ (l : L). (answer (content_after after first log) l command).1) same.1
            ∙ ap (λ (p : Effect T R × L). p.1) found_is,
      )

  -- the layer before each command
  pub layer_before : (log : List (Entry T)) (layer : L) (told : List (Told R)) (commands : List K) (index : ℕ) (one : Told R) (command : K)
      → slice_get told index ≡ Some one → slice_get commands index ≡ Some command
      → (slice_get (layered answer after first log layer told commands) index ≡ Some (layer_after answer after first log layer (take index told) commands, command))
      × (layer_after answer after first log layer (take (suc index) told) commands
      ≡ (answer (version after first log one.place) (layer_after answer after first log layer (take index told) commands) command).1)
  layer_before log layer [] commands index one command is at = absurd (none_some is)
  layer_before log layer (told ∷ more) [] index one command is at = absurd (none_some at)
  layer_before log layer (told ∷ more) (next ∷ commands) zero one command is at =
      (ap (λ (k : K). Some (layer, k)) (some_same at), rw (sym (some_same is), sym (some_same at)) refl)
  layer_before log layer (told ∷ more) (next ∷ commands) (suc index) one command is at =
      layer_before log (answer (version after first log told.place) layer next).1 more commands index one command is at

  -- each command stands once
  pub layered_length : (log : List (Entry T)) (layer : L) (told : List (Told R)) (commands : List K) → length told ≤ length commands
      → length (layered answer after first log layer told commands) ≡ length commands
  layered_length log layer [] commands few = length-map commands (λ (k : K). (layer, k))
  layered_length log layer (one ∷ told) [] few = absurd (omega (arith, few))
  layered_length log layer (one ∷ told) (command ∷ commands) few =
      ap suc (layered_length log (answer (version after first log one.place) layer command).1 told commands (omega (arith, few)))

  -- no more is told than there are commands
  few_from : (log : List (Entry T)) (user number least : ℕ) (layer : L) (told : List (Told R)) (commands : List K)
      → ToldFrom (effect_of answer) after first log user number least told (layered answer after first log layer told commands) → length told ≤ length commands
  few_from log user number least layer [] commands t = omega arith
  few_from log user number least layer (one ∷ told) [] t = absurd t
  few_from log user number least layer (one ∷ told) (command ∷ commands) t =
      let found = effect_of answer (version after first log one.place) (layer, command) in
      omega (arith, few_from log user (number + 1) (least_after found one.place) (answer (version after first log one.place) layer command).1 told commands t.4)

  pub layered_few : (log : List (Entry T)) (user : ℕ) (layer : L) (told : List (Told R)) (commands : List K)
      → LayeredSoFar answer after first log user layer told commands → length told ≤ length commands
  layered_few log user layer told commands run = few_from log user 1 0 layer told commands run

  -- a run in which no command is left is a whole one
  pub layered_whole : (log : List (Entry T)) (user : ℕ) (layer : L) (told : List (Told R)) (commands : List K)
      → length told ≡ length commands → LayeredSoFar answer after first log user layer told commands → LayeredRun answer after first log user layer told commands
  layered_whole log user layer told commands all run = (all ∙ sym (layered_length log layer told commands (omega (arith, all))), run)

  -- and stays one while others commit
  pub layered_whole_more : (log extra : List (Entry T)) (user : ℕ) (layer : L) (told : List (Told R)) (commands : List K)
      → LayeredRun answer after first log user layer told commands → NoneFrom extra 0 user → LayeredRun answer after first (log ++ extra) user layer told commands
  layered_whole_more log extra user layer told commands run none =
      let all : length told ≡ length commands = run.0 ∙ layered_length log layer told commands (layered_few log user layer told commands run.1) in
      layered_whole (log ++ extra) user layer told commands all (layered_more log extra user layer told commands run.1 none).0
