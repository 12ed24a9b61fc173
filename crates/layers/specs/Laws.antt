-- What the laws of this crate say, of any world: `answer` is what a command does on a content and a layer, with the
-- next layer, and `after` is what writes make of a content.
use Rattle.std.specs.Prelude.{ℕ, ◌≡◌, ◌+◌, ◌++◌, List, [], ◌∷◌, Some, slice_get, length, take}
use Rattle.history.specs.declared.entry.Entry.{Entry}
use Rattle.history.specs.declared.told.Told.{Told}
use Rattle.history.specs.declared.effect.Effect.{Effect}
use Rattle.history.specs.Version.{content_after, version, NoneFrom}
use Rattle.history.specs.UserRun.{reply_of, least_after, Stands}
use Rattle.history.specs.LegalHistory.{HasUsers}
use Rattle.layers.specs.Layered.{layered, layer_after, LayeredSoFar, LayeredRun, IsLayeredHistoryOf}
use Rattle.layers.specs.Layered.{told_at, places_in, writes_in}

-- others' commits change nothing of what a user was told, and nothing of the user's layer
abbrev pub LayeredRunStaysBesideOthers : {C L K T R : Type 0} → (C → L → K → Effect T R × L) → (C → T → C) → Type 0
LayeredRunStaysBesideOthers {C} {L} {K} {T} {R} answer after =
    (first : C) (log extra : List (Entry T)) (user : ℕ) (layer : L) (told : List (Told R)) (commands : List K)
    → LayeredSoFar answer after first log user layer told commands → NoneFrom extra 0 user
    → LayeredSoFar answer after first (log ++ extra) user layer told commands
    × (layer_after answer after first (log ++ extra) layer told commands
    ≡ layer_after answer after first log layer told commands)

-- a user's run goes on by the answer to its next command on the newest version with the layer that the user then has,
-- and the user's layer is then the one that this answer gives
abbrev pub LayeredRunGoesOnByOne : {C L K T R : Type 0} → (C → L → K → Effect T R × L) → (C → T → C) → Type 0
LayeredRunGoesOnByOne {C} {L} {K} {T} {R} answer after =
    (first : C) (log extra : List (Entry T)) (user : ℕ) (layer : L) (told : List (Told R)) (commands : List K)
    (command : K) (one : Told R) (found : Effect T R) (next : L)
    → LayeredSoFar answer after first log user layer told commands → slice_get commands (length told) ≡ Some command
    → one.place ≡ length log
    → answer (content_after after first log) (layer_after answer after first log layer told commands) command
    ≡ (found, next)
    → one.reply ≡ reply_of found → Stands found (log ++ extra) (length log) user (length told + 1)
    → NoneFrom (log ++ extra) (least_after found (length log)) user
    → LayeredSoFar answer after first (log ++ extra) user layer (told ++ one ∷ []) commands
    × (layer_after answer after first (log ++ extra) layer (told ++ one ∷ []) commands ≡ next)

-- each user has the replies to all its commands
abbrev pub EachLayeredRun : {C L K T R : Type 0} → (C → L → K → Effect T R × L) → (C → T → C) → C → L
    → List (List K) → List (List (Told R)) → List (Entry T) → Type 0
EachLayeredRun {K = K} {R = R} answer after first layer users told log =
    (index : ℕ) (commands : List K) (replies : List (Told R)) → slice_get users index ≡ Some commands
    → slice_get told index ≡ Some replies → LayeredRun answer after first log (index + 1) layer replies commands

-- where each user has a whole run, and each entry is of one of the users, it is the one history of all users
abbrev pub LayeredRunsMakeHistory : {C L K T R : Type 0} → (C → L → K → Effect T R × L) → (C → T → C) → Type 0
LayeredRunsMakeHistory {C} {L} {K} {T} {R} answer after =
    (first : C) (layer : L) (users : List (List K)) (told : List (List (Told R))) (log : List (Entry T))
    → length told ≡ length users → HasUsers (length users) log
    → EachLayeredRun answer after first layer users told log
    → IsLayeredHistoryOf answer after first layer users told log

-- in a history of all users each user has a run by its own commands and replies alone
abbrev pub LayeredHistoryHasRuns : {C L K T R : Type 0} → (C → L → K → Effect T R × L) → (C → T → C) → Type 0
LayeredHistoryHasRuns {C} {L} {K} {T} {R} answer after =
    (first : C) (layer : L) (users : List (List K)) (told : List (List (Told R))) (log : List (Entry T))
    → IsLayeredHistoryOf answer after first layer users told log
    → (length told ≡ length users) × EachLayeredRun answer after first layer users told log

-- a user's replies follow from the history, the places of these replies and the user's commands
abbrev pub RepliesAreDetermined : {C L K T R : Type 0} → (C → L → K → Effect T R × L) → (C → T → C) → Type 0
RepliesAreDetermined {C} {L} {K} {T} {R} answer after =
    (first : C) (log : List (Entry T)) (user : ℕ) (layer : L) (told : List (Told R)) (commands : List K)
    → LayeredSoFar answer after first log user layer told commands
    → told ≡ told_at answer (version after first log) layer (places_in told) commands

-- and of the history the writes alone tell: neither who committed them nor what anyone else keeps in a layer
abbrev pub LayerIsSeenAlone : {C L K T R : Type 0} → (C → L → K → Effect T R × L) → (C → T → C) → Type 0
LayerIsSeenAlone {C} {L} {K} {T} {R} answer after =
    (first : C) (log other : List (Entry T)) (user else : ℕ) (layer : L) (told replies : List (Told R))
    (commands : List K)
    → LayeredSoFar answer after first log user layer told commands
    → LayeredSoFar answer after first other else layer replies commands
    → writes_in log ≡ writes_in other → places_in told ≡ places_in replies → told ≡ replies

-- one user's commands have one history, and one list of replies
abbrev pub OneUserHasOneLayeredHistory : {C L K T R : Type 0} → (C → L → K → Effect T R × L) → (C → T → C) → Type 0
OneUserHasOneLayeredHistory {C} {L} {K} {T} {R} answer after =
    (first : C) (layer : L) (commands : List K) (told replies : List (List (Told R))) (log other : List (Entry T))
    → IsLayeredHistoryOf answer after first layer (commands ∷ []) told log
    → IsLayeredHistoryOf answer after first layer (commands ∷ []) replies other
    → (told ≡ replies) × (log ≡ other)

-- each command stands with the layer after those before it: the first layer before the first command, and after a
-- command the next layer of its answer on the version of its place
abbrev pub LayersGoByCommands : {C L K T R : Type 0} → (C → L → K → Effect T R × L) → (C → T → C) → Type 0
LayersGoByCommands {C} {L} {K} {T} {R} answer after =
    (first : C) (log : List (Entry T)) (layer : L) (told : List (Told R)) (commands : List K)
    → let before = λ (index : ℕ). layer_after answer after first log layer (take index told) commands in
    (before 0 ≡ layer)
    × ((index : ℕ) (one : Told R) (command : K)
    → slice_get told index ≡ Some one → slice_get commands index ≡ Some command
    → (slice_get (layered answer after first log layer told commands) index ≡ Some (before index, command))
    × (before (index + 1) ≡ (answer (version after first log one.place) (before index) command).1))
