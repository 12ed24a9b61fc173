-- Users with private layers. A command is answered on a content and on the layer that its user has before it, and the
-- answer gives the layer that the user has next. So a layer goes along with a user's commands, and all that is said of
-- histories is said of commands with their layers.
-- Everywhere `answer` is what a command does on a content and a layer, with the next layer; `after` is what writes
-- make of a content, and `first` is the opening content.
use Rattle.std.specs.Prelude.{ℕ, List, [], ◌∷◌, map}
use Rattle.history.specs.declared.entry.Entry.{Entry}
use Rattle.history.specs.declared.told.Told.{Told}
use Rattle.history.specs.declared.effect.Effect.{Effect}
use Rattle.history.specs.Version.{version}
use Rattle.history.specs.UserRun.{reply_of, RunSoFar, UserRun}
use Rattle.history.specs.LegalHistory.{IsHistoryOf}

-- what a command with its layer does on a content
abbrev pub effect_of : {C L K T R : Type 0} → (C → L → K → Effect T R × L) → C → L × K → Effect T R
effect_of answer content command = (answer content command.0 command.1).0

-- The user's commands, each with the layer before it: the first has this layer, and each next one the layer that the
-- answer at the place of its reply gives. Commands that have no reply yet have the layer as it is now.
abbrev pub layered : {C L K T R : Type 0} → (C → L → K → Effect T R × L) → (C → T → C) → C
    → List (Entry T) → L → List (Told R) → List K → List (L × K)
layered answer after first log layer [] commands = map (λ command. (layer, command)) commands
layered answer after first log layer (told ∷ more) [] = []
layered answer after first log layer (told ∷ more) (command ∷ commands) =
    (layer, command)
    ∷ layered answer after first log (answer (version after first log told.place) layer command).1 more commands

-- the user's layer after the commands that have a reply
abbrev pub layer_after : {C L K T R : Type 0} → (C → L → K → Effect T R × L) → (C → T → C) → C
    → List (Entry T) → L → List (Told R) → List K → L
layer_after answer after first log layer [] commands = layer
layer_after answer after first log layer (told ∷ more) [] = layer
layer_after answer after first log layer (told ∷ more) (command ∷ commands) =
    layer_after answer after first log (answer (version after first log told.place) layer command).1 more commands

-- the user's first commands were told this, from this layer on; commands may be left
abbrev pub LayeredSoFar : {C L K T R : Type 0} → (C → L → K → Effect T R × L) → (C → T → C) → C
    → List (Entry T) → ℕ → L → List (Told R) → List K → Type 0
LayeredSoFar answer after first log user layer told commands =
    RunSoFar (effect_of answer) after first log user told (layered answer after first log layer told commands)

-- the same, and no command is left
abbrev pub LayeredRun : {C L K T R : Type 0} → (C → L → K → Effect T R × L) → (C → T → C) → C
    → List (Entry T) → ℕ → L → List (Told R) → List K → Type 0
LayeredRun answer after first log user layer told commands =
    UserRun (effect_of answer) after first log user told (layered answer after first log layer told commands)

-- the commands of all users, each with the layer before it; every user begins with the same layer
abbrev pub all_layered : {C L K T R : Type 0} → (C → L → K → Effect T R × L) → (C → T → C) → C
    → List (Entry T) → L → List (List (Told R)) → List (List K) → List (List (L × K))
all_layered answer after first log layer told [] = []
all_layered answer after first log layer [] (commands ∷ users) =
    layered answer after first log layer [] commands ∷ all_layered answer after first log layer [] users
all_layered answer after first log layer (replies ∷ told) (commands ∷ users) =
    layered answer after first log layer replies commands ∷ all_layered answer after first log layer told users

-- The one history of all users, each of whom begins with this layer: each entry is a command that is accepted on the
-- version of its place with its user's layer there, and the replies to each user are that user's run of it.
abbrev pub IsLayeredHistoryOf : {C L K T R : Type 0} → (C → L → K → Effect T R × L) → (C → T → C) → C
    → L → List (List K) → List (List (Told R)) → List (Entry T) → Type 0
IsLayeredHistoryOf answer after first layer users told log =
    IsHistoryOf (effect_of answer) after first (all_layered answer after first log layer told users) told log

-- what the user reads at these places, where `versions` gives the content at each place
abbrev pub told_at : {C L K T R : Type 0} → (C → L → K → Effect T R × L) → (ℕ → C) → L → List ℕ → List K
    → List (Told R)
told_at answer versions layer [] commands = []
told_at answer versions layer (place ∷ places) [] = []
told_at answer versions layer (place ∷ places) (command ∷ commands) =
    record { place = place; reply = reply_of (answer (versions place) layer command).0 }
    ∷ told_at answer versions (answer (versions place) layer command).1 places commands

-- the places of these replies, and the writes of these entries
abbrev pub places_in : {R : Type 0} → List (Told R) → List ℕ
places_in told = map (λ one. one.place) told

abbrev pub writes_in : {T : Type 0} → List (Entry T) → List T
writes_in log = map (λ entry. entry.writes) log
