-- What the laws of this crate say, of any world: `effect` is what a command does on a content, and `after` what writes
-- make of it.
use Rattle.std.specs.Prelude.{ℕ, ◌≡◌, ◌+◌, ◌++◌, List, [], ◌∷◌, Some, slice_get, length}
use Rattle.history.specs.declared.entry.Entry.{Entry}
use Rattle.history.specs.declared.told.Told.{Told}
use Rattle.history.specs.declared.effect.Effect.{Effect}
use Rattle.history.specs.Version.{content_after, NoneFrom}
use Rattle.history.specs.UserRun.{reply_of, least_after, Stands, RunSoFar, UserRun}
use Rattle.history.specs.ByPlace.{IsRunByPlace}
use Rattle.history.specs.LegalHistory.{HasUsers, EachRun, EachRunSoFar, IsLegal, IsHistoryOf}

-- where each user has a run so far, and each entry is of one of the users, the history is legal
abbrev pub RunsMakeLegal : {C K T R : Type 0} → (C → K → Effect T R) → (C → T → C) → Type 0
RunsMakeLegal {C} {K} {T} {R} effect after =
    (first : C) (users : List (List K)) (told : List (List (Told R))) (log : List (Entry T))
    → length told ≡ length users → HasUsers (length users) log
    → EachRunSoFar effect after first users told log → IsLegal effect after first users log

-- where each user's run is at its end, too, it is the one history of all users
abbrev pub RunsMakeHistory : {C K T R : Type 0} → (C → K → Effect T R) → (C → T → C) → Type 0
RunsMakeHistory {C} {K} {T} {R} effect after =
    (first : C) (users : List (List K)) (told : List (List (Told R))) (log : List (Entry T))
    → length told ≡ length users → HasUsers (length users) log
    → EachRun effect after first users told log → IsHistoryOf effect after first users told log

-- a user's run stays one while others commit
abbrev pub RunStaysBesideOthers : {C K T R : Type 0} → (C → K → Effect T R) → (C → T → C) → Type 0
RunStaysBesideOthers {C} {K} {T} {R} effect after =
    (first : C) (log extra : List (Entry T)) (user : ℕ) (told : List (Told R)) (commands : List K)
    → RunSoFar effect after first log user told commands → NoneFrom extra 0 user
    → RunSoFar effect after first (log ++ extra) user told commands

-- a user's run goes on by the answer to its next command on the newest version
abbrev pub RunGoesOnByOne : {C K T R : Type 0} → (C → K → Effect T R) → (C → T → C) → Type 0
RunGoesOnByOne {C} {K} {T} {R} effect after =
    (first : C) (log extra : List (Entry T)) (user : ℕ) (told : List (Told R)) (commands : List K)
    (command : K) (one : Told R) (found : Effect T R)
    → RunSoFar effect after first log user told commands → slice_get commands (length told) ≡ Some command
    → one.place ≡ length log → effect (content_after after first log) command ≡ found → one.reply ≡ reply_of found
    → Stands found (log ++ extra) (length log) user (length told + 1)
    → NoneFrom (log ++ extra) (least_after found (length log)) user
    → RunSoFar effect after first (log ++ extra) user (told ++ one ∷ []) commands

-- a user's run holds place by place
abbrev pub RunIsByPlace : {C K T R : Type 0} → (C → K → Effect T R) → (C → T → C) → Type 0
RunIsByPlace {C} {K} {T} {R} effect after =
    (first : C) (log : List (Entry T)) (user : ℕ) (told : List (Told R)) (commands : List K)
    → UserRun effect after first log user told commands → IsRunByPlace effect after first log user told commands

-- what holds place by place is a user's run
abbrev pub ByPlaceIsRun : {C K T R : Type 0} → (C → K → Effect T R) → (C → T → C) → Type 0
ByPlaceIsRun {C} {K} {T} {R} effect after =
    (first : C) (log : List (Entry T)) (user : ℕ) (told : List (Told R)) (commands : List K)
    → IsRunByPlace effect after first log user told commands → UserRun effect after first log user told commands

-- one user's commands have one history, and one list of replies
abbrev pub OneUserHasOneHistory : {C K T R : Type 0} → (C → K → Effect T R) → (C → T → C) → Type 0
OneUserHasOneHistory {C} {K} {T} {R} effect after =
    (first : C) (commands : List K) (told replies : List (List (Told R))) (log other : List (Entry T))
    → IsHistoryOf effect after first (commands ∷ []) told log
    → IsHistoryOf effect after first (commands ∷ []) replies other → (told ≡ replies) × (log ≡ other)
