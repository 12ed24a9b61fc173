-- What the core is seen as: one history of commits, a memo of cell values, and for each user the commands that were
-- given, the replies, and a pin with a try.
use Rattle.std.specs.Prelude.{ℕ, zero, suc, Option, None}
use Rattle.std.specs.Prelude.{List, [], ◌∷◌, ◌++◌, length, map, replicate, slice_get, slice_set}
use Rattle.history.specs.declared.entry.Entry.{Entry}
use Rattle.history.specs.declared.told.Told.{Told}
use Rattle.version_core.specs.declared.user.Tried.{Tried}

-- one user: the commands, the replies to the first of them, the number of the pinned version, and what the next
-- command would commit, if it was tried on the pinned version and accepted there
pub record UserState (K T R : Type 0) : Type 0 where
  pub commands : List K
  pub told : List (Told R)
  pub pin : Option ℕ
  pub tried : Option (Tried T R)

-- a cell's value on a version, kept for all users
pub record KeptValue (V : Type 0) : Type 0 where
  pub version : ℕ
  pub cell : ℕ
  pub value : V

-- the core: the opening content, the history, the memo and the users
pub record CoreState (C K T R V : Type 0) : Type 0 where
  pub first : C
  pub log : List (Entry T)
  pub memo : List (KeptValue V)
  pub users : List (UserState K T R)

-- a user to whom no command was given
abbrev pub new_user : {K T R : Type 0} → UserState K T R
new_user = record { commands = []; told = []; pin = None; tried = None }

-- the core at its start: an empty history, no pins and no memo
abbrev pub start : {C K T R V : Type 0} → C → ℕ → CoreState C K T R V
start first count = record { first = first; log = []; memo = []; users = replicate count new_user }

-- the user's next command: the first that has no reply yet
abbrev pub next_command : {K T R : Type 0} → UserState K T R → Option K
next_command user = slice_get user.commands (length user.told)

-- the user of this number; users count from 1
abbrev pub user_at : {U : Type 0} → List U → ℕ → Option U
user_at users zero = None
user_at users (suc index) = slice_get users index

-- the users, with this one as the user of this number
abbrev pub set_user : {U : Type 0} → List U → ℕ → U → List U
set_user users zero user = users
set_user users (suc index) user = slice_set users index user

-- the core, with this user as the user of this number
abbrev pub with_user : {C K T R V : Type 0} → CoreState C K T R V → ℕ → UserState K T R → CoreState C K T R V
with_user core number user = record core { users = set_user core.users number user }

-- the user with one command more
abbrev pub given : {K T R : Type 0} → UserState K T R → K → UserState K T R
given user command = record user { commands = user.commands ++ command ∷ [] }

-- all users' commands, by index
abbrev pub commands_of : {K T R : Type 0} → List (UserState K T R) → List (List K)
commands_of users = map (λ user. user.commands) users

-- the replies to each user, by index
abbrev pub told_of : {K T R : Type 0} → List (UserState K T R) → List (List (Told R))
told_of users = map (λ user. user.told) users
