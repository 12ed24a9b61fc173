-- Lists of entries that go on, and whose the entries are that come after.
use Rattle.std.specs.Prelude.{◌≡◌, ℕ, ◌++◌, true, List}
use Rattle.history.specs.declared.entry.Entry.{Entry}
use Rattle.history.specs.Version.{NoneFrom}
use Rattle.version_book.specs.Numbers.{has}

-- the later list begins with the earlier one, and what comes after that has no entry of these users
pub record GoesOn {T : Type 0} (earlier later : List (Entry T)) (users : List ℕ) : Type 0 where
  pub added : List (Entry T)
  pub is : later ≡ earlier ++ added
  pub none : (user : ℕ) → has users user ≡ true → NoneFrom added 0 user
