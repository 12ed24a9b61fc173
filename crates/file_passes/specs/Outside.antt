-- What a run leaves outside: the files that it was given at its start and its end.
use Rattle.std.specs.Prelude.{ℕ, List}
use Rattle.cube_outside.specs.Seen.{Seen}
use Rattle.file_passes.specs.Course.{Contents}

-- what is known of the files, how many reads had failed at the start and at the end, the name of the last that did, and
-- the names that had been asked for at the start and at the end, the last one first
pub record Outside : Type 0 where
  pub known : Contents
  pub before : ℕ
  pub after : ℕ
  pub missed : List ℕ
  pub asked_before : List (List ℕ)
  pub asked_after : List (List ℕ)

-- the files at two moments
abbrev pub outside : {F : Type 0} → (F → Seen) → F → F → Outside
outside seen old new = record {
  known = (seen old).known;
  before = (seen old).faults;
  after = (seen new).faults;
  missed = (seen new).missed;
  asked_before = (seen old).asked;
  asked_after = (seen new).asked;
}
