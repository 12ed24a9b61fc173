-- The records over which a load runs.
use Rattle.std.specs.Prelude.{ℕ, List, [], Option, Some, None, drop}
use Rattle.std.specs.Arc.{arc_value}
use Rattle.std.specs.declared.alloc.Global.{Global}
use Rattle.std.specs.declared.sync.Arc.{Arc}
use Rattle.user_text.specs.declared.load_job.LoadJob.{LoadJob}

-- the records that loads share; without a file there are none
abbrev pub shared_records : Option (Arc (List (List (List ℕ))) Global) → List (List (List ℕ))
shared_records None = []
shared_records (Some records) = arc_value records

-- the records of the load's file behind those that are skipped
abbrev pub rows_in : LoadJob → List (List (List ℕ))
rows_in job = drop job.skip (shared_records job.records)
