-- The model that the files are bound to which a run has read.
use Rattle.std.specs.Prelude.{List, ℕ, Option, Some, None}
use Rattle.file_passes.specs.Pass.{Pass, Readings, Obstacle, ◌>>=◌}
use Rattle.model_bind.specs.declared.bound.Bound.{Bound}
use Rattle.run_passes.specs.RefusalOrder.{text_pass, bind_pass}

-- the model file of this name is a model text, and is bound with the rule files of its cubes
abbrev pub binding_pass : List ℕ → Pass Bound
binding_pass name = text_pass name >>= bind_pass name

-- what a pass finds over these files, or why it stops
abbrev pub Ends : {A : Type 0} → Pass A → Readings → Option A → Type 0
Ends pass readings (Some a) = pass.finds readings a
Ends pass readings None = (stop : Obstacle) × pass.stops readings stop
