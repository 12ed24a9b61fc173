-- What it says that a load script's text has one answer.
use Rattle.std.specs.Prelude.{◌≡◌, ◌≢◌, ℕ, List, Ok, Err}
use Rattle.script_reader.specs.Answers.{Answers}
use Rattle.script_reader.specs.declared.fault.ScriptFault.{ScriptFault}
use Rattle.script_reader.specs.declared.fault.ScriptFault.TheVariants as faults
use Rattle.script_tree.specs.declared.script.Script.{Script}

-- There are one script, or one first fault, and not both. Out of memory says nothing of the text.
pub record OneScriptAnswer (bytes : List ℕ) : Type 0 where
  pub one_script : (x y : Script) → Answers bytes (Ok x) → Answers bytes (Ok y) → x ≡ y
  pub one_fault : (e f : ScriptFault) → e ≢ faults.Memory → f ≢ faults.Memory
      → Answers bytes (Err e) → Answers bytes (Err f) → e ≡ f
  pub not_both : (x : Script) (e : ScriptFault) → e ≢ faults.Memory → Answers bytes (Ok x) → Answers bytes (Err e) → ⊥
