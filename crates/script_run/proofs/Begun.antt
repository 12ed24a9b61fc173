-- No execution begins where none is left.
use Rattle.std.proofs.Common.{◌≡◌, Bool, false, List, sym, ap, ◌∙◌}
use Rattle.script_values.specs.declared.load_reason.LoadReason.TheVariants.{StepLimit}
use Rattle.script_values.specs.Cells.{Write}
use Rattle.script_run.specs.Setting.{Progress}
use Rattle.script_run.specs.Meaning.{Begun, Begins, Doing, once, stopped}

pub not_begun : (begins : Bool) (b : Begun) (q : Progress) (w : List Write) (go : Doing)
    → Begins begins q ≡ b → begins ≡ false → once b w go ≡ stopped StepLimit q w
not_begun begins b q w go e none = ap (λ x. once x w go) (sym e ∙ ap (λ v. Begins v q) none)
