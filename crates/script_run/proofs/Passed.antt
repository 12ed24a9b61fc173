-- Which records are passed over.
use Rattle.std.proofs.Common.{◌≡◌, ◌+◌, ℕ, Bool, true, ◌&&◌, cond, ltb, List, [], ◌∷◌, ◌++◌, length, Option, ap, sym, ◌∙◌, arith}
use Rattle.std.proofs.lemmas.Bool.{lt-ltb}
use Rattle.script_values.specs.declared.load_reason.LoadReason.{LoadReason}
use Rattle.script_values.specs.Cells.{Write}
use Rattle.script_run.specs.declared.ending.Ending.TheVariants.{Next, Stopped}
use Rattle.script_values.specs.declared.kept.Kept.{Kept}
use Rattle.script_run.specs.declared.execution_place.ExecutionPlace.{ExecutionPlace}
use Rattle.script_run.specs.declared.reject.Reject.{Reject}
use Rattle.script_run.specs.Setting.{Progress}
use Rattle.script_run.specs.Meaning.{Outcome, Ended}
use Rattle.script_run.specs.Load.{is_of_record, passed_over, tried}

-- what becomes of a record that was stopped
abbrev stopped_if : Bool → Bool → LoadReason → Progress → List Write → Progress → List Write → Outcome
stopped_if may few reason p w q u = cond (may && few) (Ended Next (passed_over reason p q) w) (Ended (Stopped reason) q u)

-- a reason that lies in the record
pub tried_passes : (reason : LoadReason) (p q : Progress) (w u : List Write) → is_of_record reason ≡ true
    → Ended Next (passed_over reason p q) w ≡ tried (length p.rejects + 1) p w (Ended (Stopped reason) q u)
tried_passes reason p q w u is =
    let n = length p.rejects in
    sym (ap (λ (b : Bool). stopped_if b (ltb n (n + 1)) reason p w q u) is ∙ ap (λ (b : Bool). stopped_if true b reason p w q u) (lt-ltb n (n + 1) (omega arith)))

progress_of : List (Option Kept) → ℕ → ExecutionPlace → List Reject → Progress
progress_of variables left last rejects = record { variables = variables; left = left; last = last; rejects = rejects }

same_progress : (a b : Progress) → a.variables ≡ b.variables → a.left ≡ b.left → a.last ≡ b.last → a.rejects ≡ b.rejects → a ≡ b
unfolding progress_of
same_progress a b variables left last rejects =
    ap (λ (x : List (Option Kept)). progress_of x a.left a.last a.rejects) variables
    ∙ ap (λ (x : ℕ). progress_of b.variables x a.last a.rejects) left
    ∙ ap (λ (x : ExecutionPlace). progress_of b.variables b.left x a.rejects) last
    ∙ ap (λ (x : List Reject). progress_of b.variables b.left b.last x) rejects

abbrev rejected : LoadReason → Progress → Reject
rejected reason q = record { row = q.last.row; statement = q.last.statement; reason = reason }

-- the progress after a record is passed over, where Data changed no other rejects
pub after_passing : (reason : LoadReason) (p q r : Progress) → r.variables ≡ p.variables → r.left ≡ q.left → r.last ≡ q.last
    → r.rejects ≡ q.rejects ++ rejected reason q ∷ [] → q.rejects ≡ p.rejects → r ≡ passed_over reason p q
after_passing reason p q r variables left last rejects same =
    same_progress r (passed_over reason p q) variables left last (rejects ∙ ap (λ (x : List Reject). x ++ rejected reason q ∷ []) same)
