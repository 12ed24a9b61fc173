-- What comes of a load that has ended so.
use Rattle.std.proofs.Common.{◌≡◌, ◌∙◌, refl, sym, subst, ℕ, ℤ, List, [], ◌++◌, length, Option}
use Rattle.cell_versions.specs.Versions.{NumberedVersion}
use Rattle.cell_writes.specs.Writes.{last_writes}
use Rattle.history.specs.declared.effect.Effect.TheVariants as effects
use Rattle.load_cells.specs.Loads.{store_of}
use Rattle.script_bound.specs.declared.script.BoundScript.{BoundScript}
use Rattle.script_run.specs.Load.{load, ran_of, writes_of}
use Rattle.script_run.specs.Meaning.{Outcome}
use Rattle.script_run.specs.declared.ran.Ran.{Ran}
use Rattle.script_run.specs.declared.ran.Ran.TheVariants.{Done, Rejected}
use Rattle.script_run.specs.declared.reject.Reject.{Reject}
use Rattle.script_tree.specs.declared.script.Section.{Section}
use Rattle.script_values.specs.declared.load_reason.LoadReason as scripts
use Rattle.user_text.specs.declared.command.ParamText.{ParamText}
use Rattle.user_session.specs.Planning.{ended_effect, PlanEffect}
use Rattle.user_session.specs.RejectedLoad.{stopped_text, told_rejects}
use Rattle.user_session.specs.Replies.{reply_text}
use Rattle.user_session.specs.declared.reply.Reply.TheVariants.{Committed}

pub done-effect : (most : Option ℕ) (run outcome : Outcome) (ran : Ran) (rejects : List Reject) → run ≡ outcome → ran ≡ ran_of run → ran ≡ Done rejects
    → ended_effect most (ran_of outcome) (writes_of outcome) ≡ effects.Commit (last_writes (writes_of run)) (reply_text (Committed (length (last_writes (writes_of run)))) ++ told_rejects most rejects)
done-effect most run outcome ran rejects same is done =
    let ended : ran_of run ≡ Done rejects = sym is ∙ done in
    let Does : Outcome → Type 0 = λ o. ◌≡◌ {A = PlanEffect} (ended_effect most (ran_of o) (writes_of o))
    (effects.Commit (last_writes (writes_of run)) (reply_text (Committed (length (last_writes (writes_of run)))) ++ told_rejects most rejects)) in
    subst Does same (rw ended refl)

pub stopped-effect : (most : Option ℕ) (run outcome : Outcome) (ran : Ran) (section : Section) (row statement : ℕ) (reason : scripts.LoadReason) → run ≡ outcome → ran ≡ ran_of run → ran ≡ Rejected section row statement reason
    → ended_effect most (ran_of outcome) (writes_of outcome) ≡ effects.Rejected (stopped_text section row statement reason)
stopped-effect most run outcome ran section row statement reason same is stopped =
    let ended : ran_of run ≡ Rejected section row statement reason = sym is ∙ stopped in
    let Stops : Outcome → Type 0 = λ o. ◌≡◌ {A = PlanEffect} (ended_effect most (ran_of o) (writes_of o)) (effects.Rejected (stopped_text section row statement reason)) in
    subst Stops same (rw ended refl)

-- a load over the same records on the same version
pub same-load : (script : BoundScript) (params : List (List ℕ × ParamText)) (decimal most other : ℕ) (rows records : List (List (List ℕ))) (begun version : NumberedVersion) (writes : List (ℕ × ℤ))
    → most ≡ other → rows ≡ records → begun ≡ version → writes ≡ []
    → load script params decimal most rows (store_of begun.model begun.stored) writes ≡ load script params decimal other records (store_of version.model version.stored) []
same-load script params decimal most other rows records begun version writes same_most same_rows same_version none =
    let Same : ℕ → List (List (List ℕ)) → NumberedVersion → List (ℕ × ℤ) → Type 0 = λ n rs v ws. load script params decimal most rows (store_of begun.model begun.stored) writes ≡ load script params decimal n rs (store_of v.model v.stored) ws in
    subst (λ (n : ℕ). Same n records version []) same_most
    (subst (λ (rs : List (List (List ℕ))). Same most rs version []) same_rows
    (subst (λ (v : NumberedVersion). Same most rows v []) same_version
    (subst (λ (ws : List (ℕ × ℤ)). Same most rows begun ws) none refl)))
