-- What is known of the writes of an accepted command.
use Rattle.std.proofs.Common.{Result, Ok, Err, ◌≡◌, refl, subst, ℕ, ℤ, true, List, [], ◌∷◌, Option, Some, None, unwrap_or}
use Rattle.std.proofs.lemmas.List.Elements.{All-nil, All-cons}
use Rattle.cell_reader.specs.WritePermission.{why_closed}
use Rattle.cell_reader.specs.declared.write_permission.Closed.{Closed}
use Rattle.cell_spread.specs.Spread.{refusal_of, writes_of as shares_of}
use Rattle.cell_spread.specs.declared.fault.SpreadFault.{SpreadFault}
use Rattle.cell_spread.specs.declared.writes.How.{How}
use Rattle.cell_store.specs.Entries.{after_writes}
use Rattle.cell_writes.specs.Writes.{last_writes}
use Rattle.cube_space.specs.Cells.{IsCell, is_leaf_cell}
use Rattle.load_cells.specs.Loads.{store_of}
use Rattle.user_text.specs.Jobs.{rows_in}
use Rattle.user_text.specs.declared.command.SpreadWord.{SpreadWord}
use Rattle.user_text.specs.declared.load_job.LoadJob.{LoadJob}
use Rattle.history.specs.declared.effect.Effect.TheVariants.{Commit}
use Rattle.script_laws.proofs.Kept.{load_keeps}
use Rattle.script_run.specs.Load.{load, ran_of, writes_of}
use Rattle.script_run.specs.declared.ran.Ran.{Ran}
use Rattle.script_run.specs.declared.ran.Ran.TheVariants.{Done, Rejected as Stopped}
use Rattle.script_bound.specs.declared.script.BoundScript.{BoundScript}
use Rattle.std.specs.Arc.{arc_value}
use Rattle.user_session.specs.declared.content.Content.{Content}
use Rattle.user_session.specs.declared.command.PlanCommand.{PlanCommand}
use Rattle.user_session.specs.declared.command.PlanCommand.TheVariants.{Put, Get, Load, View, Spread, Trace, Fixed}
use Rattle.user_session.specs.Planning.{effect, ended_effect, fixed_effect, get_effect, how_of, load_effect, misfit, named_cell, passed_limit, put_effect, spread_effect, table_effect, trace_effect, unless_closed, unless_fault, unless_reason, write_effect}
use Rattle.view_query.specs.Binding.{bound}
use Rattle.view_query.specs.declared.fault.ViewFault.{ViewFault}
use Rattle.view_query.specs.declared.shape.View as views
use Rattle.user_session.proofs.Kept.{open-leaf, write-kept, zeroing-kept}
use Rattle.user_session.proofs.Limits.{fits-leaves, fits-limits, none-passed}
use Rattle.user_session.proofs.Shares.{shares-leaves}
use Rattle.user_session.proofs.Within.{AreWithin, before-writes, last-within, named-cell}
use Rattle.user_session.specs.declared.reply.CommandReason.{CommandReason}

-- ---- writes that are accepted stand as they are, and no reason holds against them

accepted : (reason : Option CommandReason) (writes others : List (ℕ × ℤ)) (reply : List ℕ) → unless_reason reason writes ≡ Commit others reply → (reason ≡ None) × (writes ≡ others)
accepted None writes others reply is = (refl, cc)
accepted (Some reason) writes others reply is = absurd (cc)

-- ---- an accepted PUT

put-within : (content : Content) (named : Option ℕ) (number : ℤ) (writes : List (ℕ × ℤ)) (reply : List ℕ) → ((c : ℕ) → named ≡ Some c → IsCell content.model.space c)
    → put_effect content named number ≡ Commit writes reply → AreWithin content writes
put-within content None number writes reply cell is = absurd (cc)
put-within content (Some c) number writes reply cell is = by (why_closed content.model c) refl is
  where
    by : (why : Option Closed) → why_closed content.model c ≡ why → unless_closed why (write_effect content ((c, number) ∷ [])) ≡ Commit writes reply
        → AreWithin content writes
    by (Some why) shut is = absurd (cc)
    by None opens is =
        let parts = accepted (passed_limit content.model (after_writes content.stored ((c, number) ∷ []))) ((c, number) ∷ []) writes reply is in
        subst (AreWithin content) parts.1 (record {
          leaves = All-cons (λ write. IsCell content.model.space write.0 × (is_leaf_cell content.model.space write.0 ≡ true)) (c, number) [] (cell c refl, open-leaf content.model c opens) (All-nil (λ write. IsCell content.model.space write.0 × (is_leaf_cell content.model.space write.0 ≡ true)));
          within = λ before. none-passed content.model (after_writes content.stored ((c, number) ∷ [])) parts.0;
        })

-- ---- an accepted SPREAD

shares-within : (content : Content) (c : ℕ) (amount : ℤ) (how : How) (why : Option SpreadFault) (writes : List (ℕ × ℤ)) (reply : List ℕ)
    → unless_fault why (write_effect content (shares_of content.model.space content.stored c amount how)) ≡ Commit writes reply → AreWithin content writes
shares-within content c amount how (Some why) writes reply is = absurd (cc)
shares-within content c amount how None writes reply is =
    let shares = shares_of content.model.space content.stored c amount how in
    let parts = accepted (passed_limit content.model (after_writes content.stored shares)) shares writes reply is in
    subst (AreWithin content) parts.1 (record {
      leaves = shares-leaves content.model.space content.stored c amount how;
      within = λ before. none-passed content.model (after_writes content.stored shares) parts.0;
    })

spread-within : (content : Content) (named : Option ℕ) (amount : ℤ) (how : SpreadWord) (writes : List (ℕ × ℤ)) (reply : List ℕ) → spread_effect content named amount how ≡ Commit writes reply
    → AreWithin content writes
spread-within content None amount how writes reply is = absurd (cc)
spread-within content (Some c) amount how writes reply is =
    shares-within content c amount (how_of how) (refusal_of content.model content.stored c amount (how_of how)) writes reply is

-- ---- an accepted LOAD

ended-within : (content : Content) (most : Option ℕ) (ran : Ran) (written writes : List (ℕ × ℤ)) (reply : List ℕ) → AreWithin content written → ended_effect most ran written ≡ Commit writes reply
    → AreWithin content writes
ended-within content most (Done rejects) written writes reply within is =
    let same : last_writes written ≡ writes = cc in
    subst (AreWithin content) same (last-within content written within)
ended-within content most (Stopped section row statement reason) written writes reply within is = absurd (cc)

load-within : (content : Content) (job : LoadJob) (script : BoundScript) (writes : List (ℕ × ℤ)) (reply : List ℕ) → load_effect content job script ≡ Commit writes reply
    → AreWithin content writes
load-within content job script writes reply is =
    let store = store_of content.model content.stored in
    let most = unwrap_or job.rejects 0 in
    let outcome = load script job.params job.decimal most (rows_in job) store [] in
    let kept : AreWithin content (writes_of outcome) =
    load_keeps store (AreWithin content) (λ before after cube elements value within written. write-kept content before after within cube elements value written)
    (λ before after cube elements within zeroed. zeroing-kept content before after within cube elements zeroed) script job.params job.decimal most (rows_in job) [] (before-writes content) in
    ended-within content job.rejects (ran_of outcome) (writes_of outcome) writes reply kept is

-- ---- fixed writes that are accepted

fixed-within : (content : Content) (layer writes : List (ℕ × ℤ)) (reply : List ℕ) → fixed_effect content layer ≡ Commit writes reply → AreWithin content writes
fixed-within content layer writes reply is =
    let parts = accepted (misfit content layer) layer writes reply is in
    subst (AreWithin content) parts.1 (record { leaves = fits-leaves content layer parts.0; within = λ before. fits-limits content layer parts.0 })

-- ---- questions write nothing

get-never : (content : Content) (named : Option ℕ) (writes : List (ℕ × ℤ)) (reply : List ℕ) → get_effect content named ≡ Commit writes reply → AreWithin content writes
get-never content None writes reply is = absurd (cc)
get-never content (Some c) writes reply is = absurd (cc)

view-never : (content : Content) (meant : Result views.View ViewFault) (writes : List (ℕ × ℤ)) (reply : List ℕ) → table_effect content meant ≡ Commit writes reply → AreWithin content writes
view-never content (Ok view) writes reply is = absurd (cc)
view-never content (Err fault) writes reply is = absurd (cc)

trace-never : (content : Content) (files : List (List ℕ)) (named : Option ℕ) (writes : List (ℕ × ℤ)) (reply : List ℕ) → trace_effect content files named ≡ Commit writes reply → AreWithin content writes
trace-never content files None writes reply is = absurd (cc)
trace-never content files (Some c) writes reply is = absurd (cc)

pub accepted-within : (content : Content) (command : PlanCommand) (writes : List (ℕ × ℤ)) (reply : List ℕ) → effect content command ≡ Commit writes reply
    → AreWithin content writes
accepted-within content (Put text number) writes reply is =
    put-within content (named_cell content.model text) number writes reply (λ c named. named-cell content.model.space text.cube text.elements c named) is
accepted-within content (Get text) writes reply is = get-never content (named_cell content.model text) writes reply is
accepted-within content (Load job script) writes reply is = load-within content job (arc_value script) writes reply is
accepted-within content (View text) writes reply is = view-never content (bound content.model.space text) writes reply is
accepted-within content (Spread text amount how) writes reply is = spread-within content (named_cell content.model text) amount how writes reply is
accepted-within content (Trace text files) writes reply is = trace-never content (arc_value files) (named_cell content.model text) writes reply is
accepted-within content (Fixed layer) writes reply is = fixed-within content layer writes reply is
