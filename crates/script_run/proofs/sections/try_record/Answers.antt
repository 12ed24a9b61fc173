use Rattle.std.proofs.Common.{◌≡◌, ◌+◌, ◌∙◌, ℕ, List, length, take, true, sym, ap}
use Rattle.script_values.specs.Cells.{Store, Write}
use Rattle.script_run.specs.declared.ending.Ending.TheVariants.{Next, Stopped}
use Rattle.script_run.specs.Setting.{Progress}
use Rattle.script_run.specs.Meaning.{Outcome, Ended, block_of}
use Rattle.script_run.specs.Load.{is_of_record, passed_over, tried}
use Rattle.script_run.proofs.Growing.{left_by_block}
use Rattle.script_run.proofs.Passed.{after_passing, tried_passes}
use Rattle.script_run.proofs.sections.try_record.Goals as goal

pub back-requires : goal.back-requires
back-requires g c =
    let store = g.C.WorkCells.store in
    let writes = g.C.WorkCells.writes in
    let now = c.run_block.new.cells in
    let left = left_by_block (store c.mark.new.self) c.args.body.now c.args.here.now c.mark-2.new.self.progress c.run_block.new.run.progress
    (writes c.mark.new.self) (writes now) _ c.in_ok-run_block.ensures.ended in
    record {
      within =
          ap (λ (n : ℕ). (store now).full (take n (writes now))) (c.in_ok-count.ensures.count ∙ ap length (sym c.mark.ensures.writes))
          ∙ ap (store now).full left.0
          ∙ ap (λ (s : Store). s.full (writes c.mark.new.self)) (c.run_block.ensures.store ∙ c.mark.ensures.store)
          ∙ ap (store c.args.cells.now).full c.mark.ensures.writes
          ∙ c.mark.ensures.within;
    }

pub returns-in_ok-pass_over-in-Stopped-clause-ended :
    goal.returns-in_ok-pass_over-in-Stopped-clause-ended
returns-in_ok-pass_over-in-Stopped-clause-ended g c =
    let store = g.C.WorkCells.store in
    let writes = g.C.WorkCells.writes in
    let reason = c.in-Stopped.reason in
    let p = c.args.run.now.progress in
    let q = c.run_block.new.run.progress in
    let w = writes c.args.cells.now in
    let u = writes c.run_block.new.cells in
    let left = left_by_block (store c.mark.new.self) c.args.body.now c.args.here.now c.mark-2.new.self.progress q
    (writes c.mark.new.self) u _ c.in_ok-run_block.ensures.ended in
    let rejects = left.1 ∙ ap (λ (x : Progress). x.rejects) c.mark-2.ensures.progress in
    let done = c.in_ok-pass_over-in-Stopped.ensures in
    let progress = after_passing reason p q c.pass_over.new.self.progress
    (done.variables ∙ c.in_ok-run_block.ensures.held ∙ c.mark-2.ensures.held) c.pass_over.ensures.left c.pass_over.ensures.last done.rejects rejects in
    let back = c.in_ok-back-in-Stopped.ensures.writes ∙ ap (λ (n : ℕ). take n u) (c.in_ok-count.ensures.count ∙ ap length (sym c.mark.ensures.writes)) ∙ left.0 ∙ c.mark.ensures.writes in
    let lies : is_of_record c.in-Stopped.reason ≡ true = cc in
    let stopped : Ended (Stopped c.in-Stopped.reason) c.run_block.new.run.progress (g.C.WorkCells.writes c.run_block.new.cells)
    ≡ block_of c.args.body.now (g.C.WorkCells.store c.args.cells.now) c.args.here.now c.args.run.now.progress (g.C.WorkCells.writes c.args.cells.now) =
    cc (c.in_ok-run_block.ensures.ended, c.mark.ensures.store, c.mark.ensures.writes, c.mark-2.ensures.progress) in
    ap (λ (x : Progress). Ended Next x (writes c.back.new.self)) progress
    ∙ ap (λ (x : List Write). Ended Next (passed_over reason p q) x) back
    ∙ tried_passes reason p q w u lies
    ∙ ap (λ (o : Outcome). tried (length p.rejects + 1) p w o) stopped
