use Rattle.std.proofs.Common.{◌≡◌, ◌++◌, ◌∙◌, None, ap, arith, drop, length, slice_get, subst, sym, take}
use Rattle.std.specs.Prelude.{IfOk}
use Rattle.std.proofs.Math.Seq.{take-append_seam}
use Rattle.std.proofs.lemmas.List.{length-map}
use Rattle.layers.specs.Layered.{IsLayeredHistoryOf}
use Rattle.sandbox.specs.Sandboxes.{answer}
use Rattle.sessions.specs.Answers.{EachHasLooked}
use Rattle.sessions.specs.Inside.AllSessions.{commands_of}
use Rattle.sessions.proofs.serving.serve.Goals as goal

pub run_all-requires-clause-running : goal.run_all-requires-clause-running
run_all-requires-clause-running g c κs within =
    λ index session is. c.in-Ok.ensures.running index session (ap (λ xs. slice_get xs index) (sym c.as_mut_slice.ensures.value) ∙ is)

pub close_all-requires-clause-running : goal.close_all-requires-clause-running
close_all-requires-clause-running g c =
    let ran = c.run_all.new.sessions in
    let rest = drop (length c.run_all.new.sessions) c.in-Ok.sessions.items in
    let len : c.in-Ok.sessions.len ≡ length c.run_all.new.sessions = omega (arith, c.run_all.ensures.len, ap length c.as_mut_slice.ensures.value, c.in-Ok.sessions.ok.0) in
    let whole : take c.in-Ok.sessions.len (ran ++ rest) ≡ ran = ap (λ n. take n (ran ++ rest)) len ∙ take-append_seam ran rest in
    λ index session is. c.run_all.ensures.running index session (ap (λ xs. slice_get xs index) (sym whole) ∙ is)

pub returns-clause-looks : goal.returns-clause-looks
returns-clause-looks g c =
    let w = g.W.World in
    let a = answer w.effect w.after g.W.Layered.sandbox in
    let ran = c.run_all.new.sessions in
    let rest = drop (length c.run_all.new.sessions) c.in-Ok.sessions.items in
    let len : c.in-Ok.sessions.len ≡ length c.run_all.new.sessions = omega (arith, c.run_all.ensures.len, ap length c.as_mut_slice.ensures.value, c.in-Ok.sessions.ok.0) in
    let whole : take c.in-Ok.sessions.len (ran ++ rest) ≡ ran = ap (λ n. take n (ran ++ rest)) len ∙ take-append_seam ran rest in
    let same : commands_of (take c.in-Ok.sessions.len (ran ++ rest)) ≡ c.args.users.items =
    ap commands_of whole ∙ c.run_all.ensures.commands ∙ ap commands_of c.as_mut_slice.ensures.value ∙ c.in-Ok.ensures.commands in
    subst (λ users. IfOk c.close_all.result (λ served. EachHasLooked a w.after w.content c.args.state users served.told.items served.passes.items)) same
    (subst (λ state. IfOk c.close_all.result (λ served. EachHasLooked a w.after w.content state (commands_of (take c.in-Ok.sessions.len (ran ++ rest))) served.told.items served.passes.items))
    c.in_ok-book.ensures.opening c.close_all.ensures.looks)

pub returns-clause-history : goal.returns-clause-history
returns-clause-history g c =
    let w = g.W.World in
    let a = answer w.effect w.after g.W.Layered.sandbox in
    let ran = c.run_all.new.sessions in
    let rest = drop (length c.run_all.new.sessions) c.in-Ok.sessions.items in
    let len : c.in-Ok.sessions.len ≡ length c.run_all.new.sessions = omega (arith, c.run_all.ensures.len, ap length c.as_mut_slice.ensures.value, c.in-Ok.sessions.ok.0) in
    let whole : take c.in-Ok.sessions.len (ran ++ rest) ≡ ran = ap (λ n. take n (ran ++ rest)) len ∙ take-append_seam ran rest in
    let same : commands_of (take c.in-Ok.sessions.len (ran ++ rest)) ≡ c.args.users.items =
    ap commands_of whole ∙ c.run_all.ensures.commands ∙ ap commands_of c.as_mut_slice.ensures.value ∙ c.in-Ok.ensures.commands in
    subst (λ users. IfOk c.close_all.result (λ served. IsLayeredHistoryOf a w.after (w.content c.args.state) None users served.told.items served.log.items)) same
    (subst (λ state. IfOk c.close_all.result (λ served. IsLayeredHistoryOf a w.after (w.content state) None (commands_of (take c.in-Ok.sessions.len (ran ++ rest))) served.told.items served.log.items))
    c.in_ok-book.ensures.opening c.close_all.ensures.history)

pub returns-clause-passes : goal.returns-clause-passes
returns-clause-passes g c =
    let ran = c.run_all.new.sessions in
    let rest = drop (length c.run_all.new.sessions) c.in-Ok.sessions.items in
    let len : c.in-Ok.sessions.len ≡ length c.run_all.new.sessions = omega (arith, c.run_all.ensures.len, ap length c.as_mut_slice.ensures.value, c.in-Ok.sessions.ok.0) in
    let whole : take c.in-Ok.sessions.len (ran ++ rest) ≡ ran = ap (λ n. take n (ran ++ rest)) len ∙ take-append_seam ran rest in
    let same : commands_of (take c.in-Ok.sessions.len (ran ++ rest)) ≡ c.args.users.items =
    ap commands_of whole ∙ c.run_all.ensures.commands ∙ ap commands_of c.as_mut_slice.ensures.value ∙ c.in-Ok.ensures.commands in
    let count : length (take c.in-Ok.sessions.len (ran ++ rest)) ≡ length c.args.users.items = sym (length-map (take c.in-Ok.sessions.len (ran ++ rest)) (λ s. s.commands)) ∙ ap length same in
    subst (λ n. IfOk c.close_all.result (λ served. length served.passes.items ≡ n)) count c.close_all.ensures.passes
