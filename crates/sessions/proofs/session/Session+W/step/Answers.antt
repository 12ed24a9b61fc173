use Rattle.std.proofs.Common.{rules, ◌≡◌, ◌+◌, ◌≤◌, ◌∙◌, ◌++◌, ◌∷◌, [], None, Some, length, slice_get, refl, ap, sym, subst, arith}
use Rattle.std.proofs.lemmas.Option.{slice_get_read}
use Rattle.layers.specs.Layered.{effect_of, LayeredSoFar, layer_after}
use Rattle.layers.proofs.Runs.{layered_few}
use Rattle.sandbox.specs.Sandboxes.{answer, layer_in}
use Rattle.version_book.specs.Passes.{numbers_of, opening_of, seen}
use Rattle.version_book.proofs.Lists.{same-goes}
use Rattle.sessions.specs.Answers.{IsAnswered, HasLooked, layer_of, sight}
use Rattle.sessions.proofs.Answered.{run_seen, run_answered, answered_as, looked_on, looked_more, gone_nowhere, gone_on_by, settles_adds}
use Rattle.sessions.proofs.session.Session+W.step.Goals as goal

pub returns-in_default-clause-told : goal.returns-in_default-clause-told
returns-in_default-clause-told g c =
    let w = g.W.World in
    let a = answer w.effect w.after g.W.Layered.sandbox in
    let kept = g.W.Layered.kept_writes in
    let s = c.args.self.now in
    let few = layered_few a w.after (w.content (opening_of c.args.book.now)) (seen s.pass) s.user None s.told.items s.commands c.requires.running.run in
    let past : length c.as_slice.result.now ≤ c.len.result = c.in_default.ensures.lookup.3 in
    (omega (arith, few, past, ap length c.as_slice.ensures, s.told.ok.0, c.len.ensures), refl, refl)

pub returns-in_err-told-clause-running : goal.returns-in_err-told-clause-running
returns-in_err-told-clause-running g c =
    let w = g.W.World in
    let a = answer w.effect w.after g.W.Layered.sandbox in
    let kept = g.W.Layered.kept_writes in
    let first = w.content (opening_of c.args.book.now) in
    let s = c.args.self.now in
    let same : c.reserve.new.self.items ≡ s.told.items = search rules in
    let goes = c.in_err-told.ensures.err in
    let layer = c.in_err-told.ensures.layer in
    let now = run_seen a w.after first (seen s.pass) (seen c.answer.new.pass) s.user (numbers_of s.pass) None s.told.items s.commands c.requires.running.run goes c.requires.running.number in
    record {
      of = c.answer.ensures.of;
      number = c.answer.ensures.same.all ∙ c.requires.running.number;
      run = subst (λ ts. LayeredSoFar a w.after first (seen c.answer.new.pass) s.user None ts s.commands) (sym same) now.0;
      layer =
          subst (λ ts. (layer_in kept c.answer.new.own.sandbox) ≡ layer_after a w.after first (seen c.answer.new.pass) None ts s.commands) (sym same)
          (layer ∙ c.requires.running.layer ∙ sym now.1);
      laid = c.answer.ensures.laid;
      looked =
          subst (λ l. HasLooked a w.after first s.user c.reserve.new.self.items s.commands (sight c.answer.new.pass) l) (sym layer)
          (subst (λ ts. HasLooked a w.after first s.user ts s.commands (sight c.answer.new.pass) (layer_of kept s)) (sym same)
          (looked_on a w.after first s.user s.told.items s.commands (sight s.pass) (sight c.answer.new.pass) (layer_of kept s) (numbers_of s.pass) c.requires.running.looked goes c.requires.running.number c.answer.ensures.looks));
    }

pub returns-clause-running : goal.returns-clause-running
returns-clause-running g c =
    let w = g.W.World in
    let a = answer w.effect w.after g.W.Layered.sandbox in
    let kept = g.W.Layered.kept_writes in
    let first = w.content (opening_of c.args.book.now) in
    let s = c.args.self.now in
    let one = c.in_ok-told.told in
    let items : c.push_reserved.new.self.items ≡ s.told.items ++ one ∷ [] = search rules in
    let at : c.len.result ≡ length s.told.items = omega (arith, s.told.ok.0, c.len.ensures) in
    let here : slice_get c.as_slice.result.now c.len.result ≡ Some c.in-Some.command.now = slice_get_read _ _ _ _ refl c.in-Some.ensures.lookup.3.0 c.in-Some.ensures.lookup.1 in
    let is : slice_get s.commands (length s.told.items) ≡ Some c.in-Some.command.now = rw (← at, ← c.as_slice.ensures) here in
    let number : c.in_ok-number.number ≡ length s.told.items + 1 = omega (arith, c.in_ok-number.ensures, c.len-2.ensures, c.reserve.ensures.len, s.told.ok.0) in
    let answered : IsAnswered a w.after first (sight s.pass) (sight c.answer.new.pass) s.user (length s.told.items + 1) (layer_of kept s) c.in-Some.command.now one (layer_in kept c.answer.new.own.sandbox) =
    answered_as a w.after first _ _ _ _ _ _ _ _ _ number c.in_ok-told.ensures.answered in
    let more = run_answered a w.after first (sight s.pass) (sight c.answer.new.pass) s.user None s.told.items s.commands (layer_of kept s) c.in-Some.command.now one (layer_in kept c.answer.new.own.sandbox)
    c.requires.running.run c.requires.running.layer is answered in
    record {
      of = c.answer.ensures.of;
      number = c.answer.ensures.same.all ∙ c.requires.running.number;
      run = subst (λ ts. LayeredSoFar a w.after first (seen c.answer.new.pass) s.user None ts s.commands) (sym items) more.0;
      layer = subst (λ ts. (layer_in kept c.answer.new.own.sandbox) ≡ layer_after a w.after first (seen c.answer.new.pass) None ts s.commands) (sym items) more.1;
      laid = c.answer.ensures.laid;
      looked =
          subst (λ ts. HasLooked a w.after first s.user ts s.commands (sight c.answer.new.pass) (layer_in kept c.answer.new.own.sandbox)) (sym items)
          (looked_more a w.after first s.user s.told.items s.commands (layer_of kept s) c.in-Some.command.now one (layer_in kept c.answer.new.own.sandbox) (sight s.pass) (sight c.answer.new.pass) c.requires.running.looked is answered);
    }

pub returns-clause-told : goal.returns-clause-told
returns-clause-told g c =
    let w = g.W.World in
    let a = answer w.effect w.after g.W.Layered.sandbox in
    let kept = g.W.Layered.kept_writes in
    let s = c.args.self.now in
    let one = c.in_ok-told.told in
    let at : c.len.result ≡ length s.told.items = omega (arith, s.told.ok.0, c.len.ensures) in
    let here : slice_get c.as_slice.result.now c.len.result ≡ Some c.in-Some.command.now = slice_get_read _ _ _ _ refl c.in-Some.ensures.lookup.3.0 c.in-Some.ensures.lookup.1 in
    let is : slice_get s.commands (length s.told.items) ≡ Some c.in-Some.command.now = rw (← at, ← c.as_slice.ensures) here in
    let number : c.in_ok-number.number ≡ length s.told.items + 1 = omega (arith, c.in_ok-number.ensures, c.len-2.ensures, c.reserve.ensures.len, s.told.ok.0) in
    record {
      command = c.in-Some.command.now;
      told = one;
      is_next = is;
      is_told = search rules;
      is_answered = answered_as a w.after (w.content (opening_of c.args.book.now)) _ _ _ _ _ _ _ _ _ number c.in_ok-told.ensures.answered;
    }

pub returns-in_default-clause-gone_on : goal.returns-in_default-clause-gone_on
returns-in_default-clause-gone_on g c = gone_nowhere c.args.self.now

pub returns-in_err-reserve-clause-gone_on : goal.returns-in_err-reserve-clause-gone_on
returns-in_err-reserve-clause-gone_on g c =
    let s = c.args.self.now in
    gone_on_by s _ (numbers_of s.pass) (search rules) (same-goes (seen s.pass) (numbers_of s.pass)) (omega arith)

pub returns-in_err-number-clause-gone_on : goal.returns-in_err-number-clause-gone_on
returns-in_err-number-clause-gone_on g c =
    let s = c.args.self.now in
    gone_on_by s _ (numbers_of s.pass) (search rules) (same-goes (seen s.pass) (numbers_of s.pass)) (omega arith)

pub returns-in_err-told-clause-gone_on : goal.returns-in_err-told-clause-gone_on
returns-in_err-told-clause-gone_on g c =
    let s = c.args.self.now in
    gone_on_by s _ (numbers_of s.pass) (search rules) c.in_err-told.ensures.err c.answer.ensures.looks

pub returns-clause-gone_on : goal.returns-clause-gone_on
returns-clause-gone_on g c =
    let w = g.W.World in
    let a = answer w.effect w.after g.W.Layered.sandbox in
    let kept = g.W.Layered.kept_writes in
    let s = c.args.self.now in
    let one = c.in_ok-told.told in
    let items : c.push_reserved.new.self.items ≡ s.told.items ++ one ∷ [] = search rules in
    record {
      told = (one ∷ [], items);
      seen = settles_adds (effect_of a) w.after (w.content (opening_of c.args.book.now)) _ _ _ _ _ _ _ c.in_ok-told.ensures.answered.settles;
      looks = c.answer.ensures.looks;
    }
