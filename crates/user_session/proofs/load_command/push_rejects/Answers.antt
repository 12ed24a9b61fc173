use Rattle.std.proofs.Common.{◌≡◌, ◌∙◌, ap, sym, ◌++◌, ◌<◌, ◌+◌, ℕ, List, length, take, get_or}
use Rattle.std.proofs.lemmas.List.{flat_map_more, take_more}
use Rattle.std.specs.List.{flat_map}
use Rattle.user_session.specs.RejectedLoad.{reject_line}
use Rattle.script_run.specs.declared.reject.Reject.{Reject}
use Rattle.user_session.proofs.load_command.push_rejects.Goals as goal

-- one line more
more : (rejects : List Reject) (index : ℕ) (default : Reject) (text before after : List ℕ) → index < length rejects
    → after ≡ before ++ reject_line (get_or rejects index default) → before ≡ text ++ flat_map reject_line (take index rejects)
    → after ≡ text ++ flat_map reject_line (take (index + 1) rejects)
more rejects index default text before after low step so_far =
    step ∙ ap (λ l. l ++ reject_line (get_or rejects index default)) so_far
    ∙ flat_map_more reject_line text (take index rejects) (get_or rejects index default)
    ∙ ap (λ l. text ++ flat_map reject_line l) (sym (take_more rejects index default low))

pub each-preserved : goal.each-preserved
each-preserved c =
    more c.args.rejects.now c.each.index _ c.args.text.now.items c.each.text.items c.extend_from_slice.new.self.items c.each-test.true
    (c.in_ok-extend_from_slice.ensures.items ∙ ap (λ l. c.each.text.items ++ l) (c.deref.ensures.value ∙ c.in_ok-line.ensures)) c.each.invariant
