-- A planner's sandbox: what is kept in it, and what a planner with or without one is answered.
use Rattle.std.specs.Prelude.{ℕ, ℤ, List, [], ◌++◌, Option}
use Rattle.std.specs.Option.{option_map}
use Rattle.cell_writes.specs.Writes.{last_writes}
use Rattle.sandbox.specs.Sandboxes.{Sandboxing, answer as answer_of}
use Rattle.sandbox.specs.declared.act.Act.{Act}
use Rattle.sandbox.specs.declared.act.Note.{Note}
use Rattle.sandbox.specs.declared.act.Note.TheVariants as notes
use Rattle.user_session.specs.Content.{after}
use Rattle.user_session.specs.Planning.{PlanEffect, effect, misfit}
use Rattle.user_session.specs.Replies.{kept_text, reply_text}
use Rattle.user_session.specs.declared.command.PlanCommand.{PlanCommand}
use Rattle.user_session.specs.declared.command.PlanCommand.TheVariants.{Fixed}
use Rattle.user_session.specs.declared.content.Content.{Content}
use Rattle.user_session.specs.declared.reply.CommandReason.TheVariants.{NoSandbox, SandboxOpen}
use Rattle.user_session.specs.declared.reply.Reply.{Reply}
use Rattle.user_session.specs.declared.reply.Reply.TheVariants.{Refused, Opened, Discarded}

-- the reply to SANDBOX and DISCARD, and to a PUBLISH without a sandbox
abbrev pub noted : Note → Reply
noted notes.Opened = Opened
noted notes.AlreadyOpen = Refused SandboxOpen
noted notes.NoSandbox = Refused NoSandbox
noted notes.Discarded = Discarded

-- why a version with these writes can't be had, as its reader is replied
abbrev pub unfit : Content → List (ℕ × ℤ) → Option (List ℕ)
unfit content writes = option_map (λ reason. reply_text (Refused reason)) (misfit content writes)

-- A sandbox keeps for each cell the last number that its commands wrote, by cell; a written 0 is kept too.
abbrev pub sandbox : Sandboxing Content PlanCommand (List (ℕ × ℤ)) (List ℕ)
sandbox = record {
  none = [];
  join = λ first second. last_writes (first ++ second);
  fixed = λ writes. Fixed writes;
  unfit = unfit;
  note = λ note. reply_text (noted note);
  kept = kept_text;
}

-- what an act does on a version, for a planner whose sandbox keeps these writes or who has none, and what is kept next
abbrev pub answer : Content → Option (List (ℕ × ℤ)) → Act PlanCommand → PlanEffect × Option (List (ℕ × ℤ))
answer = answer_of effect after sandbox
