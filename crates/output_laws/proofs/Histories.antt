-- The text of a history tells it.
use Rattle.std.proofs.Common.{◌≡◌, ℕ, ℤ, ◌+◌, ◌^◌, ◌<◌, ◌≤◌, List, [], ◌∷◌, ◌++◌, length, Option, Some, None, codes, sym, ap, ◌∙◌, subst, arith}
use Rattle.std.specs.List.{AllZip, slice_get}
use Rattle.std.proofs.lemmas.List.{append_cancel_left}
use Rattle.std.proofs.lemmas.Option.{slice_get_within}
use Rattle.cube_server.specs.Output.{output, line_end, entry_lines, history_text}
use Rattle.cube_space.specs.Cells.{IsSpace}
use Rattle.history.specs.declared.entry.Entry.{Entry}
use Rattle.history.specs.declared.told.Told.{Told}
use Rattle.layers.specs.Layered.{effect_of, layered, all_layered, IsLayeredHistoryOf}
use Rattle.layers.proofs.Runs.{layered_few}
use Rattle.lists.proofs.Found.{found_holds}
use Rattle.rule_model.specs.BoundModel.{BoundModel}
use Rattle.rule_model.specs.Conditions.{AreRules}
use Rattle.sandbox.specs.declared.act.Act.{Act}
use Rattle.user_session.specs.Content.{opening, after}
use Rattle.user_session.specs.Layers.{answer}
use Rattle.user_session.specs.declared.command.PlanCommand.{PlanCommand}
use Rattle.output_laws.specs.Laws.{AreFew}
use Rattle.output_laws.proofs.Entries.{HasFew, entries_tell}
use Rattle.output_laws.proofs.Owners.{owner, writes_follow}
use Rattle.output_laws.proofs.Replies.{replies_end}
use Rattle.output_laws.proofs.ToldLines.{HaveRepliesAlike, users_tell}

-- the entries are of these users and their acts, so that their numbers are few too
entries_few : (model : BoundModel) (users : List (List (Act PlanCommand))) (told : List (List (Told (List ℕ)))) (log : List (Entry (List (ℕ × ℤ)))) → AreFew users log
    → IsLayeredHistoryOf answer after (opening model) None users told log → HasFew log
entries_few model users told log few history place entry is =
    let of = owner answer after (opening model) None users log told history place entry is in
    let user = slice_get_within users of.index of.commands of.are_commands in
    let number = slice_get_within of.own of.answered.by.index of.answered.by.answer of.answered.by.is_answer in
    let many = layered_few answer after (opening model) log (of.index + 1) None of.own of.commands of.run.1 in
    let own = found_holds (λ commands. length commands < 2 ^ 64) users of.index of.commands few.few_commands of.are_commands in
    (omega (arith, few.few_users, user, of.is_user), omega (arith, own, many, number, of.answered.is_number))

-- ---- the replies to each act end alike, whichever layers it has in the two histories

module _ (model : BoundModel) (is : IsSpace model.space) (rules : AreRules model.space model.rules) (log other : List (Entry (List (ℕ × ℤ)))) (few : length log < 2 ^ 64) (few_too : length other < 2 ^ 64) where
  abbrev Alike : Option (List (ℕ × ℤ)) × Act PlanCommand → Option (List (ℕ × ℤ)) × Act PlanCommand → Type 0
  Alike a b = HaveRepliesAlike (effect_of answer) after (opening model) log other few few_too a b

  alike : (act : Act PlanCommand) (layer more : Option (List (ℕ × ℤ))) → Alike (layer, act) (more, act)
  alike act layer more p q = replies_end model is rules log other act layer more p q

  acts_alike : (told replies : List (Told (List ℕ))) (layer more : Option (List (ℕ × ℤ))) (commands : List (Act PlanCommand))
      → AllZip Alike (layered answer after (opening model) log layer told commands) (layered answer after (opening model) other more replies commands)
  acts_alike [] [] layer more [] = tt
  acts_alike [] (b ∷ replies) layer more [] = tt
  acts_alike (a ∷ told) [] layer more [] = tt
  acts_alike (a ∷ told) (b ∷ replies) layer more [] = tt
  acts_alike [] [] layer more (act ∷ commands) = (alike act layer more, acts_alike [] [] layer more commands)
  acts_alike [] (b ∷ replies) layer more (act ∷ commands) = (alike act layer more, acts_alike [] replies layer _ commands)
  acts_alike (a ∷ told) [] layer more (act ∷ commands) = (alike act layer more, acts_alike told [] _ more commands)
  acts_alike (a ∷ told) (b ∷ replies) layer more (act ∷ commands) = (alike act layer more, acts_alike told replies _ _ commands)

  users_alike : (told replies : List (List (Told (List ℕ)))) (users : List (List (Act PlanCommand)))
      → AllZip (AllZip Alike) (all_layered answer after (opening model) log None told users) (all_layered answer after (opening model) other None replies users)
  users_alike told replies [] = tt
  users_alike [] [] (commands ∷ users) = (acts_alike [] [] None None commands, users_alike [] [] users)
  users_alike [] (b ∷ replies) (commands ∷ users) = (acts_alike [] b None None commands, users_alike [] replies users)
  users_alike (a ∷ told) [] (commands ∷ users) = (acts_alike a [] None None commands, users_alike told [] users)
  users_alike (a ∷ told) (b ∷ replies) (commands ∷ users) = (acts_alike a b None None commands, users_alike told replies users)

pub history_told : (model : BoundModel) → IsSpace model.space → AreRules model.space model.rules → (users : List (List (Act PlanCommand))) (told replies : List (List (Told (List ℕ))))
    (log other : List (Entry (List (ℕ × ℤ)))) → AreFew users log → AreFew users other
    → IsLayeredHistoryOf answer after (opening model) None users told log → IsLayeredHistoryOf answer after (opening model) None users replies other
    → output told log ≡ output replies other → (told ≡ replies) × (log ≡ other)
history_told model is rules users told replies log other few few_too h k e =
    let pairs = all_layered answer after (opening model) log None told users in
    let pairs_too = all_layered answer after (opening model) other None replies users in
    let texts = users_tell (effect_of answer) after (opening model) log other few.few_entries few_too.few_entries pairs pairs_too
    (users_alike model is rules log other few.few_entries few_too.few_entries told replies users) told replies h.all k.all
    (λ index commands own here there. (index + 1, h.runs index commands own here there))
    (λ index commands own here there. (index + 1, k.runs index commands own here there))
    1 (history_text log) (history_text other) e in
    let entries = append_cancel_left (codes "history" ++ line_end) (entry_lines log) (entry_lines other) texts.1 in
    let same = entries_tell log other (entries_few model users told log few h) (entries_few model users replies other few_too k) 0 entries in
    let history = subst (λ (ts : List (List (Told (List ℕ)))). IsLayeredHistoryOf answer after (opening model) None users ts other) (sym texts.0) k in
    (texts.0, writes_follow answer after (opening model) None users log other told h history same)
