-- From the runs of all users to one legal history.
use Rattle.std.proofs.Common.{◌≡◌, ℕ, ◌+◌, ◌≤◌, zero, suc, List, [], ◌∷◌, length, Some, refl, ap, sym, arith, ◌⊎◌, inl, inr}
use Rattle.std.specs.List.{slice_get}
use Rattle.history.specs.declared.entry.Entry.{Entry}
use Rattle.history.specs.declared.told.Told.{Told}
use Rattle.history.specs.declared.effect.Effect.{Effect}
use Rattle.history.specs.declared.effect.Effect.TheVariants.{Commit, Rejected, Read}
use Rattle.history.specs.Version.{version}
use Rattle.history.specs.UserRun.{least_after, Stands, ToldFrom, RunSoFar}
use Rattle.history.specs.ByPlace.{IsToldEntry}
use Rattle.history.specs.LegalHistory.{IsLegal, EachRunSoFar, EachRun, IsHistoryOf, HasUsers}
use Rattle.std.proofs.lemmas.Bool.{cases_lt}
use Rattle.lists.proofs.Found.{there}

here_or_past : (a b : ℕ) → a ≤ b → (a ≡ b) ⊎ (a + 1 ≤ b)
here_or_past a b h = elim (cases_lt a b) [ inl less ↦ inr (omega arith) | inr more ↦ inl (omega arith) ]

-- an entry at or after an answer's place is that answer's, or comes after it
pub stands_cases : {T R : Type 0} (found : Effect T R) (log : List (Entry T)) (place user number p : ℕ) (entry : Entry T)
    → Stands found log place user number → slice_get log p ≡ Some entry → place ≤ p
    → (least_after found place ≤ p) ⊎ ((reply : R) × (p ≡ place) × (entry.command ≡ number) × (found ≡ Commit entry.writes reply))
stands_cases (Commit writes reply) log place user number p entry stands is from =
    elim (here_or_past place p from) [
      | inl here ↦
          let at : slice_get log p ≡ Some (record { user = user; command = number; writes = writes }) = rw here at stands in
          let same : entry ≡ record { user = user; command = number; writes = writes } = cc in
          inr (reply, sym here, ap (λ e. e.command) same, ap (λ e. Commit e.writes reply) (sym same))
      | inr past ↦ inl past
    ]
stands_cases (Rejected reply) log place user number p entry stands is from = inl from
stands_cases (Read reply) log place user number p entry stands is from = inl from

above_zero : (n : ℕ) → 1 ≤ n → (m : ℕ) × (n ≡ m + 1)
above_zero zero h = absurd (omega arith)
above_zero (suc m) h = (m, omega arith)

module _ {C K T R : Type 0} (effect : C → K → Effect T R) (after : C → T → C) (first : C) where
  -- the entry is told by one of the user's answers, and its number is that of the answer's command: the first has this one
  pub record IsAnswered (log : List (Entry T)) (p : ℕ) (entry : Entry T) (number : ℕ) (told : List (Told R)) (commands : List K) : Type 0 where
    pub by : IsToldEntry effect after first log told commands entry p
    pub is_number : entry.command ≡ by.index + number

  -- an entry of the user is that of one of the answers, accepted on the version of its place
  pub told_entry : (log : List (Entry T)) (user p : ℕ) (entry : Entry T) → slice_get log p ≡ Some entry → entry.user ≡ user
      → (number least : ℕ) (told : List (Told R)) (commands : List K)
      → ToldFrom effect after first log user number least told commands → least ≤ p
      → IsAnswered log p entry number told commands
  told_entry log user p entry is own number least [] commands t from = absurd (t.1 p entry from is own)
  told_entry log user p entry is own number least (one ∷ told) [] t from = absurd t
  told_entry log user p entry is own number least (one ∷ told) (command ∷ commands) t from =
      elim (cases_lt p one.place) [
        | inl before ↦ absurd (t.1 p entry from before is own)
        | inr since ↦
            elim (stands_cases (effect (version after first log one.place) command) log one.place user number p entry t.3 is since) [
              | inl past ↦
                  let rest = told_entry log user p entry is own (number + 1) (least_after (effect (version after first log one.place) command) one.place) told commands t.4 past in
                  record {
                    by = record { index = suc rest.by.index; answer = rest.by.answer; command = rest.by.command; reply = rest.by.reply; is_answer = rest.by.is_answer; is_command = rest.by.is_command; is_place = rest.by.is_place; is_accepted = rest.by.is_accepted };
                    is_number = omega (arith, rest.is_number);
                  }
              | inr here ↦
                  record {
                    by = record { index = 0; answer = one; command = command; reply = here.0; is_answer = refl; is_command = refl; is_place = sym here.1; is_accepted = rw here.1 here.3 };
                    is_number = omega (arith, here.2);
                  }
            ]
      ]

  pub runs_legal : (users : List (List K)) (told : List (List (Told R))) (log : List (Entry T))
      → length told ≡ length users → HasUsers (length users) log → EachRunSoFar effect after first users told log → IsLegal effect after first users log
  runs_legal users told log all known runs place entry is =
      let user = known place entry is in
      let user_of = above_zero entry.user user.0 in
      let commands = there users user_of.0 (omega (arith, user.1, user_of.1)) in
      let replies = there told user_of.0 (omega (arith, user.1, user_of.1, all)) in
      let run : RunSoFar effect after first log (user_of.0 + 1) replies.0 commands.0 = runs user_of.0 commands.0 replies.0 commands.1 replies.1 in
      let found = told_entry log (user_of.0 + 1) place entry is user_of.1 1 0 replies.0 commands.0 run (omega arith) in
      record {
        index = user_of.0;
        commands = commands.0;
        before = found.by.index;
        command = found.by.command;
        reply = found.by.reply;
        is_user = user_of.1;
        are_commands = commands.1;
        is_number = found.is_number;
        is_command = found.by.is_command;
        is_accepted = found.by.is_accepted;
      }

  pub runs_history : (users : List (List K)) (told : List (List (Told R))) (log : List (Entry T))
      → length told ≡ length users → HasUsers (length users) log → EachRun effect after first users told log → IsHistoryOf effect after first users told log
  runs_history users told log all known runs = record {
    legal = runs_legal users told log all known (λ index commands replies is told_is. (runs index commands replies is told_is).1);
    all = all;
    runs = runs;
  }
