-- What the lines of the users tell.
use Rattle.std.proofs.Common.{◌≡◌, ℕ, ◌+◌, ◌^◌, ◌<◌, ◌≤◌, suc, List, [], ◌∷◌, ◌++◌, length, Some, codes, decimal, refl, sym, ap, ◌∙◌, subst, arith, append_assoc}
use Rattle.std.specs.List.{AllZip, slice_get}
use Rattle.std.proofs.lemmas.Fmt.{decimal_injective}
use Rattle.std.proofs.lemmas.List.{append_cancel_left}
use Rattle.history.specs.declared.entry.Entry.{Entry}
use Rattle.history.specs.declared.told.Told.{Told}
use Rattle.history.specs.declared.effect.Effect.{Effect}
use Rattle.history.specs.Version.{version}
use Rattle.history.specs.UserRun.{reply_of, least_after, ToldFrom, UserRun}
use Rattle.history.proofs.Runs.{least_after_le, place_le}
use Rattle.dim_name.specs.Bytes.{newline, space}
use Rattle.cube_server.specs.Output.{numbered, told_line, told_lines, user_text}
use Rattle.output_laws.proofs.Lines.{split_at, EndAlike}
use Rattle.trace_text.proofs.Plain.{decimal_lacks}

-- ---- the parts of the texts

line_parts : (number : ℕ) (told : Told (List ℕ)) (more x : List ℕ)
    → told_line number told ++ more ++ x ≡ decimal number ++ (codes " @" ++ (decimal told.place ++ space ∷ (told.reply ++ newline ∷ (more ++ x))))
line_parts number told more x = simp append_assoc

user_parts : (user : ℕ) (told : List (Told (List ℕ))) (more x : List ℕ)
    → user_text user told ++ more ++ x ≡ codes "user " ++ (decimal user ++ newline ∷ (told_lines told ++ (more ++ x)))
user_parts user told more x = simp append_assoc

told_of : ℕ → List ℕ → Told (List ℕ)
told_of place reply = record { place = place; reply = reply }

told_same : (a b : Told (List ℕ)) → a.place ≡ b.place → a.reply ≡ b.reply → a ≡ b
unfolding told_of
told_same a b places replies = ap (λ p. told_of p a.reply) places ∙ ap (λ r. told_of b.place r) replies

-- one line tells the place, and where the replies end alike the reply too
line_tells : (number : ℕ) (a b : Told (List ℕ)) (more others x y : List ℕ) → a.place < 2 ^ 64 → b.place < 2 ^ 64 → EndAlike a.reply b.reply
    → told_line number a ++ more ++ x ≡ told_line number b ++ others ++ y → (a ≡ b) × (more ++ x ≡ others ++ y)
line_tells number a b more others x y few few_too alike e =
    let after : List ℕ = a.reply ++ newline ∷ (more ++ x) in
    let after_too : List ℕ = b.reply ++ newline ∷ (others ++ y) in
    let whole = sym (line_parts number a more x) ∙ e ∙ line_parts number b others y in
    let behind = append_cancel_left (decimal number) (codes " @" ++ (decimal a.place ++ space ∷ after)) (codes " @" ++ (decimal b.place ++ space ∷ after_too)) whole in
    let places = append_cancel_left (codes " @") (decimal a.place ++ space ∷ after) (decimal b.place ++ space ∷ after_too) behind in
    let parts = split_at space (decimal a.place) (decimal b.place) after after_too (decimal_lacks space a.place (omega arith)) (decimal_lacks space b.place (omega arith)) places in
    let ends = alike (more ++ x) (others ++ y) parts.1 in
    (told_same a b (decimal_injective a.place b.place few few_too parts.0) ends.0, ends.1)

-- ---- the lines of one user, and of all users: of each command of the one run and its like of the other the replies on
-- any two versions end alike

module _ {C K T : Type 0} (effect : C → K → Effect T (List ℕ)) (after : C → T → C) (first : C) (log other : List (Entry T))
    (few : length log < 2 ^ 64) (few_too : length other < 2 ^ 64) where
  abbrev pub HaveRepliesAlike : K → K → Type 0
  HaveRepliesAlike a b = (p q : ℕ) → EndAlike (reply_of (effect (version after first log p) a)) (reply_of (effect (version after first other q) b))

  told_tell : (commands others : List K) → AllZip HaveRepliesAlike commands others → (user user_too number least start : ℕ) (told replies : List (Told (List ℕ)))
      → length told ≡ length commands → length replies ≡ length others
      → ToldFrom effect after first log user number least told commands → ToldFrom effect after first other user_too number start replies others
      → (count : ℕ) (x y : List ℕ) → numbered told_line count told ++ x ≡ numbered told_line count replies ++ y → (told ≡ replies) × (x ≡ y)
  told_tell [] (more ∷ others) zip user user_too number least start told replies all all_too t s count x y e = absurd zip
  told_tell (command ∷ commands) [] zip user user_too number least start told replies all all_too t s count x y e = absurd zip
  told_tell [] [] zip user user_too number least start [] [] all all_too t s count x y e = (refl, e)
  told_tell [] [] zip user user_too number least start (a ∷ told) replies all all_too t s count x y e = absurd (omega arith)
  told_tell [] [] zip user user_too number least start [] (b ∷ replies) all all_too t s count x y e = absurd (omega arith)
  told_tell (command ∷ commands) (more ∷ others) zip user user_too number least start [] replies all all_too t s count x y e = absurd (omega arith)
  told_tell (command ∷ commands) (more ∷ others) zip user user_too number least start (a ∷ told) [] all all_too t s count x y e = absurd (omega arith)
  told_tell (command ∷ commands) (more ∷ others) zip user user_too number least start (a ∷ told) (b ∷ replies) all all_too t s count x y e =
      let found = effect (version after first log a.place) command in
      let found_too = effect (version after first other b.place) more in
      let within : a.place ≤ length log = omega (arith, place_le found a.place, least_after_le found log a.place user number t.3) in
      let within_too : b.place ≤ length other = omega (arith, place_le found_too b.place, least_after_le found_too other b.place user_too number s.3) in
      let ends : EndAlike a.reply b.reply =
      subst (λ r. EndAlike r b.reply) (sym t.2) (subst (λ r. EndAlike (reply_of found) r) (sym s.2) (zip.0 a.place b.place)) in
      let line = line_tells count a b (numbered told_line (count + 1) told) (numbered told_line (count + 1) replies) x y (omega arith) (omega arith) ends e in
      let rest = told_tell commands others zip.1 user user_too (number + 1) (least_after found a.place) (least_after found_too b.place) told replies (omega arith) (omega arith) t.4 s.4 (count + 1) x y line.1 in
      (ap (λ one. one ∷ told) line.0 ∙ ap (λ more. b ∷ more) rest.0, rest.1)

  -- each list of replies is that of a run of the user's commands
  abbrev pub HasRuns : List (Entry T) → List (List K) → List (List (Told (List ℕ))) → Type 0
  HasRuns history users told =
      (index : ℕ) (commands : List K) (own : List (Told (List ℕ))) → slice_get users index ≡ Some commands → slice_get told index ≡ Some own
      → (user : ℕ) × UserRun effect after first history user own commands

  pub users_tell : (users others : List (List K)) → AllZip (AllZip HaveRepliesAlike) users others
      → (told replies : List (List (Told (List ℕ)))) → length told ≡ length users → length replies ≡ length others
      → HasRuns log users told → HasRuns other others replies
      → (count : ℕ) (x y : List ℕ) → numbered user_text count told ++ x ≡ numbered user_text count replies ++ y → (told ≡ replies) × (x ≡ y)
  users_tell [] (more ∷ others) zip told replies all all_too runs runs_too count x y e = absurd zip
  users_tell (commands ∷ users) [] zip told replies all all_too runs runs_too count x y e = absurd zip
  users_tell [] [] zip [] [] all all_too runs runs_too count x y e = (refl, e)
  users_tell [] [] zip (own ∷ told) replies all all_too runs runs_too count x y e = absurd (omega arith)
  users_tell [] [] zip [] (own ∷ replies) all all_too runs runs_too count x y e = absurd (omega arith)
  users_tell (commands ∷ users) (more ∷ others) zip [] replies all all_too runs runs_too count x y e = absurd (omega arith)
  users_tell (commands ∷ users) (more ∷ others) zip (own ∷ told) [] all all_too runs runs_too count x y e = absurd (omega arith)
  users_tell (commands ∷ users) (more ∷ others) zip (own ∷ told) (own_too ∷ replies) all all_too runs runs_too count x y e =
      let behind : List ℕ = numbered user_text (count + 1) told ++ x in
      let behind_too : List ℕ = numbered user_text (count + 1) replies ++ y in
      let run = runs 0 commands own refl refl in
      let run_too = runs_too 0 more own_too refl refl in
      let whole = sym (user_parts count own (numbered user_text (count + 1) told) x) ∙ e ∙ user_parts count own_too (numbered user_text (count + 1) replies) y in
      let numbers = append_cancel_left (codes "user ") (decimal count ++ newline ∷ (told_lines own ++ behind)) (decimal count ++ newline ∷ (told_lines own_too ++ behind_too)) whole in
      let ends = append_cancel_left (decimal count) (newline ∷ (told_lines own ++ behind)) (newline ∷ (told_lines own_too ++ behind_too)) numbers in
      let lines = append_cancel_left (newline ∷ []) (told_lines own ++ behind) (told_lines own_too ++ behind_too) ends in
      let user = told_tell commands more zip.0 run.0 run_too.0 1 0 0 own own_too run.1.0 run_too.1.0 run.1.1 run_too.1.1 1 behind behind_too lines in
      let rest = users_tell users others zip.1 told replies (omega arith) (omega arith) (λ index. runs (suc index)) (λ index. runs_too (suc index)) (count + 1) x y user.1 in
      (ap (λ one. one ∷ told) user.0 ∙ ap (λ others. own_too ∷ others) rest.0, rest.1)
