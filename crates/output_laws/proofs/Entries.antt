-- What the lines of the history tell.
use Rattle.std.proofs.Common.{◌≡◌, ℕ, ℤ, ◌+◌, ◌^◌, ◌<◌, suc, List, [], ◌∷◌, ◌++◌, length, Some, codes, decimal, refl, sym, ◌∙◌, arith, append_assoc}
use Rattle.std.specs.List.{slice_get}
use Rattle.std.proofs.lemmas.Fmt.{decimal_injective}
use Rattle.std.proofs.lemmas.List.{append_cancel_left}
use Rattle.history.specs.declared.entry.Entry.{Entry}
use Rattle.dim_name.specs.Bytes.{newline, space}
use Rattle.cube_server.specs.Output.{numbered, entry_line}
use Rattle.output_laws.proofs.Lines.{split_at, empty_not}
use Rattle.trace_text.proofs.Plain.{decimal_lacks}

-- entry by entry the same command of the same user
abbrev pub AreOfSame : {T : Type 0} → List (Entry T) → List (Entry T) → Type 0
AreOfSame [] [] = Unit {0}
AreOfSame [] (b ∷ other) = ⊥
AreOfSame (a ∷ log) [] = ⊥
AreOfSame (a ∷ log) (b ∷ other) = (a.user ≡ b.user) × (a.command ≡ b.command) × AreOfSame log other

-- the numbers of users and commands have at most 64 bits
abbrev pub HasFew : {T : Type 0} → List (Entry T) → Type 0
HasFew {T} log = (place : ℕ) (entry : Entry T) → slice_get log place ≡ Some entry → (entry.user < 2 ^ 64) × (entry.command < 2 ^ 64)

after_command : Entry (List (ℕ × ℤ)) → List ℕ → List ℕ
after_command entry more = codes "cells " ++ (decimal (length entry.writes) ++ newline ∷ more)

after_user : Entry (List (ℕ × ℤ)) → List ℕ → List ℕ
after_user entry more = codes "command " ++ (decimal entry.command ++ space ∷ after_command entry more)

entry_parts : (place : ℕ) (entry : Entry (List (ℕ × ℤ))) (more : List ℕ)
    → entry_line place entry ++ more ≡ decimal place ++ (codes " user " ++ (decimal entry.user ++ space ∷ after_user entry more))
unfolding after_user after_command
entry_parts place entry more = simp append_assoc

-- one line tells the user and the command
line_tells : (place : ℕ) (a b : Entry (List (ℕ × ℤ))) (x y : List ℕ) → a.user < 2 ^ 64 → b.user < 2 ^ 64 → a.command < 2 ^ 64 → b.command < 2 ^ 64
    → entry_line place a ++ x ≡ entry_line place b ++ y → (a.user ≡ b.user) × (a.command ≡ b.command) × (x ≡ y)
unfolding after_user after_command
line_tells place a b x y few few_too low low_too e =
    let whole = sym (entry_parts place a x) ∙ e ∙ entry_parts place b y in
    let behind = append_cancel_left (decimal place) (codes " user " ++ (decimal a.user ++ space ∷ after_user a x)) (codes " user " ++ (decimal b.user ++ space ∷ after_user b y)) whole in
    let users = append_cancel_left (codes " user ") (decimal a.user ++ space ∷ after_user a x) (decimal b.user ++ space ∷ after_user b y) behind in
    let user = split_at space (decimal a.user) (decimal b.user) (after_user a x) (after_user b y) (decimal_lacks space a.user (omega arith)) (decimal_lacks space b.user (omega arith)) users in
    let commands = append_cancel_left (codes "command ") (decimal a.command ++ space ∷ after_command a x) (decimal b.command ++ space ∷ after_command b y) user.1 in
    let command = split_at space (decimal a.command) (decimal b.command) (after_command a x) (after_command b y) (decimal_lacks space a.command (omega arith)) (decimal_lacks space b.command (omega arith)) commands in
    let counts = append_cancel_left (codes "cells ") (decimal (length a.writes) ++ newline ∷ x) (decimal (length b.writes) ++ newline ∷ y) command.1 in
    let count = split_at newline (decimal (length a.writes)) (decimal (length b.writes)) x y (decimal_lacks newline (length a.writes) (omega arith)) (decimal_lacks newline (length b.writes) (omega arith)) counts in
    (decimal_injective a.user b.user few few_too user.0, decimal_injective a.command b.command low low_too command.0, count.1)

-- no text of an entry is empty
not_empty : (place : ℕ) (entry : Entry (List (ℕ × ℤ))) (more : List ℕ) → [] ≡ entry_line place entry ++ more → ⊥
not_empty place entry more e =
    empty_not (decimal place) space (codes "user " ++ (decimal entry.user ++ space ∷ after_user entry more)) (e ∙ entry_parts place entry more)

pub entries_tell : (log other : List (Entry (List (ℕ × ℤ)))) → HasFew log → HasFew other
    → (place : ℕ) → numbered entry_line place log ≡ numbered entry_line place other → AreOfSame log other
entries_tell [] [] few few_too place e = tt
entries_tell [] (b ∷ other) few few_too place e = not_empty place b (numbered entry_line (place + 1) other) e
entries_tell (a ∷ log) [] few few_too place e = not_empty place a (numbered entry_line (place + 1) log) (sym e)
entries_tell (a ∷ log) (b ∷ other) few few_too place e =
    let low = few 0 a refl in
    let low_too = few_too 0 b refl in
    let line = line_tells place a b (numbered entry_line (place + 1) log) (numbered entry_line (place + 1) other) low.0 low_too.0 low.1 low_too.1 e in
    (line.0, line.1, entries_tell log other (λ p. few (suc p)) (λ p. few_too (suc p)) (place + 1) line.2)
