-- A load passes over no more records than it may begin executions: each of them ended in one.
use Rattle.std.proofs.Common.{◌≡◌, ◌≤◌, ◌<◌, ◌+◌, ℕ, zero, suc, nat_lt, Bool, true, false, ◌&&◌, if◌then◌else◌, List, [], ◌∷◌, length, map, Result, Ok, Err, refl, sym, ap, ◌∙◌, subst, arith, length-append}
use Rattle.user_text.specs.declared.command.ParamText.{ParamText}
use Rattle.script_bound.specs.declared.term.Term.{Term}
use Rattle.script_bound.specs.declared.script.BoundScript.{BoundScript}
use Rattle.script_bound.specs.declared.statement.Case.{Case}
use Rattle.script_bound.specs.declared.statement.Case.TheFolds.{fold-roll-Case, fold-roll-Statement, ind-Case, ind-Statement, map-Case, map-Statement}
use Rattle.script_bound.specs.declared.statement.Case.TheOpen.{Case-F, Statement-F}
use Rattle.script_bound.specs.declared.statement.Case.TheViews.{roll-Case, roll-Statement}
use Rattle.script_bound.specs.declared.statement.Statement.{Statement}
use Rattle.script_tree.specs.declared.script.Section.TheVariants.{Prolog, Body, Epilog}
use Rattle.script_values.specs.declared.kept.Kept.{Kept}
use Rattle.script_values.specs.declared.load_reason.LoadReason.{LoadReason}
use Rattle.script_values.specs.declared.load_reason.LoadReason.TheVariants.{ProcessError}
use Rattle.script_values.specs.Cells.{Store, Write}
use Rattle.script_values.specs.Values.{truth, taken}
use Rattle.script_run.specs.declared.ending.Ending.{Ending}
use Rattle.script_run.specs.declared.ending.Ending.TheVariants.{Next, Skipped, Broken, Stopped}
use Rattle.script_run.specs.declared.execution_place.ExecutionPlace.{ExecutionPlace}
use Rattle.script_run.specs.declared.ran.Ran.TheVariants.{Done}
use Rattle.script_run.specs.declared.reject.Reject.{Reject}
use Rattle.script_run.specs.Setting.{Setting, Progress}
use Rattle.script_run.specs.Meaning.{Outcome, Ended, Doing, Deed, CaseDeed, then_do, begun_with, once, place_of, executed, kept_in, assign, given, as_kept, put, increment, zero_out, end_with, block, where_holds, choose, turns, case_step, statement_step, deed_of, case_deed, block_of}
use Rattle.script_run.specs.Load.{setting, is_of_record, passed_over, tried, next_record, records, in_the_end, sections, load, start, most_steps, ran_of}

-- ---- executions

-- a record may be passed over for this
abbrev EndsRecord : Ending → Type 0
EndsRecord Next = ⊥
EndsRecord Skipped = ⊥
EndsRecord Broken = ⊥
EndsRecord (Stopped reason) = is_of_record reason ≡ true

-- by then no record was passed over, and no more executions are left
abbrev Within : Progress → Outcome → Type 0
Within p (Ended ending q v) = (q.rejects ≡ p.rejects) × (q.left ≤ p.left)

-- and fewer are left where a record may be passed over for how it ended
abbrev Tight : Progress → Outcome → Type 0
Tight p (Ended ending q v) = (q.rejects ≡ p.rejects) × (q.left ≤ p.left) × (EndsRecord ending → q.left < p.left)

abbrev IsWithin : Deed → Type 0
IsWithin deed = (store : Store) (here : Setting) (p : Progress) (w : List Write) → Within p (deed store here p w)

abbrev IsTight : Deed → Type 0
IsTight deed = (store : Store) (here : Setting) (p : Progress) (w : List Write) → Tight p (deed store here p w)

loose : (p : Progress) (o : Outcome) → Tight p o → Within p o
loose p (Ended ending q v) t = (t.0, t.1)

tight_on : (p q : Progress) (o : Outcome) → q.rejects ≡ p.rejects → q.left ≤ p.left → Tight q o → Tight p o
tight_on p q (Ended ending r u) same less t = (t.0 ∙ same, omega (arith, less, t.1), λ ends. omega (arith, less, t.2 ends))

begun_on : (p q : Progress) (o : Outcome) → q.rejects ≡ p.rejects → q.left < p.left → Within q o → Tight p o
begun_on p q (Ended ending r u) same less t = (t.0 ∙ same, omega (arith, less, t.1), λ ends. omega (arith, less, t.1))

then_tight : (p : Progress) (o : Outcome) (go : Doing) → Tight p o → ((q : Progress) (v : List Write) → Tight q (go q v)) → Tight p (then_do o go)
then_tight p (Ended Next q v) go first next = tight_on p q (go q v) first.0 first.1 (next q v)
then_tight p (Ended Skipped q v) go first next = first
then_tight p (Ended Broken q v) go first next = first
then_tight p (Ended (Stopped reason) q v) go first next = first

once_tight : (left : ℕ) (place : ExecutionPlace) (p : Progress) (w : List Write) (go : Doing) → p.left ≡ left → ((q : Progress) (v : List Write) → Within q (go q v))
    → Tight p (once (begun_with left place p) w go)
once_tight zero place p w go is next = (refl, omega arith, λ ends. absurd (cc ends))
once_tight (suc left) place p w go is next =
    let q : Progress = record { variables = p.variables; left = left; last = place; rejects = p.rejects } in
    begun_on p q (go q w) refl (omega (arith, is)) (next q w)

executed_tight : (number : ℕ) (deed : Deed) → IsWithin deed → IsTight (executed number deed)
unfolding executed
executed_tight number deed within store here p w = once_tight p.left (place_of here number) p w (deed store here) refl (within store here)

kept_within : (place : ℕ) (value : Result Kept LoadReason) (p : Progress) (w : List Write) → Within p (kept_in place value p w)
kept_within place (Ok value) p w = (refl, omega arith)
kept_within place (Err reason) p w = (refl, omega arith)

assign_within : (place : ℕ) (term : Term) → IsWithin (assign place term)
unfolding assign
assign_within place term store here p w = kept_within place (taken as_kept (given term store here p w)) p w

put_within : (value : Term) (names : List Term) → IsWithin (put value names)
unfolding put
put_within value names store here p w = (refl, omega arith)

increment_within : (value : Term) (names : List Term) → IsWithin (increment value names)
unfolding increment
increment_within value names store here p w = (refl, omega arith)

zero_out_within : (names : List Term) → IsWithin (zero_out names)
unfolding zero_out
zero_out_within names store here p w = (refl, omega arith)

end_with_within : (ending : Ending) → IsWithin (end_with ending)
end_with_within ending store here p w = (refl, omega arith)

where_within : (holds : Result Bool LoadReason) (first other : Doing) (p : Progress) (w : List Write) → Within p (first p w) → Within p (other p w) → Within p (where_holds holds first other p w)
where_within (Ok true) first other p w a b = a
where_within (Ok false) first other p w a b = b
where_within (Err reason) first other p w a b = (refl, omega arith)

turns_tight : (most number : ℕ) (test : Term) (deed : Deed) → IsTight deed → IsTight (turns most number test deed)
turns_tight zero number test deed tight store here p w = (refl, omega arith, λ ends. absurd (cc ends))
turns_tight (suc most) number test deed tight store here p w =
    once_tight p.left (place_of here number) p w
    (λ q v. where_holds (truth (given test store here q v)) (λ r u. then_do (deed store here r u) (turns most number test deed store here)) (end_with Next store here) q v) refl
    (λ q v. where_within (truth (given test store here q v)) (λ r u. then_do (deed store here r u) (turns most number test deed store here)) (end_with Next store here) q v
    (loose q (then_do (deed store here q v) (turns most number test deed store here))
    (then_tight q (deed store here q v) (turns most number test deed store here) (tight store here q v) (turns_tight most number test deed tight store here)))
    (refl, omega arith))

-- ---- statements in statements

abbrev HeldStatement : Type 0
HeldStatement = (statement : Statement) × IsTight (deed_of statement)

abbrev OfCase : Case → Type 0
OfCase case = IsTight (case_deed case).deed

abbrev HeldCase : Type 0
HeldCase = (case : Case) × OfCase case

block_tight : (held : List HeldStatement) → IsTight (block (map deed_of (map (λ e. e.0) held)))
block_tight [] store here p w = (refl, omega arith, λ ends. absurd ends)
block_tight (e ∷ held) store here p w =
    then_tight p (deed_of e.0 store here p w) (block (map deed_of (map (λ e. e.0) held)) store here) (e.1 store here p w) (block_tight held store here)

choose_within : (held : List HeldCase) → IsWithin (choose (map case_deed (map (λ e. e.0) held)))
choose_within [] store here p w = (refl, omega arith)
choose_within (e ∷ held) store here p w =
    where_within ((case_deed e.0).holds store here p w) ((case_deed e.0).deed store here) (choose (map case_deed (map (λ e. e.0) held)) store here) p w
    (loose p ((case_deed e.0).deed store here p w) (e.1 store here p w)) (choose_within held store here p w)

rolled : (x : Statement-F Case Statement) → IsTight (statement_step (map-Statement Case Statement CaseDeed Deed case_deed deed_of x)) → IsTight (deed_of (roll-Statement x))
rolled x h = subst IsTight (sym (fold-roll-Statement CaseDeed Deed case_step statement_step x)) h

rolled_case : (x : Case-F Case Statement) → IsTight (case_step (map-Case Case Statement CaseDeed Deed case_deed deed_of x)).deed → OfCase (roll-Case x)
rolled_case x h = subst (λ (case : CaseDeed). IsTight case.deed) (sym (fold-roll-Case CaseDeed Deed case_step statement_step x)) h

layer : (l : Statement-F HeldCase HeldStatement) → IsTight (deed_of (roll-Statement (map-Statement HeldCase HeldStatement Case Statement (λ e. e.0) (λ e. e.0) l)))
layer (Statement-F.Assign number place term) = rolled (Statement-F.Assign number place term) (executed_tight number (assign place term) (assign_within place term))
layer (Statement-F.Put number value names) = rolled (Statement-F.Put number value names) (executed_tight number (put value names) (put_within value names))
layer (Statement-F.Increment number value names) = rolled (Statement-F.Increment number value names) (executed_tight number (increment value names) (increment_within value names))
layer (Statement-F.ZeroOut number names) = rolled (Statement-F.ZeroOut number names) (executed_tight number (zero_out names) (zero_out_within names))
layer (Statement-F.Skip number) = rolled (Statement-F.Skip number) (executed_tight number (end_with Skipped) (end_with_within Skipped))
layer (Statement-F.Break number) = rolled (Statement-F.Break number) (executed_tight number (end_with Broken) (end_with_within Broken))
layer (Statement-F.Error number) = rolled (Statement-F.Error number) (executed_tight number (end_with (Stopped ProcessError)) (end_with_within (Stopped ProcessError)))
layer (Statement-F.If number cases) =
    rolled (Statement-F.If number (map (λ e. e.0) cases)) (executed_tight number (choose (map case_deed (map (λ e. e.0) cases))) (choose_within cases))
layer (Statement-F.While number test held) =
    rolled (Statement-F.While number test (map (λ e. e.0) held))
    (λ store here p w. turns_tight p.left number test (block (map deed_of (map (λ e. e.0) held))) (block_tight held) store here p w)

case_layer : (l : Case-F HeldCase HeldStatement) → OfCase (roll-Case (map-Case HeldCase HeldStatement Case Statement (λ e. e.0) (λ e. e.0) l))
case_layer (Case-F.When test held) = rolled_case (Case-F.When test (map (λ e. e.0) held)) (block_tight held)
case_layer (Case-F.Otherwise held) = rolled_case (Case-F.Otherwise (map (λ e. e.0) held)) (block_tight held)

abbrev OfStatement : Statement → Type 0
OfStatement statement = IsTight (deed_of statement)

statement_tight : (statement : Statement) → IsTight (deed_of statement)
statement_tight = ind-Statement OfCase OfStatement (λ x l is. subst (λ z. OfCase (roll-Case z)) is (case_layer l)) (λ x l is. subst (λ z. OfStatement (roll-Statement z)) is (layer l))

statements_tight : (statements : List Statement) → IsTight (block_of statements)
statements_tight [] store here p w = (refl, omega arith, λ ends. absurd ends)
statements_tight (s ∷ statements) store here p w =
    then_tight p (deed_of s store here p w) (block_of statements store here) (statement_tight s store here p w) (statements_tight statements store here)

-- ---- records

-- for each record that was passed over by then, an execution fewer is left
abbrev Counted : Progress → Outcome → Type 0
Counted p (Ended ending q v) = length q.rejects + q.left ≤ length p.rejects + p.left

abbrev IsCounted : Doing → Type 0
IsCounted go = (p : Progress) (w : List Write) → Counted p (go p w)

counted_of : (p : Progress) (o : Outcome) → Tight p o → Counted p o
counted_of p (Ended ending q v) t = omega (arith, ap length t.0, t.1)

counted_on : (p q : Progress) (o : Outcome) → length q.rejects + q.left ≤ length p.rejects + p.left → Counted q o → Counted p o
counted_on p q (Ended ending r u) first next = omega (arith, first, next)

tried_counted : (most : ℕ) (p : Progress) (w : List Write) (o : Outcome) → Tight p o → Counted p (tried most p w o)
tried_counted most p w (Ended Next q u) t = counted_of p (Ended Next q u) t
tried_counted most p w (Ended Skipped q u) t = counted_of p (Ended Skipped q u) t
tried_counted most p w (Ended Broken q u) t = counted_of p (Ended Broken q u) t
tried_counted most p w (Ended (Stopped reason) q u) t = by (is_of_record reason) (nat_lt (length p.rejects) most) t.2
  where
    by : (b c : Bool) → (b ≡ true → q.left < p.left) → Counted p (if b && c then Ended Next (passed_over reason p q) w else Ended (Stopped reason) q u)
    by true true less =
        let one : Reject = record { row = q.last.row; statement = q.last.statement; reason = reason } in
        omega (arith, length-append p.rejects (one ∷ []), less refl)
    by true false less = counted_of p (Ended (Stopped reason) q u) t
    by false c less = counted_of p (Ended (Stopped reason) q u) t

then_counted : (p : Progress) (o : Outcome) (go : Doing) → Counted p o → IsCounted go → Counted p (then_do o go)
then_counted p (Ended Next q v) go first next = counted_on p q (go q v) first (next q v)
then_counted p (Ended Skipped q v) go first next = first
then_counted p (Ended Broken q v) go first next = first
then_counted p (Ended (Stopped reason) q v) go first next = first

record_counted : (p : Progress) (o : Outcome) (go : Doing) → Counted p o → IsCounted go → Counted p (next_record o go)
record_counted p (Ended Next q v) go first next = counted_on p q (go q v) first (next q v)
record_counted p (Ended Skipped q v) go first next = counted_on p q (go q v) first (next q v)
record_counted p (Ended Broken q v) go first next = first
record_counted p (Ended (Stopped reason) q v) go first next = first

end_counted : (p : Progress) (o : Outcome) (go : Doing) → Counted p o → IsCounted go → Counted p (in_the_end o go)
end_counted p (Ended Next q v) go first next = counted_on p q (go q v) first (next q v)
end_counted p (Ended Skipped q v) go first next = counted_on p q (go q v) first (next q v)
end_counted p (Ended Broken q v) go first next = counted_on p q (go q v) first (next q v)
end_counted p (Ended (Stopped reason) q v) go first next = first

module _ (store : Store) (decimal most : ℕ) where
  statements_counted : (statements : List Statement) (here : Setting) → IsCounted (block_of statements store here)
  statements_counted statements here p w = counted_of p (block_of statements store here p w) (statements_tight statements store here p w)

  records_counted : (body : List Statement) (row : ℕ) (rows : List (List (List ℕ))) → IsCounted (records decimal most (block_of body) store row rows)
  records_counted body row [] p w = omega arith
  records_counted body row (columns ∷ rows) p w =
      let here = setting decimal Body row columns in
      record_counted p (tried most p w (block_of body store here p w)) (records decimal most (block_of body) store (row + 1) rows)
      (tried_counted most p w (block_of body store here p w) (statements_tight body store here p w)) (records_counted body (row + 1) rows)

  sections_counted : (script : BoundScript) (rows : List (List (List ℕ))) → IsCounted (sections script store decimal most rows)
  sections_counted script rows p w =
      let first = block_of script.prolog store (setting decimal Prolog 0 []) p w in
      let each = records decimal most (block_of script.body) store 1 rows in
      end_counted p (then_do first each) (block_of script.epilog store (setting decimal Epilog 0 []))
      (then_counted p first each (statements_counted script.prolog (setting decimal Prolog 0 []) p w) (records_counted script.body 1 rows))
      (statements_counted script.epilog (setting decimal Epilog 0 []))

-- a load that is done has passed over no more records than executions may be begun
pub few_rejects : (script : BoundScript) (params : List (List ℕ × ParamText)) (decimal most : ℕ) (rows : List (List (List ℕ))) (store : Store) (writes : List Write) (rejects : List Reject)
    → ran_of (load script params decimal most rows store writes) ≡ Done rejects → length rejects ≤ most_steps
few_rejects script params decimal most rows store writes rejects is =
    by (load script params decimal most rows store writes) (sections_counted store decimal most script rows (start script params) writes) is
  where
    by : (o : Outcome) → Counted (start script params) o → ran_of o ≡ Done rejects → length rejects ≤ most_steps
    by (Ended Next q v) counted done = let same : q.rejects ≡ rejects = cc in omega (arith, counted, ap length same)
    by (Ended Skipped q v) counted done = let same : q.rejects ≡ rejects = cc in omega (arith, counted, ap length same)
    by (Ended Broken q v) counted done = let same : q.rejects ≡ rejects = cc in omega (arith, counted, ap length same)
    by (Ended (Stopped reason) q v) counted done = absurd (cc)
