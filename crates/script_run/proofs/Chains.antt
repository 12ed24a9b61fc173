-- A load changes its progress and its writes step by step: what holds along each step holds along the whole.
use Rattle.std.proofs.Common.{◌≡◌, ℕ, zero, suc, ◌+◌, Bool, true, false, List, [], ◌∷◌, map, Some, Result, Ok, Err, refl, sym, subst, slice_set, length, nat_lt, ◌&&◌, if◌then◌else◌}
use Rattle.cube_fixed.specs.declared.value.Value.{Value}
use Rattle.cube_fixed.specs.Arithmetic.{sum_of}
use Rattle.script_bound.specs.declared.term.Term.{Term}
use Rattle.script_bound.specs.declared.script.BoundScript.{BoundScript}
use Rattle.script_bound.specs.declared.statement.Case.{Case}
use Rattle.script_bound.specs.declared.statement.Case.TheFolds.{fold-roll-Case, fold-roll-Statement, ind-Statement, map-Case, map-Statement}
use Rattle.script_bound.specs.declared.statement.Case.TheOpen.{Case-F, Statement-F}
use Rattle.script_bound.specs.declared.statement.Case.TheViews.{roll-Case, roll-Statement}
use Rattle.script_bound.specs.declared.statement.Statement.{Statement}
use Rattle.script_values.specs.declared.kept.Kept.{Kept}
use Rattle.script_values.specs.declared.load_reason.LoadReason.{LoadReason}
use Rattle.script_values.specs.declared.load_reason.LoadReason.TheVariants.{ProcessError}
use Rattle.script_values.specs.Cells.{Store, Write, writing, zeroing}
use Rattle.script_values.specs.Values.{truth, taken, cell_value, each_text, value_of}
use Rattle.script_tree.specs.declared.script.Section.TheVariants.{Prolog, Body, Epilog}
use Rattle.script_run.specs.declared.ending.Ending.{Ending}
use Rattle.script_run.specs.declared.ending.Ending.TheVariants.{Next, Skipped, Broken, Stopped}
use Rattle.script_run.specs.declared.execution_place.ExecutionPlace.{ExecutionPlace}
use Rattle.script_run.specs.Setting.{Setting, Progress}
use Rattle.script_run.specs.Meaning.{Outcome, Ended, Doing, Deed, CaseDeed, then_do, begun_with, begin, once, place_of, executed, scene_of, kept_in, assign, given, as_kept, arguments, with_write, put_arguments, increment_arguments, zeroing_arguments, wrote, put, increment, zero_out, end_with, block, where_holds, choose, turns, case_step, statement_step, deed_of, case_deed, block_of}
use Rattle.script_run.specs.Load.{setting, is_of_record, passed_over, tried, next_record, records, in_the_end, sections}

-- What holds between a progress with its writes and a later one: of the same, from step to step, and over each step,
-- which is an execution that begins, a variable that is set, a write that is allowed, or a cell that is zeroed out.
pub record IsChain (store : Store) (R : Progress → List Write → Progress → List Write → Type 0) : Type 0 where
  pub same : (p : Progress) (w : List Write) → R p w p w
  pub on : (p q r : Progress) (w v u : List Write) → R p w q v → R q v r u → R p w r u
  pub begins : (p : Progress) (w : List Write) (place : ExecutionPlace) (left : ℕ) → p.left ≡ suc left
      → R p w (record { variables = p.variables; left = left; last = place; rejects = p.rejects }) w
  pub sets : (p : Progress) (w : List Write) (place : ℕ) (value : Kept)
      → R p w (record { variables = slice_set p.variables place (Some value); left = p.left; last = p.last; rejects = p.rejects }) w
  pub writes : (p : Progress) (w u : List Write) (cube : List ℕ) (elements : List (List ℕ)) (value : Value)
      → writing store w cube elements value ≡ Ok u → R p w p u
  pub zeros : (p : Progress) (w u : List Write) (cube : List ℕ) (elements : List (List ℕ)) → zeroing store w cube elements ≡ Ok u → R p w p u

module _ (store : Store) (R : Progress → List Write → Progress → List Write → Type 0) (chain : IsChain store R) where
  abbrev pub Reaches : Progress → List Write → Outcome → Type 0
  Reaches p w (Ended ending q v) = R p w q v

  abbrev pub IsSteadyDoing : Doing → Type 0
  IsSteadyDoing go = (p : Progress) (w : List Write) → Reaches p w (go p w)

  abbrev pub IsSteady : Deed → Type 0
  IsSteady deed = (here : Setting) → IsSteadyDoing (deed store here)

  abbrev IsSteadyCase : CaseDeed → Type 0
  IsSteadyCase case = IsSteady case.deed

  reach_on : (p q : Progress) (w v : List Write) (o : Outcome) → R p w q v → Reaches q v o → Reaches p w o
  reach_on p q w v (Ended ending r u) first second = chain.on p q r w v u first second

  then_steady : (p : Progress) (w : List Write) (o : Outcome) (go : Doing) → Reaches p w o → IsSteadyDoing go → Reaches p w (then_do o go)
  then_steady p w (Ended Next q v) go first next = reach_on p q w v (go q v) first (next q v)
  then_steady p w (Ended Skipped q v) go first next = first
  then_steady p w (Ended Broken q v) go first next = first
  then_steady p w (Ended (Stopped reason) q v) go first next = first

  record_steady : (p : Progress) (w : List Write) (o : Outcome) (go : Doing) → Reaches p w o → IsSteadyDoing go → Reaches p w (next_record o go)
  record_steady p w (Ended Next q v) go first next = reach_on p q w v (go q v) first (next q v)
  record_steady p w (Ended Skipped q v) go first next = reach_on p q w v (go q v) first (next q v)
  record_steady p w (Ended Broken q v) go first next = first
  record_steady p w (Ended (Stopped reason) q v) go first next = first

  end_steady : (p : Progress) (w : List Write) (o : Outcome) (go : Doing) → Reaches p w o → IsSteadyDoing go → Reaches p w (in_the_end o go)
  end_steady p w (Ended Next q v) go first next = reach_on p q w v (go q v) first (next q v)
  end_steady p w (Ended Skipped q v) go first next = reach_on p q w v (go q v) first (next q v)
  end_steady p w (Ended Broken q v) go first next = reach_on p q w v (go q v) first (next q v)
  end_steady p w (Ended (Stopped reason) q v) go first next = first

  begun_steady : (left : ℕ) (place : ExecutionPlace) (p : Progress) (w : List Write) (go : Doing) → p.left ≡ left → IsSteadyDoing go → Reaches p w (once (begun_with left place p) w go)
  begun_steady zero place p w go is next = chain.same p w
  begun_steady (suc left) place p w go is next =
      let q : Progress = record { variables = p.variables; left = left; last = place; rejects = p.rejects } in
      reach_on p q w w (go q w) (chain.begins p w place left is) (next q w)

  once_steady : (place : ExecutionPlace) (p : Progress) (w : List Write) (go : Doing) → IsSteadyDoing go → Reaches p w (once (begin place p) w go)
  once_steady place p w go next = begun_steady p.left place p w go refl next

  executed_steady : (number : ℕ) (deed : Deed) → IsSteady deed → IsSteady (executed number deed)
  unfolding executed
  executed_steady number deed next here p w = once_steady (place_of here number) p w (deed store here) (next here)

  kept_steady : (place : ℕ) (value : Result Kept LoadReason) → IsSteadyDoing (kept_in place value)
  kept_steady place (Ok value) p w = chain.sets p w place value
  kept_steady place (Err reason) p w = chain.same p w

  assign_steady : (place : ℕ) (term : Term) → IsSteady (assign place term)
  unfolding assign
  assign_steady place term here p w = kept_steady place (taken as_kept (given term store here p w)) p w

  allowed : (p : Progress) (w u : List Write) (names : List (List ℕ)) (value : Value) → with_write store w names value ≡ Ok u → R p w p u
  allowed p w u [] value is = absurd (cc is)
  allowed p w u (cube ∷ elements) value is = chain.writes p w u cube elements value is

  wrote_steady : (written : Result (List Write) LoadReason) (p : Progress) (w : List Write) → ((u : List Write) → written ≡ Ok u → R p w p u) → Reaches p w (wrote written p w)
  wrote_steady (Ok u) p w each = each u refl
  wrote_steady (Err reason) p w each = chain.same p w

  put_allowed : (p : Progress) (w u : List Write) (a : Result (Value × List (List ℕ)) LoadReason) → taken (put_arguments store w) a ≡ Ok u → R p w p u
  put_allowed p w u (Ok a) is = allowed p w u a.1 a.0 is
  put_allowed p w u (Err reason) is = absurd (cc is)

  more_allowed : (p : Progress) (w u : List Write) (names : List (List ℕ)) (more : Value) (before : Result Value LoadReason)
      → taken (λ value. with_write store w names (sum_of value more)) before ≡ Ok u → R p w p u
  more_allowed p w u names more (Ok value) is = allowed p w u names (sum_of value more) is
  more_allowed p w u names more (Err reason) is = absurd (cc is)

  increment_allowed : (p : Progress) (w u : List Write) (a : Result (Value × List (List ℕ)) LoadReason) → taken (increment_arguments store w) a ≡ Ok u → R p w p u
  increment_allowed p w u (Ok a) is = more_allowed p w u a.1 a.0 (cell_value store w a.1) is
  increment_allowed p w u (Err reason) is = absurd (cc is)

  put_steady : (value : Term) (names : List Term) → IsSteady (put value names)
  unfolding put
  put_steady value names here p w =
      let a = arguments value names (scene_of here p) store w in
      wrote_steady (taken (put_arguments store w) a) p w (λ u is. put_allowed p w u a is)

  increment_steady : (value : Term) (names : List Term) → IsSteady (increment value names)
  unfolding increment
  increment_steady value names here p w =
      let a = arguments value names (scene_of here p) store w in
      wrote_steady (taken (increment_arguments store w) a) p w (λ u is. increment_allowed p w u a is)

  zeros_allowed : (p : Progress) (w u : List Write) (names : List (List ℕ)) → zeroing_arguments store w names ≡ Ok u → R p w p u
  zeros_allowed p w u [] is = absurd (cc is)
  zeros_allowed p w u (cube ∷ elements) is = chain.zeros p w u cube elements is

  zeros_taken : (p : Progress) (w u : List Write) (a : Result (List (List ℕ)) LoadReason) → taken (zeroing_arguments store w) a ≡ Ok u → R p w p u
  zeros_taken p w u (Ok names) is = zeros_allowed p w u names is
  zeros_taken p w u (Err reason) is = absurd (cc is)

  zero_out_steady : (names : List Term) → IsSteady (zero_out names)
  unfolding zero_out
  zero_out_steady names here p w =
      let a = each_text (map value_of names) (scene_of here p) store w in
      wrote_steady (taken (zeroing_arguments store w) a) p w (λ u is. zeros_taken p w u a is)

  end_with_steady : (ending : Ending) → IsSteady (end_with ending)
  end_with_steady ending here p w = chain.same p w

  where_steady : (holds : Result Bool LoadReason) (first other : Doing) → IsSteadyDoing first → IsSteadyDoing other → IsSteadyDoing (where_holds holds first other)
  where_steady (Ok true) first other a b p w = a p w
  where_steady (Ok false) first other a b p w = b p w
  where_steady (Err reason) first other a b p w = chain.same p w

  turns_steady : (most number : ℕ) (test : Term) (deed : Deed) → IsSteady deed → IsSteady (turns most number test deed)
  turns_steady zero number test deed steady here p w = chain.same p w
  turns_steady (suc most) number test deed steady here p w =
      once_steady (place_of here number) p w
      (λ q v. where_holds (truth (given test store here q v)) (λ r u. then_do (deed store here r u) (turns most number test deed store here)) (end_with Next store here) q v)
      (λ q v. where_steady (truth (given test store here q v)) (λ r u. then_do (deed store here r u) (turns most number test deed store here)) (end_with Next store here)
      (λ r u. then_steady r u (deed store here r u) (turns most number test deed store here) (steady here r u) (turns_steady most number test deed steady here))
      (end_with_steady Next here) q v)

  abbrev HeldStatement : Type 0
  HeldStatement = (statement : Statement) × IsSteady (deed_of statement)

  abbrev HeldCase : Type 0
  HeldCase = (case : Case) × IsSteadyCase (case_deed case)

  block_steady : (held : List HeldStatement) → IsSteady (block (map deed_of (map (λ e. e.0) held)))
  block_steady [] here p w = chain.same p w
  block_steady (e ∷ held) here p w =
      then_steady p w (deed_of e.0 store here p w) (block (map deed_of (map (λ e. e.0) held)) store here) (e.1 here p w) (block_steady held here)

  choose_steady : (held : List HeldCase) → IsSteady (choose (map case_deed (map (λ e. e.0) held)))
  choose_steady [] here p w = chain.same p w
  choose_steady (e ∷ held) here p w =
      where_steady ((case_deed e.0).holds store here p w) ((case_deed e.0).deed store here) (choose (map case_deed (map (λ e. e.0) held)) store here)
      (e.1 here) (choose_steady held here) p w

  rolled : (x : Statement-F Case Statement) → IsSteady (statement_step (map-Statement Case Statement CaseDeed Deed case_deed deed_of x)) → IsSteady (deed_of (roll-Statement x))
  rolled x h = subst IsSteady (sym (fold-roll-Statement CaseDeed Deed case_step statement_step x)) h

  rolled_case : (x : Case-F Case Statement) → IsSteadyCase (case_step (map-Case Case Statement CaseDeed Deed case_deed deed_of x)) → IsSteadyCase (case_deed (roll-Case x))
  rolled_case x h = subst IsSteadyCase (sym (fold-roll-Case CaseDeed Deed case_step statement_step x)) h

  layer : (l : Statement-F HeldCase HeldStatement) → IsSteady (deed_of (roll-Statement (map-Statement HeldCase HeldStatement Case Statement (λ e. e.0) (λ e. e.0) l)))
  layer (Statement-F.Assign number place term) = rolled (Statement-F.Assign number place term) (executed_steady number (assign place term) (assign_steady place term))
  layer (Statement-F.Put number value names) = rolled (Statement-F.Put number value names) (executed_steady number (put value names) (put_steady value names))
  layer (Statement-F.Increment number value names) = rolled (Statement-F.Increment number value names) (executed_steady number (increment value names) (increment_steady value names))
  layer (Statement-F.ZeroOut number names) = rolled (Statement-F.ZeroOut number names) (executed_steady number (zero_out names) (zero_out_steady names))
  layer (Statement-F.Skip number) = rolled (Statement-F.Skip number) (executed_steady number (end_with Skipped) (end_with_steady Skipped))
  layer (Statement-F.Break number) = rolled (Statement-F.Break number) (executed_steady number (end_with Broken) (end_with_steady Broken))
  layer (Statement-F.Error number) = rolled (Statement-F.Error number) (executed_steady number (end_with (Stopped ProcessError)) (end_with_steady (Stopped ProcessError)))
  layer (Statement-F.If number cases) =
      rolled (Statement-F.If number (map (λ e. e.0) cases)) (executed_steady number (choose (map case_deed (map (λ e. e.0) cases))) (choose_steady cases))
  layer (Statement-F.While number test held) =
      rolled (Statement-F.While number test (map (λ e. e.0) held))
      (λ here p w. turns_steady p.left number test (block (map deed_of (map (λ e. e.0) held))) (block_steady held) here p w)

  case_layer : (l : Case-F HeldCase HeldStatement) → IsSteadyCase (case_deed (roll-Case (map-Case HeldCase HeldStatement Case Statement (λ e. e.0) (λ e. e.0) l)))
  case_layer (Case-F.When test held) = rolled_case (Case-F.When test (map (λ e. e.0) held)) (block_steady held)
  case_layer (Case-F.Otherwise held) = rolled_case (Case-F.Otherwise (map (λ e. e.0) held)) (block_steady held)

  abbrev OfCase : Case → Type 0
  OfCase case = IsSteadyCase (case_deed case)

  abbrev OfStatement : Statement → Type 0
  OfStatement statement = IsSteady (deed_of statement)

  pub statement_steady : (statement : Statement) → IsSteady (deed_of statement)
  statement_steady = ind-Statement OfCase OfStatement (λ x l is. subst (λ z. OfCase (roll-Case z)) is (case_layer l)) (λ x l is. subst (λ z. OfStatement (roll-Statement z)) is (layer l))

  pub statements_steady : (statements : List Statement) → IsSteady (block_of statements)
  statements_steady [] here p w = chain.same p w
  statements_steady (s ∷ statements) here p w =
      then_steady p w (deed_of s store here p w) (block_of statements store here) (statement_steady s here p w) (statements_steady statements here)

  -- where it also holds over a record that is passed over, if fewer than so many were
  module _ (most : ℕ)
      (passes : (p q : Progress) (w u : List Write) (reason : LoadReason) → nat_lt (length p.rejects) most ≡ true → R p w q u → R p w (passed_over reason p q) w) where
    stopped_steady : (may few : Bool) (p q : Progress) (w u : List Write) (reason : LoadReason) → nat_lt (length p.rejects) most ≡ few → R p w q u
        → Reaches p w (if may && few then Ended Next (passed_over reason p q) w else Ended (Stopped reason) q u)
    stopped_steady true true p q w u reason is h = passes p q w u reason is h
    stopped_steady true false p q w u reason is h = h
    stopped_steady false few p q w u reason is h = h

    tried_steady : (p : Progress) (w : List Write) (o : Outcome) → Reaches p w o → Reaches p w (tried most p w o)
    tried_steady p w (Ended Next q u) h = h
    tried_steady p w (Ended Skipped q u) h = h
    tried_steady p w (Ended Broken q u) h = h
    tried_steady p w (Ended (Stopped reason) q u) h = stopped_steady (is_of_record reason) (nat_lt (length p.rejects) most) p q w u reason refl h

    records_steady : (decimal : ℕ) (body : List Statement) (row : ℕ) (rows : List (List (List ℕ))) → IsSteadyDoing (records decimal most (block_of body) store row rows)
    records_steady decimal body row [] p w = chain.same p w
    records_steady decimal body row (columns ∷ rows) p w =
        let o = block_of body store (setting decimal Body row columns) p w in
        record_steady p w (tried most p w o) (records decimal most (block_of body) store (row + 1) rows)
        (tried_steady p w o (statements_steady body (setting decimal Body row columns) p w)) (records_steady decimal body (row + 1) rows)

    pub sections_steady : (script : BoundScript) (decimal : ℕ) (rows : List (List (List ℕ))) → IsSteadyDoing (sections script store decimal most rows)
    sections_steady script decimal rows p w =
        end_steady p w (then_do (block_of script.prolog store (setting decimal Prolog 0 []) p w) (records decimal most (block_of script.body) store 1 rows)) (block_of script.epilog store (setting decimal Epilog 0 []))
        (then_steady p w (block_of script.prolog store (setting decimal Prolog 0 []) p w) (records decimal most (block_of script.body) store 1 rows) (statements_steady script.prolog (setting decimal Prolog 0 []) p w) (records_steady decimal script.body 1 rows))
        (statements_steady script.epilog (setting decimal Epilog 0 []))
