-- One more turn of a WHILE.
use Rattle.std.proofs.Common.{◌≡◌, ◌<◌, ◌-◌, ℕ, zero, suc, true, false, List, Ok, Err, sym, ap, ◌∙◌, arith}
use Rattle.script_bound.specs.declared.term.Term.{Term}
use Rattle.script_values.specs.declared.load_reason.LoadReason.{LoadReason}
use Rattle.script_values.specs.declared.load_reason.LoadReason.TheVariants.{StepLimit}
use Rattle.script_values.specs.Cells.{Store, Write}
use Rattle.script_values.specs.Values.{truth}
use Rattle.script_run.specs.declared.ending.Ending.{Ending}
use Rattle.script_run.specs.declared.ending.Ending.TheVariants.{Next, Stopped}
use Rattle.script_run.specs.declared.execution_place.ExecutionPlace.{ExecutionPlace}
use Rattle.script_run.specs.Setting.{Setting, Progress}
use Rattle.script_run.specs.Meaning.{Ended, Begins, Doing, Deed, begin, begun_with, once, place_of, given, where_holds, then_do, end_with, turns}

module _ (number : ℕ) (test : Term) (deed : Deed) (store : Store) (here : Setting) where
  -- what is done where a test was begun
  after_begin : ℕ → Doing
  after_begin most q v =
      where_holds (truth (given test store here q v))
      (λ r u. then_do (deed store here r u) (turns most number test deed store here)) (end_with Next store here) q v

  begun : (most : ℕ) (p q : Progress) (w : List Write) → 0 < most → Begins true q ≡ begin (place_of here number) p
      → turns most number test deed store here p w ≡ after_begin (most - 1) q w
  unfolding after_begin
  begun zero p q w some e = absurd (omega (arith, some))
  begun (suc most) p q w some e =
      let less : suc most - 1 ≡ most = omega arith in
      ap (λ b. once b w (after_begin most)) (sym e) ∙ ap (λ n. after_begin n q w) (sym less)

-- where none is left nothing has changed
still : (left : ℕ) (place : ExecutionPlace) (p q : Progress) → Begins false q ≡ begun_with left place p → p ≡ q
still zero place p q e = cc
still (suc left) place p q e = absurd (cc e)

-- no execution is left
pub turn_stops : (most number : ℕ) (test : Term) (deed : Deed) (store : Store) (here : Setting) (p q : Progress) (w : List Write)
    → Begins false q ≡ begin (place_of here number) p
    → turns most number test deed store here p w ≡ Ended (Stopped StepLimit) q w
unfolding after_begin
turn_stops zero number test deed store here p q w e =
    ap (λ x. Ended (Stopped StepLimit) x w) (still p.left (place_of here number) p q e)
turn_stops (suc most) number test deed store here p q w e =
    ap (λ b. once b w (after_begin number test deed store here most)) (sym e)

-- the test gives a reason
pub turn_fails : (most number : ℕ) (test : Term) (deed : Deed) (store : Store) (here : Setting) (p q : Progress) (w : List Write) (reason : LoadReason)
    → 0 < most → Begins true q ≡ begin (place_of here number) p → Err reason ≡ truth (given test store here q w)
    → turns most number test deed store here p w ≡ Ended (Stopped reason) q w
unfolding after_begin
turn_fails most number test deed store here p q w reason some e told =
    begun number test deed store here most p q w some e
    ∙ ap (λ t. where_holds t (λ r u. then_do (deed store here r u) (turns (most - 1) number test deed store here)) (end_with Next store here) q w) (sym told)

-- the test doesn't hold
pub turn_ends : (most number : ℕ) (test : Term) (deed : Deed) (store : Store) (here : Setting) (p q : Progress) (w : List Write)
    → 0 < most → Begins true q ≡ begin (place_of here number) p → Ok false ≡ truth (given test store here q w)
    → turns most number test deed store here p w ≡ Ended Next q w
unfolding after_begin
turn_ends most number test deed store here p q w some e told =
    begun number test deed store here most p q w some e
    ∙ ap (λ t. where_holds t (λ r u. then_do (deed store here r u) (turns (most - 1) number test deed store here)) (end_with Next store here) q w) (sym told)

-- the block is run, and the WHILE again where it ends so
pub turn_runs : (most number : ℕ) (test : Term) (deed : Deed) (store : Store) (here : Setting) (p q r : Progress) (w u : List Write) (ending : Ending)
    → 0 < most → Begins true q ≡ begin (place_of here number) p → Ok true ≡ truth (given test store here q w) → Ended ending r u ≡ deed store here q w
    → turns most number test deed store here p w ≡ then_do (Ended ending r u) (turns (most - 1) number test deed store here)
unfolding after_begin
turn_runs most number test deed store here p q r w u ending some e told done =
    begun number test deed store here most p q w some e
    ∙ ap (λ t. where_holds t (λ r u. then_do (deed store here r u) (turns (most - 1) number test deed store here)) (end_with Next store here) q w) (sym told)
    ∙ ap (λ o. then_do o (turns (most - 1) number test deed store here)) (sym done)

pub ruleset a_turn = (turn_stops, turn_fails, turn_ends, turn_runs)
