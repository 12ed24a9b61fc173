-- How many turns a WHILE may have doesn't matter, if they are no fewer than the executions that are left.
use Rattle.std.proofs.Common.{◌≡◌, ◌≤◌, ℕ, zero, suc, Bool, true, false, List, map, Result, Ok, Err, refl, sym, ap, ◌∙◌, arith}
use Rattle.script_bound.specs.declared.term.Term.{Term}
use Rattle.script_bound.specs.declared.statement.Case.TheFolds.{fold-roll-Statement}
use Rattle.script_bound.specs.declared.statement.Case.TheOpen.{Statement-F}
use Rattle.script_bound.specs.declared.statement.Statement.{Statement}
use Rattle.script_bound.specs.declared.statement.Statement.TheVariants.{While, rolls-While}
use Rattle.script_values.specs.declared.load_reason.LoadReason.{LoadReason}
use Rattle.script_values.specs.declared.load_reason.LoadReason.TheVariants.{StepLimit}
use Rattle.script_values.specs.Cells.{Store, Write}
use Rattle.script_values.specs.Values.{truth}
use Rattle.script_run.specs.declared.ending.Ending.TheVariants.{Next, Skipped, Broken, Stopped}
use Rattle.script_run.specs.declared.execution_place.ExecutionPlace.{ExecutionPlace}
use Rattle.script_run.specs.Setting.{Setting, Progress}
use Rattle.script_run.specs.Meaning.{Outcome, Ended, Doing, Deed, CaseDeed, begun_with, once, place_of, given, where_holds, then_do, end_with, turns, block_of, executed, case_step, statement_step, deed_of}
use Rattle.script_laws.specs.Laws.{test_and_again}
use Rattle.script_run.proofs.Chains.{IsChain, Reaches, statements_steady}

abbrev Falls : Progress → List Write → Progress → List Write → Type 0
Falls p w q v = q.left ≤ p.left

falls : (store : Store) → IsChain store Falls
falls store = record {
  same = λ p w. omega arith;
  on = λ p q r w v u first second. omega (arith, first, second);
  begins = λ p w place left is. omega (arith, is);
  sets = λ p w place value. omega arith;
  writes = λ p w u cube elements value is. omega arith;
  zeros = λ p w u cube elements is. omega arith;
}

module _ (number : ℕ) (test : Term) (statements : List Statement) (store : Store) (here : Setting) where
  body_falls : (p : Progress) (w : List Write) → Reaches store Falls (falls store) p w (block_of statements store here p w)
  body_falls p w = statements_steady store Falls (falls store) statements here p w

  -- what comes after the block is the same where it is so with no more executions left
  then_like : (q : Progress) (w : List Write) (o : Outcome) (go other : Doing) → Reaches store Falls (falls store) q w o
      → ((r : Progress) (u : List Write) → r.left ≤ q.left → go r u ≡ other r u) → then_do o go ≡ then_do o other
  then_like q w (Ended Next r u) go other less same = same r u less
  then_like q w (Ended Skipped r u) go other less same = refl
  then_like q w (Ended Broken r u) go other less same = refl
  then_like q w (Ended (Stopped reason) r u) go other less same = refl

  abbrev after : Doing → Doing
  after go q v =
      where_holds (truth (given test store here q v)) (λ r u. then_do (block_of statements store here r u) go) (end_with Next store here) q v

  holds_like : (t : Result Bool LoadReason) (q : Progress) (w : List Write) (go other : Doing)
      → ((r : Progress) (u : List Write) → r.left ≤ q.left → go r u ≡ other r u)
      → where_holds t (λ r u. then_do (block_of statements store here r u) go) (end_with Next store here) q w
      ≡ where_holds t (λ r u. then_do (block_of statements store here r u) other) (end_with Next store here) q w
  holds_like (Ok true) q w go other same = then_like q w (block_of statements store here q w) go other (body_falls q w) same
  holds_like (Ok false) q w go other same = refl
  holds_like (Err reason) q w go other same = refl

  abbrev turning : ℕ → Doing
  turning most p w = turns most number test (block_of statements) store here p w

  abbrev next : Progress → ℕ → Progress
  next p left = record { variables = p.variables; left = left; last = place_of here number; rejects = p.rejects }

  none_left : (most : ℕ) (p : Progress) (w : List Write) → p.left ≡ zero → turning most p w ≡ Ended (Stopped StepLimit) p w
  none_left zero p w is = refl
  none_left (suc most) p w is = ap (λ n. once (begun_with n (place_of here number) p) w (after (turning most))) is

  one_left : (most left : ℕ) (p : Progress) (w : List Write) → p.left ≡ suc left → turning (suc most) p w ≡ after (turning most) (next p left) w
  one_left most left p w is = ap (λ n. once (begun_with n (place_of here number) p) w (after (turning most))) is

  same_turns : (a b : ℕ) (p : Progress) (w : List Write) → p.left ≤ a → p.left ≤ b → turning a p w ≡ turning b p w
  same_turns zero b p w low high =
      let none : p.left ≡ zero = omega (arith, low) in
      none_left zero p w none ∙ sym (none_left b p w none)
  same_turns (suc a) zero p w low high =
      let none : p.left ≡ zero = omega (arith, high) in
      none_left (suc a) p w none ∙ sym (none_left zero p w none)
  same_turns (suc a) (suc b) p w low high = by p.left refl (same_turns a b)
    where
      by : (left : ℕ) → p.left ≡ left → ((r : Progress) (u : List Write) → r.left ≤ a → r.left ≤ b → turning a r u ≡ turning b r u)
          → turning (suc a) p w ≡ turning (suc b) p w
      by zero is same = none_left (suc a) p w is ∙ sym (none_left (suc b) p w is)
      by (suc left) is same =
          one_left a left p w is
          ∙ holds_like (truth (given test store here (next p left) w)) (next p left) w (turning a) (turning b)
          (λ r u less. same r u (omega (arith, less, is, low)) (omega (arith, less, is, high)))
          ∙ sym (one_left b left p w is)

  whole : (p : Progress) (w : List Write) → deed_of (While number test statements) store here p w ≡ turning p.left p w
  whole p w =
      ap (λ s. deed_of s store here p w) (sym (rolls-While number test statements))
      ∙ ap (λ deed. deed store here p w) (fold-roll-Statement CaseDeed Deed case_step statement_step (Statement-F.While number test statements))

  pub again : (p : Progress) (w : List Write)
      → deed_of (While number test statements) store here p w ≡ test_and_again number test statements (deed_of (While number test statements)) store here p w
  unfolding executed
  again p w = by p.left refl
    where
      by : (left : ℕ) → p.left ≡ left → deed_of (While number test statements) store here p w ≡ test_and_again number test statements (deed_of (While number test statements)) store here p w
      by zero is =
          whole p w ∙ none_left p.left p w is
          ∙ sym (ap (λ n. once (begun_with n (place_of here number) p) w (after (deed_of (While number test statements) store here))) is)
      by (suc left) is =
          whole p w ∙ ap (λ n. turning n p w) is ∙ one_left left left p w is
          ∙ holds_like (truth (given test store here (next p left) w)) (next p left) w (turning left) (deed_of (While number test statements) store here)
          (λ r u less. same_turns left r.left r u less (omega arith) ∙ sym (whole r u))
          ∙ sym (ap (λ n. once (begun_with n (place_of here number) p) w (after (deed_of (While number test statements) store here))) is)
