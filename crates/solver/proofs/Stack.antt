-- The frames that wait, the first one at the bottom: each waits for the answer to the question of the one above it.
use Rattle.std.proofs.Common.{◌≡◌, refl, subst, arith, ℕ, suc, ◌+◌, List, [], ◌∷◌, ◌++◌}
use Rattle.solver.specs.declared.machine.Waiting.{Waiting}

module _ {Q F : Type 0} (waits : F → Q → Q → Type 0) (left : F → Q → ℕ) where
  -- from the root question the waiting frames lead to the one that is wanted
  abbrev pub Stacked : Q → List (Waiting Q F) → Q → Type 0
  Stacked root [] wanted = root ≡ wanted
  Stacked root (w ∷ ws) wanted = (root ≡ w.question) × ((next : Q) × waits w.frame w.question next × Stacked next ws wanted)

  -- what the waiting frames have left, and one for each
  abbrev pub left_below : List (Waiting Q F) → ℕ
  left_below [] = 0
  left_below (w ∷ ws) = suc (left w.frame w.question) + left_below ws

  pub Stacked-push : (root : Q) (ws : List (Waiting Q F)) (w : Waiting Q F) (next : Q) → Stacked root ws w.question → waits w.frame w.question next → Stacked root (ws ++ (w ∷ [])) next
  Stacked-push root [] w next is waiting = (is, (next, waiting, refl))
  Stacked-push root (v ∷ ws) w next is waiting = (is.0, (is.1.0, is.1.1, Stacked-push is.1.0 ws w next is.1.2 waiting))

  pub Stacked-pop : (root : Q) (ws : List (Waiting Q F)) (w : Waiting Q F) (wanted : Q) → Stacked root (ws ++ (w ∷ [])) wanted → Stacked root ws w.question × waits w.frame w.question wanted
  Stacked-pop root [] w wanted is = (is.0, subst (waits w.frame w.question) is.1.2 is.1.1)
  Stacked-pop root (v ∷ ws) w wanted is = let (down, waiting) = Stacked-pop is.1.0 ws w wanted is.1.2 in ((is.0, (is.1.0, is.1.1, down)), waiting)

  pub left_below-push : (ws : List (Waiting Q F)) (w : Waiting Q F) → left_below (ws ++ (w ∷ [])) ≡ left_below ws + suc (left w.frame w.question)
  left_below-push [] w = omega arith
  left_below-push (v ∷ ws) w = let more = left_below-push ws w in omega arith
