-- Grounded equations have one solution, and it is the table by rounds.
use Rattle.std.proofs.Common.{◌≡◌, ℕ, zero, suc, ◌<◌, refl, ◌∙◌, arith}
use Rattle.equations.specs.Equations.{IsGrounded, Solves, Outlasts, round, table_by_rounds}

module _ {C V : Type 0} (In : C → Type 0) (depth : C → ℕ) (right : (C → V) → C → V) (grounded : IsGrounded In depth right) where
  -- after more rounds than its depth, a cell's value stays
  pub round-stays : (none : V) (m n : ℕ) (c : C) → In c → depth c < m → depth c < n → round none right m c ≡ round none right n c
  round-stays none zero n c here below_m below_n = absurd (omega arith)
  round-stays none (suc m) zero c here below_m below_n = absurd (omega arith)
  round-stays none (suc m) (suc n) c here below_m below_n =
      grounded (round none right m) (round none right n) c here
      (λ x in_space less. round-stays none m n x in_space (omega arith) (omega arith))

  -- the table by rounds solves the equations, where each cell has more rounds than its depth
  pub table_by_rounds-solves : (none : V) (rounds : C → ℕ) → Outlasts In rounds depth → Solves In right (table_by_rounds none right rounds)
  table_by_rounds-solves none rounds enough c here = by_rounds (rounds c) refl
    where
      by_rounds : (n : ℕ) → rounds c ≡ n → round none right (rounds c) c ≡ right (table_by_rounds none right rounds) c
      by_rounds zero e = let more : depth c < rounds c = enough c here in absurd (omega arith)
      by_rounds (suc n) e =
          let more : depth c < rounds c = enough c here in
          rw e (grounded (round none right n) (table_by_rounds none right rounds) c here
          (λ x in_space less. round-stays none n (rounds x) x in_space (omega arith) (enough x in_space)))

  -- a table that solves the equations has at each cell the value after more rounds than the cell's depth
  pub solution-is_round : (none : V) (table : C → V) → Solves In right table → (n : ℕ) (c : C) → In c → depth c < n → table c ≡ round none right n c
  solution-is_round none table solves zero c here below = absurd (omega arith)
  solution-is_round none table solves (suc n) c here below =
      solves c here
      ∙ grounded table (round none right n) c here
      (λ x in_space less. solution-is_round none table solves n x in_space (omega arith))

  -- no other table does
  pub table_by_rounds-only : (none : V) (rounds : C → ℕ) → Outlasts In rounds depth
      → (table : C → V) → Solves In right table → (c : C) → In c → table c ≡ table_by_rounds none right rounds c
  table_by_rounds-only none rounds enough table solves c here = solution-is_round none table solves (rounds c) c here (enough c here)
