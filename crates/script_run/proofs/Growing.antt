-- The writes of a load only grow while its statements run.
use Rattle.std.proofs.Common.{◌≡◌, ℕ, pos, List, [], ◌∷◌, ◌++◌, length, take, Option, None, Some, Ok, refl, sym, ap, ◌∙◌, subst}
use Rattle.std.proofs.lemmas.List.{append-nil, append_assoc, take_at}
use Rattle.cube_fixed.specs.declared.value.Value.{Value}
use Rattle.cube_fixed.specs.declared.value.Value.TheVariants.{Num, Over}
use Rattle.script_bound.specs.declared.statement.Statement.{Statement}
use Rattle.script_values.specs.declared.load_reason.LoadReason.{LoadReason}
use Rattle.script_values.specs.Cells.{Store, Write, unless, unless_refused, with_value, with_cell, with_zeros, zeroed_at}
use Rattle.script_run.specs.declared.ending.Ending.{Ending}
use Rattle.script_run.specs.Setting.{Setting, Progress}
use Rattle.script_run.specs.Meaning.{Outcome, Ended, block_of}
use Rattle.script_run.proofs.Chains.{IsChain, Reaches, statements_steady}

-- the writes with some behind them
abbrev Grows : List Write → List Write → Type 0
Grows w v = (more : List Write) × (v ≡ w ++ more)

grows_on : (w v u : List Write) → Grows w v → Grows v u → Grows w u
grows_on w v u first second =
    (first.0 ++ second.0, second.1 ∙ ap (λ (x : List Write). x ++ second.0) first.1 ∙ append_assoc w first.0 second.0)

grows_same : (w : List Write) → Grows w w
grows_same w = ([], sym (append-nil w))

one_more : (w u : List Write) (write : Write) (reason : Option LoadReason) → unless reason (w ++ write ∷ []) ≡ Ok u → Grows w u
one_more w u write None is = (write ∷ [], cc is)
one_more w u write (Some reason) is = absurd (cc is)

with_value_grows : (store : Store) (w u : List Write) (cell : ℕ) (value : Value) (closed : Option LoadReason)
    → with_value store w cell value closed ≡ Ok u → Grows w u
with_value_grows store w u cell Over None is = absurd (cc is)
with_value_grows store w u cell (Num millionths) None is =
    one_more w u (cell, millionths) (store.full (w ++ (cell, millionths) ∷ [])) is
with_value_grows store w u cell value (Some reason) is = absurd (cc is)

with_cell_grows : (store : Store) (w u : List Write) (value : Value) (cell : Option ℕ) → with_cell store w value cell ≡ Ok u → Grows w u
with_cell_grows store w u value (Some cell) is = with_value_grows store w u cell value (store.closed cell) is
with_cell_grows store w u value None is = absurd (cc is)

with_zeros_grows : (store : Store) (w u : List Write) (cells : List ℕ) → with_zeros store w cells ≡ Ok u → Grows w u
with_zeros_grows store w u [] is = ([], cc (is, append-nil w))
with_zeros_grows store w u (cell ∷ cells) is =
    let next = w ++ (cell, pos 0) ∷ [] in
    by (store.full next) is (with_zeros_grows store next u cells)
  where
    by : (reason : Option LoadReason) → unless_refused reason (with_zeros store (w ++ (cell, pos 0) ∷ []) cells) ≡ Ok u
        → (with_zeros store (w ++ (cell, pos 0) ∷ []) cells ≡ Ok u → Grows (w ++ (cell, pos 0) ∷ []) u) → Grows w u
    by None is grown = grows_on w (w ++ (cell, pos 0) ∷ []) u ((cell, pos 0) ∷ [], refl) (grown is)
    by (Some reason) is grown = absurd (cc is)

zeroed_grows : (store : Store) (w u : List Write) (cell : Option ℕ) → zeroed_at store w cell ≡ Ok u → Grows w u
zeroed_grows store w u (Some cell) is = with_zeros_grows store w u (store.cleared w cell) is
zeroed_grows store w u None is = absurd (cc is)

-- and no block changes which records were passed over
abbrev Along : Progress → List Write → Progress → List Write → Type 0
Along p w q v = Grows w v × (q.rejects ≡ p.rejects)

chain : (store : Store) → IsChain store Along
chain store = record {
  same = λ p w. (grows_same w, refl);
  on = λ p q r w v u first second. (grows_on w v u first.0 second.0, second.1 ∙ first.1);
  begins = λ p w place left is. (grows_same w, refl);
  sets = λ p w place value. (grows_same w, refl);
  writes = λ p w u cube elements value is. (with_cell_grows store w u value (store.cell cube elements) is, refl);
  zeros = λ p w u cube elements is. (zeroed_grows store w u (store.cell cube elements) is, refl);
}

back_from : (store : Store) (p q : Progress) (w u : List Write) (ending : Ending) (o : Outcome)
    → Reaches store Along (chain store) p w o → Ended ending q u ≡ o → (take (length w) u ≡ w) × (q.rejects ≡ p.rejects)
back_from store p q w u ending o reached is =
    let along : Along p w q u = subst (Reaches store Along (chain store) p w) (sym is) reached in
    (ap (take (length w)) along.0.1 ∙ take_at w along.0.0 (length w) refl, along.1)

-- a block leaves the writes and the records passed over that were there before it
pub left_by_block : (store : Store) (statements : List Statement) (here : Setting) (p q : Progress) (w u : List Write) (ending : Ending)
    → Ended ending q u ≡ block_of statements store here p w → (take (length w) u ≡ w) × (q.rejects ≡ p.rejects)
left_by_block store statements here p q w u ending is =
    back_from store p q w u ending (block_of statements store here p w) (statements_steady store Along (chain store) statements here p w) is
