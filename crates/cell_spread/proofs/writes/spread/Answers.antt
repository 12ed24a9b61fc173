use Rattle.std.proofs.Common.{◌≡◌, ◌≢◌, ◌∙◌, ◌⊎◌, sym, ap, subst, arith, true, false, ℕ, ℤ, pos, List, length, IfOk, IfErr}
use Rattle.std.proofs.lemmas.Result.{err_from_is_err_and}
use Rattle.cube_space.specs.Layout.{Layout}
use Rattle.cube_space.specs.Cells.{is_leaf_cell}
use Rattle.cell_spread.specs.declared.fault.SpreadFault.TheVariants.{Memory, NothingThere, OverWrite}
use Rattle.cell_spread.specs.Shares.{sum_of, shared_out}
use Rattle.cell_spread.specs.Spread.{are_in_range, writes_of}
use Rattle.cell_spread.proofs.Answering.{a-leaf, too-many, heavy, ruled, shared, parts-few}
use Rattle.cell_spread.proofs.writes.spread.Goals as goal

pub returns-then-is_leaf-clause-answered : goal.returns-then-is_leaf-clause-answered
returns-then-is_leaf-clause-answered c =
    a-leaf _ c.args.model.now c.args.store.now c.args.cell c.args.amount c.args.how
    (ap (λ (s : Layout). is_leaf_cell s c.args.cell) (sym c.space.ensures.space) ∙ sym c.is_leaf.ensures ∙ c.if-is_leaf.true)

pub returns-then-count-gt-MAX_SPREAD-clause-answered :
    goal.returns-then-count-gt-MAX_SPREAD-clause-answered
returns-then-count-gt-MAX_SPREAD-clause-answered c =
    too-many _ c.args.model.now c.args.store.now c.args.cell c.args.amount c.args.how c.leaf_count-count.result
    (ap (λ (s : Layout). is_leaf_cell s c.args.cell) (sym c.space.ensures.space) ∙ sym c.is_leaf.ensures ∙ c.if-is_leaf.false) c.leaf_count-count.ensures c.if-count-gt-MAX_SPREAD.true

pub returns-in_err-parts-clause-answered : goal.returns-in_err-parts-clause-answered
returns-in_err-parts-clause-answered c =
    let p = err_from_is_err_and c.from_residual.result c.from_residual.ensures.1 in
    rw (p.1, p.2) (heavy _ c.args.model.now c.args.store.now c.args.cell c.args.amount c.args.how
    (ap (λ (s : Layout). is_leaf_cell s c.args.cell) (sym c.space.ensures.space) ∙ sym c.is_leaf.ensures ∙ c.if-is_leaf.false)
    (let e = c.leaf_count-count.ensures in let f = c.if-count-gt-MAX_SPREAD.false in omega (arith, e, f)) c.in_err-parts.field-0.0 c.in_err-parts.ensures.weighted)

pub returns-then-is_ruled-clause-answered : goal.returns-then-is_ruled-clause-answered
returns-then-is_ruled-clause-answered c =
    ruled _ c.args.model.now c.args.store.now c.args.cell c.args.amount c.args.how
    (ap (λ (s : Layout). is_leaf_cell s c.args.cell) (sym c.space.ensures.space) ∙ sym c.is_leaf.ensures ∙ c.if-is_leaf.false)
    (let e = c.leaf_count-count.ensures in let f = c.if-count-gt-MAX_SPREAD.false in omega (arith, e, f)) c.in_ok-parts.ensures.plain (sym c.is_ruled.ensures ∙ c.if-is_ruled.true)

pub share_out-requires-clause-few : goal.share_out-requires-clause-few
share_out-requires-clause-few c =
    let few = parts-few c.args.model.now c.args.store.now c.args.cell c.args.how c.leaf_count-count.result c.leaf_count-count.ensures c.if-count-gt-MAX_SPREAD.false in
    let own = ap length (c.deref.ensures.value ∙ c.in_ok-parts.ensures.parts) in
    omega (arith, few, own)

pub returns-clause-writes : goal.returns-clause-writes
unfolding writes_of
returns-clause-writes c =
    subst (λ (ps : List (ℕ × ℤ)). IfOk c.share_out.result (λ writes. writes.items ≡ shared_out c.args.amount ps)) (c.deref.ensures.value ∙ c.in_ok-parts.ensures.parts) c.share_out.ensures.shares

pub returns-clause-answered : goal.returns-clause-answered
returns-clause-answered c =
    let own = c.deref.ensures.value ∙ c.in_ok-parts.ensures.parts in
    shared _ c.args.model.now c.args.store.now c.args.cell c.args.amount c.args.how
    (ap (λ (s : Layout). is_leaf_cell s c.args.cell) (sym c.space.ensures.space) ∙ sym c.is_leaf.ensures ∙ c.if-is_leaf.false)
    (let e = c.leaf_count-count.ensures in let f = c.if-count-gt-MAX_SPREAD.false in omega (arith, e, f)) c.in_ok-parts.ensures.plain (sym c.is_ruled.ensures ∙ c.if-is_ruled.false)
    c.share_out.result
    (subst (λ (ps : List (ℕ × ℤ)). IfOk c.share_out.result (λ _. sum_of ps ≢ pos 0)) own c.share_out.ensures.there)
    (subst (λ (ps : List (ℕ × ℤ)). IfOk c.share_out.result (λ _. are_in_range (shared_out c.args.amount ps) ≡ true)) own c.share_out.ensures.within)
    (subst (λ (ps : List (ℕ × ℤ)). IfErr c.share_out.result (λ f. (f ≡ Memory) ⊎ (((f ≡ NothingThere) × (sum_of ps ≡ pos 0))
    ⊎ ((f ≡ OverWrite) × (sum_of ps ≢ pos 0) × (are_in_range (shared_out c.args.amount ps) ≡ false))))) own c.share_out.ensures.fault)
