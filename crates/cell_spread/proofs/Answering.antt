-- Which answer a spread has.
use Rattle.std.proofs.Common.{◌≡◌, ◌≢◌, refl, sym, ap, ◌∙◌, arith, ℕ, ◌<◌, ◌≤◌, ◌⊎◌, inl, inr, Bool, true, false, ℤ, pos, List, length, Option, Some, None, Result, Ok, Err, IfOk, IfErr}
use Rattle.std.specs.Prelude.{nat_lt}
use Rattle.std.specs.Ordering.{int_eq}
use Rattle.std.proofs.lemmas.Bool.Decides.{Decides-int_eq, nat_tests}
use Rattle.std.proofs.lemmas.List.{length-map}
use Rattle.cube_space.specs.Cells.{is_leaf_cell}
use Rattle.cell_store.specs.declared.entry.Entry.{Entry}
use Rattle.rule_model.specs.BoundModel.{BoundModel}
use Rattle.rule_model.specs.Weights.{leaves_below}
use Rattle.cell_spread.specs.declared.fault.SpreadFault.{SpreadFault}
use Rattle.cell_spread.specs.declared.fault.SpreadFault.TheVariants.{IsALeaf, SpreadLimit, Weighted, RuleDerived, NothingThere, OverWrite, Memory}
use Rattle.cell_spread.specs.declared.writes.How.{How}
use Rattle.cell_spread.specs.Shares.{sum_of, shared_out}
use Rattle.cell_spread.specs.Spread.{most_spread, cells_below, part_of, parts_of, writes_of, are_in_range, is_weighted, is_ruled, refusal_of, IsAnsweredBy}
use Rattle.cell_spread.proofs.Values.{cause, refusal-is}
use Rattle.cell_spread.proofs.Walks.{among-few}

refused : (T : Type 0) (o : Option SpreadFault) (f : SpreadFault) → o ≡ Some f → IsAnsweredBy {T = T} o (Err f)
refused T o f is = rw is (inl refl)

pub no-memory : (T : Type 0) (o : Option SpreadFault) (f : SpreadFault) → f ≡ Memory → IsAnsweredBy {T = T} o (Err f)
no-memory T None f is = is
no-memory T (Some cause) f is = inr is

int-none : (z : ℤ) → z ≢ pos 0 → int_eq z (pos 0) ≡ false
int-none z some = by (int_eq z (pos 0)) refl
  where
    by : (b : Bool) → int_eq z (pos 0) ≡ b → int_eq z (pos 0) ≡ false
    by true on = absurd (some ((Decides-int_eq z (pos 0)).0 on))
    by false off = off

module _ (T : Type 0) (m : BoundModel) (entries : List Entry) (cell : ℕ) (amount : ℤ) (how : How) where
  pub a-leaf : is_leaf_cell m.space cell ≡ true → IsAnsweredBy {T = T} (refusal_of m entries cell amount how) (Err IsALeaf)
  a-leaf leaf = refused T (refusal_of m entries cell amount how) IsALeaf (refusal-is m entries cell amount how ∙ rw leaf refl)

  pub too-many : (count : ℕ) → is_leaf_cell m.space cell ≡ false → count ≡ (length (leaves_below m.space cell)) → most_spread < count → IsAnsweredBy {T = T} (refusal_of m entries cell amount how) (Err (SpreadLimit count))
  too-many count total is past =
      let many : nat_lt most_spread (length (leaves_below m.space cell)) ≡ true = above most_spread (length (leaves_below m.space cell)) (omega (arith, is, past)) in
      refused T (refusal_of m entries cell amount how) (SpreadLimit count) (refusal-is m entries cell amount how ∙ rw (total, many) (ap (λ k. Some (SpreadLimit k)) (sym is)))
    where
      above : (a b : ℕ) → a < b → nat_lt a b ≡ true
      above a b less = grind (arith, nat_tests, less)

  module _ (total : is_leaf_cell m.space cell ≡ false) (few : (length (leaves_below m.space cell)) ≤ most_spread) where
    fewer : nat_lt most_spread (length (leaves_below m.space cell)) ≡ false
    fewer = upto most_spread (length (leaves_below m.space cell)) few
      where
        upto : (a b : ℕ) → b ≤ a → nat_lt a b ≡ false
        upto a b low = grind (arith, nat_tests, low)

    pub heavy : (f : SpreadFault) → (f ≡ Memory) ⊎ ((f ≡ Weighted) × (is_weighted m.space cell ≡ true)) → IsAnsweredBy {T = T} (refusal_of m entries cell amount how) (Err f)
    heavy f (inl memory) = no-memory T (refusal_of m entries cell amount how) f memory
    heavy f (inr is) =
        let on = is.1 in
        refused T (refusal_of m entries cell amount how) f (refusal-is m entries cell amount how ∙ rw (total, fewer, on) (ap Some (sym is.0)))

    module _ (plain : is_weighted m.space cell ≡ false) where
      pub ruled : is_ruled m cell ≡ true → IsAnsweredBy {T = T} (refusal_of m entries cell amount how) (Err RuleDerived)
      ruled on = refused T (refusal_of m entries cell amount how) RuleDerived (refusal-is m entries cell amount how ∙ rw (total, fewer, plain, on) refl)

      module _ (free : is_ruled m cell ≡ false) where
        pub shared : (r : Result T SpreadFault) → IfOk r (λ _. sum_of (parts_of m.space entries how cell) ≢ pos 0) → IfOk r (λ _. are_in_range (shared_out amount (parts_of m.space entries how cell)) ≡ true)
            → IfErr r (λ f. (f ≡ Memory) ⊎ (((f ≡ NothingThere) × (sum_of (parts_of m.space entries how cell) ≡ pos 0)) ⊎ ((f ≡ OverWrite) × (sum_of (parts_of m.space entries how cell) ≢ pos 0) × (are_in_range (shared_out amount (parts_of m.space entries how cell)) ≡ false))))
            → IsAnsweredBy (refusal_of m entries cell amount how) r
        unfolding writes_of
        shared (Ok value) some in_range fault =
            let off = int-none (sum_of (parts_of m.space entries how cell)) some in
            let none : (refusal_of m entries cell amount how) ≡ None = refusal-is m entries cell amount how ∙ rw (total, fewer, plain, free, off, in_range) refl in
            rw none tt
        shared (Err f) some in_range (inl memory) = no-memory T (refusal_of m entries cell amount how) f memory
        shared (Err f) some in_range (inr (inl is)) =
            let on : int_eq (sum_of (parts_of m.space entries how cell)) (pos 0) ≡ true = (Decides-int_eq (sum_of (parts_of m.space entries how cell)) (pos 0)).1 is.1 in
            refused T (refusal_of m entries cell amount how) f (refusal-is m entries cell amount how ∙ rw (total, fewer, plain, free, on) (ap Some (sym is.0)))
        shared (Err f) some in_range (inr (inr is)) =
            let off = int-none (sum_of (parts_of m.space entries how cell)) is.1 in
            let out = is.2 in
            refused T (refusal_of m entries cell amount how) f (refusal-is m entries cell amount how ∙ rw (total, fewer, plain, free, off, out) (ap Some (sym is.0)))

pub parts-few : (m : BoundModel) (entries : List Entry) (cell : ℕ) (how : How) (count : ℕ) → count ≡ length (leaves_below m.space cell) → count ≤ most_spread → length (parts_of m.space entries how cell) ≤ most_spread
parts-few m entries cell how count is few =
    let less = among-few (part_of how entries) (cells_below m.space cell) in
    let same = length-map (leaves_below m.space cell) (λ (pair : ℕ × ℤ). pair.0) in
    omega (arith, less, same, is, few)
