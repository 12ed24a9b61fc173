-- What a memory tells of a read.
use Rattle.std.proofs.Common.{◌≡◌, refl, sym, ◌∙◌, subst, arith, ℕ, inl, inr, true, false, Option, Some, None}
use Rattle.std.specs.Prelude.{IsSome, is_some, Result, Ok, Err, MatchResult}
use Rattle.std.specs.declared.alloc.AllocError.{AllocError}
use Rattle.cell_versions.specs.Versions.{NumberedVersion}
use Rattle.cube_fixed.specs.declared.value.Value.{Value}
use Rattle.cube_space.specs.Cells.{is_leaf_cell}
use Rattle.memo_cells.specs.declared.answers.Look.{Look}
use Rattle.memo_cells.specs.declared.answers.Look.TheVariants as look
use Rattle.memo_cells.specs.declared.answers.Kept.{Kept}
use Rattle.memo_cells.specs.declared.answers.Kept.TheVariants as kept
use Rattle.memo_cells.specs.Knowledge.{Knowledge, Knows, Grew, LooksAt, KeepsAt, NamesOther, is_value}
use Rattle.rule_model.specs.Governing.{governing_from}
use Rattle.cell_values.specs.Reading.{IsWorkedOut, IsKept, MayCount, IsPlainTotal}

pub no-value : (l : Look) → ((v : Value) → l ≡ look.Value v → ⊥) → is_value l ≡ false
no-value (look.Value v) none = absurd (none v refl)
no-value look.Empty none = refl
no-value (look.Other other) none = refl

pub not-held : (o : Option Value) → ((a : Value) → o ≡ Some a → ⊥) → is_some o ≡ true → ⊥
not-held None none held = let clash : false ≡ true = held in cc
not-held (Some a) none held = none a refl

-- what isn't known may be counted
pub may-count : (before mid after : Knowledge) (c : ℕ) (l : Look) → LooksAt before mid c l → Grew mid after → is_value l ≡ false → MayCount before after c
may-count before mid after c (look.Value v) learned grew none = absurd (cc)
may-count before mid after c look.Empty learned grew none = let more = grew.zeros c in inl (omega (arith, learned, more))
may-count before mid after c (look.Other other) learned grew none = inr (other, grew.names c other learned.1)

pub not-known : (before : Knowledge) (c : ℕ) (l : Look) → (Knows before c → is_value l ≡ true) → is_value l ≡ false → Knows before c → ⊥
not-known before c l known none knows = let clash : true ≡ false = sym (known knows) ∙ none in cc

pub is-kept : (after : Knowledge) (c : ℕ) (r : Result Kept AllocError) → MatchResult r (KeepsAt after c) (λ _. NamesOther after c) → IsKept after c
is-kept after c (Ok kept.Here) learned = inl learned
is-kept after c (Ok (kept.Other other)) learned = inr (other, learned.1)
is-kept after c (Err e) named = inr named

-- an ungoverned leaf cell isn't worked out, nor is it a total
pub not-worked : (v : NumberedVersion) (c : ℕ) → governing_from v.model c 0 ≡ None → is_leaf_cell v.model.space c ≡ true → IsWorkedOut v c → ⊥
not-worked v c none leaf (inl some) = let clash : false ≡ true = subst IsSome none some in cc
not-worked v c none leaf (inr total) = let clash : true ≡ false = sym leaf ∙ total in cc

pub no-plain : (v : NumberedVersion) (c k : ℕ) → governing_from v.model c 0 ≡ Some k → IsPlainTotal v c → ⊥
no-plain v c k governs plain = let clash : Some k ≡ None = sym governs ∙ plain.ungoverned in cc
