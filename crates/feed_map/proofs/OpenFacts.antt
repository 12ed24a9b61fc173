-- Totals that were opened: their leaf cells are known or found.
use Rattle.std.proofs.Common.{◌≡◌, sym, subst, ℕ, ◌<◌, ◌≤◌, inl, inr, ⊎_elim, List, [], ◌∷◌, length, Err}
use Rattle.std.specs.Prelude.{Result, IsErrAnd, OnOk}
use Rattle.std.specs.List.{Contains}
use Rattle.std.proofs.lemmas.Bool.{cases_lt}
use Rattle.std.proofs.lemmas.Result.{err_from_is_err_and}
use Rattle.cell_store.specs.declared.entry.Entry.{Entry}
use Rattle.cell_store.specs.Cells.{IsUnion}
use Rattle.rule_laws.specs.Feeding.{leaves_of}
use Rattle.rule_model.specs.BoundModel.{BoundModel}
use Rattle.rule_model.specs.System.{system_of}
use Rattle.feed_map.specs.declared.fault.FedFault.{FedFault}
use Rattle.feed_map.specs.declared.growth.Growth.{Growth}
use Rattle.feed_map.specs.declared.reached.Reached.{Reached}
use Rattle.feed_map.specs.FedCells.{HaveLeaves}
use Rattle.feed_map.specs.Inside.Gains.{HasCell, Gains, few_leaves, most_totals}
use Rattle.feed_map.specs.Inside.Follows.{AreOpened, IsReach, IsVerdict}
use Rattle.feed_map.proofs.GainFacts.{grows-none, on-ok}
use Rattle.feed_sources.proofs.Members.{front-or-behind, none-there}

module _ (m : BoundModel) (totals : List ℕ) where
  -- nothing that was found is lost
  pub opened-still : (a b : Growth) → ((c : ℕ) → HasCell a c → HasCell b c) → AreOpened m totals a → AreOpened m totals b
  opened-still a b kept opened t c has under = kept c (opened t c has under)

  pub opened-gains : (P : ℕ → Type 0) (a b : Growth) → Gains P a b → AreOpened m totals a → AreOpened m totals b
  opened-gains P a b gains = opened-still a b gains.grows.kept

  pub opened-result : {T : Type 0} (r : Result T FedFault) (P : ℕ → Type 0) (a b : Growth) → AreOpened m totals a → OnOk r (Gains P a b) → OnOk r (AreOpened m totals b)
  opened-result r P a b opened = on-ok r (Gains P a b) (AreOpened m totals b) (λ gains. opened-gains P a b gains opened)

  -- in the end all that was found is known
  pub opened-known : (g : Growth) → AreOpened m totals g → g.found.items ≡ [] → HaveLeaves m totals g.known
  opened-known g opened none t c has under = elim (opened t c has under) [
    | inl known ↦ known
    | inr found ↦ absurd (none-there c (subst (λ (cells : List ℕ). Contains cells c) none found))
  ]

  -- a total that was opened adds nothing
  pub gains-known : (g : Growth) (total : ℕ) → AreOpened m totals g → Contains totals total → Gains (Contains (leaves_of (system_of m) total)) g g
  gains-known g total opened has = record { grows = grows-none g; only = λ c known. inl known; each = λ c under. opened total c has under }

pub none-opened : (m : BoundModel) (totals : List ℕ) (g : Growth) → totals ≡ [] → AreOpened m totals g
none-opened m totals g none t c has = absurd (none-there t (subst (λ (cells : List ℕ). Contains cells t) none has))

-- what was opened before
pub opened-before : (m : BoundModel) (fed totals after : List ℕ) (g : Growth) → HaveLeaves m totals fed → IsUnion totals [] after → IsUnion fed [] g.known → AreOpened m after g
opened-before m fed totals after g have same union t c has under =
    let before : Contains totals t = elim ((same.cells t).0 has) [ inl is ↦ is | inr none ↦ absurd (none-there t none) ] in
    inl ((union.cells c).1 (inl (have t c before under)))

-- one total more was opened, and is kept where it has many leaf cells and there is room
pub opened-more : (m : BoundModel) (before after : List ℕ) (total leaves : ℕ) (g : Growth) → AreOpened m before g → ((c : ℕ) → Contains (leaves_of (system_of m) total) c → HasCell g c)
    → (few_leaves < leaves → length before < most_totals → IsUnion before (total ∷ []) after) → (leaves ≤ few_leaves → after ≡ before) → (most_totals ≤ length before → after ≡ before) → AreOpened m after g
opened-more m before after total leaves g opened all kept few full =
    ⊎_elim (λ many. ⊎_elim (λ room. with_more (kept many room)) (λ past. same (full past)) (cases_lt (length before) most_totals)) (λ short. same (few short)) (cases_lt few_leaves leaves)
  where
    same : after ≡ before → AreOpened m after g
    same is = subst (λ (totals : List ℕ). AreOpened m totals g) (sym is) opened

    with_more : IsUnion before (total ∷ []) after → AreOpened m after g
    with_more union t c has under = elim ((union.cells t).0 has) [
      | inl old ↦ opened t c old under
      | inr new ↦ elim (front-or-behind total [] t new) [
        | inl same ↦ all c (subst (λ (k : ℕ). Contains (leaves_of (system_of m) k) c) (sym same) under)
        | inr none ↦ absurd (none-there t none)
      ]
    ]

-- what a `?` hands on
pub reach-of : (m : BoundModel) (entries : List Entry) (r : Result Reached FedFault) (fault : FedFault) → IsErrAnd r (λ e. e ≡ fault) → IsVerdict m entries (Err fault) → IsReach m entries r
reach-of m entries r fault gives holds =
    let p = err_from_is_err_and r gives in
    rw (p.1, p.2) holds
