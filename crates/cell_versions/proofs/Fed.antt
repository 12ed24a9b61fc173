-- What is fed rests on which cells are stored that feed others, and not on their numbers.
use Rattle.std.proofs.Common.{ℕ, zero, suc, List, Contains, ◌⊎◌, inl, inr, ⊎_elim, subst, sym}
use Rattle.std.specs.Prelude.{IsSome}
use Rattle.cell_store.specs.declared.entry.Entry.{Entry}
use Rattle.cell_store.specs.Entries.{cells_of}
use Rattle.rule_laws.specs.Feeding.{Feeds, IsFed, Leads}
use Rattle.rule_laws.specs.RuleSystem.{RuleSystem, Stored}
use Rattle.rule_model.specs.BoundModel.{BoundModel}
use Rattle.rule_model.specs.System.{system_of}
use Rattle.stored_laws.specs.Stored.{stored_in}
use Rattle.feed_map.specs.FedCells.{AreFedCells}
use Rattle.feed_map.proofs.FedFacts.{entry-stored, stored-entry}
use Rattle.cell_versions.specs.Inside.Changes.{FeedsNone}

-- a chain begins with a feed from its first cell
begins : (w : RuleSystem) (n a c : ℕ) → Leads w (suc n) a c → (fed : ℕ) × Feeds w a fed
begins w zero a c led = (c, subst (λ x. Feeds w x c) (sym led.1) led.2)
begins w (suc n) a c led = begins w n a led.0 led.1

-- what is fed stays so where each stored cell is stored still, or feeds no other
pub fed_still : (w : RuleSystem) (s t : Stored) → ((x : ℕ) → IsSome (s x) → IsSome (t x) ⊎ ((fed : ℕ) → Feeds w x fed → ⊥)) → (c : ℕ) → IsFed w s c → IsFed w t c
fed_still w s t more c (inl dense) = inl dense
fed_still w s t more c (inr (n, a, inr dense, led)) = inr (n, a, inr dense, led)
fed_still w s t more c (inr (n, a, inl own, led)) =
    ⊎_elim (λ still. inr (n, a, inl (own.0, still), led)) (λ none. (let first = begins w n a c led in absurd (none first.0 first.1))) (more a own.1)

pub AreFedCells-alike : (m : BoundModel) (es fs : List Entry) (fed : List ℕ)
    → ((c : ℕ) → (Contains (cells_of es) c → Contains (cells_of fs) c ⊎ FeedsNone m c) × (Contains (cells_of fs) c → Contains (cells_of es) c))
    → AreFedCells m es fed → AreFedCells m fs fed
AreFedCells-alike m es fs fed same are = record {
  rising = are.rising;
  fed = λ c. (
    λ has. fed_still (system_of m) (stored_in es) (stored_in fs) (λ x some. ⊎_elim (λ has. inl (entry-stored fs x has)) (λ none. inr none) ((same x).0 (stored-entry es x some))) c ((are.fed c).0 has),
    λ is. (are.fed c).1 (fed_still (system_of m) (stored_in fs) (stored_in es) (λ x some. inl (entry-stored es x ((same x).1 (stored-entry fs x some)))) c is),
  );
}
