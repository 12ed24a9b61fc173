-- Cells that chains of feeds lead to, while they are gathered.
use Rattle.std.proofs.Common.{◌≡◌, sym, ap, ◌∙◌, subst, arith, ℕ, zero, suc, ◌+◌, ◌<◌, ◌≤◌, ◌⊎◌, inl, inr, List, [], ◌∷◌, ◌++◌, length, take, Option, Some, None, append-nil, append_assoc}
use Rattle.std.specs.Prelude.{IfSome, slice_get}
use Rattle.std.specs.List.{Contains}
use Rattle.std.proofs.lemmas.List.{take_more, take-append-le}
use Rattle.std.proofs.lemmas.List.Elements.{Contains-append_left, Contains-push, Contains-push_cases}
use Rattle.std.proofs.lemmas.Option.{slice_get_within, get_or_from_slice_get}
use Rattle.rule_laws.specs.RuleSystem.{RuleSystem}
use Rattle.rule_laws.specs.Feeding.{Feeds, Leads}
use Rattle.feed_chains.specs.Inside.LedCells.{Adds}

-- what was there is there still
pub adds-still : (P : ℕ → Type 0) (xs ys : List ℕ) → Adds P xs ys → (c : ℕ) → Contains xs c → Contains ys c
adds-still P xs ys adds c has = subst (λ (cells : List ℕ). Contains cells c) (sym adds.kept.1) (Contains-append_left xs adds.kept.0 c has)

pub adds-none : (P : ℕ → Type 0) (xs ys : List ℕ) → ys ≡ xs → ((c : ℕ) → P c → ⊥) → Adds P xs ys
adds-none P xs ys same none = record { kept = ([], same ∙ sym (append-nil xs)); each = λ c is. absurd (none c is) }

pub adds-as : (P Q : ℕ → Type 0) (xs ys : List ℕ) → ((c : ℕ) → Q c → P c) → Adds P xs ys → Adds Q xs ys
adds-as P Q xs ys part adds = record { kept = adds.kept; each = λ c is. adds.each c (part c is) }

pub adds-then : (P Q R : ℕ → Type 0) (xs ys zs : List ℕ) → ((c : ℕ) → R c → P c ⊎ Q c) → Adds P xs ys → Adds Q ys zs → Adds R xs zs
adds-then P Q R xs ys zs parts first next = record {
  kept = (first.kept.0 ++ next.kept.0, next.kept.1 ∙ ap (λ (cells : List ℕ). cells ++ next.kept.0) first.kept.1 ∙ append_assoc xs first.kept.0 next.kept.0);
  each = λ c is. elim (parts c is) [
    | inl before ↦ adds-still Q ys zs next c (first.each c before)
    | inr now ↦ next.each c now
  ];
}

-- a cell that is there is added
pub adds-there : (xs : List ℕ) (cell : ℕ) → Contains xs cell → Adds (λ other. cell ≡ other) xs xs
adds-there xs cell has = record { kept = ([], sym (append-nil xs)); each = λ c same. subst (Contains xs) same has }

pub adds-one : (xs ys : List ℕ) (cell : ℕ) → ys ≡ xs ++ cell ∷ [] → Adds (λ other. cell ≡ other) xs ys
adds-one xs ys cell is = record {
  kept = (cell ∷ [], is);
  each = λ c same. subst (λ (cells : List ℕ). Contains cells c) (sym is) (subst (Contains (xs ++ cell ∷ [])) same (Contains-push xs cell));
}

module _ (w : RuleSystem) where
  -- what each of these cells feeds is there
  abbrev pub AreFollowed : List ℕ → List ℕ → Type 0
  AreFollowed cells led = (x c : ℕ) → Contains cells x → Feeds w x c → Contains led c

  -- one cell more was followed
  pub followed-more : (before after : List ℕ) (place next : ℕ) → slice_get before place ≡ Some next → Adds (Feeds w next) before after → AreFollowed (take place before) before
      → AreFollowed (take (place + 1) after) after
  followed-more before after place next found adds followed x c has feeds =
      elim (Contains-push_cases (take place before) next x (subst (λ (cells : List ℕ). Contains cells x) same has)) [
        | inl earlier ↦ adds-still (Feeds w next) before after adds c (followed x c earlier feeds)
        | inr own ↦ adds.each c (subst (λ (y : ℕ). Feeds w y c) (sym own) feeds)
      ]
    where
      low : place < length before
      low = slice_get_within before place next found

      far : place + 1 ≤ length before
      far = omega (arith, low)

      same : take (place + 1) after ≡ take place before ++ next ∷ []
      same =
          ap (take (place + 1)) adds.kept.1 ∙ take-append-le (place + 1) before adds.kept.0 far ∙ take_more before place next low
          ∙ ap (λ (y : ℕ). take place before ++ y ∷ []) (get_or_from_slice_get before place next next found)

  -- where all were followed, all chains were
  pub all-led : (cell : ℕ) (led : List ℕ) → ((c : ℕ) → Feeds w cell c → Contains led c) → AreFollowed led led → (n c : ℕ) → Leads w (suc n) cell c → Contains led c
  all-led cell led first followed zero c (x, same, feeds) = first c (subst (λ (y : ℕ). Feeds w y c) (sym same) feeds)
  all-led cell led first followed (suc n) c (x, chain, feeds) = followed x c (all-led cell led first followed n x chain) feeds

pub on-some : {T : Type 0} (result : Option T) (P Q : Type 0) → (P → Q) → IfSome result (λ _. P) → IfSome result (λ _. Q)
on-some (Some value) P Q more holds = more holds
on-some None P Q more holds = tt
