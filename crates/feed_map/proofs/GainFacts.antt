-- Growth step by step.
use Rattle.std.proofs.Common.{◌≡◌, refl, sym, ap, ◌∙◌, subst, ℕ, suc, ◌<◌, ◌≤◌, ◌⊎◌, inl, inr, List, [], ◌∷◌, ◌++◌, append-nil, append_assoc, length, length-append, arith}
use Rattle.std.specs.Prelude.{Result, Ok, Err, OnOk, IfErr, IsErrAnd}
use Rattle.std.specs.List.{Contains}
use Rattle.std.proofs.lemmas.Result.{err_from_is_err_and}
use Rattle.std.specs.List.Sorted.{IsStrictlyIncreasing}
use Rattle.std.proofs.lemmas.List.Elements.{Contains-append_left, Contains-append_right, Contains-append_cases, Contains-push, Contains-push_cases}
use Rattle.cell_store.specs.Cells.{IsUnion}
use Rattle.feed_map.specs.declared.fault.FedFault.{FedFault}
use Rattle.feed_map.specs.declared.fault.FedFault.TheVariants.{FedLimit, Memory}
use Rattle.feed_map.specs.declared.growth.Growth.{Growth}
use Rattle.feed_map.specs.FedCells.{most_fed}
use Rattle.feed_map.specs.Inside.Gains.{Came, Grows, GainsOnly, Gains, AreFresh, NoCell, StopsBy}
use Rattle.feed_sources.proofs.Members.{none-there}
use Rattle.feed_map.proofs.Counts.{apart-within}

came-none : (known : List ℕ) → Came known known []
came-none known = record {
  kept = λ c has. has;
  only = λ c has. inl has;
  there = λ c none. absurd (none-there c none);
  counted = omega arith;
}

came-then : (a b c xs ys : List ℕ) → Came a b xs → Came b c ys → Came a c (xs ++ ys)
came-then a b c xs ys one two = record {
  kept = λ cell has. two.kept cell (one.kept cell has);
  only = λ cell has. elim (two.only cell has) [
    | inl before ↦ elim (one.only cell before) [
      | inl first ↦ inl first
      | inr more ↦ inr (Contains-append_left xs ys cell more)
    ]
    | inr more ↦ inr (Contains-append_right xs ys cell more)
  ];
  there = λ cell has. elim (Contains-append_cases xs ys cell has) [
    | inl first ↦ two.kept cell (one.there cell first)
    | inr second ↦ two.there cell second
  ];
  counted = omega (arith, one.counted, two.counted, length-append xs ys);
}

-- what is known and to be followed stays, and nothing found is lost
grows-found : (a b : Growth) → b.known ≡ a.known → b.opened.items ≡ a.opened.items → ((c : ℕ) → Contains a.found.items c → Contains b.found.items c) → Grows a b
grows-found a b known opened found = record {
  rising = λ up. subst IsStrictlyIncreasing (sym known) up;
  few = λ low. subst (λ (cells : List ℕ). length cells ≤ most_fed) (sym known) low;
  kept = λ c has. elim has [
    | inl one ↦ inl (subst (λ (cells : List ℕ). Contains cells c) (sym known) one)
    | inr one ↦ inr (found c one)
  ];
  opened = ([], opened ∙ sym (append-nil a.opened.items), subst (λ (cells : List ℕ). Came a.known cells []) (sym known) (came-none a.known));
}

pub grows-none : (g : Growth) → Grows g g
grows-none g = grows-found g g refl refl (λ c has. has)

pub grows-then : (a b c : Growth) → Grows a b → Grows b c → Grows a c
grows-then a b c one two = record {
  rising = λ up. two.rising (one.rising up);
  few = λ low. two.few (one.few low);
  kept = λ cell has. two.kept cell (one.kept cell has);
  opened = (
    one.opened.0 ++ two.opened.0,
    two.opened.1 ∙ ap (λ (xs : List ℕ). xs ++ two.opened.0) one.opened.1 ∙ append_assoc a.opened.items one.opened.0 two.opened.0,
    came-then a.known b.known c.known one.opened.0 two.opened.0 one.opened.2 two.opened.2,
  );
}

pub gains-none : (P : ℕ → Type 0) → ((c : ℕ) → P c → ⊥) → (g : Growth) → Gains P g g
gains-none P none g = record { grows = grows-none g; only = λ c has. inl has; each = λ c holds. absurd (none c holds) }

pub gains-as : (P Q : ℕ → Type 0) → ((c : ℕ) → P c → Q c) → ((c : ℕ) → Q c → P c) → (a b : Growth) → Gains P a b → Gains Q a b
gains-as P Q to from a b one = record {
  grows = one.grows;
  only = λ c has. elim (one.only c has) [
    | inl before ↦ inl before
    | inr holds ↦ inr (to c holds)
  ];
  each = λ c holds. one.each c (from c holds);
}

-- one gain after another
pub gains-then : (P Q R : ℕ → Type 0) → ((c : ℕ) → P c → R c) → ((c : ℕ) → Q c → R c) → ((c : ℕ) → R c → P c ⊎ Q c)
    → (a b c : Growth) → Gains P a b → Gains Q b c → Gains R a c
gains-then P Q R first second either a b c one two = record {
  grows = grows-then a b c one.grows two.grows;
  only = λ cell has. elim (two.only cell has) [
    | inl before ↦ elim (one.only cell before) [
      | inl start ↦ inl start
      | inr holds ↦ inr (first cell holds)
    ]
    | inr holds ↦ inr (second cell holds)
  ];
  each = λ cell holds. elim (either cell holds) [
    | inl p ↦ two.grows.kept cell (one.each cell p)
    | inr q ↦ two.each cell q
  ];
}

pub stops-as : (P Q : ℕ → Type 0) → ((c : ℕ) → P c → Q c) → (a b : Growth) (fault : FedFault) → StopsBy P a b fault → StopsBy Q a b fault
stops-as P Q to a b Memory stops = tt
stops-as P Q to a b (FedLimit count) (is, up, past, from) = (
  is,
  up,
  past,
  λ c has. elim (from c has) [
    | inl before ↦ inl before
    | inr holds ↦ inr (to c holds)
  ],
)

-- a stop after a gain
pub stops-then : (P Q R : ℕ → Type 0) → ((c : ℕ) → P c → R c) → ((c : ℕ) → Q c → R c)
    → (a b c : Growth) (fault : FedFault) → GainsOnly P a b → StopsBy Q b c fault → StopsBy R a c fault
stops-then P Q R first second a b c Memory one stops = tt
stops-then P Q R first second a b c (FedLimit count) one (is, up, past, from) = (
  is,
  up,
  past,
  λ cell has. elim (from cell has) [
    | inl before ↦ elim (one cell before) [
      | inl start ↦ inl start
      | inr holds ↦ inr (first cell holds)
    ]
    | inr holds ↦ inr (second cell holds)
  ],
)

-- ---- a found cell

pub gains-push : (a b : Growth) (cell : ℕ) → b.known ≡ a.known → b.opened.items ≡ a.opened.items → b.found.items ≡ a.found.items ++ cell ∷ []
    → Gains (λ other. cell ≡ other) a b
gains-push a b cell known opened found = record {
  grows = grows-found a b known opened (λ c has. subst (λ (cells : List ℕ). Contains cells c) (sym found) (Contains-append_left a.found.items (cell ∷ []) c has));
  only = λ c has. elim has [
    | inl one ↦ inl (inl (subst (λ (cells : List ℕ). Contains cells c) known one))
    | inr one ↦ elim (Contains-push_cases a.found.items cell c (subst (λ (cells : List ℕ). Contains cells c) found one)) [
      | inl before ↦ inl (inr before)
      | inr is ↦ inr is
    ]
  ];
  each = λ c is. inr (subst (λ (cells : List ℕ). Contains cells c) (sym found) (subst (Contains (a.found.items ++ cell ∷ [])) is (Contains-push a.found.items cell)));
}

-- ---- what was found becomes known

came-fresh : (known found fresh union : List ℕ) → IsStrictlyIncreasing known → AreFresh known found fresh → IsUnion known fresh union → Came known union fresh
came-fresh known found fresh union up are is = record {
  kept = λ c has. (is.cells c).1 (inl has);
  only = λ c has. (is.cells c).0 has;
  there = λ c has. (is.cells c).1 (inr has);
  counted = apart-within union fresh known is.rising are.rising up (λ c has. (is.cells c).1 (inr has)) (λ c has. (is.cells c).1 (inl has)) are.new;
}

pub gains-settle : (a b : Growth) (fresh : List ℕ) → IsStrictlyIncreasing a.known → AreFresh a.known a.found.items fresh → IsUnion a.known fresh b.known
    → b.opened.items ≡ a.opened.items ++ fresh → b.found.items ≡ [] → length b.known ≤ most_fed → Gains NoCell a b
gains-settle a b fresh up are is opened none low = record {
  grows = record {
    rising = λ before. is.rising;
    few = λ before. low;
    kept = λ c has. elim has [
      | inl one ↦ inl ((is.cells c).1 (inl one))
      | inr one ↦ elim (are.each c one) [
        | inl already ↦ inl ((is.cells c).1 (inl already))
        | inr new ↦ inl ((is.cells c).1 (inr new))
      ]
    ];
    opened = (fresh, opened, came-fresh a.known a.found.items fresh b.known up are is);
  };
  only = λ c has. elim has [
    | inl one ↦ inl (elim ((is.cells c).0 one) [
      | inl before ↦ inl before
      | inr new ↦ inr (are.listed c new)
    ])
    | inr one ↦ absurd (none-there c (subst (λ (cells : List ℕ). Contains cells c) none one))
  ];
  each = λ c never. absurd never;
}

pub stops-settle : (a b : Growth) (fresh : List ℕ) → AreFresh a.known a.found.items fresh → IsUnion a.known fresh b.known → most_fed < length b.known
    → StopsBy NoCell a b (FedLimit (suc most_fed))
stops-settle a b fresh are is past = (
  refl,
  is.rising,
  past,
  λ c has. elim ((is.cells c).0 has) [
    | inl before ↦ inl (inl before)
    | inr new ↦ inl (inr (are.listed c new))
  ],
)

-- ---- answers

pub on-ok : {T E : Type 0} (r : Result T E) (P Q : Type 0) → (P → Q) → OnOk r P → OnOk r Q
on-ok (Ok v) P Q to holds = to holds
on-ok (Err e) P Q to holds = tt

pub on-err : {T E : Type 0} (r : Result T E) (P Q : E → Type 0) → ((e : E) → P e → Q e) → IfErr r P → IfErr r Q
on-err (Ok v) P Q to holds = tt
on-err (Err e) P Q to holds = to e holds

-- the last call's answer, with another property of the same cells
pub gains-result : {T : Type 0} (r : Result T FedFault) (P Q : ℕ → Type 0) → ((c : ℕ) → P c → Q c) → ((c : ℕ) → Q c → P c) → (a b : Growth) → OnOk r (Gains P a b) → OnOk r (Gains Q a b)
gains-result r P Q to from a b = on-ok r (Gains P a b) (Gains Q a b) (gains-as P Q to from a b)

pub stops-result : {T : Type 0} (r : Result T FedFault) (P Q : ℕ → Type 0) → ((c : ℕ) → P c → Q c) → (a b : Growth) → IfErr r (StopsBy P a b) → IfErr r (StopsBy Q a b)
stops-result r P Q to a b = on-err r (StopsBy P a b) (StopsBy Q a b) (stops-as P Q to a b)

-- what a `?` hands on
pub handed-on : {T : Type 0} (r : Result T FedFault) (fault : FedFault) (Q : FedFault → Type 0) → IsErrAnd r (λ e. e ≡ fault) → Q fault → IfErr r Q
handed-on r fault Q gives holds =
    let p = err_from_is_err_and r gives in
    rw (p.1, p.2) holds

-- a found cell, and then all that was found becomes known
pub pushed-gains : {T : Type 0} (r : Result T FedFault) (cell : ℕ) (a b c : Growth) → Gains (λ other. cell ≡ other) a b → OnOk r (Gains NoCell b c) → OnOk r (Gains (λ other. cell ≡ other) a c)
pushed-gains r cell a b c one = on-ok r (Gains NoCell b c) (Gains (λ other. cell ≡ other) a c)
    (gains-then (λ other. cell ≡ other) NoCell (λ other. cell ≡ other) (λ x is. is) (λ x none. absurd none) (λ x is. inl is) a b c one)

pub pushed-stops : {T : Type 0} (r : Result T FedFault) (cell : ℕ) (a b c : Growth) → Gains (λ other. cell ≡ other) a b → IfErr r (StopsBy NoCell b c) → IfErr r (StopsBy (λ other. cell ≡ other) a c)
pushed-stops r cell a b c one = on-err r (StopsBy NoCell b c) (StopsBy (λ other. cell ≡ other) a c)
    (λ fault. stops-then (λ other. cell ≡ other) NoCell (λ other. cell ≡ other) (λ x is. is) (λ x none. absurd none) a b c fault one.only)
