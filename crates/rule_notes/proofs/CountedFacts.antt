-- The references of a statement, made one after the other.
use Rattle.std.proofs.Common.{◌≡◌, sym, ap, ◌∙◌, arith, ℕ, suc, ◌+◌, ◌<◌, ◌≤◌, max, Bool, List, [], ◌∷◌, ◌++◌, length, get_or, drop, drop-cons, map}
use Rattle.std.specs.Prelude.{slice_get, option_map}
use Rattle.std.proofs.lemmas.List.{append-nil, append_assoc, map-append, drop_all, length-map}
use Rattle.std.proofs.lemmas.Option.{slice_get-map}
use Rattle.ref_order.specs.declared.reads.Read.{Read}
use Rattle.ref_order.specs.Counted.{Counted, for_both}
use Rattle.ref_order.specs.Reads.{precedent_of}
use Rattle.rule_notes.specs.declared.counted.CountedRead.{CountedRead}
use Rattle.rule_notes.specs.Inside.Named.{counted_view, for_kind}
use Rattle.rule_notes.proofs.ReadFacts.{pair-at, both-drop}

-- one item more, and those that are left
added : {X Y : Type 0} (v : X → Y) (before now : List X) (x : X) (y : Y) (rest all : List Y) → now ≡ before ++ x ∷ [] → v x ≡ y → map v before ++ y ∷ rest ≡ all → map v now ++ rest ≡ all
added v before now x y rest all is same so =
    ap (λ l. map v l ++ rest) is ∙ ap (λ l. l ++ rest) (map-append v before (x ∷ [])) ∙ append_assoc (map v before) (v x ∷ []) rest
    ∙ ap (λ y. map v before ++ y ∷ rest) same ∙ so

pub kind-more : (kind : Bool) (reads : List Read) (k : ℕ) (read : Read) (before now : List CountedRead) (one : CountedRead) (all : List Counted) → k < length reads → read ≡ get_or reads k read
    → now ≡ before ++ one ∷ [] → counted_view one ≡ for_kind kind (precedent_of read)
    → map counted_view before ++ map (for_kind kind) (map precedent_of (drop k reads)) ≡ all
    → map counted_view now ++ map (for_kind kind) (map precedent_of (drop (k + 1) reads)) ≡ all
kind-more kind reads k read before now one all low here is same so =
    let e : suc k ≡ k + 1 = omega arith in
    let rest : drop k reads ≡ read ∷ drop (k + 1) reads = drop-cons reads k read low ∙ ap (λ r. r ∷ drop (suc k) reads) (sym here) ∙ ap (λ n. read ∷ drop n reads) e in
    added counted_view before now one (for_kind kind (precedent_of read)) (map (for_kind kind) (map precedent_of (drop (k + 1) reads))) all is same
    (ap (λ l. map counted_view before ++ map (for_kind kind) (map precedent_of l)) (sym rest) ∙ so)

pub kind-done : (kind : Bool) (reads : List Read) (k : ℕ) (now : List CountedRead) (all : List Counted) → length reads ≤ k
    → map counted_view now ++ map (for_kind kind) (map precedent_of (drop k reads)) ≡ all → map counted_view now ≡ all
kind-done kind reads k now all past so =
    sym (append-nil (map counted_view now)) ∙ ap (λ l. map counted_view now ++ map (for_kind kind) (map precedent_of l)) (sym (drop_all k reads past)) ∙ so

pub both-more : (leaf cons : List Read) (k : ℕ) (before now : List CountedRead) (one : CountedRead) (all : List Counted) → k < max (length leaf) (length cons)
    → now ≡ before ++ one ∷ [] → one.leaf ≡ slice_get leaf k → one.cons ≡ slice_get cons k
    → map counted_view before ++ for_both (drop k (map precedent_of leaf)) (drop k (map precedent_of cons)) ≡ all
    → map counted_view now ++ for_both (drop (k + 1) (map precedent_of leaf)) (drop (k + 1) (map precedent_of cons)) ≡ all
both-more leaf cons k before now one all low is leaf_is cons_is so =
    let ls = map precedent_of leaf in
    let cs = map precedent_of cons in
    let e : suc k ≡ k + 1 = omega arith in
    let within : k < max (length ls) (length cs) = omega (arith, low, length-map leaf precedent_of, length-map cons precedent_of) in
    let same : counted_view one ≡ pair-at ls cs k =
    ap (λ p. record { leaf = option_map precedent_of p; cons = option_map precedent_of one.cons }) leaf_is
    ∙ ap (λ p. record { leaf = option_map precedent_of (slice_get leaf k); cons = option_map precedent_of p }) cons_is
    ∙ ap (λ p. record { leaf = p; cons = option_map precedent_of (slice_get cons k) }) (sym (slice_get-map precedent_of leaf k))
    ∙ ap (λ p. record { leaf = slice_get ls k; cons = p }) (sym (slice_get-map precedent_of cons k)) in
    added counted_view before now one (pair-at ls cs k) (for_both (drop (k + 1) ls) (drop (k + 1) cs)) all is same
    (ap (λ l. map counted_view before ++ l) (sym (both-drop ls cs k within ∙ ap (λ n. pair-at ls cs k ∷ for_both (drop n ls) (drop n cs)) e)) ∙ so)

pub both-done : (leaf cons : List Read) (k : ℕ) (now : List CountedRead) (all : List Counted) → max (length leaf) (length cons) ≤ k
    → map counted_view now ++ for_both (drop k (map precedent_of leaf)) (drop k (map precedent_of cons)) ≡ all → map counted_view now ≡ all
both-done leaf cons k now all past so =
    let ls = map precedent_of leaf in
    let cs = map precedent_of cons in
    let one : length ls ≤ k = omega (arith, past, length-map leaf precedent_of) in
    let two : length cs ≤ k = omega (arith, past, length-map cons precedent_of) in
    sym (append-nil (map counted_view now)) ∙ ap (λ l. map counted_view now ++ for_both l []) (sym (drop_all k ls one))
    ∙ ap (λ l. map counted_view now ++ for_both (drop k ls) l) (sym (drop_all k cs two)) ∙ so
