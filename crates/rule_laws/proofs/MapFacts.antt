-- Where the elements of a map go.
use Rattle.std.proofs.Common.{arith, ◌-◌, Option, ◌≡◌, ◌∙◌, ap, sym, refl, ℕ, zero, suc, ◌<◌, ◌≤◌, ◌+◌, Some, None, length, map, slice_get, unwrap_or}
use Rattle.std.specs.List.{range_with_len}
use Rattle.std.specs.Prelude.{if◌then◌else◌}
use Rattle.std.proofs.lemmas.Bool.{lt-ltb, le-ltb}
use Rattle.std.proofs.lemmas.Option.{unwrap_or-slice_get, slice_get_past}
use Rattle.std.proofs.lemmas.List.FromFn.{get_or-map-range_with_len, length-map-range_with_len}
use Rattle.rule_laws.specs.Maps.{identity, nowhere, behind, before, place_behind, place_before}

pub inside : (n e : ℕ) → e < n → Some e ≡ unwrap_or (slice_get (identity n) e) None
inside n e h = sym (unwrap_or-slice_get (identity n) e None ∙ get_or-map-range_with_len Some 0 n e e None h (omega arith))

pub outside : (n e : ℕ) → n ≤ e → None ≡ unwrap_or (slice_get (identity n) e) None
outside n e h =
    let past : slice_get (identity n) e ≡ None = slice_get_past (identity n) e (omega (arith, length-map-range_with_len Some 0 n, h)) in
    sym (ap (λ o. unwrap_or o None) past)

pub identity_length : (n : ℕ) → identity n ≡ identity (length (identity n))
identity_length n = ap identity (sym (length-map-range_with_len Some 0 n))

pub nowhere_get : (n e : ℕ) → None ≡ unwrap_or (slice_get (nowhere n) e) None
nowhere_get zero e = refl
nowhere_get (suc n) zero = refl
nowhere_get (suc n) (suc e) = nowhere_get n e

pub mapped_in : (f : ℕ → Option ℕ) (n e : ℕ) → e < n → f e ≡ unwrap_or (slice_get (map f (range_with_len 0 n)) e) None
mapped_in f n e h = sym (unwrap_or-slice_get (map f (range_with_len 0 n)) e None ∙ get_or-map-range_with_len f 0 n e e None h (omega arith))

pub mapped_past : (f : ℕ → Option ℕ) (n e : ℕ) → n ≤ e → None ≡ unwrap_or (slice_get (map f (range_with_len 0 n)) e) None
mapped_past f n e h =
    let past : slice_get (map f (range_with_len 0 n)) e ≡ None = slice_get_past (map f (range_with_len 0 n)) e (omega (arith, length-map-range_with_len f 0 n, h)) in
    sym (ap (λ o. unwrap_or o None) past)

pub behind_in : (n p e : ℕ) → e < n → e + p < n → Some (e + p) ≡ unwrap_or (slice_get (behind n p) e) None
behind_in n p e h low = sym (ap (λ b. if b then Some (e + p) else None) (lt-ltb (e + p) n low)) ∙ mapped_in (place_behind n p) n e h

pub behind_out : (n p e : ℕ) → e < n → n ≤ e + p → None ≡ unwrap_or (slice_get (behind n p) e) None
behind_out n p e h far = sym (ap (λ b. if b then Some (e + p) else None) (le-ltb (e + p) n far)) ∙ mapped_in (place_behind n p) n e h

pub before_in : (n p e : ℕ) → e < n → p ≤ e → Some (e - p) ≡ unwrap_or (slice_get (before n p) e) None
before_in n p e h low = sym (ap (λ b. if b then None else Some (e - p)) (le-ltb e p low)) ∙ mapped_in (place_before p) n e h

pub before_out : (n p e : ℕ) → e < n → e < p → None ≡ unwrap_or (slice_get (before n p) e) None
before_out n p e h far = sym (ap (λ b. if b then None else Some (e - p)) (lt-ltb e p far)) ∙ mapped_in (place_before p) n e h
