-- Maps that move all elements as far.
use Rattle.std.proofs.Common.{◌≡◌, ◌∙◌, ◌<◌, ◌≤◌, ◌+◌, ◌-◌, ℕ, zero, suc, List, [], ◌∷◌, length, drop, map, nat_eq, nat_lt, Bool, true, false, Option, Some, None, slice_get, unwrap_or, refl, sym, ap, arith}
use Rattle.std.proofs.lemmas.Bool.{eqb-true, eq-eqb, lt-ltb}
use Rattle.std.proofs.lemmas.List.{drop_all}
use Rattle.std.proofs.lemmas.List.FromFn.{length-map-range_with_len}
use Rattle.std.specs.Prelude.{if◌then◌else◌}
use Rattle.std.proofs.lemmas.Slice.Eq.{slice_eq-Decides}
use Rattle.std.specs.Bool.{Decides}
use Rattle.std.specs.Option.{option_eq}
use Rattle.std.specs.Cmp.Lexicographic.{pointwise}
use Rattle.std.specs.List.{range_with_len}
use Rattle.rule_laws.specs.Maps.{identity, behind, before, place_behind, place_before}
use Rattle.feed_print.specs.FeederTexts.{first_sent, shift}

abbrev pub same_map : List (Option ℕ) → List (Option ℕ) → Bool
same_map = pointwise (option_eq nat_eq)

option_decides : (a b : Option ℕ) → Decides (option_eq nat_eq a b) (a ≡ b)
option_decides None None = (λ h. refl, λ h. refl)
option_decides None (Some y) = (λ h. absurd (cc h), λ h. absurd (cc h))
option_decides (Some x) None = (λ h. absurd (cc h), λ h. absurd (cc h))
option_decides (Some x) (Some y) = (λ h. ap Some (eqb-true x y h), λ h. (let e : x ≡ y = cc h in eq-eqb x y e))

pub maps_alike : (a b : List (Option ℕ)) → a ≡ b → same_map a b ≡ true
maps_alike a b is = (slice_eq-Decides option_decides a b (same_map a b) refl).1 is

pub alike_maps : (a b : List (Option ℕ)) → same_map a b ≡ true → a ≡ b
alike_maps a b is = (slice_eq-Decides option_decides a b (same_map a b) refl).0 is

-- whether two maps send an element alike
abbrev pub alike_at : List (Option ℕ) → List (Option ℕ) → ℕ → Bool
alike_at a b e = option_eq nat_eq (unwrap_or (slice_get a e) None) (unwrap_or (slice_get b e) None)

-- one pair of elements more
pub alike_next : (a b : List (Option ℕ)) (e : ℕ) → e < length a → length a ≡ length b → alike_at a b e ≡ true → same_map (drop e a) (drop e b) ≡ same_map (drop (e + 1) a) (drop (e + 1) b)
alike_next [] b e low same alike = absurd (omega (arith, low))
alike_next (y ∷ a) [] e low same alike = absurd (omega (arith, same))
alike_next (y ∷ a) (z ∷ b) zero low same alike =
    let here : option_eq nat_eq y z ≡ true = alike in
    rw here refl
alike_next (y ∷ a) (z ∷ b) (suc e) low same alike =
    let next : suc e + 1 ≡ suc (e + 1) = omega arith in
    rw next (alike_next a b e (omega (arith, low)) (omega (arith, same)) alike)

-- a pair that differs
pub unlike_next : (a b : List (Option ℕ)) (e : ℕ) → alike_at a b e ≡ false → same_map a b ≡ false
unlike_next a b e differ = by (same_map a b) refl
  where
    by : (r : Bool) → same_map a b ≡ r → same_map a b ≡ false
    by true is =
        let same : unwrap_or (slice_get a e) None ≡ unwrap_or (slice_get b e) None = ap (λ m. unwrap_or (slice_get m e) None) (alike_maps a b is) in
        let alike : alike_at a b e ≡ true = (option_decides (unwrap_or (slice_get a e) None) (unwrap_or (slice_get b e) None)).1 same in
        absurd (let e : true ≡ false = sym alike ∙ differ in cc e)
    by false is = is

-- no pair is left
pub alike_end : (a b : List (Option ℕ)) (e : ℕ) → length a ≤ e → length a ≡ length b → same_map (drop e a) (drop e b) ≡ true
alike_end a b e past same = rw (drop_all e a past, drop_all e b (omega (arith, past, same))) refl

pub shift_long : (size from target : ℕ) → length (shift size from target) ≡ size
shift_long size from target = by (nat_lt target from)
  where
    by : (b : Bool) → length (if b then before size (from - target) else behind size (target - from)) ≡ size
    by true = length-map-range_with_len (place_before (from - target)) 0 size
    by false = length-map-range_with_len (place_behind size (target - from)) 0 size

-- ---- the first element that is sent anywhere

pub sent_next : (to : List (Option ℕ)) (p e : ℕ) → e < length to → unwrap_or (slice_get to e) None ≡ None → first_sent p (drop e to) ≡ first_sent (suc p) (drop (e + 1) to)
sent_next [] p e low is = absurd (omega (arith, low))
sent_next (x ∷ to) p zero low is = rw is refl
sent_next (x ∷ to) p (suc e) low is =
    let next : suc e + 1 ≡ suc (e + 1) = omega arith in
    rw next (sent_next to p e (omega (arith, low)) is)

pub sent_here : (to : List (Option ℕ)) (p e target : ℕ) → unwrap_or (slice_get to e) None ≡ Some target → first_sent p (drop e to) ≡ Some (p, target)
sent_here [] p e target is = absurd (cc is)
sent_here (x ∷ to) p zero target is = rw is refl
sent_here (x ∷ to) p (suc e) target is = sent_here to p e target is

-- where it stands, and that the map sends it there
pub record IsSentAt (to : List (Option ℕ)) (p from target : ℕ) : Type 0 where
  pub above : p ≤ from
  pub below : from < p + length to
  pub sent : slice_get to (from - p) ≡ Some (Some target)

pub first_sent_at : (to : List (Option ℕ)) (p from target : ℕ) → first_sent p to ≡ Some (from, target) → IsSentAt to p from target
first_sent_at [] p from target is = absurd (cc is)
first_sent_at (None ∷ to) p from target is =
    let rest = first_sent_at to (suc p) from target is in
    let above = rest.above in
    let step : from - p ≡ suc (from - suc p) = omega (arith, above) in
    record { above = omega (arith, rest.above); below = omega (arith, rest.below); sent = rw step rest.sent }
first_sent_at (Some t ∷ to) p from target is =
    let here : p ≡ from = ap (λ (o : Option (ℕ × ℕ)). (unwrap_or o (p, t)).0) is in
    let there : t ≡ target = ap (λ (o : Option (ℕ × ℕ)). (unwrap_or o (p, t)).1) is in
    let none : from - p ≡ 0 = omega (arith, here) in
    record { above = omega (arith, here); below = omega (arith, here); sent = rw (none, there) refl }

-- ---- what moves by no place stays

same_each : (f g : ℕ → Option ℕ) (a n : ℕ) → ((e : ℕ) → e < a + n → f e ≡ g e) → map f (range_with_len a n) ≡ map g (range_with_len a n)
same_each f g a zero h = refl
same_each f g a (suc n) h = ap (λ x. x ∷ map f (range_with_len (a + 1) n)) (h a (omega arith)) ∙ ap (λ l. g a ∷ l) (same_each f g (a + 1) n (λ e low. h e (omega (arith, low))))

pub stays : (size : ℕ) → identity size ≡ behind size 0
stays size = same_each Some (place_behind size 0) 0 size (λ e low. (
    let same : e + 0 ≡ e = omega arith in
    let inside : nat_lt (e + 0) size ≡ true = lt-ltb (e + 0) size (omega (arith, low)) in
    rw inside (ap Some (sym same))))

pub nowhere_there : (o : Option ℕ) → ((target : ℕ) → o ≡ Some target → ⊥) → o ≡ None
nowhere_there None other = refl
nowhere_there (Some target) other = absurd (other target refl)
