-- The first position at which what is read comes late.
use Rattle.std.proofs.Common.{◌≡◌, refl, sym, arith, subst, ℕ, zero, suc, ◌+◌, ◌<◌, ◌≤◌, Bool, true, false, ◌||◌, ◌&&◌, ℤ, Option, Some, None, if◌then◌else◌, inl, inr}
use Rattle.std.proofs.lemmas.Bool.{cases_lt}
use Rattle.order_laws.specs.Earlier.{is_below, is_within, earlier_from}
use Rattle.late_example.specs.Inside.Narrowing.{late_from}

-- the place of the first one is within so many, all before it are within their bounds, and it isn't
pub record IsLateAt (most : ℕ → Option ℤ) (place end q : ℕ) : Type 0 where
  pub from : place ≤ q
  pub within : q ≤ end
  pub before : (k : ℕ) → place ≤ k → k < q → is_within (most k) ≡ true
  pub inner : q < end → is_within (most q) ≡ false
  pub last : q ≡ end → is_below (most q) ≡ false

module _ (most : ℕ → Option ℤ) where
  pub none-late : (place count last : ℕ) → last ≡ place + count → late_from most place count ≡ None → earlier_from most (most last) place count ≡ true
  none-late place zero last same h = subst (λ n. is_below (most n) ≡ true) (let e : place ≡ last = omega (arith, same) in e) (by (is_below (most place)) h)
    where
      by : (b : Bool) → (if b then None else Some place) ≡ None → b ≡ true
      by true h = refl
      by false h = absurd (cc)
  none-late place (suc count) last same h = by (is_below (most place)) (is_within (most place)) h (none-late (suc place) count last (omega (arith, same)))
    where
      by : (b w : Bool) → (if b then None else if w then late_from most (suc place) count else Some place) ≡ None
          → (late_from most (suc place) count ≡ None → earlier_from most (most last) (suc place) count ≡ true) → b || (w && earlier_from most (most last) (suc place) count) ≡ true
      by true w h rest = refl
      by false true h rest = rest h
      by false false h rest = absurd (cc)

  pub some-late : (place count last q : ℕ) → last ≡ place + count → late_from most place count ≡ Some q → IsLateAt most place last q × (earlier_from most (most last) place count ≡ false)
  some-late place zero last q same h = by (is_below (most place)) refl h
    where
      by : (b : Bool) → is_below (most place) ≡ b → (if b then None else Some place) ≡ Some q → IsLateAt most place last q × (is_below (most last) ≡ false)
      by true is h = absurd (cc)
      by false is h =
          let here : place ≡ q = cc in
          let at : last ≡ place = omega (arith, same) in (
            record {
              from = omega (arith, here);
              within = omega (arith, here, at);
              before = λ k from low. absurd (omega (arith, from, low, here));
              inner = λ low. absurd (omega (arith, low, here, at));
              last = λ e. subst (λ n. is_below (most n) ≡ false) here is;
            },
            subst (λ n. is_below (most n) ≡ false) (sym at) is,
          )
  some-late place (suc count) last q same h = by (is_below (most place)) (is_within (most place)) refl refl h (some-late (suc place) count last q (omega (arith, same)))
    where
      by : (b w : Bool) → is_below (most place) ≡ b → is_within (most place) ≡ w → (if b then None else if w then late_from most (suc place) count else Some place) ≡ Some q
          → (late_from most (suc place) count ≡ Some q → IsLateAt most (suc place) last q × (earlier_from most (most last) (suc place) count ≡ false))
          → IsLateAt most place last q × (b || (w && earlier_from most (most last) (suc place) count) ≡ false)
      by true w is inner h rest = absurd (cc)
      by false false is inner h rest =
          let here : place ≡ q = cc in (
            record {
              from = omega (arith, here);
              within = omega (arith, here, same);
              before = λ k from low. absurd (omega (arith, from, low, here));
              inner = λ low. subst (λ n. is_within (most n) ≡ false) here inner;
              last = λ e. absurd (omega (arith, e, here, same));
            },
            refl,
          )
      by false true is inner h rest =
          let (late, not_earlier) = rest h in (
            record {
              from = omega (arith, late.from);
              within = late.within;
              before = λ k from low. elim (cases_lt place k) [
                | inl after ↦ late.before k after low
                | inr at ↦ let e : place ≡ k = omega (arith, from, at) in subst (λ n. is_within (most n) ≡ true) e inner
              ];
              inner = late.inner;
              last = late.last;
            },
            not_earlier,
          )
