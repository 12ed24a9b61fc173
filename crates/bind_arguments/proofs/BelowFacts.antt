-- Marking from above: what is marked lies below.
use Rattle.std.proofs.Common.{◌≡◌, ◌⊎◌, inl, inr, ℕ, zero, suc, ◌<◌, ◌≤◌, ◌+◌, Bool, true, false, ◌||◌, eqb, ℤ, List, [], ◌∷◌, length, take, get_or, All, refl, sym, ◌∙◌, ap, subst, arith}
use Rattle.std.proofs.lemmas.List.{length-map}
use Rattle.std.specs.List.{list_any, list_all}
use Rattle.std.proofs.lemmas.Bool.{true≢false, eqb-true, eq-eqb}
use Rattle.std.proofs.lemmas.List.Elements.{All-head, All-tail}
use Rattle.std.proofs.lemmas.Map.Keys.{apart_from_distinct}
use Rattle.dim_core.specs.Outline.{Outline, IsDimension, component_lists}
use Rattle.bind_arguments.specs.Family.{is_component}
use Rattle.bind_arguments.specs.Numbers.{is_below}
use Rattle.dim_order.specs.Loops.{parts_of, is_reached, IsOrder}
use Rattle.dim_order.specs.Members.{is_among}
use Rattle.dim_order.proofs.LoopLemmas.{is_reached-more}
use Rattle.dim_order.proofs.Tests.{either, both, first_holds, second_holds, list_any-implied, place_in_front, place_among}

-- where all pass one test, and what passes it fails another, none passes the other
none_passes : {X : Type 0} (r p : X → Bool) → ((x : X) → r x ≡ true → p x ≡ false) → (xs : List X) → list_all r xs ≡ true → list_any p xs ≡ false
none_passes r p fails [] all = refl
none_passes r p fails (x ∷ xs) all =
    let (here, rest) = both (r x) (list_all r xs) all in
    rw (fails x here) (none_passes r p fails xs rest)

-- a part is among the parts
part_among : (parts : List (ℕ × ℤ)) (k : ℕ) (d : ℕ × ℤ) → k < length parts → list_any (λ part. eqb part.0 (get_or parts k d).0) parts ≡ true
part_among [] k d low = absurd (omega (arith, low))
part_among (part ∷ parts) zero d low = first_holds (eqb part.0 part.0) (list_any (λ other. eqb other.0 part.0) parts) (eq-eqb part.0 part.0 refl)
part_among (part ∷ parts) (suc k) d low =
    second_holds (eqb part.0 (get_or parts k d).0) (list_any (λ other. eqb other.0 (get_or parts k d).0) parts) (part_among parts k d (omega (arith, low)))

-- a mark stands within the list
within_marks : (marks : List Bool) (x : ℕ) → get_or marks x false ≡ true → x < length marks
within_marks [] x on = absurd (cc)
within_marks (mark ∷ marks) zero on = omega arith
within_marks (mark ∷ marks) (suc x) on = let low = within_marks marks x on in omega (arith, low)

module _ (lists : List (List (ℕ × ℤ))) where
  -- a component is reached in one step, and from what is reached in one more
  one_step : (q x : ℕ) (m : ℕ) → list_any (λ part. eqb part.0 x) (parts_of lists q) ≡ true → is_reached lists (suc m) q x ≡ true
  one_step q x m among =
      list_any-implied (λ part. eqb part.0 x) (λ part. eqb part.0 x || is_reached lists m part.0 x)
      (λ part same. first_holds (eqb part.0 x) (is_reached lists m part.0 x) same) (parts_of lists q) among

  step_more : (m q v x : ℕ) → is_reached lists m q v ≡ true → list_any (λ part. eqb part.0 x) (parts_of lists v) ≡ true → is_reached lists (suc m) q x ≡ true
  step_more zero q v x reached among = absurd (cc)
  step_more (suc m) q v x reached among =
      list_any-implied (λ part. eqb part.0 v || is_reached lists m part.0 v) (λ part. eqb part.0 x || is_reached lists (suc m) part.0 x)
      (λ part one. by part.0 (either (eqb part.0 v) (is_reached lists m part.0 v) one) (λ there. step_more m part.0 v x there among))
      (parts_of lists q) reached
    where
      by : (k : ℕ) → (eqb k v ≡ true) ⊎ (is_reached lists m k v ≡ true) → (is_reached lists m k v ≡ true → is_reached lists (suc m) k x ≡ true) → (eqb k x || is_reached lists (suc m) k x) ≡ true
      by k (inl here) rest =
          let P : ℕ → Type 0 = λ y. is_reached lists (suc m) y x ≡ true in
          second_holds (eqb k x) (is_reached lists (suc m) k x) (subst P (sym (eqb-true k v here)) (one_step v x m among))
      by k (inr there) rest = second_holds (eqb k x) (is_reached lists (suc m) k x) (rest there)

  module _ (above : ℕ) (order : List ℕ) where
    abbrev at : ℕ → ℕ
    at j = get_or order j 0

    -- whether the components of an element are marked in its turn
    abbrev counts : List Bool → ℕ → Bool
    counts marks e = eqb e above || get_or marks e false

    -- after the last `done` elements of the order: what is marked lies below, and the components of each of these that
    -- counts are marked
    pub record AreMarked (done : ℕ) (marks : List Bool) : Type 0 where
      pub len : length marks ≡ length lists
      pub sound : (x : ℕ) → get_or marks x false ≡ true → is_reached lists done above x ≡ true
      pub closed : (j : ℕ) → length order ≤ j + done → j < length order → counts marks (at j) ≡ true → All (λ part. get_or marks part.0 false ≡ true) (parts_of lists (at j))

    pub none_marked : (marks : List Bool) → length marks ≡ length lists → ((x : ℕ) → get_or marks x false ≡ false) → AreMarked 0 marks
    none_marked marks len none = record {
      len = len;
      sound = λ x on. absurd (true≢false (sym on ∙ none x));
      closed = λ j late low on. absurd (omega (arith, late, low));
    }

    module _ (ordered : IsOrder lists order) (within_lists : (e : ℕ) → All (λ part. part.0 < length lists) (parts_of lists e)) where
      module _ (done i : ℕ) (marks : List Bool) (is : AreMarked done marks) (turn : i + suc done ≡ length order) where
        abbrev e : ℕ
        e = at i

        abbrev part_is : ℕ → Bool
        part_is x = list_any (λ part. eqb part.0 x) (parts_of lists e)

        -- the turn of an element that doesn't count
        pub passed_over : counts marks e ≡ false → AreMarked (suc done) marks
        passed_over off = record {
          len = is.len;
          sound = λ x on. is_reached-more lists done (suc done) above x (omega arith) (is.sound x on);
          closed = λ j late low on. by j late low on (eqb j i) refl;
        }
          where
            later : (j : ℕ) → length order ≤ j + suc done → ((j ≡ i) → ⊥) → length order ≤ j + done
            later j late apart = omega (arith, late, turn, apart)

            by : (j : ℕ) → length order ≤ j + suc done → j < length order → counts marks (at j) ≡ true → (b : Bool) → eqb j i ≡ b → All (λ part. get_or marks part.0 false ≡ true) (parts_of lists (at j))
            by j late low on true same =
                let there : j ≡ i = eqb-true j i same in
                absurd (true≢false (sym on ∙ ap (λ k. counts marks (at k)) there ∙ off))
            by j late low on false other =
                let apart : (j ≡ i) → ⊥ = λ same. true≢false (sym (eq-eqb j i same) ∙ other) in
                is.closed j (later j late apart) low on

        -- what stood later in the order is no component
        not_later : (j : ℕ) → i < j → j < length order → part_is (at j) ≡ false
        not_later j after low =
            none_passes (λ part. is_among (take i order) part.0) (λ part. eqb part.0 (at j)) (λ part before. differs part.0 before) (parts_of lists e) (ordered.earlier i (omega (arith, turn)))
          where
            differs : (k : ℕ) → is_among (take i order) k ≡ true → eqb k (at j) ≡ false
            differs k before =
                let (p, less, inside, is_k) = place_in_front order i k before in
                subst (λ x. eqb x (at j) ≡ false) is_k (apart_from_distinct eqb order p j 0 ordered.distinct (omega (arith, less, after)) low)

        -- the turn of one that does
        module _ (new : List Bool) (on : counts marks e ≡ true) (len : length new ≡ length marks)
            (marked : (x : ℕ) → x < length new → get_or new x false ≡ (get_or marks x false || part_is x)) where
          kept : (x : ℕ) → get_or marks x false ≡ true → get_or new x false ≡ true
          kept x was =
              let low = within_marks marks x was in
              marked x (omega (arith, low, len)) ∙ first_holds (get_or marks x false) (part_is x) was

          component_below : (x : ℕ) → part_is x ≡ true → is_reached lists (suc done) above x ≡ true
          component_below x among = by (either (eqb e above) (get_or marks e false) on)
            where
              by : (eqb e above ≡ true) ⊎ (get_or marks e false ≡ true) → is_reached lists (suc done) above x ≡ true
              by (inl same) = let P : ℕ → Type 0 = λ q. is_reached lists (suc done) q x ≡ true in subst P (eqb-true e above same) (one_step e x done among)
              by (inr was) = step_more done above e x (is.sound e was) among

          pub taken : AreMarked (suc done) new
          taken = record {
            len = len ∙ is.len;
            sound = λ x now. by_mark x (either (get_or marks x false) (part_is x) (sym (marked x (within_marks new x now)) ∙ now));
            closed = λ j late low counted. by_place j late low counted (eqb j i) refl;
          }
            where
              by_mark : (x : ℕ) → (get_or marks x false ≡ true) ⊎ (part_is x ≡ true) → is_reached lists (suc done) above x ≡ true
              by_mark x (inl was) = is_reached-more lists done (suc done) above x (omega arith) (is.sound x was)
              by_mark x (inr among) = component_below x among

              later : (j : ℕ) → length order ≤ j + suc done → ((j ≡ i) → ⊥) → i < j
              later j late apart = omega (arith, late, turn, apart)

              within : (k : ℕ) (d : ℕ × ℤ) → k < length (parts_of lists e) → (get_or (parts_of lists e) k d).0 < length new → get_or new (get_or (parts_of lists e) k d).0 false ≡ true
              within k d low inside = marked (get_or (parts_of lists e) k d).0 inside ∙ second_holds (get_or marks (get_or (parts_of lists e) k d).0 false) (part_is (get_or (parts_of lists e) k d).0) (part_among (parts_of lists e) k d low)

              inside_of : (k : ℕ) (d : ℕ × ℤ) → k < length (parts_of lists e) → (get_or (parts_of lists e) k d).0 < length new
              inside_of k d low = let inside = within_lists e k d low in omega (arith, inside, len, is.len)

              by_place : (j : ℕ) → length order ≤ j + suc done → j < length order → counts new (at j) ≡ true → (b : Bool) → eqb j i ≡ b → All (λ part. get_or new part.0 false ≡ true) (parts_of lists (at j))
              by_place j late low counted true same =
                  let there : j ≡ i = eqb-true j i same in
                  subst (λ k. All (λ part. get_or new part.0 false ≡ true) (parts_of lists (at k))) (sym there) (λ k d less. within k d less (inside_of k d less))
              by_place j late low counted false other =
                  let apart : (j ≡ i) → ⊥ = λ same. true≢false (sym (eq-eqb j i same) ∙ other) in
                  let after = later j late apart in
                  let before : counts marks (at j) ≡ true = unchanged j after low (either (eqb (at j) above) (get_or new (at j) false) counted) in
                  let closed = is.closed j (omega (arith, after, turn)) low before in
                  λ k d less. kept (get_or (parts_of lists (at j)) k d).0 (closed k d less)
                where
                  unchanged : (j : ℕ) → i < j → j < length order → (eqb (at j) above ≡ true) ⊎ (get_or new (at j) false ≡ true) → counts marks (at j) ≡ true
                  unchanged j after low (inl same) = first_holds (eqb (at j) above) (get_or marks (at j) false) same
                  unchanged j after low (inr now) =
                      let same : (get_or marks (at j) false || part_is (at j)) ≡ true = sym (marked (at j) (within_marks new (at j) now)) ∙ now in
                      elim (either (get_or marks (at j) false) (part_is (at j)) same) [
                        | inl was ↦ second_holds (eqb (at j) above) (get_or marks (at j) false) was
                        | inr among ↦ absurd (true≢false (sym among ∙ not_later j after low))
                      ]

      -- at the end nothing else lies below
      module _ (marks : List Bool) (is : AreMarked (length order) marks) where
        nothing_else : (m y x : ℕ) → y < length lists → counts marks y ≡ true → get_or marks x false ≡ false → is_reached lists m y x ≡ false
        nothing_else zero y x there on off = refl
        nothing_else (suc m) y x there on off =
            let (j, low, is_y) = place_among order y (ordered.each y there) in
            let closed : All (λ part. get_or marks part.0 false ≡ true) (parts_of lists y) =
            subst (λ k. All (λ part. get_or marks part.0 false ≡ true) (parts_of lists k)) is_y (is.closed j (omega arith) low (subst (λ k. counts marks k ≡ true) (sym is_y) on)) in
            none_of (λ k low counted. nothing_else m k x low counted off) (parts_of lists y) closed
          where
            at_part : ((k : ℕ) → k < length lists → counts marks k ≡ true → is_reached lists m k x ≡ false) → (k : ℕ) → get_or marks k false ≡ true → (eqb k x || is_reached lists m k x) ≡ false
            at_part rest k was = by (eqb k x) refl
              where
                by : (b : Bool) → eqb k x ≡ b → (eqb k x || is_reached lists m k x) ≡ false
                by true same = absurd (true≢false (sym was ∙ ap (λ y. get_or marks y false) (eqb-true k x same) ∙ off))
                by false other =
                    let low = within_marks marks k was in
                    rw other (rest k (omega (arith, low, is.len)) (second_holds (eqb k above) (get_or marks k false) was))

            none_of : ((k : ℕ) → k < length lists → counts marks k ≡ true → is_reached lists m k x ≡ false) → (parts : List (ℕ × ℤ)) → All (λ part. get_or marks part.0 false ≡ true) parts → list_any (λ part. eqb part.0 x || is_reached lists m part.0 x) parts ≡ false
            none_of rest [] all = refl
            none_of rest (part ∷ parts) all =
                rw (at_part rest part.0 (All-head (λ part. get_or marks part.0 false ≡ true) part parts all)) (none_of rest parts (All-tail (λ part. get_or marks part.0 false ≡ true) part parts all))

        pub all_below : above < length lists → (x : ℕ) → get_or marks x false ≡ is_reached lists (length lists) above x
        all_below there x = by (get_or marks x false) refl
          where
            by : (b : Bool) → get_or marks x false ≡ b → b ≡ is_reached lists (length lists) above x
            by true on = sym (subst (λ n. is_reached lists n above x ≡ true) ordered.whole (is.sound x on))
            by false off = sym (nothing_else (length lists) above x there (first_holds (eqb above above) (get_or marks above false) (eq-eqb above above refl)) off)

-- a member is among the list
among_at : (xs : List ℕ) (i d : ℕ) → i < length xs → is_among xs (get_or xs i d) ≡ true
among_at [] i d low = absurd (omega (arith, low))
among_at (x ∷ xs) zero d low = first_holds (eqb x x) (is_among xs x) (eq-eqb x x refl)
among_at (x ∷ xs) (suc i) d low = second_holds (eqb (get_or xs i d) x) (is_among xs (get_or xs i d)) (among_at xs i d (omega (arith, low)))

module _ (d : Outline) (valid : IsDimension d) (above : ℕ) (order : List ℕ) (ordered : IsOrder (component_lists d.elements) order) where
  abbrev lists_of : List (List (ℕ × ℤ))
  lists_of = component_lists d.elements

  as_many : length lists_of ≡ length d.elements
  as_many = simp length-map refl

  within_all : (e : ℕ) → All (λ part. part.0 < length lists_of) (parts_of lists_of e)
  within_all e k other low = let inside = (valid.parts e k other low).0 in omega (arith, inside, as_many)

  pub low_element : (i : ℕ) → i < length order → get_or order i 0 < length d.elements
  low_element i low = let inside = ordered.within (get_or order i 0) (among_at order i 0 low) in omega (arith, inside, as_many)

  pub first_turn : (marks : List Bool) → length marks ≡ length d.elements → ((x : ℕ) → get_or marks x false ≡ false) → AreMarked lists_of above order 0 marks
  first_turn marks len none = none_marked lists_of above order marks (len ∙ sym as_many) none

  pub next_turn : (done i : ℕ) (marks new : List Bool) → AreMarked lists_of above order done marks → i + suc done ≡ length order → length new ≡ length marks
      → ((eqb (get_or order i 0) above || get_or marks (get_or order i 0) false) ≡ true → (x : ℕ) → x < length new → get_or new x false ≡ (get_or marks x false || is_component d (get_or order i 0) x))
      → ((eqb (get_or order i 0) above || get_or marks (get_or order i 0) false) ≡ false → new ≡ marks) → AreMarked lists_of above order (done + 1) new
  next_turn done i marks new is turn len marked same = subst (λ n. AreMarked lists_of above order n new) (omega arith) (by (eqb (get_or order i 0) above || get_or marks (get_or order i 0) false) refl)
    where
      by : (b : Bool) → (eqb (get_or order i 0) above || get_or marks (get_or order i 0) false) ≡ b → AreMarked lists_of above order (suc done) new
      by true on = taken lists_of above order ordered within_all done i marks is turn new on len (marked on)
      by false off = subst (AreMarked lists_of above order (suc done)) (sym (same off)) (passed_over lists_of above order ordered within_all done i marks is turn off)

  pub last_turn : (done : ℕ) (marks : List Bool) → done ≡ length order → above < length d.elements → AreMarked lists_of above order done marks → (x : ℕ) → get_or marks x false ≡ is_below d above x
  last_turn done marks all low is x =
      let whole = subst (λ n. AreMarked lists_of above order n marks) all is in
      all_below lists_of above order ordered within_all marks whole (omega (arith, low, as_many)) x ∙ ap (λ n. is_reached lists_of n above x) as_many
