-- The replies of all sessions, and the looks that decided them.
use Rattle.std.proofs.Common.{◌≡◌, ℕ, ◌+◌, ◌<◌, zero, suc, List, [], ◌∷◌, ◌++◌, map, take, take-suc, Option, None, Some, slice_get, refl, ap, sym, ◌∙◌, subst, add-one, length}
use Rattle.std.specs.Prelude.{slice_index_or}
use Rattle.std.specs.declared.snapshot.Snapshot.{Snapshot}
use Rattle.std.proofs.lemmas.List.{map_push}
use Rattle.history.specs.declared.told.Told.{Told}
use Rattle.history.specs.declared.effect.Effect.{Effect}
use Rattle.version_book.specs.declared.pass_view.PassView.{PassView}
use Rattle.version_book.specs.declared.book.BookOf.{BookOf}
use Rattle.version_book.specs.declared.book.PassOf.{PassOf}
use Rattle.layers.specs.Layered.{layer_after}
use Rattle.version_book.specs.Passes.{opening_of, seen}
use Rattle.sessions.specs.declared.session.SessionOf.{SessionOf}
use Rattle.sessions.specs.Answers.{EachHasLooked, HasLooked, sight}
use Rattle.sessions.specs.Inside.AllSessions.{AreRunning, commands_of}

-- what stands at a place of a list that is mapped
mapped_from : {A B : Type 0} (f : A → B) (xs : List A) (i : ℕ) (y : B) → slice_get (map f xs) i ≡ Some y → (x : A) × (slice_get xs i ≡ Some x) × (f x ≡ y)
mapped_from f [] i y is = absurd (cc is)
mapped_from f (x ∷ xs) zero y is = (x, refl, cc is)
mapped_from f (x ∷ xs) (suc i) y is = mapped_from f xs i y is

same_item : {A : Type 0} (xs : List A) (i : ℕ) (x y : A) → slice_get xs i ≡ Some x → slice_get xs i ≡ Some y → x ≡ y
same_item xs i x y one two = let same : Some x ≡ Some y = sym one ∙ two in cc same

-- one item more of a list that is mapped
pub mapped_more : {A B : Type 0} (f : A → B) (xs : List A) (i : ℕ) (x : A) → i < length xs → x ≡ slice_index_or xs i x
    → map f (take i xs) ++ f x ∷ [] ≡ map f (take (i + 1) xs)
mapped_more f xs i x low is =
    let longer : take (i + 1) xs ≡ take i xs ++ x ∷ [] = rw (add-one, take-suc xs i x low, ← is) refl in
    sym (ap (map f) longer ∙ map_push f (take i xs) x)

pub each_looked : {H S C T K R Q Y : Type 0} (answer : C → Option T → K → Effect T R × Option T) (after : C → T → C) (content : S → C) (unfit : C → T → Option R) (kept : Y → T) (book : BookOf H (PassView S T) (Snapshot S) Q)
    (sessions : List (SessionOf H S T K R Y)) (told : List (List (Told R))) (passes : List (Snapshot (PassOf H S T)))
    → AreRunning answer after content unfit kept book sessions → told ≡ map (λ s. s.told.items) sessions → map (λ p. p.value) passes ≡ map (λ s. s.pass) sessions
    → EachHasLooked answer after content (opening_of book) (commands_of sessions) told passes
each_looked {H = H} {S = S} {C = C} {T = T} {K = K} {R = R} answer after content unfit kept book sessions told passes running are same index commands replies pass is told_is pass_is =
    let own = mapped_from (λ s. s.commands) sessions index commands is in
    let s = own.0 in
    let its = mapped_from (λ s. s.told.items) sessions index replies (ap (λ ts. slice_get ts index) (sym are) ∙ told_is) in
    let told_same : s.told.items ≡ replies = ap (λ x. x.told.items) (same_item sessions index s its.0 own.1 its.1) ∙ its.2 in
    let there : slice_get (map (λ p. p.value) passes) index ≡ Some pass.value = mapped_to (λ p. p.value) passes index pass pass_is in
    let by = mapped_from (λ s. s.pass) sessions index pass.value (ap (λ ps. slice_get ps index) (sym same) ∙ there) in
    let pass_same : s.pass ≡ pass.value = ap (λ x. x.pass) (same_item sessions index s by.0 own.1 by.1) ∙ by.2 in
    let run = running index s own.1 in
    let first = content (opening_of book) in
    let layer = λ (p : PassOf H S T) (ts : List (Told R)) (ks : List K). layer_after answer after first (seen p) None ts ks in
    let looked : HasLooked answer after first (index + 1) s.told.items s.commands (sight s.pass) (layer s.pass s.told.items s.commands) =
    subst (λ (user : ℕ). HasLooked answer after first user s.told.items s.commands (sight s.pass) (layer s.pass s.told.items s.commands)) run.1
    (subst (λ (l : Option T). HasLooked answer after first s.user s.told.items s.commands (sight s.pass) l) run.0.layer run.0.looked) in (
      subst (λ (p : PassOf H S T). HasLooked answer after first (index + 1) replies commands (sight p) (layer p replies commands)) pass_same
          (subst (λ (ks : List K). HasLooked answer after first (index + 1) replies ks (sight s.pass) (layer s.pass replies ks)) own.2
          (subst (λ (ts : List (Told R)). HasLooked answer after first (index + 1) ts s.commands (sight s.pass) (layer s.pass ts s.commands)) told_same looked)),
      subst (λ (p : PassOf H S T). p.place.me.0.opening ≡ Some (opening_of book)) pass_same run.0.of.opening,
    )
  where
    mapped_to : {A B : Type 0} (f : A → B) (xs : List A) (i : ℕ) (x : A) → slice_get xs i ≡ Some x → slice_get (map f xs) i ≡ Some (f x)
    mapped_to f [] i x is = absurd (cc is)
    mapped_to f (y ∷ xs) zero x is = ap (λ o. Some (f o)) (let same : y ≡ x = cc is in same)
    mapped_to f (y ∷ xs) (suc i) x is = mapped_to f xs i x is
