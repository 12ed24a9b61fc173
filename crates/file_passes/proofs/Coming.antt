-- What one pass after another comes to.
use Rattle.std.proofs.Common.{◌≡◌, Result, Ok, Err, refl, ◌∙◌, subst, inl, inr}
use Rattle.cube_outside.specs.Counts.{Rose}
use Rattle.cube_outside.specs.Seen.{Seen}
use Rattle.file_passes.specs.declared.halt.Halt.{Halt}
use Rattle.file_passes.specs.declared.halt.Halt.TheVariants as halts
use Rattle.file_passes.specs.Outside.{Outside, outside}
use Rattle.file_passes.specs.Pass.{Readings, Pass, Judgement, found, judged, ◌>>=◌}
use Rattle.file_passes.specs.Reading.{IsReadOn, Goes}
use Rattle.file_passes.specs.Halting.{Halts, Comes, ComesThrough, Judges}
use Rattle.file_passes.proofs.KeptFacts.{IsKept}
use Rattle.file_passes.proofs.Going.{on-refl, on-later, grows-on, on-bind}

-- where a pass stops, the passes that follow it stop
pub halts-later : {A B : Type 0} (P : Pass A) (K : A → Pass B) (o : Outside) (old new : Readings) (h : Halt)
    → Halts P o old new h → Halts (P >>= K) o old new h
halts-later P K o old new halts.NotWords h = (inl h.0, h.1, h.2)
halts-later P K o old new halts.Unread ((extent, stops), rose, asks) = ((extent, inl stops), rose, asks)
halts-later P K o old new (halts.Refused refusal) h = (inl h.0, h.1, h.2)
halts-later P K o old new halts.Memory (inl asks) = inl asks
halts-later P K o old new halts.Memory (inr (name, (extent, stops), asks)) = inr (name, (extent, inl stops), asks)

pub comes-stopped : {A B : Type 0} (P : Pass A) (K : A → Pass B) (o : Outside) (old new : Readings) (h : Halt)
    → IsReadOn P o.known old new × Halts P o old new h → IsReadOn (P >>= K) o.known old new × Halts (P >>= K) o old new h
comes-stopped P K o old new h came = (on-later P K o.known old new came.0, halts-later P K o old new h came.1)

pub goes-later : {A B : Type 0} (P : Pass A) (K : A → Pass B) (o : Outside) (old new : Readings) → Goes P o old new → Goes (P >>= K) o old new
goes-later P K o old new went = (on-later P K o.known old new went.0, went.1, went.2)

-- what was found goes into what is found behind it
pub through-mapped : {A B : Type 0} (P : Pass A) (f : A → B) (o : Outside) (old new : Readings) (r : Result (Unit {0}) Halt)
    → ComesThrough P o old new r → ComesThrough (P >>= λ a. found (f a)) o old new r
through-mapped P f o old new (Ok u) came = (goes-later P (λ a. found (f a)) o old new came.0, (f came.1.0, (came.1.0, came.1.1, refl)))
through-mapped P f o old new (Err h) came = (on-later P (λ a. found (f a)) o.known old new came.0, halts-later P (λ a. found (f a)) o old new h came.1)

-- what was read is judged
pub comes-judged : {S A : Type 0} (R : Pass S) (judge : S → Judgement A) (o : Outside) (old new : Readings) (s : S) (r : Result A Halt)
    → Goes R o old new → R.finds new s → Judges (judge s) r → Comes (R >>= λ s. judged (judge s)) o old new r
comes-judged R judge o old new s (Ok a) went is judges = (goes-later R (λ s. judged (judge s)) o old new went, (s, is, judges))
comes-judged R judge o old new s (Err halts.NotWords) went is judges = absurd judges
comes-judged R judge o old new s (Err halts.Unread) went is judges = absurd judges
comes-judged R judge o old new s (Err (halts.Refused refusal)) went is judges =
    (on-later R (λ s. judged (judge s)) o.known old new went.0, (inr (s, is, (refusal, judges, refl)), went.1, went.2))
comes-judged R judge o old new s (Err halts.Memory) went is judges =
    (on-later R (λ s. judged (judge s)) o.known old new went.0, inl went.2)

-- what was found goes into what is found behind it
pub comes-mapped : {A B : Type 0} (P : Pass A) (f : A → B) (o : Outside) (old new : Readings) (a : A)
    → Comes P o old new (Ok a) → Comes (P >>= λ x. found (f x)) o old new (Ok (f a))
comes-mapped P f o old new a came = (goes-later P (λ x. found (f x)) o old new came.0, (a, came.1, refl))

module _ {F : Type 0} (seen : F → Seen) where
  abbrev from : F → F → Outside
  from a b = outside seen a b

  pub goes-found : {A : Type 0} (x : A) (a : F) (readings : Readings) → Goes (found x) (from a a) readings readings
  goes-found x a readings = (on-refl (found x) (seen a).known readings, refl, λ base is. is)

  -- the files that the first pass left are those that the second began with
  module _ {A B : Type 0} (P : Pass A) (K : A → Pass B) (keeps : IsKept P) (a b c : F) (old mid new : Readings) (x : A) (same : (seen b).known ≡ (seen a).known) (went : Goes P (from a b) old mid) (finds : P.finds mid x) where
    on : IsReadOn (K x) (seen b).known mid new → IsReadOn (P >>= K) (seen a).known old new
    on then = on-bind P K keeps (seen a).known x old mid new finds went.0 (subst (λ k. IsReadOn (K x) k mid new) same then)

    kept : IsReadOn (K x) (seen b).known mid new → P.finds new x
    kept then = keeps mid new x (grows-on (K x) (seen b).known mid new then) finds

    goes : Goes (K x) (from b c) mid new → Goes (P >>= K) (from a c) old new
    goes then = (on then.0, then.1 ∙ went.1, λ base is. then.2 base (went.2 base is))

    halts_on : (h : Halt) → P.finds new x → Halts (K x) (from b c) mid new h → Halts (P >>= K) (from a c) old new h
    halts_on halts.NotWords is h = (inr (x, is, h.0), h.1 ∙ went.1, λ base begun. h.2 base (went.2 base begun))
    halts_on halts.Unread is ((extent, stops), rose, asks) =
        ((extent, inr (x, is, stops)), subst (λ n. Rose n (seen c).faults) went.1 rose, λ base begun. asks base (went.2 base begun))
    halts_on (halts.Refused refusal) is h = (inr (x, is, h.0), h.1 ∙ went.1, λ base begun. h.2 base (went.2 base begun))
    halts_on halts.Memory is (inl asks) = inl (λ base begun. asks base (went.2 base begun))
    halts_on halts.Memory is (inr (name, (extent, stops), asks)) = inr (name, (extent, inr (x, is, stops)), λ base begun. asks base (went.2 base begun))

    pub comes-next : (r : Result B Halt) → Comes (K x) (from b c) mid new r → Comes (P >>= K) (from a c) old new r
    comes-next (Ok y) then = (goes then.0, (x, kept then.0.0, then.1))
    comes-next (Err h) then = (on then.0, halts_on h (kept then.0) then.1)

    pub through-next : (r : Result (Unit {0}) Halt) → ComesThrough (K x) (from b c) mid new r → ComesThrough (P >>= K) (from a c) old new r
    through-next (Ok u) then = (goes then.0, (then.1.0, (x, kept then.0.0, then.1.1)))
    through-next (Err h) then = (on then.0, halts_on h (kept then.0) then.1)

  -- one pass has found something, and then another comes to this
  pub comes-behind : {A B : Type 0} (P : Pass A) (K : A → Pass B) → IsKept P → (a b c : F) (old mid new : Readings) (x : A) (r : Result B Halt)
      → (seen b).known ≡ (seen a).known → Comes P (from a b) old mid (Ok x) → Comes (K x) (from b c) mid new r → Comes (P >>= K) (from a c) old new r
  comes-behind P K kept a b c old mid new x r same came then =
      comes-next P K kept a b c old mid new x same came.0 came.1 r then
