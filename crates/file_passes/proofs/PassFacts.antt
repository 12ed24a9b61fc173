-- A pass comes to one thing over one list of files, and what it has found stays while more files are read.
use Rattle.std.proofs.Common.{◌≡◌, ℕ, List, [], ◌∷◌, Some, None, inl, inr, refl, sym, ◌∙◌, ap, subst}
use Rattle.cube_outside.specs.declared.files.Extent.{Extent}
use Rattle.file_passes.specs.declared.refusal.Refusal.{Refusal}
use Rattle.file_passes.specs.Pass.{Source, Readings, Obstacle, NotWords, Reads, Refuses, Pass, Judgement, found, file, files, the, judged, ◌>>=◌}

-- two stops are alike: both for the words, both for as much of the file that is to be read first, or both for a refusal
abbrev pub IsAlike : Obstacle → Obstacle → Type 0
IsAlike NotWords NotWords = Unit {0}
IsAlike NotWords (Reads extent name) = ⊥
IsAlike NotWords (Refuses refusal) = ⊥
IsAlike (Reads extent name) NotWords = ⊥
IsAlike (Reads extent name) (Reads other_extent other) = (extent ≡ other_extent) × (name ≡ other)
IsAlike (Reads extent name) (Refuses refusal) = ⊥
IsAlike (Refuses refusal) NotWords = ⊥
IsAlike (Refuses refusal) (Reads extent name) = ⊥
IsAlike (Refuses refusal) (Refuses other) = Unit {0}

-- a pass finds one thing at most, or it stops in one way
pub record IsOne {A : Type 0} (P : Pass A) : Type 0 where
  pub one_found : (readings : Readings) (a b : A) → P.finds readings a → P.finds readings b → a ≡ b
  pub one_stop : (readings : Readings) (s t : Obstacle) → P.stops readings s → P.stops readings t → IsAlike s t
  pub not_both : (readings : Readings) (a : A) (s : Obstacle) → P.finds readings a → P.stops readings s → ⊥

-- two passes stop in one way, and one finds nothing where the other stops
pub record AreAlike {A : Type 0} (P Q : Pass A) : Type 0 where
  pub one_stop : (readings : Readings) (s t : Obstacle) → P.stops readings s → Q.stops readings t → IsAlike s t
  pub not_both : (readings : Readings) (a : A) (s : Obstacle) → P.finds readings a → Q.stops readings s → ⊥

pub alike-one : {A : Type 0} (P : Pass A) → IsOne P → AreAlike P P
alike-one P one = record { one_stop = one.one_stop; not_both = one.not_both }

-- passes that stop nowhere
pub alike-found : {A : Type 0} (a b : A) → AreAlike (found a) (found b)
alike-found a b = record { one_stop = λ readings s t p q. absurd p; not_both = λ readings x s p q. q }

alike-self : (s : Obstacle) → IsAlike s s
alike-self NotWords = tt
alike-self (Reads extent name) = (refl, refl)
alike-self (Refuses refusal) = tt

-- what is one of these is alike
alike-of : (s t u : Obstacle) → s ≡ u → t ≡ u → IsAlike s t
alike-of s t u p q = rw (p, q) (alike-self u)

pub one-found : {A : Type 0} (a : A) → IsOne (found a)
one-found a = record {
  one_found = λ readings b c p q. p ∙ sym q;
  one_stop = λ readings s t p q. absurd p;
  not_both = λ readings b s p q. q;
}

pub same_source : (x y : Source) → x.0 ≡ y.0 → x.1 ≡ y.1 → x ≡ y
same_source x y names bytes =
    let first : List ℕ → Source = λ name. (name, x.1) in
    let second : List ℕ → Source = λ l. (y.0, l) in
    ap first names ∙ ap second bytes

pub one-file : (extent : Extent) (name : List ℕ) → IsOne (file extent name)
one-file extent name = record {
  one_found = λ readings b c p q.
      let told : Some b.1 ≡ Some c.1 = sym p.0 ∙ q.0 in
      let bytes : b.1 ≡ c.1 = cc in
      same_source b c (p.1 ∙ sym q.1) bytes;
  one_stop = λ readings s t p q. alike-of s t (Reads extent name) p.1 q.1;
  not_both = λ readings b s p q. (let e : Some b.1 ≡ None = sym p.0 ∙ q.0 in cc);
}

pub one-the : {A : Type 0} (Is : A → Type 0) (otherwise : Obstacle) → ((a b : A) → Is a → Is b → a ≡ b) → IsOne (the Is otherwise)
one-the Is otherwise one = record {
  one_found = λ readings a b p q. one a b p q;
  one_stop = λ readings s t p q. alike-of s t otherwise p.1 q.1;
  not_both = λ readings a s p q. q.0 a p;
}

two_stops : {A B : Type 0} (P : Pass A) (K : A → Pass B) → IsOne P → ((a : A) → IsOne (K a)) → (readings : Readings) (s t : Obstacle)
    → (P >>= K).stops readings s → (P >>= K).stops readings t → IsAlike s t
two_stops P K one ones readings s t (inl p) (inl q) = one.one_stop readings s t p q
two_stops P K one ones readings s t (inl p) (inr q) = absurd (one.not_both readings q.0 s q.1 p)
two_stops P K one ones readings s t (inr p) (inl q) = absurd (one.not_both readings p.0 t p.1 q)
two_stops P K one ones readings s t (inr p) (inr q) =
    let same = one.one_found readings q.0 p.0 q.1 p.1 in
    (ones p.0).one_stop readings s t p.2 (subst (λ a. (K a).stops readings t) same q.2)

found_stops : {A B : Type 0} (P : Pass A) (K : A → Pass B) → IsOne P → ((a : A) → IsOne (K a)) → (readings : Readings) (b : B) (s : Obstacle)
    → (P >>= K).finds readings b → (P >>= K).stops readings s → ⊥
found_stops P K one ones readings b s p (inl q) = one.not_both readings p.0 s p.1 q
found_stops P K one ones readings b s p (inr q) =
    let same = one.one_found readings q.0 p.0 q.1 p.1 in
    (ones p.0).not_both readings b s p.2 (subst (λ a. (K a).stops readings s) same q.2)

two_found : {A B : Type 0} (P : Pass A) (K : A → Pass B) → IsOne P → ((a : A) → IsOne (K a)) → (readings : Readings) (b c : B)
    → (P >>= K).finds readings b → (P >>= K).finds readings c → b ≡ c
two_found P K one ones readings b c p q =
    let same = one.one_found readings q.0 p.0 q.1 p.1 in
    (ones p.0).one_found readings b c p.2 (subst (λ a. (K a).finds readings c) same q.2)

pub one-bind : {A B : Type 0} (P : Pass A) (K : A → Pass B) → IsOne P → ((a : A) → IsOne (K a)) → IsOne (P >>= K)
one-bind P K one ones = record {
  one_found = two_found P K one ones;
  one_stop = two_stops P K one ones;
  not_both = found_stops P K one ones;
}

-- a judgement finds one thing at most, and refuses nothing that it finds
pub record IsOneJudgement {A : Type 0} (J : Judgement A) : Type 0 where
  pub one_thing : (a b : A) → J.stands_for a → J.stands_for b → a ≡ b
  pub not_both : (a : A) (r : Refusal) → J.stands_for a → J.refused_for r → ⊥

both_refuse : (r q : Refusal) (s t : Obstacle) → s ≡ Refuses r → t ≡ Refuses q → IsAlike s t
both_refuse r q s t e f = rw (e, f) tt

pub one-judged : {A : Type 0} (J : Judgement A) → IsOneJudgement J → IsOne (judged J)
one-judged J one = record {
  one_found = λ readings a b p q. one.one_thing a b p q;
  one_stop = λ readings s t (r, p, e) (q, k, f). both_refuse r q s t e f;
  not_both = λ readings a s p (r, q, e). one.not_both a r p q;
}

pub one-files : (extent : Extent) (names : List (List ℕ)) → IsOne (files extent names)
one-files extent [] = one-found []
one-files extent (name ∷ more) =
    one-bind (file extent name) (λ first. files extent more >>= λ rest. found (first ∷ rest)) (one-file extent name)
    (λ first. one-bind (files extent more) (λ rest. found (first ∷ rest)) (one-files extent more) (λ rest. one-found (first ∷ rest)))

-- ---- passes alike

module _ {A B : Type 0} (P Q : Pass A) (K L : A → Pass B) (alike : AreAlike P Q) (back : AreAlike Q P)
    (next : (readings : Readings) (a b : A) → P.finds readings a → Q.finds readings b → AreAlike (K a) (L b)) where
  alike_stops : (readings : Readings) (s t : Obstacle) → (P >>= K).stops readings s → (Q >>= L).stops readings t → IsAlike s t
  alike_stops readings s t (inl p) (inl q) = alike.one_stop readings s t p q
  alike_stops readings s t (inl p) (inr q) = absurd (back.not_both readings q.0 s q.1 p)
  alike_stops readings s t (inr p) (inl q) = absurd (alike.not_both readings p.0 t p.1 q)
  alike_stops readings s t (inr p) (inr q) = (next readings p.0 q.0 p.1 q.1).one_stop readings s t p.2 q.2

  alike_finds : (readings : Readings) (b : B) (s : Obstacle) → (P >>= K).finds readings b → (Q >>= L).stops readings s → ⊥
  alike_finds readings b s p (inl q) = alike.not_both readings p.0 s p.1 q
  alike_finds readings b s p (inr q) = (next readings p.0 q.0 p.1 q.1).not_both readings b s p.2 q.2

  pub alike-bind : AreAlike (P >>= K) (Q >>= L)
  alike-bind = record { one_stop = alike_stops; not_both = alike_finds }

-- behind a pass that finds one thing at most
pub alike-behind : {A B : Type 0} (P : Pass A) (K L : A → Pass B) → IsOne P → ((a : A) → AreAlike (K a) (L a)) → AreAlike (P >>= K) (P >>= L)
alike-behind P K L one next =
    alike-bind P P K L (alike-one P one) (alike-one P one)
    (λ readings a b p q. subst (λ x. AreAlike (K a) (L x)) (one.one_found readings a b p q) (next a))

-- a judgement that refuses nothing stops nowhere
pub alike-judged : {A : Type 0} (J H : Judgement A) → ((r : Refusal) → J.refused_for r → ⊥) → ((r : Refusal) → H.refused_for r → ⊥)
    → AreAlike (judged J) (judged H)
alike-judged J H never none = record {
  one_stop = λ readings s t (r, p, e) q. absurd (never r p);
  not_both = λ readings a s p (r, q, e). none r q;
}

-- a judgement that refuses nothing that it finds
pub alike-once : {A : Type 0} (J : Judgement A) → ((a : A) (r : Refusal) → J.stands_for a → J.refused_for r → ⊥) → AreAlike (judged J) (judged J)
alike-once J clash = record {
  one_stop = λ readings s t (r, p, e) (q, k, f). both_refuse r q s t e f;
  not_both = λ readings a s p (r, q, e). clash a r p q;
}
