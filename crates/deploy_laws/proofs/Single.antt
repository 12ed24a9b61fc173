-- Stages that have one answer, put together.
use Rattle.std.proofs.Common.{◌≡◌, inl, inr, ℕ, ◌+◌, Option, Some, None, Result, Ok, Err, List, [], ◌∷◌, refl, sym, ◌∙◌, subst}
use Rattle.model_bind.specs.declared.fault.DeployFault.{DeployFault}
use Rattle.model_bind.specs.Stages.{Stage, found, meant, unless, each, ◌>>=◌}
use Rattle.deploy_laws.specs.OneAnswer.{IsSameRefusal, HasOneAnswer}

pub single-found : {A : Type 0} (a : A) → HasOneAnswer (found a)
single-found a = record { one_found = λ b c h k. h ∙ sym k; one_refusal = λ e f h k. absurd h; not_both = λ b e h k. absurd k }

pub single-meant : {A : Type 0} (answer : Result A DeployFault) → HasOneAnswer (meant answer)
single-meant {A} answer = record { one_found = one; one_refusal = refusal; not_both = λ a e h k. let clash = sym h ∙ k in cc }
  where
    one : (a b : A) → answer ≡ Ok a → answer ≡ Ok b → a ≡ b
    one a b h k = let same = sym h ∙ k in cc

    refusal : (e f : DeployFault) → answer ≡ Err e → answer ≡ Err f → IsSameRefusal e f
    refusal e f h k = let same = sym h ∙ k in inl (cc)

pub single-unless : (refusal : Option DeployFault) → HasOneAnswer (unless refusal)
single-unless refusal = record { one_found = λ a b h k. refl; one_refusal = one; not_both = λ a e h k. let clash : None ≡ Some e = sym h ∙ k in cc }
  where
    one : (e f : DeployFault) → refusal ≡ Some e → refusal ≡ Some f → IsSameRefusal e f
    one e f h k = let same : Some e ≡ Some f = sym h ∙ k in inl (cc)

module _ {A B : Type 0} (S : Stage A) (K : A → Stage B) (one : HasOneAnswer S) (each-one : (a : A) → HasOneAnswer (K a)) where
  then-found : (b c : B) → (S >>= K).finds b → (S >>= K).finds c → b ≡ c
  then-found b c (x, s, k) (y, t, l) = (each-one y).one_found b c (subst (λ a. (K a).finds b) (one.one_found x y s t) k) l

  then-refused : (e f : DeployFault) → (S >>= K).refuses e → (S >>= K).refuses f → IsSameRefusal e f
  then-refused e f (inl r) (inl q) = one.one_refusal e f r q
  then-refused e f (inl r) (inr (y, t, q)) = absurd (one.not_both y e t r)
  then-refused e f (inr (x, s, r)) (inl q) = absurd (one.not_both x f s q)
  then-refused e f (inr (x, s, r)) (inr (y, t, q)) = (each-one y).one_refusal e f (subst (λ a. (K a).refuses e) (one.one_found x y s t) r) q

  then-apart : (b : B) (e : DeployFault) → (S >>= K).finds b → (S >>= K).refuses e → ⊥
  then-apart b e (x, s, k) (inl r) = one.not_both x e s r
  then-apart b e (x, s, k) (inr (y, t, r)) = (each-one y).not_both b e (subst (λ a. (K a).finds b) (one.one_found x y s t) k) r

  pub single-then : HasOneAnswer (S >>= K)
  single-then = record { one_found = then-found; one_refusal = then-refused; not_both = then-apart }

pub single-each : {A B : Type 0} (stage : ℕ → A → Stage B) → ((n : ℕ) (a : A) → HasOneAnswer (stage n a)) → (n : ℕ) (xs : List A) → HasOneAnswer (each stage n xs)
single-each {B = B} stage one n [] = single-found {A = List B} []
single-each stage one n (x ∷ xs) =
    single-then (stage n x) (λ y. each stage (n + 1) xs >>= (λ ys. found (y ∷ ys))) (one n x)
    (λ y. single-then (each stage (n + 1) xs) (λ ys. found (y ∷ ys)) (single-each stage one (n + 1) xs) (λ ys. single-found (y ∷ ys)))
