-- What a word may be that passes the test before `clap`.
use Rattle.std.proofs.Common.{◌≡◌, ◌∙◌, ◌==◌, ℕ, [], ◌∷◌, ◌++◌, Bool, false, true, Option, Some, None, ap, subst, sym, refl, codes, arith, take, drop, cond, suc, ◌+◌}
use Rattle.std.specs.Str.{bytes_eq}
use Rattle.std.proofs.lemmas.Slice.Eq.{bytes_eq-Decides}
use Rattle.std.proofs.lemmas.Bool.Decides.{nat_tests}
use Rattle.clap.specs.Lexer.{long_of, name_and_value}
use Rattle.clap.specs.Walk.{Held, Text}
use Rattle.clap.specs.Faults.{flag_word_fault}
use Rattle.clap.specs.declared.error.kind.ErrorKind.{ErrorKind}
use Rattle.clap.specs.declared.error.kind.ErrorKind.TheVariants as kinds
use Rattle.cube_words.specs.Words.{names_a_file}
use Rattle.cube_words.specs.Inside.Command.{is_spelled}
use Rattle.cube_words.proofs.OfClap.{rules_here}

-- `clap` refuses the word, whatever it holds
pub record IsRefused (w : Text) : Type 0 where
  pub dashes : bytes_eq w (45 ∷ 45 ∷ []) ≡ false
  pub kind : ErrorKind
  pub refused : (h : Held) → flag_word_fault rules_here false (long_of w) w h ≡ kind ∷ []

pub data Sort (w : Text) : Type 0 where
  file : names_a_file w ≡ true → Sort w
  check : w ≡ codes "--check" → Sort w
  feeders : w ≡ codes "--feeders" → Sort w
  explain : w ≡ codes "--explain" → Sort w
  sample : w ≡ codes "--sample" → Sort w
  given : (v : Text) → w ≡ codes "--sample=" ++ v → Sort w
  refused : IsRefused w → Sort w

abbrev joined : Option Text → Text
joined None = []
joined (Some v) = 61 ∷ v

one_more : (x : ℕ) (xs : Text) (n : ℕ) (b : Bool) → take (1 + n) (x ∷ xs) ++ joined (cond b (Some (drop (1 + n + 1) (x ∷ xs))) None)
    ≡ x ∷ (take n xs ++ joined (cond b (Some (drop (n + 1) xs)) None))
one_more x xs n b =
    let there : 1 + n + 1 ≡ suc (n + 1) = omega arith in
    let here : 1 + n ≡ suc n = omega arith in
    rw (there, here) refl

-- a word is its name and its value, with `=` between
rejoin : (xs : Text) → (name_and_value xs).0 ++ joined (name_and_value xs).1 ≡ xs
rejoin [] = refl
rejoin (x ∷ xs) = go (x == 61) refl (rejoin xs)
  where
    go : (b : Bool) → (x == 61) ≡ b → (name_and_value xs).0 ++ joined (name_and_value xs).1 ≡ xs → (name_and_value (x ∷ xs)).0 ++ joined (name_and_value (x ∷ xs)).1 ≡ x ∷ xs
    go true e more =
        let is : 61 ≡ x = grind (arith, nat_tests) in
        rw e (ap (λ y. y ∷ xs) is)
    go false e more = rw e (one_more x xs _ _ ∙ ap (λ ys. x ∷ ys) more)

same : (a b : Text) → bytes_eq a b ≡ true → b ≡ a
same a b e = sym ((bytes_eq-Decides a b).0 e)

module _ (w n : Text) (dashes : bytes_eq w (45 ∷ 45 ∷ []) ≡ false) where
  abbrev Spells : Option Text → Type 0
  Spells v = (long_of w ≡ Some (n, v)) × (w ≡ 45 ∷ 45 ∷ (n ++ joined v))

  by_name : (v : Option Text) (a f x s : Bool) → bytes_eq (codes "check") n ≡ a → bytes_eq (codes "feeders") n ≡ f
      → bytes_eq (codes "explain") n ≡ x → bytes_eq (codes "sample") n ≡ s → Spells v → Sort w
  by_name None true f x s ea ef ex es (long, is) = check (is ∙ ap (λ y. 45 ∷ 45 ∷ (y ++ [])) (same (codes "check") n ea))
  by_name (Some v) true f x s ea ef ex es (long, is) =
      refused (record { dashes = dashes; kind = kinds.TooManyValues; refused = λ h. rw (long, ea) refl })
  by_name None false true x s ea ef ex es (long, is) = feeders (is ∙ ap (λ y. 45 ∷ 45 ∷ (y ++ [])) (same (codes "feeders") n ef))
  by_name (Some v) false true x s ea ef ex es (long, is) =
      refused (record { dashes = dashes; kind = kinds.TooManyValues; refused = λ h. rw (long, ea, ef) refl })
  by_name None false false true s ea ef ex es (long, is) = explain (is ∙ ap (λ y. 45 ∷ 45 ∷ (y ++ [])) (same (codes "explain") n ex))
  by_name (Some v) false false true s ea ef ex es (long, is) =
      refused (record { dashes = dashes; kind = kinds.TooManyValues; refused = λ h. rw (long, ea, ef, ex) refl })
  by_name None false false false true ea ef ex es (long, is) = sample (is ∙ ap (λ y. 45 ∷ 45 ∷ (y ++ [])) (same (codes "sample") n es))
  by_name (Some v) false false false true ea ef ex es (long, is) =
      given v (is ∙ ap (λ y. 45 ∷ 45 ∷ (y ++ 61 ∷ v)) (same (codes "sample") n es))
  by_name v false false false false ea ef ex es (long, is) =
      refused (record { dashes = dashes; kind = kinds.UnknownArgument; refused = λ h. rw (long, ea, ef, ex, es) refl })

behind_dash : (cs : Text) → is_spelled (45 ∷ cs) ≡ true → Sort (45 ∷ cs)
behind_dash [] spelled = cc spelled
behind_dash (d ∷ []) spelled = cc spelled
behind_dash (d ∷ x ∷ xs) spelled =
    let is : d ≡ 45 = grind (arith, nat_tests) in
    rw is (by_name (45 ∷ 45 ∷ x ∷ xs) (name_and_value (x ∷ xs)).0 refl (name_and_value (x ∷ xs)).1 _ _ _ _ refl refl refl refl
    (refl, ap (λ ys. 45 ∷ 45 ∷ ys) (sym (rejoin (x ∷ xs)))))

pub sort_of : (w : Text) → is_spelled w ≡ true → Sort w
sort_of [] spelled = cc spelled
sort_of (c ∷ cs) spelled = go (c == 45) refl
  where
    go : (b : Bool) → (c == 45) ≡ b → Sort (c ∷ cs)
    go true e =
        let is : c ≡ 45 = grind (arith, nat_tests) in
        rw is (behind_dash cs (subst (λ x. is_spelled (x ∷ cs) ≡ true) is spelled))
    go false e = file (rw e refl)
