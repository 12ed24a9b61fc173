-- Words ask for one plan at most.
use Rattle.std.proofs.Common.{◌≡◌, ℕ, List, [], ◌∷◌, ◌++◌, Bool, true, false, ◌&&◌, IsTrue, codes, inl, inr, sym, ◌∙◌, ap, subst, ap₂, arith, slice_index_or}
use Rattle.std.proofs.lemmas.List.{append_cancel_left}
use Rattle.std.specs.List.{list_all}
use Rattle.std.specs.Str.Parse.{digits_value}
use Rattle.std.proofs.lemmas.Bool.{and_parts}
use Rattle.cube_words.specs.Words.{Plan, Run, Check, Explain, Feeders, Sample, IsPlan, IsFlagged, IsCheck, IsExplain, IsFeeders, IsSample, names_a_file}

first-of : {A : Type 0} (x y : A) (xs ys : List A) → x ∷ xs ≡ y ∷ ys → x ≡ y
first-of x y xs ys same = cc

behind-first : {A : Type 0} (x y : A) (xs ys : List A) → x ∷ xs ≡ y ∷ ys → xs ≡ ys
behind-first x y xs ys same = cc

second-of : {A : Type 0} (x y a b : A) (xs ys : List A) → a ∷ x ∷ xs ≡ b ∷ y ∷ ys → x ≡ y
second-of x y a b xs ys same = cc

never-both : (b : Bool) → IsTrue (b && false) → ⊥
never-both true is = cc
never-both false is = cc

no-flag : (name flag : List ℕ) → name ≡ 45 ∷ flag → IsTrue (names_a_file name) → ⊥
no-flag name flag same is = (let never : IsTrue (names_a_file (45 ∷ flag)) = subst (λ n. IsTrue (names_a_file n)) same is in cc)

-- the flags differ in their third letter
no-explain-check : codes "--explain" ≡ 45 ∷ codes "-check" → ⊥
no-explain-check same = (let letters : 101 ≡ 99 = ap (λ l. slice_index_or l 2 0) same in omega (arith, letters))

no-explain-feeders : codes "--explain" ≡ 45 ∷ codes "-feeders" → ⊥
no-explain-feeders same = (let letters : 101 ≡ 102 = ap (λ l. slice_index_or l 2 0) same in omega (arith, letters))

module _ (words : List (List ℕ)) (files : IsTrue (list_all names_a_file words)) where
  no-first : (flag : List ℕ) (more : List (List ℕ)) → words ≡ (45 ∷ flag) ∷ more → ⊥
  no-first flag more same =
      let never : IsTrue (list_all names_a_file ((45 ∷ flag) ∷ more)) = subst (λ w. IsTrue (list_all names_a_file w)) same files in
      cc

  no-second : (name flag : List ℕ) → words ≡ name ∷ (45 ∷ flag) ∷ [] → ⊥
  no-second name flag same =
      never-both (names_a_file name) (subst (λ w. IsTrue (list_all names_a_file w)) same files)

  -- a flag is no file
  no-flagged : (flag model : List ℕ) → IsFlagged (45 ∷ flag) words model → ⊥
  no-flagged flag model flagged = elim flagged.all [
    | inl is ↦ no-first flag (model ∷ []) is
    | inr is ↦ no-second model flag is
  ]

  no-explain : (model : List ℕ) (users : List (List ℕ)) → IsExplain words model users → ⊥
  no-explain model users asks = elim asks.all [
    | inl is ↦ no-first (codes "-explain") (model ∷ users) is
    | inr is ↦ no-second model (codes "-explain") is.1
  ]

  no-sample : (size : ℕ) → IsSample words size → ⊥
  no-sample size sample = elim sample.2 [
    | inl is ↦ no-first (codes "-sample") (sample.0 ∷ []) is
    | inr is ↦ no-first (codes "-sample=" ++ sample.0) [] is
  ]

module _ (words : List (List ℕ)) where
  one-model : (flag x y : List ℕ) → IsFlagged (45 ∷ flag) words x → IsFlagged (45 ∷ flag) words y → x ≡ y
  one-model flag x y p q =
      let f = 45 ∷ flag in
      elim p.all [
        | inl is ↦ elim q.all [
          | inl too ↦ second-of x y f f [] [] (sym is ∙ too)
          | inr too ↦ absurd (no-flag y flag (sym (first-of f y (x ∷ []) (f ∷ []) (sym is ∙ too))) q.file)
        ]
        | inr is ↦ elim q.all [
          | inl too ↦ absurd (no-flag x flag (first-of x f (f ∷ []) (y ∷ []) (sym is ∙ too)) p.file)
          | inr too ↦ first-of x y (f ∷ []) (f ∷ []) (sym is ∙ too)
        ]
      ]

  -- two flags aren't asked for at once
  no-two-flags : (x y : List ℕ) → IsCheck words x → IsFeeders words y → ⊥
  no-two-flags x y p q = elim p.all [
    | inl is ↦ elim q.all [
      | inl too ↦ (let flags = first-of (codes "--check") (codes "--feeders") (x ∷ []) (y ∷ []) (sym is ∙ too) in cc)
      | inr too ↦ no-flag y (codes "-check") (sym (first-of (codes "--check") y (x ∷ []) (codes "--feeders" ∷ []) (sym is ∙ too))) q.file
    ]
    | inr is ↦ elim q.all [
      | inl too ↦ no-flag x (codes "-feeders") (first-of x (codes "--feeders") (codes "--check" ∷ []) (y ∷ []) (sym is ∙ too)) p.file
      | inr too ↦ (let flags = second-of (codes "--check") (codes "--feeders") x y [] [] (sym is ∙ too) in cc)
    ]
  ]

  no-flagged-sample : (flag model : List ℕ) (size : ℕ) → IsFlagged (45 ∷ flag) words model → (45 ∷ flag ≡ codes "--sample" → ⊥) → IsSample words size → ⊥
  no-flagged-sample flag model size p other q =
      let f = 45 ∷ flag in
      elim p.all [
        | inl is ↦ elim q.2 [
          | inl too ↦ other (first-of f (codes "--sample") (model ∷ []) (q.0 ∷ []) (sym is ∙ too))
          | inr too ↦ (let both : f ∷ model ∷ [] ≡ (codes "--sample=" ++ q.0) ∷ [] = sym is ∙ too in cc)
        ]
        | inr is ↦ elim q.2 [
          | inl too ↦ no-flag model (codes "-sample") (first-of model (codes "--sample") (f ∷ []) (q.0 ∷ []) (sym is ∙ too)) p.file
          | inr too ↦ (let both : model ∷ f ∷ [] ≡ (codes "--sample=" ++ q.0) ∷ [] = sym is ∙ too in cc)
        ]
      ]

  -- an explanation is asked for by its flag alone
  explained-file : (model : List ℕ) (users : List (List ℕ)) → IsExplain words model users → IsTrue (names_a_file model)
  explained-file model users asks = (and_parts (names_a_file model) (list_all names_a_file users) asks.files).0

  no-explain-flagged : (flag x y : List ℕ) (users : List (List ℕ)) → IsExplain words x users → IsFlagged (45 ∷ flag) words y
      → (codes "--explain" ≡ 45 ∷ flag → ⊥) → ⊥
  no-explain-flagged flag x y users p q other =
      let f = codes "--explain" in
      let g = 45 ∷ flag in
      elim p.all [
        | inl is ↦ elim q.all [
          | inl too ↦ other (first-of f g (x ∷ users) (y ∷ []) (sym is ∙ too))
          | inr too ↦ no-flag y (codes "-explain") (sym (first-of f y (x ∷ users) (g ∷ []) (sym is ∙ too))) q.file
        ]
        | inr is ↦ elim q.all [
          | inl too ↦ no-flag x flag (first-of x g (f ∷ []) (y ∷ []) (sym is.1 ∙ too)) (explained-file x users p)
          | inr too ↦ other (second-of f g x y [] [] (sym is.1 ∙ too))
        ]
      ]

  no-explain-sample : (model : List ℕ) (users : List (List ℕ)) (size : ℕ) → IsExplain words model users → IsSample words size → ⊥
  no-explain-sample model users size p q =
      let f = codes "--explain" in
      elim p.all [
        | inl is ↦ elim q.2 [
          | inl too ↦ (let flags = first-of f (codes "--sample") (model ∷ users) (q.0 ∷ []) (sym is ∙ too) in cc)
          | inr too ↦ (let both : f ∷ model ∷ users ≡ (codes "--sample=" ++ q.0) ∷ [] = sym is ∙ too in cc)
        ]
        | inr is ↦ elim q.2 [
          | inl too ↦ no-flag model (codes "-sample") (first-of model (codes "--sample") (f ∷ []) (q.0 ∷ []) (sym is.1 ∙ too)) (explained-file model users p)
          | inr too ↦ (let both : model ∷ f ∷ [] ≡ (codes "--sample=" ++ q.0) ∷ [] = sym is.1 ∙ too in cc)
        ]
      ]

  one-explained : (x y : List ℕ) (us vs : List (List ℕ)) → IsExplain words x us → IsExplain words y vs → x ∷ us ≡ y ∷ vs
  one-explained x y us vs p q =
      let f = codes "--explain" in
      elim p.all [
        | inl is ↦ elim q.all [
          | inl too ↦ behind-first f f (x ∷ us) (y ∷ vs) (sym is ∙ too)
          | inr too ↦ absurd (no-flag y (codes "-explain") (sym (first-of f y (x ∷ us) (f ∷ []) (sym is ∙ too.1))) (explained-file y vs q))
        ]
        | inr is ↦ elim q.all [
          | inl too ↦ absurd (no-flag x (codes "-explain") (first-of x f (f ∷ []) (y ∷ vs) (sym is.1 ∙ too)) (explained-file x us p))
          | inr too ↦ ap₂ ◌∷◌ (first-of x y (f ∷ []) (f ∷ []) (sym is.1 ∙ too.1)) (is.0 ∙ sym too.0)
        ]
      ]

  one-digits : (a b : ℕ) (p : IsSample words a) (q : IsSample words b) → p.0 ≡ q.0
  one-digits a b p q = elim p.2 [
    | inl is ↦ elim q.2 [
      | inl too ↦ second-of p.0 q.0 (codes "--sample") (codes "--sample") [] [] (sym is ∙ too)
      | inr too ↦ (let both : codes "--sample" ∷ p.0 ∷ [] ≡ (codes "--sample=" ++ q.0) ∷ [] = sym is ∙ too in cc)
    ]
    | inr is ↦ elim q.2 [
      | inl too ↦ (let both : (codes "--sample=" ++ p.0) ∷ [] ≡ codes "--sample" ∷ q.0 ∷ [] = sym is ∙ too in cc)
      | inr too ↦ append_cancel_left (codes "--sample=") p.0 q.0 (first-of (codes "--sample=" ++ p.0) (codes "--sample=" ++ q.0) [] [] (sym is ∙ too))
    ]
  ]

  one-size : (a b : ℕ) → IsSample words a → IsSample words b → a ≡ b
  one-size a b p q = sym p.1.value ∙ ap (digits_value 10) (one-digits a b p q) ∙ q.1.value

  no-check-sample : (model : List ℕ) (size : ℕ) → IsCheck words model → IsSample words size → ⊥
  no-check-sample model size p q = no-flagged-sample (codes "-check") model size p (λ same. cc) q

  no-feeders-sample : (model : List ℕ) (size : ℕ) → IsFeeders words model → IsSample words size → ⊥
  no-feeders-sample model size p q = no-flagged-sample (codes "-feeders") model size p (λ same. cc) q

  pub one_plan : (a b : Plan) → IsPlan words a → IsPlan words b → a ≡ b
  one_plan (Run model users) (Run other more) p q = (let same : model ∷ users ≡ other ∷ more = sym p.all ∙ q.all in cc)
  one_plan (Run model users) (Check other) p q = absurd (no-flagged words p.files (codes "-check") other q)
  one_plan (Run model users) (Explain other more) p q = absurd (no-explain words p.files other more q)
  one_plan (Run model users) (Feeders other) p q = absurd (no-flagged words p.files (codes "-feeders") other q)
  one_plan (Run model users) (Sample size) p q = absurd (no-sample words p.files size q)
  one_plan (Check model) (Run other users) p q = absurd (no-flagged words q.files (codes "-check") model p)
  one_plan (Check model) (Check other) p q = ap Check (one-model (codes "-check") model other p q)
  one_plan (Check model) (Explain other users) p q = absurd (no-explain-flagged (codes "-check") other model users q p no-explain-check)
  one_plan (Check model) (Feeders other) p q = absurd (no-two-flags model other p q)
  one_plan (Check model) (Sample size) p q = absurd (no-check-sample model size p q)
  one_plan (Explain model users) (Run other more) p q = absurd (no-explain words q.files model users p)
  one_plan (Explain model users) (Check other) p q = absurd (no-explain-flagged (codes "-check") model other users p q no-explain-check)
  one_plan (Explain model users) (Explain other more) p q = (let same = one-explained model other users more p q in cc)
  one_plan (Explain model users) (Feeders other) p q = absurd (no-explain-flagged (codes "-feeders") model other users p q no-explain-feeders)
  one_plan (Explain model users) (Sample size) p q = absurd (no-explain-sample model users size p q)
  one_plan (Feeders model) (Run other users) p q = absurd (no-flagged words q.files (codes "-feeders") model p)
  one_plan (Feeders model) (Check other) p q = absurd (no-two-flags other model q p)
  one_plan (Feeders model) (Explain other users) p q = absurd (no-explain-flagged (codes "-feeders") other model users q p no-explain-feeders)
  one_plan (Feeders model) (Feeders other) p q = ap Feeders (one-model (codes "-feeders") model other p q)
  one_plan (Feeders model) (Sample size) p q = absurd (no-feeders-sample model size p q)
  one_plan (Sample size) (Run other users) p q = absurd (no-sample words q.files size p)
  one_plan (Sample size) (Check other) p q = absurd (no-check-sample other size q p)
  one_plan (Sample size) (Explain other users) p q = absurd (no-explain-sample other users size q p)
  one_plan (Sample size) (Feeders other) p q = absurd (no-feeders-sample other size q p)
  one_plan (Sample size) (Sample other) p q = ap Sample (one-size size other p q)
