-- What the getters read of the matches, and what the words then are.
use Rattle.std.proofs.Common.{◌≡◌, ◌∙◌, ℕ, List, [], ◌-◌, ◌<◌, arith, inl, inr, length, map, take, drop, Bool, false, true, Option, Some, None, ap, sym, codes}
use Rattle.std.specs.Prelude.{option_map, ⊤}
use Rattle.std.proofs.lemmas.List.{drop-map, length-map, take_rest}
use Rattle.std.specs.Borrow.{Bor}
use Rattle.clap.specs.Values.{bool_text}
use Rattle.clap.specs.Faults.{fault_of}
use Rattle.clap.specs.Walk.{Text, first_of, one_of, rows_of}
use Rattle.clap.specs.Simple.{matches_of}
use Rattle.clap.specs.Matches.{first_value, one_text}
use Rattle.clap.specs.declared.parser.matches.Found.{Found}
use Rattle.clap.proofs.WalkLemmas.{first_value-rows, one_text-rows}
use Rattle.cube_words.specs.Inside.Command.{are_spelled, cube}
use Rattle.cube_words.specs.Words.{IsExplain, IsPlan, IsSize, Plan, Run, Check, Explain, Feeders, Sample}
use Rattle.cube_words.proofs.OfClap.{Seen}
use Rattle.cube_words.proofs.Outcomes.{Fits, IsTaken, check_taken, explain_taken, feeders_taken, judged, run_taken, sample_taken}

-- the arms of the match that give a plan; of a sample the text is a size
abbrev pub IsForm : Bool → Bool → Bool → Option Text → Option Text → Option Text → Type 0
IsForm false false false None (Some model) (Some user) = ⊤
IsForm true false false None (Some model) None = ⊤
IsForm false true false None (Some model) None = ⊤
IsForm false false true None (Some model) user = ⊤
IsForm false false false (Some digits) None None = (size : ℕ) × IsSize digits size
IsForm _ _ _ _ _ _ = ⊥

-- the words behind the first, and behind the second
pub users_are : {X Y : Type 0} (f : X → Y) (n : ℕ) (xs : List X) → map f (take (length xs - n) (drop n xs)) ≡ drop n (map f xs)
users_are f n xs = ap (map f) (take_rest xs n) ∙ sym (drop-map f n xs)

-- an explanation is asked for by two words or more
pub two_words_at_least : {X : Type 0} (f : X → Text) (xs : List X) → length xs < 2
    → (m : Text) (us : List Text) → IsExplain (map f xs) m us → ⊥
two_words_at_least f xs few m us is =
    let same = length-map xs f in
    elim is.all [
      | inl e ↦ let long = ap length e in absurd (omega (arith, same, long, few))
      | inr (none, e) ↦ let long = ap length e in absurd (omega (arith, same, long, few))
    ]

abbrev now_of : Option (Bor Text) → Option Text
now_of = option_map (λ s. s.now)

-- what a getter of a flag ensures
abbrev pub ReadsFlag : Found → Text → Bool → Type 0
ReadsFlag f id value =
    (one_text f id ≡ Some (codes "true") → value ≡ true) × (one_text f id ≡ Some (codes "false") → value ≡ false)

module _ (f : Found) (words : List Text) (rows : rows_of f ≡ matches_of cube words) (check feeders explain : Bool)
    (size model user : Option (Bor Text)) (check_is : ReadsFlag f (codes "check") check)
    (feeders_is : ReadsFlag f (codes "feeders") feeders) (explain_is : ReadsFlag f (codes "explain") explain)
    (size_is : now_of size ≡ first_value f (codes "sample")) (model_is : now_of model ≡ first_value f (codes "model"))
    (user_is : now_of user ≡ first_value f (codes "users")) where
  flag_read : (id : Text) (value b : Bool) → ReadsFlag f id value → one_of id (matches_of cube words) ≡ Some (bool_text b) → value ≡ b
  flag_read id value true reads e = reads.0 (one_text-rows f id ∙ ap (one_of id) rows ∙ e)
  flag_read id value false reads e = reads.1 (one_text-rows f id ∙ ap (one_of id) rows ∙ e)

  text_read : (text : Option (Bor Text)) (id : Text) → now_of text ≡ first_value f id → now_of text ≡ first_of id (matches_of cube words)
  text_read text id is = is ∙ first_value-rows f id ∙ ap (first_of id) rows

  pub fits : are_spelled words ≡ true → fault_of cube words ≡ []
      → Fits check feeders explain (now_of size) (now_of model) (now_of user) words
  fits spelled taken =
      let (b, d, x, check_shown, feeders_shown, explain_shown, all) = rw taken at (judged words spelled) in
      rw (
        flag_read (codes "check") check b check_is check_shown,
        flag_read (codes "feeders") feeders d feeders_is feeders_shown,
        flag_read (codes "explain") explain x explain_is explain_shown,
        text_read size (codes "sample") size_is,
        text_read model (codes "model") model_is,
        text_read user (codes "users") user_is,
      ) all

  formed : (b d x : Bool) (s m u : Option Text) → IsTaken words b d x s m u → IsForm b d x s m u
      → IsForm check feeders explain (now_of size) (now_of model) (now_of user)
  formed b d x s m u taken form =
      let shown = taken.shown in
      rw (
        flag_read (codes "check") check b check_is (ap (λ (y : Seen). y.0) shown),
        flag_read (codes "feeders") feeders d feeders_is (ap (λ (y : Seen). y.1) shown),
        flag_read (codes "explain") explain x explain_is (ap (λ (y : Seen). y.2) shown),
        text_read size (codes "sample") size_is ∙ ap (λ (y : Seen). y.3) shown,
        text_read model (codes "model") model_is ∙ ap (λ (y : Seen). y.4) shown,
        text_read user (codes "users") user_is ∙ ap (λ (y : Seen). y.5) shown,
      ) form

  pub form : (plan : Plan) → IsPlan words plan → IsForm check feeders explain (now_of size) (now_of model) (now_of user)
  form (Run m us) is = let (u, taken) = run_taken words m us is in formed _ _ _ _ _ _ taken tt
  form (Check m) is = formed _ _ _ _ _ _ (check_taken words m is) tt
  form (Explain m us) is = let (u, taken) = explain_taken words m us is in formed _ _ _ _ _ _ taken tt
  form (Feeders m) is = formed _ _ _ _ _ _ (feeders_taken words m is) tt
  form (Sample n) is = let (digits, size_of, taken) = sample_taken words n is in formed _ _ _ _ _ _ taken (n, size_of)
