-- The scripts and the files of all loads are there, once the users' texts were judged and the files were read.
use Rattle.std.proofs.Common.{◌≡◌, ℕ, ◌+◌, Bool, true, false, cond, not, IsTrue, List, [], ◌∷◌, ◌++◌, length, slice_index_or, Option, Some, None, option_map, IsSome, IfSome, zero, suc, refl, sym, ◌∙◌, subst, arith}
use Rattle.std.specs.List.{All, cons_option, find}
use Rattle.std.specs.Option.{option_or}
use Rattle.std.specs.Str.{bytes_eq}
use Rattle.cube_outside.specs.declared.files.Extent.{Extent}
use Rattle.file_passes.specs.Pass.{Readings, Source, files, source_of}
use Rattle.file_passes.specs.declared.refusal.Cause.TheVariants.{UnknownScript}
use Rattle.file_passes.specs.declared.refusal.Refusal.{Refusal}
use Rattle.grammar.proofs.Tokens.{bytes_eq_self}
use Rattle.dim_name.specs.Name.{has_name, place_of}
use Rattle.dim_core.proofs.Keys.{not_among}
use Rattle.script_bound.specs.declared.script.BoundScript.{BoundScript}
use Rattle.user_text.specs.declared.command.UserBody.{UserBody}
use Rattle.user_text.specs.declared.command.UserBody.TheVariants as bodies
use Rattle.user_text.specs.declared.command.UserCommand.{UserCommand}
use Rattle.judged_files.specs.Loads.{file_of, user_files, record_files, IsReady, AreReady}
use Rattle.judged_files.specs.Refusals.{refused_at}
use Rattle.judged_files.specs.ModelFiles.{ModelFiles}
use Rattle.judged_files.specs.Scripts.{AreScripts}
use Rattle.judged_files.specs.Users.{AreUserTexts, AreUsers, is_unknown_load, is_unknown, AreKnown, unknown_script}
pub use Rattle.std.proofs.lemmas.List.Elements.{All-tail as all-rest}
use Rattle.check_order.proofs.Walks.{all-first as all-before, all-second as all-behind}

-- ---- lists

pub all-none : {X : Type 0} (P : X → Type 0) → All P []
all-none P k d low = absurd (omega (arith, low))

pub all-more : {X : Type 0} (P : X → Type 0) (x : X) (xs : List X) → P x → All P xs → All P (x ∷ xs)
all-more P x xs first rest zero d low = first
all-more P x xs first rest (suc k) d low = rest k d (omega (arith, low))

pub all-first : {X : Type 0} (P : X → Type 0) (x : X) (xs : List X) → All P (x ∷ xs) → P x
all-first P x xs all = all 0 x (omega arith)

pub all-here : {X : Type 0} (P : X → Type 0) (before : List X) (here : X) (rest : List X) → All P (before ++ here ∷ rest) → P here
all-here P before here rest all = all-first P here rest (all-behind P before (here ∷ rest) all)

-- ---- scripts

-- a name that is among these has its place
pub place-there : (names : List (List ℕ)) (name : List ℕ) → IsTrue (has_name names name) → IsSome (place_of names name)
place-there names name has = by (place_of names name) refl
  where
    by : (place : Option ℕ) → place_of names name ≡ place → IsSome place
    by None none = (let clash : false ≡ true = sym (not_among names name none) ∙ has in cc)
    by (Some place) is = refl

none-found : {X : Type 0} (p : X → Bool) (xs : List X) → find p xs ≡ None → All (λ x. p x ≡ false) xs
none-found p [] none = all-none (λ x. p x ≡ false)
none-found p (x ∷ xs) none = by (p x) refl none (none-found p xs)
  where
    by : (b : Bool) → p x ≡ b → cond b (Some x) (find p xs) ≡ None → (find p xs ≡ None → All (λ y. p y ≡ false) xs) → All (λ y. p y ≡ false) (x ∷ xs)
    by true is none rest = (let clash : Some x ≡ None = none in cc)
    by false is none rest = all-more (λ y. p y ≡ false) x xs is (rest none)

neither : {X : Type 0} (a b : Option X) → option_or a b ≡ None → (a ≡ None) × (b ≡ None)
neither None b none = (refl, none)
neither (Some x) b none = (let clash : Some x ≡ None = none in cc)

unmapped : {X Y : Type 0} (f : X → Y) (a : Option X) → option_map f a ≡ None → a ≡ None
unmapped f None none = refl
unmapped f (Some x) none = (let clash : Some (f x) ≡ None = none in cc)

module _ (scripts : List (List ℕ)) where
  none-unknown : (before : ℕ) (sources : List Source) (users : List (List UserCommand)) → AreUserTexts before sources users
      → unknown_script scripts sources users ≡ None → AreKnown scripts users
  none-unknown before [] [] texts none = all-none (All (λ command. is_unknown scripts command ≡ false))
  none-unknown before [] (commands ∷ rest) texts none = absurd texts
  none-unknown before (source ∷ more) [] texts none = absurd texts
  none-unknown before (source ∷ more) (commands ∷ rest) texts none =
      let told : UserCommand → Refusal = λ command. refused_at source.0 command.at UnknownScript in
      let both = neither (option_map told (find (is_unknown scripts) commands)) (unknown_script scripts more rest) none in
      all-more (All (λ command. is_unknown scripts command ≡ false)) commands rest
      (none-found (is_unknown scripts) commands (unmapped told (find (is_unknown scripts) commands) both.0))
      (none-unknown (before + length commands) more rest texts.1 both.1)

  -- the script of each load is there, once the texts of all users were judged
  pub known-users : (sources : List Source) (users : List (List UserCommand)) → AreUsers scripts sources users → AreKnown scripts users
  known-users sources users are = none-unknown 0 sources users are.texts are.known

-- ---- files

found-later : {X : Type 0} (p : X → Bool) (x : X) (xs : List X) → IsSome (find p xs) → IsSome (find p (x ∷ xs))
found-later p x xs some = by (p x)
  where
    by : (b : Bool) → IsSome (cond b (Some x) (find p xs))
    by true = refl
    by false = some

found-first : {X : Type 0} (p : X → Bool) (x : X) (xs : List X) → p x ≡ true → IsSome (find p (x ∷ xs))
found-first p x xs is = rw is refl

-- the files that were read are there under their names
module _ (extent : Extent) (readings : Readings) where
  files-there : (names : List (List ℕ)) (sources : List Source) → (files extent names).finds readings sources → All (λ name. IsSome (source_of sources name)) names
  files-there [] sources finds = all-none (λ name. IsSome (source_of sources name))
  files-there (name ∷ more) sources (first, read, (rest, others, is)) =
      let Q : List Source → List ℕ → Type 0 = λ all n. IsSome (source_of all n) in
      let here : IsSome (source_of (first ∷ rest) name) =
      found-first (λ source. bytes_eq source.0 name) first rest (subst (λ n. bytes_eq n name ≡ true) (sym read.1) (bytes_eq_self name)) in
      let there = files-there more rest others in
      subst (λ all. All (Q all) (name ∷ more)) (sym is)
      (all-more (Q (first ∷ rest)) name more here (λ k d low. found-later (λ source. bytes_eq source.0 (slice_index_or more k d)) first rest (there k d low)))

-- ---- loads

is-known : (b : Bool) → not b ≡ false → IsTrue b
is-known true is = refl
is-known false is = (let clash : true ≡ false = is in cc)

module _ (model_files : ModelFiles) (sources : List Source) where
  ready-body : (body : UserBody) → is_unknown_load model_files.script_names body ≡ false → IfSome (file_of body) (λ name. IsSome (source_of sources name)) → IsReady model_files sources body
  ready-body (bodies.Put cell number) known read = tt
  ready-body (bodies.Get cell) known read = tt
  ready-body (bodies.Load load) known read = record { known = is-known (has_name model_files.script_names load.script) known; read = read }
  ready-body (bodies.View view) known read = tt
  ready-body (bodies.Spread cell amount how) known read = tt
  ready-body (bodies.Trace cell) known read = tt
  ready-body bodies.Sandbox known read = tt
  ready-body bodies.Publish known read = tt
  ready-body bodies.Discard known read = tt

  abbrev Is : List ℕ → Type 0
  Is name = IsSome (source_of sources name)

  -- the file of a command, where it has one, is the first of those of the commands
  file-first : (file : Option (List ℕ)) (command : UserCommand) (commands : List UserCommand) → file_of command.body ≡ file
      → All Is (user_files (command ∷ commands)) → IfSome file Is × All Is (user_files commands)
  file-first None command commands is all = (tt, subst (λ f. All Is (cons_option f (user_files commands))) is all)
  file-first (Some name) command commands is all =
      let here : All Is (name ∷ user_files commands) = subst (λ f. All Is (cons_option f (user_files commands))) is all in
      (all-first Is name (user_files commands) here, all-rest Is name (user_files commands) here)

  ready-user : (commands : List UserCommand) → All (λ command. is_unknown model_files.script_names command ≡ false) commands → All Is (user_files commands) → AreReady model_files sources commands
  ready-user [] known read = all-none (λ command. IsReady model_files sources command.body)
  ready-user (command ∷ commands) known read =
      let K : UserCommand → Type 0 = λ c. is_unknown model_files.script_names c ≡ false in
      let split = file-first (file_of command.body) command commands refl read in
      all-more (λ c. IsReady model_files sources c.body) command commands
      (ready-body command.body (all-first K command commands known) split.0)
      (ready-user commands (all-rest K command commands known) split.1)

  ready-users : (users : List (List UserCommand)) → AreKnown model_files.script_names users → All Is (record_files users) → All (AreReady model_files sources) users
  ready-users [] known read = all-none (AreReady model_files sources)
  ready-users (commands ∷ rest) known read =
      let K : List UserCommand → Type 0 = All (λ c. is_unknown model_files.script_names c ≡ false) in
      all-more (AreReady model_files sources) commands rest
      (ready-user commands (all-first K commands rest known) (all-before Is (user_files commands) (record_files rest) read))
      (ready-users rest (all-rest K commands rest known) (all-behind Is (user_files commands) (record_files rest) read))

  -- each load is ready, once its script is known and the files of all records were read
  pub all-ready : (extent : Extent) (readings : Readings) (users : List (List UserCommand)) → AreKnown model_files.script_names users → (files extent (record_files users)).finds readings sources
      → All (AreReady model_files sources) users
  all-ready extent readings users known finds = ready-users users known (files-there extent readings (record_files users) sources finds)

-- ---- how many scripts there are

pub as-many-files : (extent : Extent) (readings : Readings) (names : List (List ℕ)) (sources : List Source) → (files extent names).finds readings sources → length sources ≡ length names
as-many-files extent readings [] sources finds = rw finds refl
as-many-files extent readings (name ∷ more) sources (first, read, (rest, others, is)) =
    let same = as-many-files extent readings more rest others in
    rw is (omega (arith, same))

pub as-many-scripts : (sources : List Source) (scripts : List BoundScript) → AreScripts sources scripts → length scripts ≡ length sources
as-many-scripts [] [] are = refl
as-many-scripts [] (script ∷ scripts) are = absurd are
as-many-scripts (source ∷ more) [] are = absurd are
as-many-scripts (source ∷ more) (script ∷ scripts) are = (let same = as-many-scripts more scripts are.1 in omega (arith, same))
