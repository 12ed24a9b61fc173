-- Commands that do the same on every content, whatever their users keep in layers, have the same histories.
use Rattle.std.proofs.Common.{◌≡◌, ℕ, ◌+◌, zero, suc, List, [], ◌∷◌, length, map, Some, refl, ap, sym, ◌∙◌, subst}
use Rattle.std.specs.List.{AllZip, slice_get}
use Rattle.history.specs.declared.entry.Entry.{Entry}
use Rattle.history.specs.declared.told.Told.{Told}
use Rattle.history.specs.declared.effect.Effect.{Effect}
use Rattle.history.specs.Version.{version}
use Rattle.history.specs.UserRun.{least_after, ToldFrom}
use Rattle.history.specs.LegalHistory.{IsLegalAt, IsHistoryOf}
use Rattle.layers.specs.Layered.{effect_of, layered, all_layered, IsLayeredHistoryOf}
use Rattle.lists.proofs.Found.{none_some, some_same}

module _ {A B : Type 0} (Q : A → B → Type 0) where
  pub zip_long : (xs : List A) (ys : List B) → AllZip Q xs ys → length xs ≡ length ys
  zip_long [] [] zip = refl
  zip_long [] (y ∷ ys) zip = absurd zip
  zip_long (x ∷ xs) [] zip = absurd zip
  zip_long (x ∷ xs) (y ∷ ys) zip = ap suc (zip_long xs ys zip.1)

  -- what stands at a place of the first list has its like in the second, and the other way round
  pub zip_right : (xs : List A) (ys : List B) (i : ℕ) (x : A) → AllZip Q xs ys → slice_get xs i ≡ Some x
      → (y : B) × (slice_get ys i ≡ Some y) × Q x y
  zip_right [] ys i x zip is = absurd (none_some is)
  zip_right (z ∷ xs) [] i x zip is = absurd zip
  zip_right (z ∷ xs) (y ∷ ys) zero x zip is = (y, refl, subst (λ w. Q w y) (some_same is) zip.0)
  zip_right (z ∷ xs) (y ∷ ys) (suc i) x zip is = zip_right xs ys i x zip.1 is

  pub zip_left : (xs : List A) (ys : List B) (i : ℕ) (y : B) → AllZip Q xs ys → slice_get ys i ≡ Some y
      → (x : A) × (slice_get xs i ≡ Some x) × Q x y
  zip_left xs [] i y zip is = absurd (none_some is)
  zip_left [] (z ∷ ys) i y zip is = absurd zip
  zip_left (x ∷ xs) (z ∷ ys) zero y zip is = (x, refl, subst (λ w. Q x w) (some_same is) zip.0)
  zip_left (x ∷ xs) (z ∷ ys) (suc i) y zip is = zip_left xs ys i y zip.1 is

pub zip_map : {A B : Type 0} (P Q : A → B → Type 0) → ((x : A) (y : B) → P x y → Q x y)
    → (xs : List A) (ys : List B) → AllZip P xs ys → AllZip Q xs ys
zip_map P Q gives [] [] zip = tt
zip_map P Q gives [] (y ∷ ys) zip = absurd zip
zip_map P Q gives (x ∷ xs) [] zip = absurd zip
zip_map P Q gives (x ∷ xs) (y ∷ ys) zip = (gives x y zip.0, zip_map P Q gives xs ys zip.1)

-- the two commands do the same on every content
abbrev pub DoTheSame : {C K T R : Type 0} → (C → K → Effect T R) → K → K → Type 0
DoTheSame {C} effect a b = (content : C) → effect content a ≡ effect content b

module _ {C K T R : Type 0} (effect : C → K → Effect T R) (after : C → T → C) (first : C) where
  told_alike : (log : List (Entry T)) (user number least : ℕ) (told : List (Told R)) (commands others : List K)
      → AllZip (DoTheSame effect) commands others → ToldFrom effect after first log user number least told commands
      → ToldFrom effect after first log user number least told others
  told_alike log user number least [] commands others alike t = t
  told_alike log user number least (one ∷ told) [] others alike t = absurd t
  told_alike log user number least (one ∷ told) (command ∷ commands) [] alike t = absurd alike
  told_alike log user number least (one ∷ told) (command ∷ commands) (other ∷ others) alike t =
      let same = alike.0 (version after first log one.place) in
      rw (sym same) (
        t.0,
        t.1,
        t.2,
        t.3,
        told_alike log user (number + 1) (least_after (effect (version after first log one.place) command) one.place) told commands others alike.1 t.4,
      )

  legal_alike : (users others : List (List K)) (log : List (Entry T)) (place : ℕ) (entry : Entry T)
      → AllZip (AllZip (DoTheSame effect)) users others → IsLegalAt effect after first users log place entry
      → IsLegalAt effect after first others log place entry
  legal_alike users others log place entry alike at =
      let own = zip_right (AllZip (DoTheSame effect)) users others at.index at.commands alike at.are_commands in
      let one = zip_right (DoTheSame effect) at.commands own.0 at.before at.command own.2 at.is_command in
      record {
        index = at.index;
        commands = own.0;
        before = at.before;
        command = one.0;
        reply = at.reply;
        is_user = at.is_user;
        are_commands = own.1;
        is_number = at.is_number;
        is_command = one.1;
        is_accepted = sym (one.2 (version after first log place)) ∙ at.is_accepted;
      }

  -- a history of users' commands is one of commands that do the same
  run_of_alike : (users others : List (List K)) (told : List (List (Told R))) (log : List (Entry T))
      → AllZip (AllZip (DoTheSame effect)) users others → IsHistoryOf effect after first users told log
      → IsHistoryOf effect after first others told log
  run_of_alike users others told log alike history = record {
    legal = λ place entry is. legal_alike users others log place entry alike (history.legal place entry is);
    all = history.all ∙ zip_long (AllZip (DoTheSame effect)) users others alike;
    runs = λ index commands replies own here.
        let known = zip_left (AllZip (DoTheSame effect)) users others index commands alike own in
        let run = history.runs index known.0 replies known.1 here in
        (run.0 ∙ zip_long (DoTheSame effect) known.0 commands known.2, told_alike log (index + 1) 1 0 replies known.0 commands known.2 run.1);
  }

-- ---- the same with layers

-- the two commands are answered the same on every content with every layer
abbrev pub AreAnsweredTheSame : {C L K T R : Type 0} → (C → L → K → Effect T R × L) → K → K → Type 0
AreAnsweredTheSame {C} {L} answer a b = (content : C) (layer : L) → answer content layer a ≡ answer content layer b

module _ {C L K T R : Type 0} (answer : C → L → K → Effect T R × L) (after : C → T → C) (first : C) (log : List (Entry T)) where
  abbrev PairsAlike : List (L × K) → List (L × K) → Type 0
  PairsAlike pairs others = AllZip (DoTheSame (effect_of answer)) pairs others

  with_layer : (layer : L) (commands others : List K) → AllZip (AreAnsweredTheSame answer) commands others
      → PairsAlike (map (λ command. (layer, command)) commands) (map (λ command. (layer, command)) others)
  with_layer layer [] [] alike = tt
  with_layer layer [] (other ∷ others) alike = absurd alike
  with_layer layer (command ∷ commands) [] alike = absurd alike
  with_layer layer (command ∷ commands) (other ∷ others) alike =
      (λ content. ap (λ found. found.0) (alike.0 content layer), with_layer layer commands others alike.1)

  layered_alike : (layer : L) (told : List (Told R)) (commands others : List K) → AllZip (AreAnsweredTheSame answer) commands others
      → PairsAlike (layered answer after first log layer told commands) (layered answer after first log layer told others)
  layered_alike layer [] commands others alike = with_layer layer commands others alike
  layered_alike layer (one ∷ told) [] [] alike = tt
  layered_alike layer (one ∷ told) [] (other ∷ others) alike = absurd alike
  layered_alike layer (one ∷ told) (command ∷ commands) [] alike = absurd alike
  layered_alike layer (one ∷ told) (command ∷ commands) (other ∷ others) alike =
      let here = version after first log one.place in
      let next = (answer here layer command).1 in (
        λ content. ap (λ found. found.0) (alike.0 content layer),
        subst (λ (l : L). PairsAlike (layered answer after first log next told commands) (layered answer after first log l told others)) (ap (λ found. found.1) (alike.0 here layer))
            (layered_alike next told commands others alike.1),
      )

  all_alike : (layer : L) (told : List (List (Told R))) (users others : List (List K)) → AllZip (AllZip (AreAnsweredTheSame answer)) users others
      → AllZip PairsAlike (all_layered answer after first log layer told users) (all_layered answer after first log layer told others)
  all_alike layer told [] [] alike = tt
  all_alike layer told [] (more ∷ others) alike = absurd alike
  all_alike layer told (commands ∷ users) [] alike = absurd alike
  all_alike layer [] (commands ∷ users) (more ∷ others) alike =
      (layered_alike layer [] commands more alike.0, all_alike layer [] users others alike.1)
  all_alike layer (own ∷ told) (commands ∷ users) (more ∷ others) alike =
      (layered_alike layer own commands more alike.0, all_alike layer told users others alike.1)

  -- a history of users' commands is one of commands that are answered the same
  pub history_of_alike : (layer : L) (users others : List (List K)) (told : List (List (Told R)))
      → AllZip (AllZip (AreAnsweredTheSame answer)) users others → IsLayeredHistoryOf answer after first layer users told log
      → IsLayeredHistoryOf answer after first layer others told log
  history_of_alike layer users others told alike history =
      run_of_alike (effect_of answer) after first (all_layered answer after first log layer told users) (all_layered answer after first log layer told others) told log
      (all_alike layer told users others alike) history
