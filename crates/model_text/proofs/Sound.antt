-- What holds of everything that a model text's pieces gather.
use Rattle.std.proofs.Common.{◌≡◌, ℕ, ◌+◌, ◌<◌, ◌≤◌, nat_eq, nat_le, slice_index_or, List, [], ◌∷◌, ◌++◌, length, map, Option, Some, None, Bool, true, false, ◌||◌, Result, Ok, Err, refl, sym, ◌∙◌, ap, subst, arith, length-append, if◌then◌else◌, inl, inr}
use Rattle.std.specs.List.{All, IsDistinct, list_any}
use Rattle.std.proofs.lemmas.Cmp.{nat_eq_equiv}
use Rattle.std.proofs.lemmas.List.Quantifiers.{position-Some}
use Rattle.std.proofs.lemmas.List.{map-append}
use Rattle.std.proofs.lemmas.List.Elements.{All-push, All-nil}
use Rattle.std.proofs.lemmas.Map.Keys.{IsDistinct-push}
use Rattle.cube_lex.specs.Lexeme.{Lexeme}
use Rattle.cube_lex.specs.declared.position.Position.{Position}
use Rattle.grammar.specs.Watch.{AllPass, Passes}
use Rattle.dim_name.specs.Name.{is_same_name, place_of}
use Rattle.dim_core.proofs.Naming.{same_names}
use Rattle.model_text.specs.Contents.{is_version, cube_names, script_names, AreDimensions}
use Rattle.model_text.specs.Gathering.{Current, Nothing, DimensionDue, CubeDue, ScriptDue, DimensionOpen, CubeOpen, ScriptOpen, DimensionBody, ScriptWhole, Parts, Given, at, refused, unless, dimensions_are_full, cubes_are_full, scripts_are_full, has_dimension, has_cube, has_script, with_text, with_dimension, cube_of, with_end, closed, gathered}
use Rattle.model_text.specs.Statement.{Piece, Version, Closing, DimensionWord, CubeWord, ScriptWord, QuotedText, CubeDimension, CubeEnd}
use Rattle.model_text.specs.Watching.{Seen, with_name_of, with_given, added, nothing_seen, watching}
use Rattle.model_text.specs.declared.order.OrderWord.{OrderWord}
use Rattle.model_text.specs.declared.parts.CubeText.{CubeText}
use Rattle.model_text.specs.declared.parts.ScriptText.{ScriptText}
use Rattle.model_text.specs.declared.fault.ModelTextFault.{ModelTextFault}
use Rattle.model_text.specs.declared.fault.ModelTextCause.{ModelTextCause}
use Rattle.model_text.specs.declared.fault.ModelTextCause.TheVariants as causes

pub record IsSound (parts : Parts) : Type 0 where
  pub few_names : length parts.names ≤ 256
  pub few_cubes : length parts.cubes ≤ 64
  pub few_scripts : length parts.scripts ≤ 256
  pub names : IsDistinct is_same_name parts.names
  pub cubes : IsDistinct is_same_name (cube_names parts.cubes)
  pub scripts : IsDistinct is_same_name (script_names parts.scripts)
  pub cube_dims : All (λ cube. AreDimensions (length parts.names) cube.dims) parts.cubes

record NewDimension (parts : Parts) (shown : List ℕ) : Type 0 where
  room : length parts.names < 256
  new : has_dimension parts shown ≡ false

record NewCube (parts : Parts) (shown : List ℕ) (numbers : List ℕ) : Type 0 where
  room : length parts.cubes < 64
  new : has_cube parts shown ≡ false
  dims : AreDimensions (length parts.names) numbers

record NewScript (parts : Parts) (shown : List ℕ) : Type 0 where
  room : length parts.scripts < 256
  new : has_script parts shown ≡ false

-- what holds of the statement that is being read
abbrev IsDue : Parts → Current → Type 0
IsDue parts Nothing = Unit {0}
IsDue parts (DimensionDue place) = length parts.names < 256
IsDue parts (CubeDue place) = length parts.cubes < 64
IsDue parts (ScriptDue place) = length parts.scripts < 256
IsDue parts (DimensionOpen place shown) = NewDimension parts shown
IsDue parts (DimensionBody place shown) = NewDimension parts shown
IsDue parts (CubeOpen place shown dims) = NewCube parts shown dims
IsDue parts (ScriptOpen place shown) = NewScript parts shown
IsDue parts (ScriptWhole place shown file) = NewScript parts shown

record Holds (g : Given) : Type 0 where
  sound : IsSound g.parts
  due : IsDue g.parts g.current

-- after a piece that is let through
abbrev Then : Result Given ModelTextFault → Type 0
Then (Ok g) = Holds g
Then (Err fault) = Unit {0}

room_256 : (n : ℕ) → nat_le 256 n ≡ false → n < 256
room_256 n e = grind (arith, e)

room_64 : (n : ℕ) → nat_le 64 n ≡ false → n < 64
room_64 n e = grind (arith, e)

unless_then : (b : Bool) (place : Position) (cause : ModelTextCause) (parts : Parts) (current : Current) → IsSound parts → (b ≡ false → IsDue parts current) → Then (unless b place cause parts current)
unless_then true place cause parts current sound due = tt
unless_then false place cause parts current sound due = record { sound = sound; due = due refl }

none_distinct : {K : Type 0} (eq : K → K → Bool) → IsDistinct eq []
unfolding IsDistinct
none_distinct eq = tt

no_dims : (n : ℕ) → AreDimensions n []
no_dims n = record { there = All-nil _; distinct = none_distinct nat_eq }

shown_then : (parts : Parts) (place : Position) (shown : List ℕ) (current : Current) → IsSound parts → IsDue parts current → Then (with_text parts place shown current)
shown_then parts place shown Nothing sound due = record { sound = sound; due = due }
shown_then parts place shown (DimensionDue l) sound due = unless_then (has_dimension parts shown) place causes.Duplicate parts (DimensionOpen l shown) sound (λ new. record { room = due; new = new })
shown_then parts place shown (CubeDue l) sound due = unless_then (has_cube parts shown) place causes.Duplicate parts (CubeOpen l shown []) sound (λ new. record { room = due; new = new; dims = no_dims (length parts.names) })
shown_then parts place shown (ScriptDue l) sound due = unless_then (has_script parts shown) place causes.Duplicate parts (ScriptOpen l shown) sound (λ new. record { room = due; new = new })
shown_then parts place shown (DimensionOpen l n) sound due = record { sound = sound; due = due }
shown_then parts place shown (DimensionBody l n) sound due = record { sound = sound; due = due }
shown_then parts place shown (CubeOpen l n dims) sound due = record { sound = sound; due = due }
shown_then parts place shown (ScriptOpen l n) sound due = record { sound = sound; due = due }
shown_then parts place shown (ScriptWhole l n file) sound due = record { sound = sound; due = due }

dimension_then : (parts : Parts) (place : Position) (o : Option ℕ) (current : Current) → ((k : ℕ) → o ≡ Some k → k < length parts.names) → IsSound parts → IsDue parts current → Then (with_dimension parts place o current)
dimension_then parts place None (CubeOpen l n dims) there sound due = tt
dimension_then parts place (Some k) (CubeOpen l n dims) there sound due = unless_then (list_any (nat_eq k) dims) place causes.Duplicate parts (CubeOpen l n (dims ++ k ∷ [])) sound (λ new. record {
  room = due.room;
  new = due.new;
  dims = record { there = All-push (λ number. number < length parts.names) dims k due.dims.there (there k refl); distinct = IsDistinct-push nat_eq_equiv dims k due.dims.distinct new };
})
dimension_then parts place None Nothing there sound due = record { sound = sound; due = due }
dimension_then parts place (Some k) Nothing there sound due = record { sound = sound; due = due }
dimension_then parts place None (DimensionDue l) there sound due = record { sound = sound; due = due }
dimension_then parts place (Some k) (DimensionDue l) there sound due = record { sound = sound; due = due }
dimension_then parts place None (CubeDue l) there sound due = record { sound = sound; due = due }
dimension_then parts place (Some k) (CubeDue l) there sound due = record { sound = sound; due = due }
dimension_then parts place None (ScriptDue l) there sound due = record { sound = sound; due = due }
dimension_then parts place (Some k) (ScriptDue l) there sound due = record { sound = sound; due = due }
dimension_then parts place None (DimensionOpen l n) there sound due = record { sound = sound; due = due }
dimension_then parts place (Some k) (DimensionOpen l n) there sound due = record { sound = sound; due = due }
dimension_then parts place None (DimensionBody l n) there sound due = record { sound = sound; due = due }
dimension_then parts place (Some k) (DimensionBody l n) there sound due = record { sound = sound; due = due }
dimension_then parts place None (ScriptOpen l n) there sound due = record { sound = sound; due = due }
dimension_then parts place (Some k) (ScriptOpen l n) there sound due = record { sound = sound; due = due }
dimension_then parts place None (ScriptWhole l n file) there sound due = record { sound = sound; due = due }
dimension_then parts place (Some k) (ScriptWhole l n file) there sound due = record { sound = sound; due = due }

pub any-map : {X Y : Type 0} (p : Y → Bool) (f : X → Y) (xs : List X) → list_any p (map f xs) ≡ list_any (λ x. p (f x)) xs
any-map p f [] = refl
any-map p f (x ∷ xs) = ap (λ b. p (f x) || b) (any-map p f xs)

one_more : {X : Type 0} (xs : List X) (x : X) (n : ℕ) → length xs < n → length (xs ++ x ∷ []) ≤ n
one_more xs x n h = omega (arith, h, length-append xs (x ∷ []))

end_then : (parts : Parts) (rules : Option (Position × List ℕ)) (order : Option (Position × List OrderWord)) (current : Current) → IsSound parts → IsDue parts current → Holds (with_end parts rules order current)
end_then parts rules order (CubeOpen place shown dims) sound due =
    let cube : CubeText = cube_of parts place shown dims rules order in
    record {
      sound = record {
        few_names = sound.few_names;
        few_scripts = sound.few_scripts;
        names = sound.names;
        scripts = sound.scripts;
        few_cubes = one_more parts.cubes cube 64 due.room;
        cubes = subst (IsDistinct is_same_name) (sym (map-append (λ (c : CubeText). c.name) parts.cubes (cube ∷ []))) (IsDistinct-push same_names (cube_names parts.cubes) shown sound.cubes (any-map (is_same_name shown) (λ (c : CubeText). c.name) parts.cubes ∙ due.new));
        cube_dims = All-push (λ (c : CubeText). AreDimensions (length parts.names) c.dims) parts.cubes cube sound.cube_dims due.dims;
      };
      due = tt;
    }
end_then parts rules order Nothing sound due = record { sound = sound; due = due }
end_then parts rules order (DimensionDue l) sound due = record { sound = sound; due = due }
end_then parts rules order (CubeDue l) sound due = record { sound = sound; due = due }
end_then parts rules order (ScriptDue l) sound due = record { sound = sound; due = due }
end_then parts rules order (DimensionOpen l n) sound due = record { sound = sound; due = due }
end_then parts rules order (DimensionBody l n) sound due = record { sound = sound; due = due }
end_then parts rules order (ScriptOpen l n) sound due = record { sound = sound; due = due }
end_then parts rules order (ScriptWhole l n file) sound due = record { sound = sound; due = due }

closed_then : (parts : Parts) (current : Current) → IsSound parts → IsDue parts current → Holds (closed parts current)
closed_then parts (DimensionOpen l n) sound due = record { sound = sound; due = due }
closed_then parts (ScriptWhole place shown file) sound due =
    let script : ScriptText = record { at = place; name = shown; file = file } in
    record {
      sound = record {
        few_names = sound.few_names;
        few_cubes = sound.few_cubes;
        names = sound.names;
        cubes = sound.cubes;
        cube_dims = sound.cube_dims;
        few_scripts = one_more parts.scripts script 256 due.room;
        scripts = subst (IsDistinct is_same_name) (sym (map-append (λ (s : ScriptText). s.name) parts.scripts (script ∷ []))) (IsDistinct-push same_names (script_names parts.scripts) shown sound.scripts (any-map (is_same_name shown) (λ (s : ScriptText). s.name) parts.scripts ∙ due.new));
      };
      due = tt;
    }
closed_then parts Nothing sound due = record { sound = sound; due = due }
closed_then parts (DimensionDue l) sound due = record { sound = sound; due = due }
closed_then parts (CubeDue l) sound due = record { sound = sound; due = due }
closed_then parts (ScriptDue l) sound due = record { sound = sound; due = due }
closed_then parts (DimensionBody l n) sound due = record { sound = sound; due = due }
closed_then parts (CubeOpen l n dims) sound due = record { sound = sound; due = due }
closed_then parts (ScriptOpen l n) sound due = record { sound = sound; due = due }

version_due : (parts : Parts) (number : ℕ) (current : Current) → IsDue parts current → IsDue (record parts { version = number }) current
version_due parts number Nothing due = due
version_due parts number (DimensionDue l) due = due
version_due parts number (CubeDue l) due = due
version_due parts number (ScriptDue l) due = due
version_due parts number (DimensionOpen l n) due = record { room = due.room; new = due.new }
version_due parts number (DimensionBody l n) due = record { room = due.room; new = due.new }
version_due parts number (CubeOpen l n dims) due = record { room = due.room; new = due.new; dims = due.dims }
version_due parts number (ScriptOpen l n) due = record { room = due.room; new = due.new }
version_due parts number (ScriptWhole l n file) due = record { room = due.room; new = due.new }

version_then : (g : Given) (place : Position) (number : ℕ) (b : Bool) → Holds g → Then (if b then Ok (at (record g.parts { version = number }) g.current) else refused place causes.WrongVersion)
version_then g place number false h = tt
version_then g place number true h = record {
  sound = record { few_names = h.sound.few_names; few_cubes = h.sound.few_cubes; few_scripts = h.sound.few_scripts; names = h.sound.names; cubes = h.sound.cubes; scripts = h.sound.scripts; cube_dims = h.sound.cube_dims };
  due = version_due g.parts number g.current h.due;
}

gathered_then : (g : Given) (x : Piece) → Holds g → Then (gathered g x)
gathered_then g (Version place number) h = version_then g place number (is_version number) h
gathered_then g Closing h = closed_then g.parts g.current h.sound h.due
gathered_then g (DimensionWord place) h = unless_then (dimensions_are_full g.parts) place causes.TooMany g.parts (DimensionDue place) h.sound (λ e. room_256 (length g.parts.names) e)
gathered_then g (CubeWord place) h = unless_then (cubes_are_full g.parts) place causes.TooMany g.parts (CubeDue place) h.sound (λ e. room_64 (length g.parts.cubes) e)
gathered_then g (ScriptWord place) h = unless_then (scripts_are_full g.parts) place causes.TooMany g.parts (ScriptDue place) h.sound (λ e. room_256 (length g.parts.scripts) e)
gathered_then g (QuotedText place shown) h = shown_then g.parts place shown g.current h.sound h.due
gathered_then g (CubeDimension place shown) h = dimension_then g.parts place (place_of g.parts.names shown) g.current (λ k e. (position-Some (is_same_name shown) g.parts.names k [] e).0) h.sound h.due
gathered_then g (CubeEnd rules order) h = end_then g.parts rules order g.current h.sound h.due

-- A dimension more.

more_dims : (n : ℕ) (cube : CubeText) → AreDimensions n cube.dims → AreDimensions (n + 1) cube.dims
more_dims n cube h = record { there = λ k d below. (let e = h.there k d below in omega (arith, e)); distinct = h.distinct }

all_more : (n m : ℕ) (cubes : List CubeText) → m ≡ n + 1 → All (λ (cube : CubeText). AreDimensions n cube.dims) cubes → All (λ (cube : CubeText). AreDimensions m cube.dims) cubes
all_more n m cubes e h = λ k d below. subst (λ x. AreDimensions x (slice_index_or cubes k d).dims) (sym e) (more_dims n (slice_index_or cubes k d) (h k d below))

name_then : (parts : Parts) (shown : List ℕ) → IsSound parts → NewDimension parts shown → IsSound (record parts { names = parts.names ++ shown ∷ [] })
name_then parts shown sound new = record {
  few_names = one_more parts.names shown 256 new.room;
  few_cubes = sound.few_cubes;
  few_scripts = sound.few_scripts;
  names = IsDistinct-push same_names parts.names shown sound.names new.new;
  cubes = sound.cubes;
  scripts = sound.scripts;
  cube_dims = all_more (length parts.names) (length (parts.names ++ shown ∷ [])) parts.cubes (length-append parts.names (shown ∷ [])) sound.cube_dims;
}

block_then : (parts : Parts) (current : Current) → IsSound parts → IsDue parts current → IsSound (with_name_of parts current)
block_then parts (DimensionBody place shown) sound due = name_then parts shown sound due
block_then parts Nothing sound due = sound
block_then parts (DimensionDue l) sound due = sound
block_then parts (CubeDue l) sound due = sound
block_then parts (ScriptDue l) sound due = sound
block_then parts (DimensionOpen l n) sound due = sound
block_then parts (CubeOpen l n dims) sound due = sound
block_then parts (ScriptOpen l n) sound due = sound
block_then parts (ScriptWhole l n file) sound due = sound

-- Over a whole text.

added_is : (s t : Seen) (r : Result Given ModelTextFault) → Then r → added s r ≡ Ok t → Holds t.given
added_is s t (Ok g) h e = let same : with_given s g ≡ t = cc in subst (λ (x : Seen). Holds x.given) same h
added_is s t (Err fault) h e = cc

pass_holds : (s t : Seen) (u : List Lexeme) → watching.passes s u t → Holds s.given → Holds t.given
pass_holds s t u (inl (x, is, e)) h = added_is s t (gathered s.given x) (gathered_then s.given x h) e
pass_holds s t u (inr body) h = subst (λ (x : Seen). Holds x.given) (sym body.next) (record { sound = block_then s.given.parts s.given.current h.sound h.due; due = tt })

all_hold : (s t : Seen) (us : List (List Lexeme)) → AllPass watching s us t → Holds s.given → Holds t.given
all_hold s t [] same h = subst (λ (x : Seen). Holds x.given) (sym same) h
all_hold s t (u ∷ us) (m, p, rest) h = all_hold m t us rest (pass_holds s m u p h)

nothing_holds : Holds nothing_seen.given
nothing_holds = record {
  sound = record { few_names = omega arith; few_cubes = omega arith; few_scripts = omega arith; names = none_distinct is_same_name; cubes = none_distinct is_same_name; scripts = none_distinct is_same_name; cube_dims = All-nil _ };
  due = tt;
}

pub passes_sound : (ts : List Lexeme) (t : Seen) → Passes watching nothing_seen ts t → IsSound t.given.parts
passes_sound ts t h = (all_hold nothing_seen t h.pieces h.pass nothing_holds).sound
