-- The notes of the list are those that are so.
use Rattle.std.proofs.Common.{◌≡◌, refl, sym, ap, ◌∙◌, arith, subst, ℕ, ◌+◌, ◌<◌, Bool, true, false, inl, inr, Option, Some, None, List, [], ◌∷◌, ◌++◌, length, Contains, cond}
use Rattle.std.specs.Prelude.{slice_get}
use Rattle.std.specs.Option.{option_map_or}
use Rattle.std.proofs.lemmas.Option.{slice_get_within, get_or_from_slice_get}
use Rattle.std.proofs.lemmas.List.Elements.{All-contains, Contains-append_left, Contains-append_right, Contains-append_cases}
use Rattle.rule_model.specs.declared.rules.Statement.{Statement}
use Rattle.rule_model.specs.BoundModel.{BoundModel, rules_of}
use Rattle.rule_model.specs.Conditions.{AreRules, IsStatement}
use Rattle.ref_order.specs.Counted.{Counted, counted_of}
use Rattle.rule_notes.specs.declared.note.Note.{Note}
use Rattle.rule_notes.specs.declared.note.Note.TheVariants.{NotReached, NamesNothing}
use Rattle.rule_notes.specs.Reached.{IsNotReached}
use Rattle.rule_notes.specs.Named.{NamesNoCell, IsNameless}
use Rattle.rule_notes.specs.Noted.{IsNote, notes_of}
use Rattle.rule_notes.specs.Inside.Reached.{takes, first_taker, reach_notes}
use Rattle.rule_notes.specs.Inside.Named.{names_nothing, nameless, nameless_at, nameless_of, IsReadOf}
use Rattle.rule_notes.specs.Inside.Listed.{statement_notes, notes_at, cube_notes}
use Rattle.rule_notes.proofs.Ranges.{found-first, first-found, IsInOne, in-one, one-in}
use Rattle.rule_notes.proofs.ReachFacts.{takes-tells, tells-takes, not-takes, IsReachNote, in-reach, reach-in, only-item}
use Rattle.rule_notes.proofs.ReadFacts.{reads-are, read-at}
use Rattle.rule_notes.proofs.NamelessFacts.{nothing-by, by-nothing}

module _ (m : BoundModel) (ruled : AreRules m.space m.rules) (cube : ℕ) (there : cube < length m.space.cubes) (place : ℕ) (s : Statement)
    (here : slice_get (rules_of m cube).statements place ≡ Some s) (is_statement : IsStatement m.space cube s) where
  reached-note : (kind : Bool) (note : Note) → IsReachNote m cube place s kind note → IsNote m note
  reached-note kind note is =
      let first = found-first (takes m cube kind s.area) 0 place is.taker is.found in
      let told : IsNotReached m cube (place + 1) kind (is.taker + 1) = record {
        inside = there;
        place = place;
        number = omega arith;
        it = s;
        here = here;
        part = is.part;
        taker = is.taker;
        by_number = omega arith;
        earlier = omega (arith, first.low);
        takes = takes-tells m cube kind s.area is.taker first.passes;
        first = λ k low taken. let e : true ≡ false = sym (tells-takes m cube kind s.area k is_statement.area taken) ∙ first.before k (omega arith) low in cc e;
      } in
      subst (IsNote m) (sym is.is) told

  abbrev reached : List Note
  reached = reach_notes m cube place s true ++ reach_notes m cube place s false

  nameless-note : (note : Note) → IsInOne (nameless_at m cube place s.area (counted_of s)) 0 (length (counted_of s)) note → IsNote m note
  nameless-note note is = by (slice_get (counted_of s) is.number) refl is.has
    where
      by : (at : Option Counted) → slice_get (counted_of s) is.number ≡ at → Contains (option_map_or (nameless m cube place s.area is.number) at []) note → IsNote m note
      by None read_here has = absurd (omega (arith, has.1))
      by (Some it) read_here has = so (names_nothing m cube s.area it) refl has
        where
          so : (t : Bool) → names_nothing m cube s.area it ≡ t → Contains (cond t (NamesNothing cube (place + 1) (is.number + 1) ∷ []) []) note → IsNote m note
          so false nothing has = absurd (omega (arith, has.1))
          so true nothing has =
              let told : IsNameless m cube (place + 1) (is.number + 1) = record {
                inside = there;
                place = place;
                number = omega arith;
                it = s;
                here = here;
                at = is.number;
                reference_number = omega arith;
                read = it;
                read_here = read_here;
                names_nothing = by-nothing m ruled cube there s is_statement.area it (read-at (IsReadOf m.space cube) (counted_of s) is.number it read_here (reads-are m.space cube s is_statement)) nothing;
              } in
              subst (IsNote m) (only-item (NamesNothing cube (place + 1) (is.number + 1)) note has) told

  pub told-at : (note : Note) → Contains (statement_notes m cube place s) note → IsNote m note
  told-at note has = elim (Contains-append_cases reached (nameless_of m cube place s) note has) [
    | inl first ↦ elim (Contains-append_cases (reach_notes m cube place s true) (reach_notes m cube place s false) note first) [
      | inl leaf ↦ reached-note true note (in-reach m cube place s true note leaf)
      | inr cons ↦ reached-note false note (in-reach m cube place s false note cons)
    ]
    | inr names ↦ nameless-note note (in-one (nameless_at m cube place s.area (counted_of s)) 0 (length (counted_of s)) note names)
  ]

  pub reach-at : (kind : Bool) (note : Note) → IsReachNote m cube place s kind note → Contains (statement_notes m cube place s) note
  reach-at true note is =
      Contains-append_left reached (nameless_of m cube place s) note
      (Contains-append_left (reach_notes m cube place s true) (reach_notes m cube place s false) note (reach-in m cube place s true note is))
  reach-at false note is =
      Contains-append_left reached (nameless_of m cube place s) note
      (Contains-append_right (reach_notes m cube place s true) (reach_notes m cube place s false) note (reach-in m cube place s false note is))

  pub nameless-in : (k : ℕ) (it : Counted) → slice_get (counted_of s) k ≡ Some it → NamesNoCell m cube s it → Contains (statement_notes m cube place s) (NamesNothing cube (place + 1) (k + 1))
  nameless-in k it read_here is =
      let nothing = nothing-by m ruled cube there s is_statement.area it (read-at (IsReadOf m.space cube) (counted_of s) k it read_here (reads-are m.space cube s is_statement)) is in
      let own : nameless_at m cube place s.area (counted_of s) k ≡ NamesNothing cube (place + 1) (k + 1) ∷ [] =
      ap (λ at. option_map_or (nameless m cube place s.area k) at []) read_here ∙ ap (λ t. cond t (NamesNothing cube (place + 1) (k + 1) ∷ []) []) nothing in
      Contains-append_right reached (nameless_of m cube place s) (NamesNothing cube (place + 1) (k + 1))
      (one-in (nameless_at m cube place s.area (counted_of s)) 0 (length (counted_of s)) (NamesNothing cube (place + 1) (k + 1)) (record {
        number = k;
        from = omega arith;
        low = omega (arith, slice_get_within (counted_of s) k it read_here);
        has = subst (λ l. Contains l (NamesNothing cube (place + 1) (k + 1))) (sym own) (0, omega arith, refl);
      }))

module _ (m : BoundModel) (ruled : AreRules m.space m.rules) where
  statement-is : (cube place : ℕ) (s : Statement) → cube < length m.space.cubes → slice_get (rules_of m cube).statements place ≡ Some s → IsStatement m.space cube s
  statement-is cube place s there here =
      All-contains (IsStatement m.space cube) (rules_of m cube).statements s (ruled.cube cube there).statements
      (place, slice_get_within (rules_of m cube).statements place s here, get_or_from_slice_get (rules_of m cube).statements place s s here)

  -- each note of the list is so
  pub listed-is : (note : Note) → Contains (notes_of m) note → IsNote m note
  unfolding notes_of cube_notes
  listed-is note has =
      let of_cube = in-one (cube_notes m) 0 (length m.space.cubes) note has in
      let cube = of_cube.number in
      let at = in-one (notes_at m cube) 0 (length (rules_of m cube).statements) note of_cube.has in
      by cube (omega (arith, of_cube.low)) at.number (slice_get (rules_of m cube).statements at.number) refl at.has
    where
      by : (cube : ℕ) → cube < length m.space.cubes → (place : ℕ) (at : Option Statement) → slice_get (rules_of m cube).statements place ≡ at → Contains (option_map_or (statement_notes m cube place) at []) note → IsNote m note
      by cube there place None here has = absurd (omega (arith, has.1))
      by cube there place (Some s) here has = told-at m ruled cube there place s here (statement-is cube place s there here) note has

  listed-at : (cube place : ℕ) (s : Statement) (note : Note) → cube < length m.space.cubes → slice_get (rules_of m cube).statements place ≡ Some s → Contains (statement_notes m cube place s) note → Contains (notes_of m) note
  unfolding notes_of cube_notes
  listed-at cube place s note there here has =
      let own : Contains (notes_at m cube place) note = subst (λ at. Contains (option_map_or (statement_notes m cube place) at []) note) (sym here) has in
      one-in (cube_notes m) 0 (length m.space.cubes) note (record {
        number = cube;
        from = omega arith;
        low = omega (arith, there);
        has = one-in (notes_at m cube) 0 (length (rules_of m cube).statements) note (record { number = place; from = omega arith; low = omega (arith, slice_get_within (rules_of m cube).statements place s here); has = own });
      })

  -- and each that is so is in the list
  pub is-listed : (note : Note) → IsNote m note → Contains (notes_of m) note
  is-listed (NotReached cube statement kind by) is =
      let area = (statement-is cube is.place is.it is.inside is.here).area in
      let found : first_taker m cube kind is.it.area is.place ≡ Some is.taker = first-found (takes m cube kind is.it.area) 0 is.place is.taker (record {
        from = omega arith;
        low = omega (arith, is.earlier);
        passes = tells-takes m cube kind is.it.area is.taker area is.takes;
        before = λ j from low. not-takes m cube kind is.it.area j area (is.first j low);
      }) in
      let number : statement ≡ is.place + 1 = omega (arith, is.number) in
      let by_number : by ≡ is.taker + 1 = omega (arith, is.by_number) in
      let same : NotReached cube statement kind by ≡ NotReached cube (is.place + 1) kind (is.taker + 1) = ap (λ n. NotReached cube n kind by) number ∙ ap (λ n. NotReached cube (is.place + 1) kind n) by_number in
      listed-at cube is.place is.it (NotReached cube statement kind by) is.inside is.here
      (reach-at m ruled cube is.inside is.place is.it is.here (statement-is cube is.place is.it is.inside is.here) kind (NotReached cube statement kind by)
      (record { part = is.part; taker = is.taker; found = found; is = same }))
  is-listed (NamesNothing cube statement reference) is =
      let number : statement ≡ is.place + 1 = omega (arith, is.number) in
      let reference_number : reference ≡ is.at + 1 = omega (arith, is.reference_number) in
      let same : NamesNothing cube (is.place + 1) (is.at + 1) ≡ NamesNothing cube statement reference = ap (λ n. NamesNothing cube n (is.at + 1)) (sym number) ∙ ap (λ n. NamesNothing cube statement n) (sym reference_number) in
      let own = statement-is cube is.place is.it is.inside is.here in
      subst (Contains (notes_of m)) same
      (listed-at cube is.place is.it (NamesNothing cube (is.place + 1) (is.at + 1)) is.inside is.here
      (nameless-in m ruled cube is.inside is.place is.it is.here own is.at is.read is.read_here is.names_nothing))
