-- A load's work with one write more, and memories of its values.
use Rattle.std.proofs.Common.{◌≡◌, ◌∙◌, refl, sym, ap, subst, arith, Bool, true, false, cond, ℕ, ℤ, pos, ◌+◌, ◌-◌, ◌≤◌, List, [], ◌∷◌, ◌++◌, drop, length, take, Ok}
use Rattle.std.specs.Arc.{arc_value}
use Rattle.std.specs.declared.alloc.Global.{Global}
use Rattle.std.specs.declared.sync.Arc.{Arc}
use Rattle.std.proofs.lemmas.List.{drop_all, drop-append-le, drop-take, length-append, take-append-drop, take-append-le, take-take, take_all, take_rest}
use Rattle.std.proofs.lemmas.List.Elements.{All-drop, All-push, All-take}
use Rattle.std.proofs.lemmas.List.Sums.{fold-append}
use Rattle.cell_store.specs.declared.entry.Entry.{Entry}
use Rattle.cell_store.specs.Entries.{after_writes, with_write}
use Rattle.cell_values.specs.Reading.{value_on}
use Rattle.cell_versions.specs.Versions.{AreLeafWrites, NumberedVersion}
use Rattle.cube_space.specs.Cells.{IsCell, IsSpace, is_leaf_cell, size_of}
use Rattle.cube_space.specs.Layout.{Layout}
use Rattle.feed_map.specs.FedCells.{most_fed}
use Rattle.feed_chains.specs.Led.{LeadsToAtMost}
use Rattle.memo_cells.specs.declared.version.Version.{Version}
use Rattle.memo_cells.specs.Values.{cell_value}
use Rattle.rule_model.specs.BoundModel.{BoundModel}
use Rattle.rule_model.specs.Conditions.{AreRules}
use Rattle.rule_model.specs.System.{system_of}
use Rattle.cell_reader.specs.FedCount.{fed_count}
use Rattle.cell_reader.specs.Limits.{IsLimitAnswer, IsWithinLimits}
use Rattle.cell_reader.specs.Inside.After.{HasFirst, IsAfter, IsAhead, MayWait}
use Rattle.cell_reader.specs.declared.room.Room.{Room}
use Rattle.cell_reader.specs.declared.work.Work.{Work}
use Rattle.cell_reader.proofs.Limits.{within-answers}
use Rattle.cell_reader.proofs.RoomFacts.{fed_of_all, few_more_fed, no_more_fed, none_more, one_more}

-- a memory that was made for a version has its values
pub kept_values : (kept : Version) (version : NumberedVersion) → kept.model.value ≡ version.model → kept.stored.value ≡ version.stored → cell_value kept ≡ value_on version
unfolding cell_value value_on
kept_values kept version model stored = rw (model, stored) refl

pub after-more : (es : List Entry) (ws vs : List (ℕ × ℤ)) → after_writes es (ws ++ vs) ≡ after_writes (after_writes es ws) vs
after-more es ws vs = fold-append (λ before write. with_write before write.0 write.1) es ws vs

abbrev IsLeafWrite : Layout → ℕ × ℤ → Type 0
IsLeafWrite space write = IsCell space write.0 × (is_leaf_cell space write.0 ≡ true)

-- more writes
rest-after : (opening : NumberedVersion) (model : BoundModel) (stored : List Entry) (ws more : List (ℕ × ℤ)) → IsAfter opening ws model stored → AreLeafWrites opening.model.space (ws ++ more)
    → IsAfter opening (ws ++ more) model (after_writes stored more)
rest-after opening model stored ws more so_far leaves =
    record {
      same = so_far.same;
      after = ap (λ (es : List Entry). after_writes es more) so_far.after ∙ sym (after-more opening.stored ws more);
      leaves = leaves;
    }

-- one write more
pub more-after : (opening : NumberedVersion) (model : BoundModel) (stored : List Entry) (ws : List (ℕ × ℤ)) (cell : ℕ) (number : ℤ) → IsAfter opening ws model stored
    → IsCell opening.model.space cell → is_leaf_cell opening.model.space cell ≡ true → IsAfter opening (ws ++ (cell, number) ∷ []) model (after_writes stored ((cell, number) ∷ []))
more-after opening model stored ws cell number so_far own leaf =
    rest-after opening model stored ws ((cell, number) ∷ []) so_far (All-push (IsLeafWrite opening.model.space) ws (cell, number) so_far.leaves (own, leaf))

-- ---- a version with the first so many writes

-- the first so many are the same with more behind them
pub first_more : (opening version : NumberedVersion) (ws more : List (ℕ × ℤ)) (made : ℕ) → HasFirst opening ws version made → HasFirst opening (ws ++ more) version made
first_more opening version ws more made first =
    record {
      made_first = omega (arith, first.made_first, length-append ws more);
      after = subst (λ (front : List (ℕ × ℤ)). IsAfter opening front version.model version.stored) (sym (take-append-le made ws more first.made_first)) first.after;
    }

pub first_either : (opening version : NumberedVersion) (ws more : List (ℕ × ℤ)) (made : ℕ) → HasFirst opening ws version made → (b : Bool) → HasFirst opening (cond b (ws ++ more) ws) version made
first_either opening version ws more made first true = first_more opening version ws more made first
first_either opening version ws more made first false = first

-- all are there, and none waits
pub settled-ahead : (opening latest : Arc NumberedVersion Global) (ws : List (ℕ × ℤ)) (made : ℕ) (room : Room) → made ≡ length ws
    → IsAfter (arc_value opening) ws (arc_value latest).model (arc_value latest).stored → MayWait (arc_value latest) [] room → IsAhead opening latest ws made room
settled-ahead opening latest ws made room all after waiting =
    let front : take made ws ≡ ws = take_all made ws (omega (arith, all)) in
    let none : drop made ws ≡ [] = drop_all made ws (omega (arith, all)) in
    record {
      first = record {
        made_first = omega (arith, all);
        after = subst (λ (front : List (ℕ × ℤ)). IsAfter (arc_value opening) front (arc_value latest).model (arc_value latest).stored) (sym front) after;
      };
      leaves = after.leaves;
      waiting = rw none waiting;
    }

-- the first so many writes, by what a version has of them
module _ (opening version : NumberedVersion) (ws : List (ℕ × ℤ)) (made count : ℕ) (first : HasFirst opening ws version made) (few : made ≤ count) (own : AreLeafWrites opening.model.space ws) where
  abbrev next_writes : List (ℕ × ℤ)
  next_writes = take (count - made) (drop made ws)

  to_count : take made ws ++ next_writes ≡ take count ws
  to_count =
      let sum : made + (count - made) ≡ count = omega (arith, few) in
      ap (λ (front : List (ℕ × ℤ)). front ++ next_writes) (sym (take-take made count ws few))
      ∙ (ap (λ (rest : List (ℕ × ℤ)). take made (take count ws) ++ rest) (sym (drop-take made (count - made) ws) ∙ ap (λ k. drop made (take k ws)) sum)
      ∙ take-append-drop made (take count ws))

  pub first_count : IsAfter opening (take count ws) version.model (after_writes version.stored next_writes)
  first_count =
      subst (λ (to : List (ℕ × ℤ)). IsAfter opening to version.model (after_writes version.stored next_writes)) to_count
      (rest-after opening version.model version.stored (take made ws) next_writes first.after (subst (AreLeafWrites opening.model.space) (sym to_count) (All-take (IsLeafWrite opening.model.space) count ws own)))

  pub next-leaves : AreLeafWrites version.model.space next_writes
  next-leaves =
      subst (λ (m : BoundModel). AreLeafWrites m.space next_writes) (sym first.after.same)
      (All-take (IsLeafWrite opening.model.space) (count - made) (drop made ws) (All-drop (IsLeafWrite opening.model.space) made ws own))

  pub next-within : IsWithinLimits opening.model (after_writes opening.stored (take count ws)) → IsWithinLimits version.model (after_writes version.stored next_writes)
  next-within within =
      subst (λ (m : BoundModel). IsWithinLimits m (after_writes version.stored next_writes)) (sym first_count.same)
      (subst (λ (es : List Entry). IsWithinLimits opening.model es) (sym first_count.after) within)

module _ (opening latest : Arc NumberedVersion Global) (ws : List (ℕ × ℤ)) (made : ℕ) (room : Room) (ahead : IsAhead opening latest ws made room) where
  abbrev now : NumberedVersion
  now = arc_value latest

  -- what all writes make
  pub all_after : IsAfter (arc_value opening) ws now.model (after_writes now.stored (drop made ws))
  all_after =
      subst (λ (all : List (ℕ × ℤ)). IsAfter (arc_value opening) all now.model (after_writes now.stored (drop made ws))) (take-append-drop made ws)
      (rest-after (arc_value opening) now.model now.stored (take made ws) (drop made ws) ahead.first.after (subst (AreLeafWrites (arc_value opening).model.space) (sym (take-append-drop made ws)) ahead.leaves))

  -- one write more waits
  pub waits-more : (left : Room) (cell : ℕ) (number : ℤ) → IsCell (arc_value opening).model.space cell → is_leaf_cell (arc_value opening).model.space cell ≡ true
      → MayWait now (drop made ws ++ (cell, number) ∷ []) left → IsAhead opening latest (ws ++ (cell, number) ∷ []) made left
  waits-more left cell number own leaf waiting =
      let later : drop made (ws ++ (cell, number) ∷ []) ≡ drop made ws ++ (cell, number) ∷ [] = drop-append-le made ws ((cell, number) ∷ []) ahead.first.made_first in
      record {
        first = first_more (arc_value opening) now ws ((cell, number) ∷ []) made ahead.first;
        leaves = All-push (IsLeafWrite (arc_value opening).model.space) ws (cell, number) ahead.leaves (own, leaf);
        waiting = rw later waiting;
      }

  -- few cells are stored, and few are fed
  pub ahead-within : IsWithinLimits (arc_value opening).model (after_writes (arc_value opening).stored ws)
  ahead-within = record {
    few_stored = omega (arith, ahead.waiting.few_stored, ap length all_after.after);
    few_fed =
        subst (λ (m : BoundModel). fed_count m (after_writes (arc_value opening).stored ws) ≤ most_fed) all_after.same
        (subst (λ (es : List Entry). fed_count now.model es ≤ most_fed) all_after.after (omega (arith, ahead.waiting.few_fed)));
  }

  pub ahead_answers : {T : Type 0} (ok : T) → IsLimitAnswer (arc_value opening).model (after_writes (arc_value opening).stored ws) (Ok ok)
  ahead_answers ok = within-answers (arc_value opening).model (after_writes (arc_value opening).stored ws) ok ahead-within.few_stored ahead-within.few_fed

  -- also after a written 0
  pub zero-within : IsSpace (arc_value opening).model.space → AreRules (arc_value opening).model.space (arc_value opening).model.rules → (cell : ℕ) (number : ℤ) → number ≡ pos 0
      → IsWithinLimits (arc_value opening).model (after_writes (arc_value opening).stored (ws ++ (cell, number) ∷ []))
  zero-within valid rules cell number none =
      let so_far : List Entry = after_writes (arc_value opening).stored ws in
      let fewer = none_more so_far cell number none in
      let fed = no_more_fed (arc_value opening).model so_far cell number valid rules none in
      rw (after-more (arc_value opening).stored ws ((cell, number) ∷ [])) (record {
        few_stored = omega (arith, fewer, ahead-within.few_stored);
        few_fed = omega (arith, fed, ahead-within.few_fed);
      })

  -- less room is left
  pub less-room : (left : Room) → left.stored ≤ room.stored → left.fed ≤ room.fed → IsAhead opening latest ws made left
  less-room left less fewer = record {
    first = ahead.first;
    leaves = ahead.leaves;
    waiting = record { few_stored = omega (arith, ahead.waiting.few_stored, less); few_fed = omega (arith, ahead.waiting.few_fed, fewer) };
  }

-- one write more waits behind the others, which end the writes
pub waits-behind : (work : Work) (version : NumberedVersion) (ws : List (ℕ × ℤ)) (left : Room) (cell : ℕ) (number : ℤ) → version ≡ arc_value work.latest → ws ≡ work.written.items
    → IsCell (arc_value work.opening).model.space cell → is_leaf_cell (arc_value work.opening).model.space cell ≡ true
    → MayWait version (take (length ws - work.made) (drop work.made ws) ++ (cell, number) ∷ []) left
    → IsAhead work.opening work.latest (work.written.items ++ (cell, number) ∷ []) work.made left
waits-behind work version ws left cell number latest are own leaf may =
    let one : List (ℕ × ℤ) = (cell, number) ∷ [] in
    let end : take (length ws - work.made) (drop work.made ws) ≡ drop work.made work.written.items = take_rest ws work.made ∙ ap (drop work.made) are in
    waits-more work.opening work.latest work.written.items work.made work.room work.ahead left cell number own leaf
    (subst (λ (v : NumberedVersion). MayWait v (drop work.made work.written.items ++ one) left) latest
    (subst (λ (waiting : List (ℕ × ℤ)). MayWait version (waiting ++ one) left) end may))

-- the writes, or more of them
pub ahead_either : (opening latest : Arc NumberedVersion Global) (ws more : List (ℕ × ℤ)) (made : ℕ) (room : Room) → IsAhead opening latest ws made room → IsAhead opening latest more made room
    → (b : Bool) → IsAhead opening latest (cond b more ws) made room
ahead_either opening latest ws more made room so_far later true = later
ahead_either opening latest ws more made room so_far later false = so_far

-- ---- one write more behind those that wait

module _ (version : NumberedVersion) (ws : List (ℕ × ℤ)) (room : Room) (cell : ℕ) (number : ℤ) (may : MayWait version ws room) where
  abbrev so_far : List Entry
  so_far = after_writes version.stored ws

  more-is : after_writes version.stored (ws ++ (cell, number) ∷ []) ≡ with_write so_far cell number
  more-is = after-more version.stored ws ((cell, number) ∷ [])

  module _ (valid : IsSpace version.model.space) (rules : AreRules version.model.space version.model.rules) where
    -- a written 0 takes no room, and feeds nothing
    pub zero_waits : number ≡ pos 0 → MayWait version (ws ++ (cell, number) ∷ []) room
    zero_waits none =
        let fewer = none_more so_far cell number none in
        let fed = no_more_fed version.model so_far cell number valid rules none in
        record {
          few_stored = rw more-is (omega (arith, fewer, may.few_stored));
          few_fed = rw more-is (omega (arith, fed, may.few_fed));
        }

    -- another takes room for its cell, and for those to which chains of feeds lead from it
    pub led_waits : (left : Room) (led : ℕ) → room.stored ≡ left.stored + 1 → room.fed ≡ left.fed + led → LeadsToAtMost (system_of version.model) cell led
        → MayWait version (ws ++ (cell, number) ∷ []) left
    led_waits left led one few leads =
        let stored = one_more so_far cell number in
        let fed = few_more_fed version.model so_far cell number led valid rules leads in
        record {
          few_stored = rw more-is (omega (arith, stored, one, may.few_stored));
          few_fed = rw more-is (omega (arith, fed, few, may.few_fed));
        }

  -- no more cells are fed than there are
  pub small_waits : (left : Room) → room.stored ≡ left.stored + 1 → left.fed ≡ 0 → size_of version.model.space ≤ most_fed → MayWait version (ws ++ (cell, number) ∷ []) left
  small_waits left one none small =
      let stored = one_more so_far cell number in
      record {
        few_stored = rw more-is (omega (arith, stored, one, may.few_stored));
        few_fed = omega (arith, fed_of_all version.model (after_writes version.stored (ws ++ (cell, number) ∷ [])), none, small);
      }

-- a written 0 passes no limit, by what a version says of itself
pub clear-within : (work : Work) (version : NumberedVersion) (cell : ℕ) → version ≡ arc_value work.opening → IsSpace version.model.space → AreRules version.model.space version.model.rules
    → IsWithinLimits (arc_value work.opening).model (after_writes (arc_value work.opening).stored (work.written.items ++ (cell, pos 0) ∷ []))
clear-within work version cell is space rules =
    zero-within work.opening work.latest work.written.items work.made work.room work.ahead
    (subst (λ (v : NumberedVersion). IsSpace v.model.space) is space)
    (subst (λ (v : NumberedVersion). AreRules v.model.space v.model.rules) is rules) cell (pos 0) refl
