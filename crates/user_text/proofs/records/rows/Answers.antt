use Rattle.std.proofs.Common.{◌≡◌, ◌-◌, ◌+◌, ◌++◌, ◌∙◌, ◌∷◌, [], ℕ, suc, true, false, List, Bor, length, Some, inr, refl, rules, arith}
use Rattle.csv.specs.Reading.{reader_state, strip_bom, with_config, with_flexible, with_names_headers}
use Rattle.csv.specs.Records.{fields_of}
use Rattle.joined_lists.specs.Parts.{parts}
use Rattle.joined_lists.proofs.Ends.{ends_pushed, parts_pushed}
use Rattle.user_text.specs.Rows.{with_separator}
use Rattle.user_text.proofs.RecordTurns.{keeps_it, passes_over, no_turn, nothing_left, turn_ends, turn_reads}
use Rattle.user_text.proofs.records.rows.Goals as goal
use Rattle.user_text.proofs.records.rows.Goals.{then-passed-skip, else-passed-skip+in_ok-add}
use Rattle.user_text.proofs.records.rows.Goals.{else-loop-turn-test, then-loop-turn-test+in-Ok+then-not-found}

pub loop-turn-init : goal.loop-turn-init
loop-turn-init c =
    let made = c.from_reader-reader.ensures in
    let setup : c.flexible.result.now ≡ with_flexible (with_names_headers (with_config c.new.result (with_separator c.args.separator)) false) true = search rules in
    let all : c.args.skip - 0 ≡ c.args.skip = omega arith in
    let turns : length (strip_bom (strip_bom c.args.bytes.now)) + 1 - 0 ≡ suc (length (strip_bom (strip_bom c.args.bytes.now))) = omega arith in
    let most : length (strip_bom (strip_bom c.args.bytes.now)) + 1 ≡ suc (length (strip_bom (strip_bom c.args.bytes.now))) = omega arith in (
      rw setup at made.trim ∙ c.new.ensures.trim,
      inr (inr (rw setup at made.has_headers, made.headers)),
      rw setup at made.config,
      omega arith,
      strip_bom c.without_mark-text.result.now,
      made.source,
      rw (c.new-ends.ensures.items, c.new-columns.ensures) refl,
      rw (c.new-ends.ensures.items, made.state, c.without_mark.ensures, c.without_mark-text.ensures, all, turns, most) refl,
    )

pub loop-turn-preserved : goal.loop-turn-preserved
loop-turn-preserved c =
    let (trim, ready, config, few, y, source, cuts, whole) = c.loop-turn.invariant in
    let read = rw c.if-not-found.false at (c.in-Ok.ensures.reads trim ready) in
    let on = c.in-Ok.ensures.reads_on c.if-not-found.false in
    let fields : List (List ℕ) = fields_of c.read_byte_record.new.row in
    let turns : ℕ = length c.without_mark.result.now + 1 - (c.loop-turn._turn + 1) in
    let next = turn_reads (with_separator c.args.separator) (λ (s : Bor (List ℕ)). Some s.now) c.loop-turn.reader c.read_byte_record.new.self fields turns y config source read in
    let in_loop = c.loop-turn-test.true in
    let more : length c.without_mark.result.now + 1 - c.loop-turn._turn ≡ suc turns = omega arith in
    let left = rw more at whole in
    elim c.if-passed-skip.branch [
      | then-passed-skip w ↦
          let still = w.if-passed-skip.true in
          let one : c.args.skip - c.loop-turn.passed ≡ suc (c.args.skip - (c.loop-turn.passed + 1)) = omega arith in (
            on.1 ∙ trim,
            (on.4 ready).0,
            on.0 ∙ config,
            rw w.passed-is (omega arith),
            next.0,
            next.1,
            rw (w.ends-is, w.columns-is) cuts,
            rw (w.ends-is, w.columns-is, w.passed-is) (passes_over _ _ (parts c.loop-turn.ends.items c.loop-turn.columns) _ _ _ fields one next.2 left),
          )
      | else-passed-skip+in_ok-add w ↦
          let over = w.if-passed-skip.false in
          let none : c.args.skip - c.loop-turn.passed ≡ 0 = omega arith in
          let columns : c.if-passed-skip.columns ≡ c.loop-turn.columns ++ fields = search rules in
          let end : ℕ = length (c.loop-turn.columns ++ fields) in
          let ends : c.if-passed-skip.ends.items ≡ c.loop-turn.ends.items ++ end ∷ [] = search rules in (
            on.1 ∙ trim,
            (on.4 ready).0,
            on.0 ∙ config,
            rw w.passed-is few,
            next.0,
            next.1,
            rw (ends, columns) (ends_pushed c.loop-turn.columns fields 0 c.loop-turn.ends.items end cuts refl),
            rw (ends, columns, w.passed-is, parts_pushed c.loop-turn.columns fields c.loop-turn.ends.items end cuts refl)
                (keeps_it _ (parts c.loop-turn.ends.items c.loop-turn.columns) _ _ _ fields none next.2 left),
          )
    ]

pub returns : goal.returns
returns c =
    let (trim, ready, config, few, y, source, cuts, whole) = c.loop-turn.invariant in
    elim c.loop-turn-test.branch [
      | else-loop-turn-test w ↦
          let over = w.loop-turn-test.false in
          let none : length c.without_mark.result.now + 1 - c.loop-turn._turn ≡ 0 = omega arith in
          nothing_left _ (parts c.loop-turn.ends.items c.loop-turn.columns) _ _ (no_turn (with_separator c.args.separator) _ (reader_state c.loop-turn.reader) y none) whole
      | then-loop-turn-test+in-Ok+then-not-found w ↦
          let read = rw w.if-not-found.true at (w.in-Ok.ensures.reads trim ready) in
          nothing_left _ (parts c.loop-turn.ends.items c.loop-turn.columns) _ _
          (turn_ends (with_separator c.args.separator) (λ (s : Bor (List ℕ)). Some s.now) c.loop-turn.reader w.read_byte_record.new.self (fields_of w.read_byte_record.new.row) _ y config source read) whole
    ]
