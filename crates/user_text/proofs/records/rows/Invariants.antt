use Rattle.std.proofs.Common.{◌≡◌, ◌≤◌, ◌-◌, ◌++◌, ℕ, List, drop, length, Some}
use Rattle.csv.specs.Reading.{Ready, reader_config, reader_state, reader_trim, records_from, source_of}
use Rattle.csv.specs.declared.reader.Trim.TheVariants as trim
use Rattle.joined_lists.specs.Parts.{EndAt, parts}
use Rattle.user_text.specs.Rows.{rows_of, with_separator}
use Rattle.user_text.proofs.records.rows.Given as goal

abbrev pub invariant-loop-turn : goal.invariant-loop-turn
invariant-loop-turn l = (reader_trim l.reader ≡ trim.None)
    × Ready l.reader
    × (reader_config l.reader ≡ with_separator l.fn.separator)
    × (l.passed ≤ l.fn.skip)
    × (y : List ℕ) × (source_of (λ s. Some s.now) l.reader ≡ Some y)
    × EndAt 0 l.ends.items (length l.columns)
    × (parts l.ends.items l.columns ++ drop (l.fn.skip - l.passed) (records_from (with_separator l.fn.separator) (l._turn-end - l._turn) (reader_state l.reader) y)
    ≡ rows_of l.fn.separator l.fn.skip l.fn.bytes)
