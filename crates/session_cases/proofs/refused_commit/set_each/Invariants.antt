use Rattle.std.proofs.Common.{◌≡◌}
use Rattle.version_book.specs.Passes.{IsOf, next_of, numbers_of}
use Rattle.session_cases.proofs.refused_commit.set_each.Given as goal

-- the pass is at the book, and who it is has not changed
abbrev pub invariant-loop-word : goal.invariant-loop-word
invariant-loop-word g l = record {
  of : IsOf l.book l.pass;
  next : next_of l.pass ≡ next_of l.fn.pass;
  numbers : numbers_of l.pass ≡ numbers_of l.fn.pass;
}
