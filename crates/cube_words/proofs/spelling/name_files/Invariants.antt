use Rattle.std.proofs.Common.{◌≡◌, drop}
use Rattle.std.specs.List.{list_all}
use Rattle.cube_words.specs.Words.{texts_of, names_a_file}
use Rattle.cube_words.proofs.spelling.name_files.Given as goal

-- the words so far name files
abbrev pub invariant-loop-word : goal.invariant-loop-word
invariant-loop-word l = list_all names_a_file (texts_of l.words) ≡ list_all names_a_file (texts_of (drop l.word-index l.words))
