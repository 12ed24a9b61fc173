use Rattle.std.proofs.Common.{rules, ◌≡◌, true, false}
use Rattle.std.specs.String.{string_bytes}
use Rattle.clap.specs.Words.{found_of}
use Rattle.cube_words.specs.Words.{texts_of}
use Rattle.cube_words.proofs.OfMatches.{fits, form, two_words_at_least, users_are}
use Rattle.cube_words.proofs.reading.plan_of.Goals as goal
use Rattle.cube_words.proofs.reading.plan_of.Goals.{in_default-via-then-check+then-feeders, in_default-via-then-check+else-feeders+then-this, in_default-via-then-check+else-feeders+else-this+in-None+in-Some+in-Some-this-3, in_default-via-then-check+else-feeders+else-this+in-None+in-None-this-2, in_default-via-then-check+else-feeders+else-this+in-Some-1, in_default-via-else-check+then-this-2+then-this-3, in_default-via-else-check+then-this-2+else-this-3+in-None+in-Some+in-Some-this-6, in_default-via-else-check+then-this-2+else-this-3+in-None+in-None-this-5, in_default-via-else-check+then-this-2+else-this-3+in-Some-1, in_default-via-else-check+else-this-2+then-this-4+in-None+in-None-this-8, in_default-via-else-check+else-this-2+then-this-4+in-Some-1, in_default-via-else-check+else-this-2+else-this-4+in-None+in-Some+in-None-this-11, in_default-via-else-check+else-this-2+else-this-4+in-None+in-None-this-10, in_default-via-else-check+else-this-2+else-this-4+in-Some+in-None+in-Some-this-13, in_default-via-else-check+else-this-2+else-this-4+in-Some+in-Some-this-12}

pub returns-in-true-false-false-None-Some-None : goal.returns-in-true-false-false-None-Some-None
returns-in-true-false-false-None-Some-None c =
    let check : c.get_flag-check.result ≡ true = search rules in
    let feeders : c.get_flag-feeders.result ≡ false = search rules in
    let explain : c.get_flag-explain.result ≡ false = search rules in
    let fit = fits (found_of c.args.matches.now) (texts_of c.args.words.now) c.requires.rows
    c.get_flag-check.result c.get_flag-feeders.result c.get_flag-explain.result
    c.get_str-size.result c.get_str-model.result c.get_str-user.result
    (c.get_flag-check.ensures.value, c.get_flag-check.ensures.other) (c.get_flag-feeders.ensures.value, c.get_flag-feeders.ensures.other)
    (c.get_flag-explain.ensures.value, c.get_flag-explain.ensures.other)
    c.get_str-size.ensures c.get_str-model.ensures c.get_str-user.ensures
    c.requires.spelled c.requires.taken in
    rw (check, feeders, explain, c.in-true-false-false-None-Some-None.is-3, c.in-true-false-false-None-Some-None.is-4, c.in-true-false-false-None-Some-None.is-5) at fit

pub returns-in-false-true-false-None-Some-None : goal.returns-in-false-true-false-None-Some-None
returns-in-false-true-false-None-Some-None c =
    let check : c.get_flag-check.result ≡ false = search rules in
    let feeders : c.get_flag-feeders.result ≡ true = search rules in
    let explain : c.get_flag-explain.result ≡ false = search rules in
    let fit = fits (found_of c.args.matches.now) (texts_of c.args.words.now) c.requires.rows
    c.get_flag-check.result c.get_flag-feeders.result c.get_flag-explain.result
    c.get_str-size.result c.get_str-model.result c.get_str-user.result
    (c.get_flag-check.ensures.value, c.get_flag-check.ensures.other) (c.get_flag-feeders.ensures.value, c.get_flag-feeders.ensures.other)
    (c.get_flag-explain.ensures.value, c.get_flag-explain.ensures.other)
    c.get_str-size.ensures c.get_str-model.ensures c.get_str-user.ensures
    c.requires.spelled c.requires.taken in
    rw (check, feeders, explain, c.in-false-true-false-None-Some-None.is-3, c.in-false-true-false-None-Some-None.is-4, c.in-false-true-false-None-Some-None.is-5) at fit

pub returns-in-len1-up : goal.returns-in-len1-up
returns-in-len1-up c =
    let check : c.get_flag-check.result ≡ false = search rules in
    let feeders : c.get_flag-feeders.result ≡ false = search rules in
    let explain : c.get_flag-explain.result ≡ false = search rules in
    let fit = fits (found_of c.args.matches.now) (texts_of c.args.words.now) c.requires.rows
    c.get_flag-check.result c.get_flag-feeders.result c.get_flag-explain.result
    c.get_str-size.result c.get_str-model.result c.get_str-user.result
    (c.get_flag-check.ensures.value, c.get_flag-check.ensures.other) (c.get_flag-feeders.ensures.value, c.get_flag-feeders.ensures.other)
    (c.get_flag-explain.ensures.value, c.get_flag-explain.ensures.other)
    c.get_str-size.ensures c.get_str-model.ensures c.get_str-user.ensures
    c.requires.spelled c.requires.taken in
    rw (users_are string_bytes 1 c.args.words.now) (rw (check, feeders, explain, c.in-false-false-false-None-Some-Some.is-3, c.in-false-false-false-None-Some-Some.is-4, c.in-false-false-false-None-Some-Some.is-5) at fit)

pub returns-in-len2-up : goal.returns-in-len2-up
returns-in-len2-up c =
    let check : c.get_flag-check.result ≡ false = search rules in
    let feeders : c.get_flag-feeders.result ≡ false = search rules in
    let explain : c.get_flag-explain.result ≡ true = search rules in
    let fit = fits (found_of c.args.matches.now) (texts_of c.args.words.now) c.requires.rows
    c.get_flag-check.result c.get_flag-feeders.result c.get_flag-explain.result
    c.get_str-size.result c.get_str-model.result c.get_str-user.result
    (c.get_flag-check.ensures.value, c.get_flag-check.ensures.other) (c.get_flag-feeders.ensures.value, c.get_flag-feeders.ensures.other)
    (c.get_flag-explain.ensures.value, c.get_flag-explain.ensures.other)
    c.get_str-size.ensures c.get_str-model.ensures c.get_str-user.ensures
    c.requires.spelled c.requires.taken in
    rw (users_are string_bytes 2 c.args.words.now) (rw (check, feeders, explain, c.in-false-false-true-None-Some-default.is-3, c.in-false-false-true-None-Some-default.is-4) at fit)

pub returns-in_default-words : goal.returns-in_default-words
returns-in_default-words c = λ plan is.
    let check : c.get_flag-check.result ≡ false = search rules in
    let feeders : c.get_flag-feeders.result ≡ false = search rules in
    let explain : c.get_flag-explain.result ≡ true = search rules in
    let fit = fits (found_of c.args.matches.now) (texts_of c.args.words.now) c.requires.rows
    c.get_flag-check.result c.get_flag-feeders.result c.get_flag-explain.result
    c.get_str-size.result c.get_str-model.result c.get_str-user.result
    (c.get_flag-check.ensures.value, c.get_flag-check.ensures.other) (c.get_flag-feeders.ensures.value, c.get_flag-feeders.ensures.other)
    (c.get_flag-explain.ensures.value, c.get_flag-explain.ensures.other)
    c.get_str-size.ensures c.get_str-model.ensures c.get_str-user.ensures
    c.requires.spelled c.requires.taken in
    absurd (two_words_at_least string_bytes c.args.words.now c.in_default-words.len_below _ _ (rw (check, feeders, explain, c.in-false-false-true-None-Some-default.is-3, c.in-false-false-true-None-Some-default.is-4) at fit))

pub returns-in-Some : goal.returns-in-Some
returns-in-Some c =
    let check : c.get_flag-check.result ≡ false = search rules in
    let feeders : c.get_flag-feeders.result ≡ false = search rules in
    let explain : c.get_flag-explain.result ≡ false = search rules in
    let fit = fits (found_of c.args.matches.now) (texts_of c.args.words.now) c.requires.rows
    c.get_flag-check.result c.get_flag-feeders.result c.get_flag-explain.result
    c.get_str-size.result c.get_str-model.result c.get_str-user.result
    (c.get_flag-check.ensures.value, c.get_flag-check.ensures.other) (c.get_flag-feeders.ensures.value, c.get_flag-feeders.ensures.other)
    (c.get_flag-explain.ensures.value, c.get_flag-explain.ensures.other)
    c.get_str-size.ensures c.get_str-model.ensures c.get_str-user.ensures
    c.requires.spelled c.requires.taken in
    (rw (check, feeders, explain, c.in-false-false-false-Some-None-None.is-3, c.in-false-false-false-Some-None-None.is-4, c.in-false-false-false-Some-None-None.is-5) at fit) c.in-Some.size c.in-Some.ensures

pub returns-in-None : goal.returns-in-None
returns-in-None c = λ plan is.
    let check : c.get_flag-check.result ≡ false = search rules in
    let feeders : c.get_flag-feeders.result ≡ false = search rules in
    let explain : c.get_flag-explain.result ≡ false = search rules in
    let formed = form (found_of c.args.matches.now) (texts_of c.args.words.now) c.requires.rows
    c.get_flag-check.result c.get_flag-feeders.result c.get_flag-explain.result
    c.get_str-size.result c.get_str-model.result c.get_str-user.result
    (c.get_flag-check.ensures.value, c.get_flag-check.ensures.other) (c.get_flag-feeders.ensures.value, c.get_flag-feeders.ensures.other)
    (c.get_flag-explain.ensures.value, c.get_flag-explain.ensures.other)
    c.get_str-size.ensures c.get_str-model.ensures c.get_str-user.ensures plan is in
    let (size, of) = rw (check, feeders, explain, c.in-false-false-false-Some-None-None.is-3, c.in-false-false-false-Some-None-None.is-4, c.in-false-false-false-Some-None-None.is-5) at formed in
    c.in-None.ensures size of

pub returns-in_default : goal.returns-in_default
returns-in_default c = λ plan is.
    let formed = form (found_of c.args.matches.now) (texts_of c.args.words.now) c.requires.rows
    c.get_flag-check.result c.get_flag-feeders.result c.get_flag-explain.result
    c.get_str-size.result c.get_str-model.result c.get_str-user.result
    (c.get_flag-check.ensures.value, c.get_flag-check.ensures.other) (c.get_flag-feeders.ensures.value, c.get_flag-feeders.ensures.other)
    (c.get_flag-explain.ensures.value, c.get_flag-explain.ensures.other)
    c.get_str-size.ensures c.get_str-model.ensures c.get_str-user.ensures plan is in
    elim c.in_default.branch [
      | in_default-via-then-check+then-feeders w ↦ search (rules, formed)
      | in_default-via-then-check+else-feeders+then-this w ↦ search (rules, formed)
      | in_default-via-then-check+else-feeders+else-this+in-None+in-Some+in-Some-this-3 w ↦ search (rules, formed)
      | in_default-via-then-check+else-feeders+else-this+in-None+in-None-this-2 w ↦ search (rules, formed)
      | in_default-via-then-check+else-feeders+else-this+in-Some-1 w ↦ search (rules, formed)
      | in_default-via-else-check+then-this-2+then-this-3 w ↦ search (rules, formed)
      | in_default-via-else-check+then-this-2+else-this-3+in-None+in-Some+in-Some-this-6 w ↦ search (rules, formed)
      | in_default-via-else-check+then-this-2+else-this-3+in-None+in-None-this-5 w ↦ search (rules, formed)
      | in_default-via-else-check+then-this-2+else-this-3+in-Some-1 w ↦ search (rules, formed)
      | in_default-via-else-check+else-this-2+then-this-4+in-None+in-None-this-8 w ↦ search (rules, formed)
      | in_default-via-else-check+else-this-2+then-this-4+in-Some-1 w ↦ search (rules, formed)
      | in_default-via-else-check+else-this-2+else-this-4+in-None+in-Some+in-None-this-11 w ↦ search (rules, formed)
      | in_default-via-else-check+else-this-2+else-this-4+in-None+in-None-this-10 w ↦ search (rules, formed)
      | in_default-via-else-check+else-this-2+else-this-4+in-Some+in-None+in-Some-this-13 w ↦ search (rules, formed)
      | in_default-via-else-check+else-this-2+else-this-4+in-Some+in-Some-this-12 w ↦ search (rules, formed)
    ]
