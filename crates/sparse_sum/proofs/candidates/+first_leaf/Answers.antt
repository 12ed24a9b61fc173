-- The first number of the first row that has one.
use Rattle.std.proofs.Common.{rules, ◌≡◌, ◌∙◌, sym, ap, arith, ◌<◌, ◌≤◌, ◌^◌, ◌/◌, ◌%◌, length, is_some, true, false}
use Rattle.cube_space.specs.Layout.{axes_of, sizes_of}
use Rattle.cube_space.specs.Radix.{product}
use Rattle.sparse_sum.proofs.Heads.{head, at-some}
use Rattle.sparse_sum.proofs.Searches.{IsNode, some, no-row, no-later-row, later-row, next-row, own-rows, past-none, nothing-from, others-small, join-size, join-fits, join-room, rest-low}
use Rattle.sparse_sum.proofs.candidates.+first_leaf.Goals.{After-row_from}
use Rattle.sparse_sum.proofs.candidates.+first_leaf.Goals as goal

node : (t : _) (c : After-row_from t) → IsNode c.args.space.now.dimensions c.args.weights.now c.args.dims.now c.args.at.now c.rest_of-others.result.now c.rest_of-below.result.now c.args.cells c.args.from c.worth_of-worth.result
node t c =
    let begun : 0 < length c.args.dims.now = search rules in
    record {
      h = head c.args.space.now.dimensions c.args.weights.now c.args.dims.now c.args.at.now c.requires.weights c.requires.dims c.requires.at begun c.rest_of-others.result.now c.rest_of-below.result.now c.rest_of-others.ensures c.rest_of-below.ensures;
      worth_is = c.worth_of-worth.ensures ∙ ap (λ ks. product (sizes_of (axes_of c.args.space.now.dimensions ks))) (sym c.rest_of-others.ensures);
      whole = c.requires.cells;
      low = c.requires.from;
    }

pub returns-in_default-clause-first : goal.returns-in_default-clause-first
returns-in_default-clause-first t c =
    let n = node t (goal.at.returns-in_default-clause-first t c).After-row_from in
    no-row n (c.in_default.ensures.first n.h.d n.h.own)

pub first_leaf-found-requires : goal.first_leaf-found-requires
first_leaf-found-requires t c =
    let n = node t (goal.at.first_leaf-found-requires t c).After-row_from in
    let first = c.in-Some.ensures.first n.h.d n.h.own in
    let fits = c.in-Some.ensures.size n.h.d n.h.own in
    let falls : length c.rest_of-others.result.now < t = (let d = c.decreases in omega (arith, n.h.fewer, d)) in
    (falls, (c.requires.weights, (n.h.others, (n.h.digits, (others-small n c.in-Some.row 1000000000 c.requires.small fits first.counts, (n.worth_is, some n))))))

pub joined-requires-clause-room : goal.joined-requires-clause-room
joined-requires-clause-room t c =
    let n = node t (goal.at.joined-requires-clause-room t c).After-row_from in
    let first = c.in-Some.ensures.first n.h.d n.h.own in
    let under : c.args.cells < 2 ^ 64 = search rules in
    join-room n c.in-Some.row 0 (2 ^ 64) first.within under c.first_leaf-found.result c.first_leaf-found.ensures.first

pub joined-requires-clause-size : goal.joined-requires-clause-size
joined-requires-clause-size t c =
    let n = node t (goal.at.joined-requires-clause-size t c).After-row_from in
    let fits = c.in-Some.ensures.size n.h.d n.h.own in
    join-fits n c.in-Some.row 1000000000 c.requires.small fits c.first_leaf-found.result c.first_leaf-found.ensures.size

pub returns-then-from-digit-clause-first : goal.returns-then-from-digit-clause-first
returns-then-from-digit-clause-first t c =
    let n = node t (goal.at.returns-then-from-digit-clause-first t c).After-row_from in
    let first = c.in-Some.ensures.first n.h.d n.h.own in
    let above : c.args.from / c.worth_of-worth.result < c.in-Some.row.0 = search rules in
    rw c.joined.ensures (later-row n c.in-Some.row first above c.first_leaf-found.result c.first_leaf-found.ensures.first)

pub returns-then-from-digit-clause-size : goal.returns-then-from-digit-clause-size
returns-then-from-digit-clause-size t c =
    let n = node t (goal.at.returns-then-from-digit-clause-size t c).After-row_from in
    let fits = c.in-Some.ensures.size n.h.d n.h.own in
    rw c.joined.ensures (join-size n c.in-Some.row fits c.first_leaf-found.result c.first_leaf-found.ensures.size)

pub first_leaf-here-requires : goal.first_leaf-here-requires
first_leaf-here-requires t c =
    let n = node t (goal.at.first_leaf-here-requires t c).After-row_from in
    let first = c.in-Some.ensures.first n.h.d n.h.own in
    let fits = c.in-Some.ensures.size n.h.d n.h.own in
    let falls : length c.rest_of-others.result.now < t = (let d = c.decreases in omega (arith, n.h.fewer, d)) in
    (falls, (c.requires.weights, (n.h.others, (n.h.digits, (others-small n c.in-Some.row 1000000000 c.requires.small fits first.counts, (n.worth_is, rest-low n))))))

pub joined-requires-then-is_some-clause-room : goal.joined-requires-then-is_some-clause-room
joined-requires-then-is_some-clause-room t c =
    let n = node t (goal.at.joined-requires-then-is_some-clause-room t c).After-row_from in
    let first = c.in-Some.ensures.first n.h.d n.h.own in
    let under : c.args.cells < 2 ^ 64 = search rules in
    join-room n c.in-Some.row (c.args.from % c.worth_of-worth.result) (2 ^ 64) first.within under c.first_leaf-here.result c.first_leaf-here.ensures.first

pub joined-requires-then-is_some-clause-size : goal.joined-requires-then-is_some-clause-size
joined-requires-then-is_some-clause-size t c =
    let n = node t (goal.at.joined-requires-then-is_some-clause-size t c).After-row_from in
    let fits = c.in-Some.ensures.size n.h.d n.h.own in
    join-fits n c.in-Some.row 1000000000 c.requires.small fits c.first_leaf-here.result c.first_leaf-here.ensures.size

pub returns-then-is_some-clause-first : goal.returns-then-is_some-clause-first
returns-then-is_some-clause-first t c =
    let n = node t (goal.at.returns-then-is_some-clause-first t c).After-row_from in
    let first = c.in-Some.ensures.first n.h.d n.h.own in
    let upto : c.in-Some.row.0 ≤ c.args.from / c.worth_of-worth.result = search rules in
    let on : is_some c.first_leaf-here.result ≡ true = search rules in
    rw c.joined-then-is_some.ensures (own-rows n c.in-Some.row first upto c.first_leaf-here.result on c.first_leaf-here.ensures.first)

pub returns-then-is_some-clause-size : goal.returns-then-is_some-clause-size
returns-then-is_some-clause-size t c =
    let n = node t (goal.at.returns-then-is_some-clause-size t c).After-row_from in
    let fits = c.in-Some.ensures.size n.h.d n.h.own in
    rw c.joined-then-is_some.ensures (join-size n c.in-Some.row fits c.first_leaf-here.result c.first_leaf-here.ensures.size)

pub returns-then-rest-eq0-clause-first : goal.returns-then-rest-eq0-clause-first
returns-then-rest-eq0-clause-first t c =
    let n = node t (goal.at.returns-then-rest-eq0-clause-first t c).After-row_from in
    let off : is_some c.first_leaf-here.result ≡ false = search rules in
    let past = past-none n c.first_leaf-here.result off c.first_leaf-here.ensures.first in
    let none : c.args.from % c.worth_of-worth.result ≡ 0 = search rules in
    nothing-from n none past

pub returns-in_default-row_from-clause-first : goal.returns-in_default-row_from-clause-first
returns-in_default-row_from-clause-first t c =
    let n = node t (goal.at.returns-in_default-row_from-clause-first t c).After-row_from in
    let off : is_some c.first_leaf-here.result ≡ false = search rules in
    let past = past-none n c.first_leaf-here.result off c.first_leaf-here.ensures.first in
    no-later-row n past (c.in_default-row_from.ensures.first n.h.d n.h.own)

pub first_leaf-found-requires-2 : goal.first_leaf-found-requires-2
first_leaf-found-requires-2 t c =
    let n = node t (goal.at.first_leaf-found-requires-2 t c).After-row_from in
    let first = c.in-Some-row_from.ensures.first n.h.d n.h.own in
    let fits = c.in-Some-row_from.ensures.size n.h.d n.h.own in
    let falls : length c.rest_of-others.result.now < t = (let d = c.decreases in omega (arith, n.h.fewer, d)) in
    (falls, (c.requires.weights, (n.h.others, (n.h.digits, (others-small n c.in-Some-row_from.later 1000000000 c.requires.small fits first.counts, (n.worth_is, some n))))))

pub joined-requires-2-clause-room : goal.joined-requires-2-clause-room
joined-requires-2-clause-room t c =
    let n = node t (goal.at.joined-requires-2-clause-room t c).After-row_from in
    let first = c.in-Some-row_from.ensures.first n.h.d n.h.own in
    let under : c.args.cells < 2 ^ 64 = search rules in
    join-room n c.in-Some-row_from.later 0 (2 ^ 64) first.within under c.first_leaf-found-2.result c.first_leaf-found-2.ensures.first

pub joined-requires-2-clause-size : goal.joined-requires-2-clause-size
joined-requires-2-clause-size t c =
    let n = node t (goal.at.joined-requires-2-clause-size t c).After-row_from in
    let fits = c.in-Some-row_from.ensures.size n.h.d n.h.own in
    join-fits n c.in-Some-row_from.later 1000000000 c.requires.small fits c.first_leaf-found-2.result c.first_leaf-found-2.ensures.size

pub returns-clause-first : goal.returns-clause-first
returns-clause-first t c =
    let n = node t (goal.at.returns-clause-first t c).After-row_from in
    let first = c.in-Some-row_from.ensures.first n.h.d n.h.own in
    let off : is_some c.first_leaf-here.result ≡ false = search rules in
    let past = past-none n c.first_leaf-here.result off c.first_leaf-here.ensures.first in
    rw c.joined-2.ensures (next-row n c.in-Some-row_from.later past first c.first_leaf-found-2.result c.first_leaf-found-2.ensures.first)

pub returns-clause-size : goal.returns-clause-size
returns-clause-size t c =
    let n = node t (goal.at.returns-clause-size t c).After-row_from in
    let fits = c.in-Some-row_from.ensures.size n.h.d n.h.own in
    rw c.joined-2.ensures (join-size n c.in-Some-row_from.later fits c.first_leaf-found-2.result c.first_leaf-found-2.ensures.size)

pub bounds-at-0 : goal.bounds-at-0
bounds-at-0 t c =
    let begun : 0 < length c.args.dims.now = search rules in
    at-some c.args.space.now.dimensions c.args.weights.now c.args.dims.now c.args.at.now c.requires.weights c.requires.dims c.requires.at begun

pub rest_of-below-requires : goal.rest_of-below-requires
rest_of-below-requires t c =
    let begun : 0 < length c.args.dims.now = search rules in
    at-some c.args.space.now.dimensions c.args.weights.now c.args.dims.now c.args.at.now c.requires.weights c.requires.dims c.requires.at begun
