use Rattle.std.proofs.Common.{rules, refl, arith, length, ◌≤◌}
use Rattle.std.proofs.lemmas.Option.{slice_get_read}
use Rattle.read_sources.specs.Sources.{IsRead}
use Rattle.read_sources.proofs.Placed.{all-of}
use Rattle.read_sources.proofs.Sourced.{listed-are}
use Rattle.read_sources.proofs.Groups.{parted-none, parted-more, parts-of-all}
use Rattle.read_sources.proofs.parting.part_sources.Goals as goal

pub each-init : goal.each-init
each-init c = record {
  so = parted-none c.args.model.now c.args.sources.now _ c.new.ensures.items c.new-2.ensures.items c.new-3.ensures.items;
  marks = omega (arith, c.in_ok-lasts.lasts.ok, c.in_ok-lasts.ensures.len);
}

pub put-requires-clause-read : goal.put-requires-clause-read
put-requires-clause-read c =
    c.requires.sources.read c.each.k c.index-sources-k.result
    (slice_get_read c.args.sources.now _ c.each.k c.index-sources-k.result refl c.each-test.true c.index-sources-k.is)

pub put-requires-clause-singles : goal.put-requires-clause-singles
put-requires-clause-singles c = listed-are c.args.model.now c.space-space.ensures.valid c.space-space.ensures.rules c.each.parted.singles.items c.each.invariant.so.parts.singles

pub put-requires-clause-single : goal.put-requires-clause-single
put-requires-clause-single c = all-of (IsRead c.args.model.now) c.each.parted.singles.items c.each.invariant.so.parts.singles

pub put-requires-clause-heads : goal.put-requires-clause-heads
put-requires-clause-heads c = listed-are c.args.model.now c.space-space.ensures.valid c.space-space.ensures.rules c.each.parted.heads.items c.each.invariant.so.parts.heads

pub put-requires-clause-each : goal.put-requires-clause-each
put-requires-clause-each c = all-of (IsRead c.args.model.now) c.each.parted.heads.items c.each.invariant.so.parts.heads

pub each-preserved : goal.each-preserved
each-preserved c = record {
  so =
      parted-more c.args.model.now c.args.sources.now c.each.k c.index-sources-k.result c.each.parted c.put.new.parted
      (slice_get_read c.args.sources.now _ c.each.k c.index-sources-k.result refl c.each-test.true c.index-sources-k.is) c.each.invariant.so c.in_ok-lasts-2.ensures;
  marks = search rules;
}

pub returns : goal.returns
returns c =
    let few : length c.args.sources.now ≤ 536870912 = c.requires.sources.few in
    parts-of-all c.args.model.now c.args.sources.now c.each.k c.each.parted c.each-test.false (omega (arith, c.each.auto.k-end, few)) c.requires.sources c.each.invariant.so
