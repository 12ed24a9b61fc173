use Rattle.std.proofs.Common.{◌≡◌, ◌∙◌, sym, ap, subst, arith, ℕ, ◌<◌, ◌≤◌, List, length, None, Some, get_or, inl, inr}
use Rattle.std.specs.Prelude.{slice_get}
use Rattle.std.proofs.lemmas.Bool.{cases_lt}
use Rattle.std.proofs.lemmas.List.{length-append, take_all}
use Rattle.std.proofs.lemmas.Option.{slice_get_within, slice_get-get_or}
use Rattle.rule_laws.specs.Feeding.{Feeds}
use Rattle.rule_model.specs.System.{system_of}
use Rattle.feed_chains.proofs.LedFacts.{AreFollowed, adds-still, all-led, followed-more}
use Rattle.feed_sources.proofs.Members.{none-there}
use Rattle.feed_chains.proofs.led.count_led.Goals.{In-Some}
use Rattle.feed_chains.proofs.led.count_led.Goals as goal

pub each-init : goal.each-init
each-init c = record {
  first = c.in_ok-follow.ensures.each;
  followed = λ x y has feeds. absurd (none-there x has);
  within = omega arith;
}

-- the next cell is there
found : (c : In-Some) → slice_get c.each.led c.each.place ≡ Some c.in-Some.next
found c = sym c.at.ensures.cell ∙ c.in-Some.is

low : (c : In-Some) → c.each.place < length c.each.led
low c = slice_get_within c.each.led c.each.place c.in-Some.next (found c)

pub each-smaller : goal.each-smaller
each-smaller c = omega (arith, low (goal.at.each-smaller c).In-Some)

pub each-preserved : goal.each-preserved
each-preserved c =
    let at = (goal.at.each-preserved c).In-Some in
    let w = system_of c.args.model.now in
    let adds = c.in_ok-follow-2.ensures in
    record {
      first = λ x feeds. adds-still (Feeds w c.in-Some.next) c.each.led c.follow-in-Some.new.led adds x (c.each.invariant.first x feeds);
      followed = followed-more w c.each.led c.follow-in-Some.new.led c.each.place c.in-Some.next (found at) adds c.each.invariant.followed;
      within = (let long = ap length adds.kept.1 in omega (arith, low at, long, length-append c.each.led adds.kept.0));
    }

pub returns : goal.returns
returns c =
    let w = system_of c.args.model.now in
    let past : length c.each.led ≤ c.each.place =
    elim (cases_lt c.each.place (length c.each.led)) [
      | inl less ↦ absurd (let clash : None ≡ Some (get_or c.each.led c.each.place 0) = sym c.in_default.is ∙ c.at.ensures.cell ∙ slice_get-get_or c.each.led c.each.place 0 less in cc)
      | inr high ↦ high
    ] in
    let all : AreFollowed w c.each.led c.each.led = subst (λ (cells : List ℕ). AreFollowed w cells c.each.led) (take_all c.each.place c.each.led past) c.each.invariant.followed in
    (c.each.led, past, all-led w c.args.cell c.each.led c.each.invariant.first all)
