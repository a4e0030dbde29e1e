use Rattle.std.proofs.Common.{ap, ◌∙◌, arith}
use Rattle.broker.specs.Subscribers.{subscribers, reached}
use Rattle.layout.specs.Plan.{many_of}
use Rattle.layout.specs.Parts.{plan_of}
use Rattle.routing.proofs.Arrivals.{front_taken, front_long}
use Rattle.routing.proofs.Found.{own_subscribers, own_whole, own_few, around_learned, around_many, wanting_found}
use Rattle.routing.proofs.Surrounded.{neighbours_few}
use Rattle.layout.proofs.Written.{lent_part}
use Rattle.routing.proofs.arriving.find.Goals as goal

pub goes_on-on-requires : goal.goes_on-on-requires
goes_on-on-requires c =
    let o = c.args.opening.now in
    let memory = c.args.memory.now in
    let b = c.args.broker in
    let ns = c.as_slice.ensures.value in
    let around = c.surround-around.ensures in
    let m = around_many o memory b c.requires.formed c.requires.there _ around in
    let f = neighbours_few o b in
    record {
      count = o.valid.0.1;
      learned = rw ns (around_learned o memory b c.requires.formed c.requires.there _ around);
      room = rw ns (omega arith);
    }

pub place-at-requires : goal.place-at-requires
unfolding many_of
place-at-requires c = c.requires.there

pub deliver-many-requires : goal.deliver-many-requires
deliver-many-requires c =
    let o = c.args.opening.now in
    let memory = c.args.memory.now in
    let b = c.args.broker in
    let own = lent_part (plan_of o) 0 b c.place-at.result.at c.place-at.result.end memory c.place-at.ensures.start c.place-at.ensures.stop in
    let f = own_few o memory b c.requires.formed c.requires.there in
    let v = o.valid.2.1 in
    record {
      whole = (o.valid.0.1, rw own (own_whole o memory b c.requires.formed c.requires.there));
      room = rw own (omega arith);
    }

pub returns : goal.returns
returns c =
    let o = c.args.opening.now in
    let memory = c.args.memory.now in
    let b = c.args.broker in
    let own = lent_part (plan_of o) 0 b c.place-at.result.at c.place-at.result.end memory c.place-at.ensures.start c.place-at.ensures.stop in
    let p = c.goes_on-on.ensures.words in
    let q = c.deliver-many.ensures.words in
    record {
      few = (front_long _ _ _ _ p c.goes_on-on.ensures.counted, front_long _ _ _ _ q c.deliver-many.ensures.counted);
      on =
          (rw c.as_slice.ensures.value at (front_taken _ _ _ _ p c.goes_on-on.ensures.counted))
          ∙ wanting_found o memory b c.requires.formed c.requires.there _ c.surround-around.ensures c.args.from c.args.notice.now;
      whom =
          front_taken _ _ _ _ q c.deliver-many.ensures.counted
          ∙ ap (reached c.args.notice.now) (ap (subscribers o.ranges) own ∙ own_subscribers o memory b c.requires.formed c.requires.there);
    }
