use Rattle.layout.specs.declared.parts.Kind.TheVariants.{Subscribers, Arrived, Announced, Learned, Channel, Posted, Deliveries}
use Rattle.layout.proofs.Spans.{first_is}
use Rattle.layout.proofs.parts.first.Goals as goal

pub returns-in-Subscribers : goal.returns-in-Subscribers
returns-in-Subscribers c =
    first_is c.args.opening.now _ _ _ _ Subscribers c.subscribers_words-subscribers.ensures.value c.table_words-table.ensures.value c.channel_words-channel.ensures.value c.in-Subscribers.is

pub returns-in-Arrived : goal.returns-in-Arrived
returns-in-Arrived c =
    first_is c.args.opening.now _ _ _ _ Arrived c.subscribers_words-subscribers.ensures.value c.table_words-table.ensures.value c.channel_words-channel.ensures.value c.in-Arrived.is

pub returns-in-Announced : goal.returns-in-Announced
returns-in-Announced c =
    first_is c.args.opening.now _ _ _ _ Announced c.subscribers_words-subscribers.ensures.value c.table_words-table.ensures.value c.channel_words-channel.ensures.value c.in-Announced.is

pub returns-in-Learned : goal.returns-in-Learned
returns-in-Learned c =
    first_is c.args.opening.now _ _ _ _ Learned c.subscribers_words-subscribers.ensures.value c.table_words-table.ensures.value c.channel_words-channel.ensures.value c.in-Learned.is

pub returns-in-Channel : goal.returns-in-Channel
returns-in-Channel c =
    first_is c.args.opening.now _ _ _ _ Channel c.subscribers_words-subscribers.ensures.value c.table_words-table.ensures.value c.channel_words-channel.ensures.value c.in-Channel.is

pub returns-in-Posted : goal.returns-in-Posted
returns-in-Posted c =
    first_is c.args.opening.now _ _ _ _ Posted c.subscribers_words-subscribers.ensures.value c.table_words-table.ensures.value c.channel_words-channel.ensures.value c.in-Posted.is

pub returns-in-Deliveries : goal.returns-in-Deliveries
returns-in-Deliveries c =
    first_is c.args.opening.now _ _ _ _ Deliveries c.subscribers_words-subscribers.ensures.value c.table_words-table.ensures.value c.channel_words-channel.ensures.value c.in-Deliveries.is
