-- Telling one neighbour at a time, and sending a notice on to one at a time: what a turn of a loop over the neighbours does to the network.
use Rattle.std.specs.Prelude.{ℕ, List, [], ◌∷◌, ◌++◌}
use Rattle.filter.specs.Filter.{Filter, Notice}
use Rattle.model.specs.Tree.{Tree}
use Rattle.model.specs.Model.{Message, notice, Network, at2, batch, announcement}
use Rattle.model.specs.Promise.{in_turn}

-- the network with these announcements and these channels, and the rest as it was
abbrev pub with_told : Network → (announced : ℕ → ℕ → List Filter) (channel : ℕ → ℕ → List Message) → Network
with_told s announced channel =
    record {
      subscribers = s.subscribers;
      learned = s.learned;
      announced = announced;
      channel = channel;
      posted = s.posted;
      arrived = s.arrived;
      deliveries = s.deliveries;
    }

-- broker b tells n beside it what it has to announce
abbrev pub tell_one : Tree → (b n : ℕ) → Network → Network
tell_one t b n s =
    with_told
    s
    (at2 s.announced b n (announcement t s b n))
    (at2 s.channel b n (s.channel b n ++ batch (s.announced b n) (announcement t s b n)))

-- broker b has told these brokers, one after the other
abbrev pub told_to : Tree → (b : ℕ) → List ℕ → Network → Network
told_to t b ns s =
    with_told
    s
    (in_turn (λ m fs. announcement t s b m) b ns s.announced)
    (in_turn (λ m ms. ms ++ batch (s.announced b m) (announcement t s b m)) b ns s.channel)

-- broker b sends a notice on to n
abbrev pub send_one : (b n k : ℕ) → Notice → Network → Network
send_one b n k e s = with_told s s.announced (at2 s.channel b n (s.channel b n ++ notice k e ∷ []))

-- broker b has sent a notice on to these brokers, one after the other
abbrev pub sent_to : (b k : ℕ) → Notice → List ℕ → Network → Network
sent_to b k e ns s = with_told s s.announced (in_turn (λ l ms. ms ++ notice k e ∷ []) b ns s.channel)
