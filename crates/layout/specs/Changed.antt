-- The network with one thing changed.
use Rattle.std.specs.Prelude.{ℕ, List}
use Rattle.filter.specs.Filter.{Filter}
use Rattle.model.specs.Model.{Message, Delivery, Network, at1, at2}

-- what the first broker announced last to the second
abbrev pub with_announced : Network → (a b : ℕ) → List Filter → Network
with_announced s a b fs =
    record {
      subscribers = s.subscribers;
      learned = s.learned;
      announced = at2 s.announced a b fs;
      channel = s.channel;
      posted = s.posted;
      arrived = s.arrived;
      deliveries = s.deliveries;
    }

-- what the first broker has learned from the second
abbrev pub with_table : Network → (b a : ℕ) → List Filter → Network
with_table s b a fs =
    record {
      subscribers = s.subscribers;
      learned = at2 s.learned b a fs;
      announced = s.announced;
      channel = s.channel;
      posted = s.posted;
      arrived = s.arrived;
      deliveries = s.deliveries;
    }

-- what is under way from the first broker to the second
abbrev pub with_channel : Network → (a b : ℕ) → List Message → Network
with_channel s a b ms =
    record {
      subscribers = s.subscribers;
      learned = s.learned;
      announced = s.announced;
      channel = at2 s.channel a b ms;
      posted = s.posted;
      arrived = s.arrived;
      deliveries = s.deliveries;
    }

-- the numbers of the notices that were posted
abbrev pub with_numbers : Network → List ℕ → Network
with_numbers s ks =
    record {
      subscribers = s.subscribers;
      learned = s.learned;
      announced = s.announced;
      channel = s.channel;
      posted = ks;
      arrived = s.arrived;
      deliveries = s.deliveries;
    }

-- the numbers of the notices that have arrived at a broker
abbrev pub with_arrived : Network → ℕ → List ℕ → Network
with_arrived s b ks =
    record {
      subscribers = s.subscribers;
      learned = s.learned;
      announced = s.announced;
      channel = s.channel;
      posted = s.posted;
      arrived = at1 s.arrived b ks;
      deliveries = s.deliveries;
    }

abbrev pub with_deliveries : Network → List Delivery → Network
with_deliveries s hs =
    record {
      subscribers = s.subscribers;
      learned = s.learned;
      announced = s.announced;
      channel = s.channel;
      posted = s.posted;
      arrived = s.arrived;
      deliveries = hs;
    }
