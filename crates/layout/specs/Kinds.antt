-- The number of each kind of parts in the plan of a network's memory.
use Rattle.std.specs.Prelude.{ℕ}
use Rattle.layout.specs.declared.parts.Kind.{Kind}
use Rattle.layout.specs.declared.parts.Kind.TheVariants.{Subscribers, Arrived, Announced, Learned, Channel, Posted, Deliveries}

abbrev pub kind_number : Kind → ℕ
kind_number Subscribers = 0
kind_number Arrived = 1
kind_number Announced = 2
kind_number Learned = 3
kind_number Channel = 4
kind_number Posted = 5
kind_number Deliveries = 6
