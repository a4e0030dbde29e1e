-- What is printed of a fault: the byte's place and what was expected there.
use Rattle.std.specs.Prelude.{ℕ, List, ◌++◌, codes, decimal}
use Rattle.script.specs.declared.fault.Expected.{Expected}
use Rattle.script.specs.declared.fault.Expected.TheVariants.{Ranges, Brokers, HungOn, Broker, OtherBroker, SubscriberNumber, NoticeNumber, Bound, Value}
use Rattle.script.specs.declared.fault.Fault.{Fault}
use Rattle.script.specs.declared.fault.Fault.TheVariants.{Cut, Unknown}

abbrev pub expected_text : Expected → List ℕ
expected_text Ranges = codes "how many ranges a filter has"
expected_text Brokers = codes "how many brokers there are"
expected_text (HungOn broker) = codes "the broker that broker " ++ (decimal broker ++ codes " hangs on")
expected_text Broker = codes "a broker"
expected_text OtherBroker = codes "the second broker"
expected_text SubscriberNumber = codes "a subscriber's number"
expected_text NoticeNumber = codes "a notice's number"
expected_text (Bound i) = codes "a filter's number at place " ++ decimal i
expected_text (Value i) = codes "a notice's number at place " ++ decimal i

abbrev pub fault_text : Fault → List ℕ
fault_text (Cut at expected) = codes "the script ends at byte " ++ (decimal at ++ (codes ", where " ++ (expected_text expected ++ codes " was expected")))
fault_text (Unknown at byte) = codes "byte " ++ (decimal at ++ (codes " is " ++ (decimal byte ++ codes ", where a command was expected: 0 join, 1 leave, 2 post or 3 carry")))
