-- The memory of a network, part by part, and how many words it takes.
use Rattle.std.specs.Prelude.{ℕ, ◌+◌, ◌-◌, ◌*◌, [], ◌∷◌}
use Rattle.layout.specs.Plan.{Plan, words_of}

-- each broker's subscribers: a count, then a number and a filter for each
abbrev pub subscribers_words : ℕ → ℕ → ℕ
subscribers_words ranges subscribers = 1 + subscribers * (1 + 2 * ranges)

-- the numbers of up to 4,096 notices, and their count: those that have arrived at a broker, and those posted
abbrev pub notices_words : ℕ
notices_words = 4097

-- a table of filters: a count, then the filters. From each other broker there may be its subscribers' filters, and one more while a change is under way
abbrev pub table_words : ℕ → ℕ → ℕ → ℕ
table_words ranges brokers subscribers = 1 + ((brokers - 1) * (subscribers + 1)) * (2 * ranges)

-- a channel: where its ring begins, a count, then for each message its kind, a notice's number, and the numbers of the filter or notice
abbrev pub channel_words : ℕ → ℕ → ℕ
channel_words ranges messages = 2 + messages * (2 + 2 * ranges)

-- up to 65,536 deliveries, a notice and a subscriber each, and their count
abbrev pub deliveries_words : ℕ
deliveries_words = 131073

-- for each broker its subscribers and the notices that have arrived there; for each direction of each link an announced table, a learned table and a
-- channel; then the posted notices and the deliveries
abbrev pub plan : (ranges brokers subscribers messages : ℕ) → Plan
plan ranges brokers subscribers messages =
    record { many = brokers; size = subscribers_words ranges subscribers }
    ∷ record { many = brokers; size = notices_words }
    ∷ record { many = 2 * (brokers - 1); size = table_words ranges brokers subscribers }
    ∷ record { many = 2 * (brokers - 1); size = table_words ranges brokers subscribers }
    ∷ record { many = 2 * (brokers - 1); size = channel_words ranges messages }
    ∷ record { many = 1; size = notices_words }
    ∷ record { many = 1; size = deliveries_words }
    ∷ []

abbrev pub words_needed : (ranges brokers subscribers messages : ℕ) → ℕ
words_needed ranges brokers subscribers messages = words_of (plan ranges brokers subscribers messages)
