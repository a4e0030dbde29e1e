-- Where the parts of a network's memory begin, and that the memory is small enough to be counted.
use Rattle.std.proofs.Common.{◌≡◌, ℕ, zero, suc, ◌+◌, ◌-◌, ◌*◌, ◌<◌, ◌≤◌, [], ◌∷◌, refl, mul-le-mul, mul-zero, arith}
use Rattle.layout.specs.Memory.{subscribers_words, table_words, channel_words}
use Rattle.layout.specs.Plan.{Plan, words_of, many_of, size_of, start_of}
use Rattle.layout.specs.Parts.{plan_of}
use Rattle.layout.specs.Kinds.{kind_number}
use Rattle.layout.specs.declared.opening.Opening.{Opening}
use Rattle.layout.specs.declared.parts.Kind.{Kind}
use Rattle.layout.specs.declared.parts.Kind.TheVariants.{Subscribers, Arrived, Announced, Learned, Channel, Posted, Deliveries}
use Rattle.layout.proofs.Frames.{part_within}

-- the words of one part, at most
pub subscribers_few : (o : Opening) → subscribers_words o.ranges o.subscribers ≤ 1089
subscribers_few o =
    let p : o.subscribers * (1 + 2 * o.ranges) ≤ 64 * 17 = mul-le-mul {n₂ = 64} {m₂ = 17} (omega arith) (omega arith) in
    omega arith

pub table_few : (o : Opening) → table_words o.ranges o.brokers o.subscribers ≤ 15601
table_few o =
    let p : (o.brokers - 1) * (o.subscribers + 1) ≤ 15 * 65 = mul-le-mul {n₂ = 15} {m₂ = 65} (omega arith) (omega arith) in
    let q : (o.brokers - 1) * (o.subscribers + 1) * (2 * o.ranges) ≤ 975 * 16 = mul-le-mul {n₂ = 975} {m₂ = 16} p (omega arith) in
    omega arith

pub channel_few : (o : Opening) → channel_words o.ranges o.messages ≤ 589826
channel_few o =
    let p : o.messages * (2 + 2 * o.ranges) ≤ 32768 * 18 = mul-le-mul {n₂ = 32768} {m₂ = 18} (omega arith) (omega arith) in
    omega arith

-- the words before the posted notices, and all of them
pub before_few : (n s t c : ℕ) → n ≤ 16 → s ≤ 1089 → t ≤ 15601 → c ≤ 589826 → n * s + n * 4097 + 2 * (2 * (n - 1) * t) + 2 * (n - 1) * c ≤ 18713816
before_few n s t c h i j k =
    let p : n * s ≤ 16 * 1089 = mul-le-mul {n₂ = 16} {m₂ = 1089} h i in
    let d : 2 * (n - 1) ≤ 30 = omega arith in
    let q : 2 * (n - 1) * t ≤ 30 * 15601 = mul-le-mul {n₂ = 30} {m₂ = 15601} d j in
    let r : 2 * (n - 1) * c ≤ 30 * 589826 = mul-le-mul {n₂ = 30} {m₂ = 589826} d k in
    omega arith

pub words_few : (o : Opening) → words_of (plan_of o) ≤ 18848986
unfolding words_of
words_few o =
    let b = before_few o.brokers _ _ _ (omega arith) (subscribers_few o) (table_few o) (channel_few o) in
    omega arith

-- the word where the parts of a kind begin, from the words of one part of each
abbrev pub begin_in : (n s t c : ℕ) → Kind → ℕ
begin_in n s t c Subscribers = 0
begin_in n s t c Arrived = n * s
begin_in n s t c Announced = n * s + n * 4097
begin_in n s t c Learned = n * s + n * 4097 + 2 * (n - 1) * t
begin_in n s t c Channel = n * s + n * 4097 + 2 * (2 * (n - 1) * t)
begin_in n s t c Posted = n * s + n * 4097 + 2 * (2 * (n - 1) * t) + 2 * (n - 1) * c
begin_in n s t c Deliveries = n * s + n * 4097 + 2 * (2 * (n - 1) * t) + 2 * (n - 1) * c + 4097

abbrev pub size_in : (s t c : ℕ) → Kind → ℕ
size_in s t c Subscribers = s
size_in s t c Arrived = 4097
size_in s t c Announced = t
size_in s t c Learned = t
size_in s t c Channel = c
size_in s t c Posted = 4097
size_in s t c Deliveries = 131073

begins : (o : Opening) (k : Kind) →
    begin_in o.brokers (subscribers_words o.ranges o.subscribers) (table_words o.ranges o.brokers o.subscribers) (channel_words o.ranges o.messages) k ≡ start_of (plan_of o) (kind_number k) 0
unfolding start_of
begins o Subscribers = omega arith
begins o Arrived = omega arith
begins o Announced = omega arith
begins o Learned = omega arith
begins o Channel = omega arith
begins o Posted = omega arith
begins o Deliveries = omega arith

sizes : (o : Opening) (k : Kind) →
    size_in (subscribers_words o.ranges o.subscribers) (table_words o.ranges o.brokers o.subscribers) (channel_words o.ranges o.messages) k ≡ size_of (plan_of o) (kind_number k)
unfolding size_of
sizes o Subscribers = refl
sizes o Arrived = refl
sizes o Announced = refl
sizes o Learned = refl
sizes o Channel = refl
sizes o Posted = refl
sizes o Deliveries = refl

pub first_is : (o : Opening) (s t c : ℕ) (kind k : Kind) → s ≡ subscribers_words o.ranges o.subscribers → t ≡ table_words o.ranges o.brokers o.subscribers → c ≡ channel_words o.ranges o.messages →
    kind ≡ k → (begin_in o.brokers s t c k ≡ start_of (plan_of o) (kind_number kind) 0) × (size_in s t c k ≡ size_of (plan_of o) (kind_number kind))
first_is o s t c kind k a b d e = rw (a, b, d, e) (begins o k, sizes o k)

-- the i-th part lies i parts behind the first
start_at : (p : Plan) (k i : ℕ) → start_of p k 0 + i * size_of p k ≡ start_of p k i
unfolding start_of size_of
start_at [] k i = omega (arith, mul-zero i)
start_at (x ∷ xs) zero i = omega arith
start_at (x ∷ xs) (suc k) i = omega (arith, start_at xs k i)

pub spans : (o : Opening) (k i base size : ℕ) → i < many_of (plan_of o) k → base ≡ start_of (plan_of o) k 0 → size ≡ size_of (plan_of o) k →
    (base + i * size ≡ start_of (plan_of o) k i) × (base + i * size + size ≤ words_of (plan_of o)) × (words_of (plan_of o) ≤ 18848986)
spans o k i base size h a b =
    let s = start_at (plan_of o) k i in
    let p = part_within (plan_of o) k i h in
    let w = words_few o in
    rw (a, b, s) (refl, p, w)
