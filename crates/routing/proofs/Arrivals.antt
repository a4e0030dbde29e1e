-- A notice arrives at a broker: it is sent on to those who wish for it, one after the other, and it is written down to whom it was delivered.
use Rattle.std.proofs.Common.{◌≡◌, ℕ, suc, ◌+◌, ◌-◌, ◌*◌, ◌<◌, ◌≤◌, Bool, true, false, cond, not, ◌&&◌, eqb, leb, List, [], ◌∷◌, ◌++◌, map, length, get_or, take, drop, replicate, Some, None, Ok, Err, Option, Result, sym, refl, ap, ◌∙◌, subst, arith}
use borrow.Rule.Slice.PartMut.{put_mid}
use Rattle.std.specs.List.{between, AllByRecursion}
use Rattle.std.proofs.lemmas.List.{length-append, length-map, length-replicate, length-take-le, get_or-take, get_or-drop, take_at, take_more}
use Rattle.std.proofs.lemmas.Bool.{and_parts, le-leb, leb-true, lt-leb}
use Rattle.filter.specs.Filter.{Notice, matches}
use Rattle.cover.specs.Maximal.{any_matches}
use Rattle.broker.specs.Subscribers.{Subscriber, reached}
use Rattle.channel.specs.Ring.{Row, Holds}
use Rattle.model.specs.Tree.{edge, has, distinct, neighbours}
use Rattle.model.specs.Model.{notice, Delivery, Network, delivered, passed_on, arrive}
use Rattle.model.specs.Turn.{send_one, sent_to}
use Rattle.model.proofs.Tree.{neighbours_distinct, neighbours_edge}
use Rattle.model.proofs.OneByOne.{sent_none, sent_more, sent_channel, sent_all, wanting_has, wanting_distinct, distinct_take}
use Rattle.layout.specs.Links.{link}
use Rattle.layout.specs.Plan.{size_of, start_of}
use Rattle.layout.specs.Parts.{tree, plan_of}
use Rattle.layout.specs.Logs.{Lists, Delivers, all_to}
use Rattle.layout.specs.Mail.{row_for}
use Rattle.layout.specs.State.{network_of, Encodes, Formed}
use Rattle.layout.specs.Changed.{with_numbers, with_arrived, with_deliveries}
use Rattle.routing.specs.Reach.{Reaches}
use Rattle.routing.specs.Rooms.{first, ok_unless, when, full, no_room_to_pass, no_room_to_deliver}
use Rattle.layout.specs.declared.opening.Opening.{Opening}
use Rattle.routing.specs.declared.reach.Reach.{Reach}
use Rattle.layout.specs.declared.refusal.Refusal.{Refusal}
use Rattle.layout.specs.declared.refusal.Refusal.TheVariants.{TooManyDeliveries}
use Rattle.layout.proofs.Carried.{carries_more}
use Rattle.layout.proofs.Encoded.{reads}
use Rattle.layout.proofs.Logged.{delivers_count}
use Rattle.routing.proofs.Room.{full_none}
use Rattle.routing.proofs.Sendings.{lent_channel}
use Rattle.routing.proofs.Surrounded.{neighbour_edge, broker_within}
use Rattle.routing.proofs.Wanted.{passed_is, full_wanted}
use Rattle.layout.proofs.Written.{lent, lent_part, tree_hung, put_channel, put_arrived, put_posted, put_deliveries}

-- what holds of each of a list holds of its last
last_of : {A : Type 0} (P : A → Type 0) (xs : List A) (x : A) → AllByRecursion P (xs ++ x ∷ []) → P x
last_of P [] x h = h.0
last_of P (y ∷ xs) x h = last_of P xs x h.1

-- a notice whose row is as long as a slot has as many numbers as there are ranges
notice_sized : (m k : ℕ) (e : Notice) → length (row_for m (notice k e)) ≡ 2 + 2 * m → length e ≡ m
notice_sized m k e h =
    let p = length-append e (replicate m 0) in
    let q = length-replicate {A = ℕ} m 0 in
    omega arith

-- a notice written behind the last message, where the channel's part is lent from `at` to `stop`
pub sent_notice : (o : Opening) (memory : List ℕ) → Formed o memory → (a b : ℕ) → edge (tree o) a b ≡ true → (l at stop : ℕ) → l ≡ link a b →
    at ≡ start_of (plan_of o) 4 l → stop ≡ start_of (plan_of o) 4 l + size_of (plan_of o) 4 → (k : ℕ) (numbers new : List ℕ) → length ((network_of o memory).channel a b) < o.messages →
    ((begin : ℕ) (xs : List Row) → Holds o.messages (2 + 2 * o.ranges) begin xs (between at stop memory) → length xs < o.messages →
    Holds o.messages (2 + 2 * o.ranges) begin (xs ++ row_for o.ranges (notice k (take o.ranges numbers)) ∷ []) new) →
    Encodes o (put_mid at (stop - at) memory new) (send_one a b k (take o.ranges numbers) (network_of o memory))
sent_notice o memory h a b e l at stop p q r k numbers new room holds =
    let c = lent_channel o memory h a b e l at stop p q r in
    let ms = (network_of o memory).channel a b in
    let x = notice k (take o.ranges numbers) in
    let n = length-map ms (row_for o.ranges) in
    let w = holds (get_or (between at stop memory) 0 0) (map (row_for o.ranges) ms) c.rows (omega arith) in
    let s = notice_sized o.ranges k (take o.ranges numbers) (last_of (λ y. length y ≡ 2 + 2 * o.ranges) (map (row_for o.ranges) ms) (row_for o.ranges x) w.wide) in
    let m = carries_more o.messages o.ranges ms (x ∷ []) (between at stop memory) new c (s, tt) w in
    let y = lent (plan_of o) 4 l at stop memory new q r in
    rw (y, p) (put_channel o memory (network_of o memory) h a b e (ms ++ x ∷ []) new m)

-- broker b has sent a notice on to the first j of some brokers, one after the other: before the first, and the next one
module _ (o : Opening) (memory : List ℕ) (b k : ℕ) (e to : List ℕ) where
  pub sent_first : Formed o memory → Encodes o memory (sent_to b k e (take 0 to) (network_of o memory))
  sent_first h = subst (Encodes o memory) (sym (sent_none b k e (network_of o memory))) h

  module _ (j : ℕ) (at : List ℕ) (h : Encodes o at (sent_to b k e (take j to) (network_of o memory))) where
    pub next_free : distinct to ≡ true → j < length to → length ((network_of o memory).channel b (get_or to j 0)) < o.messages →
        length ((network_of o at).channel b (get_or to j 0)) < o.messages
    next_free d l room =
        let n = get_or to j 0 in
        let p = sent_channel b k e (take j to) n (network_of o memory) (distinct_take to j d l) in
        subst (λ u. length (u.channel b n) < o.messages) (sym (reads o at _ h))
        (subst (λ ms. length ms < o.messages) (sym p) room)

    pub next_sent : (later : List ℕ) → j < length to → Encodes o later (send_one b (get_or to j 0) k e (network_of o at)) →
        Encodes o later (sent_to b k e (take (j + 1) to) (network_of o memory))
    next_sent later l f =
        let n = get_or to j 0 in
        subst (Encodes o later)
        (ap (send_one b n k e) (reads o at _ h)
        ∙ sym (sent_more b k e (take j to) n (network_of o memory))
        ∙ ap (λ ns. sent_to b k e ns (network_of o memory)) (sym (take_more to j 0 l)))
        f

-- the first word of a part that is lent
pub first_word : (at stop : ℕ) (memory : List ℕ) → at < stop → get_or (between at stop memory) 0 0 ≡ get_or memory at 0
first_word at stop memory l =
    let z : at + 0 ≡ at = omega arith in
    get_or-take (stop - at) (drop at memory) 0 0 (omega arith) ∙ (get_or-drop at memory 0 0 ∙ ap (λ i. get_or memory i 0) z)

-- a part of a kind that only grows is lent from `at` to `stop`: what it holds, and the network after it was written
module _ (o : Opening) (memory : List ℕ) (s : Network) (h : Encodes o memory s) (at stop : ℕ) where
  module _ (q : at ≡ start_of (plan_of o) 6 0) (r : stop ≡ start_of (plan_of o) 6 0 + size_of (plan_of o) 6) where
    pub lent_deliveries : Delivers s.deliveries (between at stop memory)
    lent_deliveries =
        let x = lent_part (plan_of o) 6 0 at stop memory q r in
        rw x h.deliveries

    -- the first word of the deliveries counts them
    pub deliveries_counted : get_or memory at 0 ≡ length s.deliveries
    unfolding size_of
    deliveries_counted = sym (first_word at stop memory (omega arith)) ∙ delivers_count _ _ lent_deliveries

    pub deliveries_written : (k : ℕ) (whom new : List ℕ) →
        ((hs : List Delivery) → Delivers hs (between at stop memory) → Delivers (hs ++ all_to k whom) new) →
        Encodes o (put_mid at (stop - at) memory new) (with_deliveries s (s.deliveries ++ all_to k whom))
    deliveries_written k whom new d =
        let x = lent (plan_of o) 6 0 at stop memory new q r in
        rw x (put_deliveries o memory s h (s.deliveries ++ all_to k whom) new (d s.deliveries lent_deliveries))

  module _ (b : ℕ) (there : b < o.brokers) (q : at ≡ start_of (plan_of o) 1 b) (r : stop ≡ start_of (plan_of o) 1 b + size_of (plan_of o) 1) where
    pub lent_arrived : Lists (s.arrived b) (between at stop memory)
    lent_arrived =
        let x = lent_part (plan_of o) 1 b at stop memory q r in
        rw x (h.arrived b there)

    pub arrived_written : (k : ℕ) (new : List ℕ) → ((ks : List ℕ) → Lists ks (between at stop memory) → Lists (k ∷ ks) new) →
        Encodes o (put_mid at (stop - at) memory new) (with_arrived s b (k ∷ s.arrived b))
    arrived_written k new d =
        let x = lent (plan_of o) 1 b at stop memory new q r in
        rw x (put_arrived o memory s h b there (k ∷ s.arrived b) new (d (s.arrived b) lent_arrived))

  module _ (q : at ≡ start_of (plan_of o) 5 0) (r : stop ≡ start_of (plan_of o) 5 0 + size_of (plan_of o) 5) where
    pub lent_posted : Lists s.posted (between at stop memory)
    lent_posted =
        let x = lent_part (plan_of o) 5 0 at stop memory q r in
        rw x h.posted

    pub posted_written : (k : ℕ) (new : List ℕ) → ((ks : List ℕ) → Lists ks (between at stop memory) → Lists (k ∷ ks) new) →
        Encodes o (put_mid at (stop - at) memory new) (with_numbers s (k ∷ s.posted))
    posted_written k new d =
        let x = lent (plan_of o) 5 0 at stop memory new q r in
        rw x (put_posted o memory s h (k ∷ s.posted) new (d s.posted lent_posted))

-- a notice is delivered to those whose filter matches
pub delivered_reached : (k : ℕ) (e : Notice) (rs : List Subscriber) → delivered k e rs ≡ all_to k (reached e rs)
unfolding delivered reached
delivered_reached k e [] = refl
delivered_reached k e (r ∷ rs) = go (matches r.filter e) (delivered_reached k e rs)
  where
    go : (t : Bool) → delivered k e rs ≡ all_to k (reached e rs) →
        cond t (record { what = k; whom = r.number } ∷ delivered k e rs) (delivered k e rs) ≡ all_to k (cond t (r.number ∷ reached e rs) (reached e rs))
    go true i = ap (λ hs. record { what = k; whom = r.number } ∷ hs) i
    go false i = i

-- no rule applies of two
pub first_none : (x y : Option Refusal) → first (x ∷ y ∷ []) ≡ None → (x ≡ None) × (y ≡ None)
first_none None None h = (refl, refl)
first_none None (Some r) h = (refl, h)
first_none (Some r) y h = absurd (let z : ◌≡◌ {A = ℕ} 0 1 = cc in omega arith)

when_none : (t : Bool) (r : Refusal) → when (not t) r ≡ None → t ≡ true
when_none true r h = refl
when_none false r h = absurd (let z : ◌≡◌ {A = ℕ} 0 1 = cc in omega arith)

-- the first rule applies, or the second, or none does
module _ {A : Type 0} (a : A) where
  first_of : (x y : Option Refusal) (r : Refusal) → Err r ≡ ok_unless x a → Err r ≡ ok_unless (first (x ∷ y ∷ [])) a
  first_of None y r p = absurd (let z : ◌≡◌ {A = ℕ} 0 1 = cc in omega arith)
  first_of (Some x) y r p = p

  second_of : (x y : Option Refusal) → Ok a ≡ ok_unless x a → ok_unless y a ≡ ok_unless (first (x ∷ y ∷ [])) a
  second_of None None p = refl
  second_of None (Some r) p = refl
  second_of (Some x) y p = absurd (let z : ◌≡◌ {A = ℕ} 0 1 = cc in omega arith)

-- what was written to the front of a row, and that it is no longer than the row
pub front_taken : (ns rest out : List ℕ) (many : ℕ) → out ≡ ns ++ rest → many ≡ length ns → take many out ≡ ns
front_taken ns rest out many e n = ap (take many) e ∙ take_at ns rest many (sym n)

pub front_long : (ns rest out : List ℕ) (many : ℕ) → out ≡ ns ++ rest → many ≡ length ns → many ≤ length out
front_long ns rest out many e n =
    let l = ap length e ∙ length-append ns rest in
    omega arith

-- no more are reached than there are
pub reached_few : (e : Notice) (rs : List Subscriber) → length (reached e rs) ≤ length rs
unfolding reached
reached_few e [] = omega arith
reached_few e (r ∷ rs) = go (matches r.filter e) (reached_few e rs)
  where
    go : (t : Bool) → length (reached e rs) ≤ length rs → length (cond t (r.number ∷ reached e rs) (reached e rs)) ≤ suc (length rs)
    go true i = omega arith
    go false i = omega arith

-- a channel holds no more than there is room for
pub channel_within : (o : Opening) (memory : List ℕ) → Formed o memory → (a b : ℕ) → edge (tree o) a b ≡ true → length ((network_of o memory).channel a b) ≤ o.messages
channel_within o memory h a b e =
    let l = length-map ((network_of o memory).channel a b) (row_for o.ranges) in
    omega (arith, (h.channel a b e).rows.fits)

-- where a notice goes from a broker that there is
module _ (o : Opening) (s : Network) (b from : ℕ) (e : Notice) (reach : Reach) (there : b < o.brokers) (h : Reaches o s b from e reach) where
  within : b ≤ length (tree o)
  within = broker_within o b there

  pub goes_apart : distinct (take reach.on reach.to) ≡ true
  goes_apart =
      ap distinct h.on
      ∙ wanting_distinct (λ j. s.learned b (get_or (neighbours (tree o) b) j 0)) (neighbours (tree o) b) from e (neighbours_distinct (tree o) b (tree_hung o) within)

  goes_to : (n : ℕ) → has (take reach.on reach.to) n ≡ true → (has (neighbours (tree o) b) n ≡ true) × ((not (eqb n from) && any_matches (s.learned b n) e) ≡ true)
  goes_to n t =
      and_parts (has (neighbours (tree o) b) n) (not (eqb n from) && any_matches (s.learned b n) e)
      (sym (wanting_has (λ j. s.learned b (get_or (neighbours (tree o) b) j 0)) (neighbours (tree o) b) from e (s.learned b) (λ j l. refl) n)
      ∙ (ap (λ ws. has ws n) (sym h.on) ∙ t))

  pub goes_beside : (n : ℕ) → has (take reach.on reach.to) n ≡ true → edge (tree o) b n ≡ true
  goes_beside n t = sym (neighbours_edge (tree o) b n within) ∙ (goes_to n t).0

  pub goes_room : (k : ℕ) → no_room_to_pass o s b from k e ≡ None → (n : ℕ) → has (take reach.on reach.to) n ≡ true → length (s.channel b n) < o.messages
  goes_room k r n t =
      let (x, y) = goes_to n t in
      let f = full_none o.messages (s.channel b) (passed_on from k e (s.learned b)) (neighbours (tree o) b) n r x in
      let g = ap length (passed_is from k e (s.learned b) n true y) in
      omega arith

  -- of the channels that it goes on to the first full one is the one that the rules name
  pass_all : (k : ℕ) → ((n : ℕ) → edge (tree o) b n ≡ true → length (s.channel b n) ≤ o.messages) →
      full o.messages (s.channel b) (λ n. notice k e ∷ []) (take reach.on reach.to) ≡ no_room_to_pass o s b from k e
  pass_all k fits =
      ap (full o.messages (s.channel b) (λ n. notice k e ∷ [])) h.on
      ∙ full_wanted o.messages (s.channel b) (s.learned b) (neighbours (tree o) b) from k e (λ j l. fits (get_or (neighbours (tree o) b) j 0) (neighbour_edge o b j there l))

  -- as many deliveries as there are subscribers that it reaches
  pub deliveries_many : (k : ℕ) → length (delivered k e (s.subscribers b)) ≡ reach.many
  deliveries_many k =
      ap length (delivered_reached k e (s.subscribers b))
      ∙ (length-map (reached e (s.subscribers b)) (λ n. record { what = k; whom = n })
      ∙ (ap length (sym h.whom) ∙ length-take-le reach.many reach.whom h.few.1))

  pub deliveries_room : (k : ℕ) → no_room_to_deliver s b k e ≡ None → length s.deliveries + reach.many ≤ 65536
  deliveries_room k r =
      let m = deliveries_many k in
      let t = leb-true (length s.deliveries + length (delivered k e (s.subscribers b))) 65536 (when_none (leb (length s.deliveries + length (delivered k e (s.subscribers b))) 65536) _ r) in
      omega arith

  -- what the rules answer: on the channels, and among the deliveries
  module _ {A : Type 0} (a : A) (k : ℕ) (fits : (n : ℕ) → edge (tree o) b n ≡ true → length (s.channel b n) ≤ o.messages) (to : List ℕ) (is : to ≡ take reach.on reach.to) where
    passes : (r : Result A Refusal) → r ≡ ok_unless (full o.messages (s.channel b) (λ n. notice k e ∷ []) to) a → r ≡ ok_unless (no_room_to_pass o s b from k e) a
    passes r q = q ∙ ap (λ x. ok_unless x a) (ap (full o.messages (s.channel b) (λ n. notice k e ∷ [])) is ∙ pass_all k fits)

    pub refused_pass : (r : Refusal) → Err r ≡ ok_unless (full o.messages (s.channel b) (λ n. notice k e ∷ []) to) a →
        Err r ≡ ok_unless (first (no_room_to_pass o s b from k e ∷ (no_room_to_deliver s b k e ∷ []))) a
    refused_pass r q = first_of a _ _ r (passes (Err r) q)

    module _ (q : Ok a ≡ ok_unless (full o.messages (s.channel b) (λ n. notice k e ∷ []) to) a) where
      delivers : (t : Bool) → leb (length s.deliveries + reach.many) 65536 ≡ t →
          ok_unless (when (not t) (TooManyDeliveries 65536)) a ≡ ok_unless (first (no_room_to_pass o s b from k e ∷ (no_room_to_deliver s b k e ∷ []))) a
      delivers t h =
          ap (λ u. ok_unless (when (not u) (TooManyDeliveries 65536)) a) (sym h ∙ ap (λ n. leb (length s.deliveries + n) 65536) (sym (deliveries_many k)))
          ∙ second_of a _ (no_room_to_deliver s b k e) (passes (Ok a) q)

      pub refused_deliver : 65536 < length s.deliveries + reach.many →
          Err (TooManyDeliveries 65536) ≡ ok_unless (first (no_room_to_pass o s b from k e ∷ (no_room_to_deliver s b k e ∷ []))) a
      refused_deliver l = delivers false (lt-leb (length s.deliveries + reach.many) 65536 l)

      pub refused_none : length s.deliveries + reach.many ≤ 65536 →
          Ok a ≡ ok_unless (first (no_room_to_pass o s b from k e ∷ (no_room_to_deliver s b k e ∷ []))) a
      refused_none l = delivers true (le-leb (length s.deliveries + reach.many) 65536 l)

  -- sent on to all that wish for it, written down and listed as arrived, the notice has arrived
  arrived_all : (k : ℕ) →
      with_arrived (with_deliveries (sent_to b k e (take reach.on reach.to) s) (s.deliveries ++ all_to k (take reach.many reach.whom))) b (k ∷ s.arrived b)
      ≡ arrive (tree o) b from k e s
  unfolding arrive
  arrived_all k =
      let c = ap (λ ws. (sent_to b k e ws s).channel) h.on
      ∙ sent_all (tree o) (tree_hung o) b from k e within s (λ j. s.learned b (get_or (neighbours (tree o) b) j 0)) (λ j l. refl) in
      let d = ap (all_to k) h.whom ∙ sym (delivered_reached k e (s.subscribers b)) in
      λ i.
      record {
        subscribers = s.subscribers;
        learned = s.learned;
        announced = s.announced;
        channel = c i;
        posted = s.posted;
        arrived = (with_arrived s b (k ∷ s.arrived b)).arrived;
        deliveries = s.deliveries ++ d i;
      }

  pub arrived_now : (k : ℕ) (to whom middle last : List ℕ) → to ≡ take reach.on reach.to → whom ≡ take reach.many reach.whom →
      Encodes o middle (sent_to b k e to s) →
      Encodes o last (with_arrived (with_deliveries (network_of o middle) ((network_of o middle).deliveries ++ all_to k whom)) b (k ∷ (network_of o middle).arrived b)) →
      Encodes o last (arrive (tree o) b from k e s)
  arrived_now k to whom middle last p q f g =
      subst (Encodes o last)
      (ap (λ u. with_arrived (with_deliveries u (u.deliveries ++ all_to k whom)) b (k ∷ u.arrived b)) (reads o middle _ f)
      ∙ (λ i. with_arrived (with_deliveries (sent_to b k e (p i) s) (s.deliveries ++ all_to k (q i))) b (k ∷ s.arrived b))
      ∙ arrived_all k)
      g
