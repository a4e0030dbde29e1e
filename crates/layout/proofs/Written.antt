-- One part of a network's memory written: the memory then holds the network with just that changed.
use Rattle.std.proofs.Common.{◌≡◌, ℕ, ◌+◌, ◌-◌, ◌*◌, ◌<◌, ◌≤◌, Bool, true, false, cond, ◌&&◌, eqb, ltb, List, [], length, drop, sym, refl, ◌∙◌, subst, arith}
use mathlib.Core.Bool.{and_comm}
use borrow.Rule.Slice.PartMut.{put_mid, mid_of, put_same, same_len_mid}
use Rattle.std.specs.List.{between}
use Rattle.std.proofs.lemmas.List.{length-take, length-drop, drop-drop}
use Rattle.std.proofs.lemmas.Slice.{take-put_mid_below, drop-put_mid}
use Rattle.std.proofs.lemmas.Bool.{both_ways, and_parts, and_from, and_left, and_right, eqb-true, eqb-false, eq-eqb, ne_eqb, ltb-false, cond-false}
use Rattle.filter.specs.Filter.{Filter}
use Rattle.broker.specs.Subscribers.{Subscriber, Holds}
use Rattle.broker.specs.Announcing.{Keeps}
use Rattle.broker.proofs.Part.{shape_held}
use Rattle.broker.proofs.Kept.{length_kept}
use Rattle.model.specs.Tree.{hangs, edge, has, neighbours}
use Rattle.model.specs.Model.{Message, Delivery, Network, at1, with_subscribers}
use Rattle.model.proofs.Tree.{edge_within, neighbours_edge}
use Rattle.layout.specs.Links.{link, LinksOf}
use Rattle.layout.specs.Plan.{Plan, words_of, many_of, size_of, start_of, part, with_part, same_part}
use Rattle.layout.specs.Parts.{tree, plan_of, filters_room, subscribers_part, arrived_part, announced_part, learned_part, channel_part, posted_part, deliveries_part}
use Rattle.layout.specs.Logs.{Lists, Delivers}
use Rattle.layout.specs.Mail.{Carries}
use Rattle.layout.specs.State.{Encodes}
use Rattle.layout.specs.Changed.{with_announced, with_table, with_channel, with_numbers, with_arrived, with_deliveries}
use Rattle.layout.specs.declared.opening.Opening.{Opening}
use Rattle.layout.proofs.Sized.{subscribers_size, tables_size, channel_size}
use Rattle.layout.proofs.Carried.{carries_length}
use Rattle.layout.proofs.Channels.{links}
use Rattle.layout.proofs.Frames.{part_within, part_written, part_kept}
use Rattle.layout.proofs.Logged.{lists_length, delivers_length}

length_mid : (a n : ℕ) (xs : List ℕ) → a + n ≤ length xs → length (mid_of a n xs) ≡ n
length_mid a n xs h = simp (length-take, length-drop) (omega arith)

-- words written over, and then what stood there
put_back : (a n : ℕ) (xs ys : List ℕ) → a ≤ length xs → length ys ≡ n → put_mid a n (put_mid a n xs ys) (mid_of a n xs) ≡ xs
put_back a n xs ys h l =
    let t = take-put_mid_below a n xs ys a (omega arith) h in
    let d = drop-put_mid a n xs ys (a + n) (omega arith) h l in
    let p = drop-drop n a (put_mid a n xs ys) in
    let q = drop-drop n a xs in
    let e : drop n (drop a (put_mid a n xs ys)) ≡ drop n (drop a xs) = p ∙ d ∙ sym q in
    rw (t, e) (put_same a n xs)

pub restored : (p : Plan) (memory ys : List ℕ) (k i : ℕ) → words_of p ≤ length memory → i < many_of p k → length ys ≡ size_of p k →
    with_part p (with_part p memory k i ys) k i (part p memory k i) ≡ memory
restored p memory ys k i w h l =
    let b = part_within p k i h in
    let e : start_of p k i + size_of p k - start_of p k i ≡ size_of p k = omega arith in
    rw e (put_back (start_of p k i) (size_of p k) memory ys (omega arith) l)

-- a part lent out by where it begins and stops
pub lent : (p : Plan) (k i at stop : ℕ) (memory ys : List ℕ) → at ≡ start_of p k i → stop ≡ start_of p k i + size_of p k →
    put_mid at (stop - at) memory ys ≡ with_part p memory k i ys
lent p k i at stop memory ys a s =
    let e : stop - at ≡ size_of p k = omega arith in
    rw (e, a) refl

pub lent_part : (p : Plan) (k i at stop : ℕ) (memory : List ℕ) → at ≡ start_of p k i → stop ≡ start_of p k i + size_of p k →
    between at stop memory ≡ part p memory k i
lent_part p k i at stop memory a s = rw (s, a) refl

links_of : (o : Opening) → LinksOf o.hung o.brokers
links_of o = links o.hung o.brokers o.valid.1.0 o.valid.4

pub tree_length : (o : Opening) → length (tree o) ≡ o.brokers - 1
tree_length o = (links_of o).many

pub tree_hung : (o : Opening) → hangs (tree o) ≡ true
tree_hung o = (links_of o).together

pub edge_brokers : (o : Opening) (a b : ℕ) → edge (tree o) a b ≡ true → (a < o.brokers) × (b < o.brokers)
edge_brokers o a b e =
    let w = edge_within (tree o) a b (tree_hung o) e in
    let l = tree_length o in
    let v = o.valid.1.0 in
    (omega arith, omega arith)

-- brokers that hang together are beside each other
edge_beside : (o : Opening) (a b : ℕ) → edge (tree o) a b ≡ true → has (neighbours (tree o) a) b ≡ true
edge_beside o a b e = neighbours_edge (tree o) a b (edge_within (tree o) a b (tree_hung o) e).0 ∙ e

pub link_within_o : (o : Opening) (a b : ℕ) → edge (tree o) a b ≡ true → link a b < 2 * (o.brokers - 1)
link_within_o o a b e = (links_of o).within a b (edge_brokers o a b e).0 (edge_beside o a b e)

-- the same channel has the same number, and no two channels have
link_same : (a b c d : ℕ) → (eqb c a && eqb d b) ≡ true → link a b ≡ link c d
link_same a b c d t =
    let (x, y) = and_parts (eqb c a) (eqb d b) t in
    let p = eqb-true c a x in
    let q = eqb-true d b y in
    cc

link_other : (o : Opening) (a b c d : ℕ) → edge (tree o) a b ≡ true → edge (tree o) c d ≡ true → (eqb c a && eqb d b) ≡ false → eqb (link a b) (link c d) ≡ false
link_other o a b c d e f t = ne_eqb (link a b) (link c d) (λ q.
    let (x, y) = (links_of o).apart a b c d (edge_brokers o a b e).0 (edge_brokers o c d f).0 (edge_beside o a b e) (edge_beside o c d f) q in
    both_ways (eqb c a && eqb d b) t (and_from (eqb c a) (eqb d b) (eq-eqb c a (sym x)) (eq-eqb d b (sym y))))

-- all that a memory holds but in the parts of one kind
record Rest (o : Opening) (memory : List ℕ) (s : Network) (k : ℕ) : Type 0 where
  whole : words_of (plan_of o) ≤ length memory
  subscribers : eqb k 0 ≡ false → (b : ℕ) → b < o.brokers → Holds o.subscribers o.ranges (s.subscribers b) (subscribers_part o memory b)
  arrived : eqb k 1 ≡ false → (b : ℕ) → b < o.brokers → Lists (s.arrived b) (arrived_part o memory b)
  announced : eqb k 2 ≡ false → (a b : ℕ) → edge (tree o) a b ≡ true → Keeps (filters_room o) o.ranges (s.announced a b) (announced_part o memory a b)
  learned : eqb k 3 ≡ false → (a b : ℕ) → edge (tree o) a b ≡ true → Keeps (filters_room o) o.ranges (s.learned b a) (learned_part o memory a b)
  channel : eqb k 4 ≡ false → (a b : ℕ) → edge (tree o) a b ≡ true → Carries o.messages o.ranges (s.channel a b) (channel_part o memory a b)
  posted : eqb k 5 ≡ false → Lists s.posted (posted_part o memory)
  deliveries : eqb k 6 ≡ false → Delivers s.deliveries (deliveries_part o memory)

-- a part is written
module _ (o : Opening) (memory ys : List ℕ) (k i : ℕ) (w : words_of (plan_of o) ≤ length memory) (h : i < many_of (plan_of o) k) (l : length ys ≡ size_of (plan_of o) k) where
  -- what holds of the words written holds of the part, and what held of another part holds of it
  here : (P : List ℕ → Type 0) → P ys → P (part (plan_of o) (with_part (plan_of o) memory k i ys) k i)
  here P p = subst P (sym (part_written (plan_of o) memory ys k i w h l)) p

  there : (P : List ℕ → Type 0) (m j : ℕ) → j < many_of (plan_of o) m → same_part k i m j ≡ false → P (part (plan_of o) memory m j) →
      P (part (plan_of o) (with_part (plan_of o) memory k i ys) m j)
  there P m j g d p = subst P (sym (part_kept (plan_of o) memory ys k i m j w h g l d)) p

  -- a part of the same kind, which is the one written just where the test says so
  either : {A : Type 0} (P : A → List ℕ → Type 0) (t : Bool) (x y : A) (j : ℕ) → (t ≡ true → i ≡ j) → (t ≡ false → eqb i j ≡ false) → P x ys → j < many_of (plan_of o) k →
      P y (part (plan_of o) memory k j) → P (cond t x y) (part (plan_of o) (with_part (plan_of o) memory k i ys) k j)
  either P true x y j same other p g q = subst (λ n. P x (part (plan_of o) (with_part (plan_of o) memory k i ys) k n)) (same refl) (here (P x) p)
  either P false x y j same other p g q = there (P y) k j g (and_right (eqb k k) (eqb i j) (other refl)) q

  rest : (s : Network) → Encodes o memory s → Rest o (with_part (plan_of o) memory k i ys) s k
  unfolding many_of
  rest s e =
      let b = part_within (plan_of o) k i h in
      let n = same_len_mid (start_of (plan_of o) k i) (size_of (plan_of o) k) memory ys (l ∙ sym (length_mid (start_of (plan_of o) k i) (size_of (plan_of o) k) memory (omega arith))) in
      record {
        whole = omega arith;
        subscribers = λ d b p. there (Holds o.subscribers o.ranges (s.subscribers b)) 0 b p (and_left (eqb k 0) (eqb i b) d) (e.subscribers b p);
        arrived = λ d b p. there (Lists (s.arrived b)) 1 b p (and_left (eqb k 1) (eqb i b) d) (e.arrived b p);
        announced = λ d a b p. there (Keeps (filters_room o) o.ranges (s.announced a b)) 2 (link a b) (link_within_o o a b p) (and_left (eqb k 2) (eqb i (link a b)) d) (e.announced a b p);
        learned = λ d a b p. there (Keeps (filters_room o) o.ranges (s.learned b a)) 3 (link a b) (link_within_o o a b p) (and_left (eqb k 3) (eqb i (link a b)) d) (e.learned a b p);
        channel = λ d a b p. there (Carries o.messages o.ranges (s.channel a b)) 4 (link a b) (link_within_o o a b p) (and_left (eqb k 4) (eqb i (link a b)) d) (e.channel a b p);
        posted = λ d. there (Lists s.posted) 5 0 (omega arith) (and_left (eqb k 5) (eqb i 0) d) e.posted;
        deliveries = λ d. there (Delivers s.deliveries) 6 0 (omega arith) (and_left (eqb k 6) (eqb i 0) d) e.deliveries;
      }

-- of the parts that a broker's number picks, the one written is that of b
either_broker : (o : Opening) (memory ys : List ℕ) (k b : ℕ) → words_of (plan_of o) ≤ length memory → b < many_of (plan_of o) k → length ys ≡ size_of (plan_of o) k →
    {A : Type 0} (P : A → List ℕ → Type 0) (f : ℕ → A) (x : A) (c : ℕ) → P x ys → c < many_of (plan_of o) k → P (f c) (part (plan_of o) memory k c) →
    P (at1 f b x c) (part (plan_of o) (with_part (plan_of o) memory k b ys) k c)
either_broker o memory ys k b w g l P f x c =
    either o memory ys k b w g l P (eqb c b) x (f c) c (λ u. sym (eqb-true c b u)) (λ u. ne_eqb b c (λ v. eqb-false c b u (sym v)))

-- of the parts that a channel's number picks, the one written is that from a to b; t tells whether it is the one from c to d
either_link : (o : Opening) (memory ys : List ℕ) (k a b : ℕ) → words_of (plan_of o) ≤ length memory → many_of (plan_of o) k ≡ 2 * (o.brokers - 1) → length ys ≡ size_of (plan_of o) k →
    edge (tree o) a b ≡ true → {A : Type 0} (P : A → List ℕ → Type 0) (t : Bool) (x y : A) (c d : ℕ) → edge (tree o) c d ≡ true → (eqb c a && eqb d b) ≡ t → P x ys →
    P y (part (plan_of o) memory k (link c d)) → P (cond t x y) (part (plan_of o) (with_part (plan_of o) memory k (link a b) ys) k (link c d))
either_link o memory ys k a b w n l e P t x y c d f q p r =
    either o memory ys k (link a b) w (rw n (link_within_o o a b e)) l P t x y (link c d) (λ u. link_same a b c d (q ∙ u)) (λ u. link_other o a b c d e f (q ∙ u)) p (rw n (link_within_o o c d f)) r

-- where there is no broker, and between brokers that do not hang together, there is nothing still
none_at1 : {A : Type 0} (f : ℕ → List A) (n b c : ℕ) (xs : List A) → b < n → ltb c n ≡ false → f c ≡ [] → at1 f b xs c ≡ []
none_at1 f n b c xs h g e =
    let q = ltb-false c n g in
    cond-false (eqb c b) xs (f c) (ne_eqb c b (λ p. omega arith)) ∙ e

none_at2 : {A : Type 0} (o : Opening) (a b c d : ℕ) (t : Bool) (xs ys : List A) → edge (tree o) a b ≡ true → edge (tree o) c d ≡ false → (eqb c a && eqb d b) ≡ t → ys ≡ [] → cond t xs ys ≡ []
none_at2 o a b c d true xs ys h g q e =
    let (x, y) = and_parts (eqb c a) (eqb d b) q in
    let p = eqb-true c a x in
    let r = eqb-true d b y in
    absurd (both_ways (edge (tree o) c d) g (rw (p, r) h))
none_at2 o a b c d false xs ys h g q e = e

module _ (o : Opening) (memory : List ℕ) (s : Network) (h : Encodes o memory s) where
  pub put_subscribers : (b : ℕ) → b < o.brokers → (rs : List Subscriber) (ys : List ℕ) → Holds o.subscribers o.ranges rs ys →
      Encodes o (with_part (plan_of o) memory 0 b ys) (with_subscribers s b rs)
  unfolding many_of size_of
  put_subscribers b p rs ys q =
      let l = (shape_held o.subscribers o.ranges rs ys q).0 ∙ sym (subscribers_size o) in
      let r = rest o memory ys 0 b h.whole p l s h in
      record {
        whole = r.whole;
        subscribers = λ c g. either_broker o memory ys 0 b h.whole p l (Holds o.subscribers o.ranges) s.subscribers rs c q g (h.subscribers c g);
        arrived = r.arrived refl;
        announced = r.announced refl;
        learned = r.learned refl;
        channel = r.channel refl;
        posted = r.posted refl;
        deliveries = r.deliveries refl;
        no_broker = λ c g. (none_at1 s.subscribers o.brokers b c rs p g (h.no_broker c g).0, (h.no_broker c g).1);
        no_link = h.no_link;
      }

  pub put_arrived : (b : ℕ) → b < o.brokers → (ks ys : List ℕ) → Lists ks ys → Encodes o (with_part (plan_of o) memory 1 b ys) (with_arrived s b ks)
  unfolding many_of size_of
  put_arrived b p ks ys q =
      let l = lists_length ks ys q in
      let r = rest o memory ys 1 b h.whole p l s h in
      record {
        whole = r.whole;
        subscribers = r.subscribers refl;
        arrived = λ c g. either_broker o memory ys 1 b h.whole p l Lists s.arrived ks c q g (h.arrived c g);
        announced = r.announced refl;
        learned = r.learned refl;
        channel = r.channel refl;
        posted = r.posted refl;
        deliveries = r.deliveries refl;
        no_broker = λ c g. ((h.no_broker c g).0, none_at1 s.arrived o.brokers b c ks p g (h.no_broker c g).1);
        no_link = h.no_link;
      }

  pub put_announced : (a b : ℕ) → edge (tree o) a b ≡ true → (fs : List Filter) (ys : List ℕ) → Keeps (filters_room o) o.ranges fs ys →
      Encodes o (with_part (plan_of o) memory 2 (link a b) ys) (with_announced s a b fs)
  unfolding many_of size_of
  put_announced a b p fs ys q =
      let l = length_kept (filters_room o) o.ranges fs ys q ∙ sym (tables_size o).0 in
      let r = rest o memory ys 2 (link a b) h.whole (link_within_o o a b p) l s h in
      record {
        whole = r.whole;
        subscribers = r.subscribers refl;
        arrived = r.arrived refl;
        announced = λ c d g. either_link o memory ys 2 a b h.whole refl l p (Keeps (filters_room o) o.ranges) (eqb c a && eqb d b) fs (s.announced c d) c d g refl q (h.announced c d g);
        learned = r.learned refl;
        channel = r.channel refl;
        posted = r.posted refl;
        deliveries = r.deliveries refl;
        no_broker = h.no_broker;
        no_link = λ c d g. (none_at2 o a b c d (eqb c a && eqb d b) fs (s.announced c d) p g refl (h.no_link c d g).0, (h.no_link c d g).1, (h.no_link c d g).2);
      }

  pub put_learned : (a b : ℕ) → edge (tree o) a b ≡ true → (fs : List Filter) (ys : List ℕ) → Keeps (filters_room o) o.ranges fs ys →
      Encodes o (with_part (plan_of o) memory 3 (link a b) ys) (with_table s b a fs)
  unfolding many_of size_of
  put_learned a b p fs ys q =
      let l = length_kept (filters_room o) o.ranges fs ys q ∙ sym (tables_size o).1 in
      let r = rest o memory ys 3 (link a b) h.whole (link_within_o o a b p) l s h in
      record {
        whole = r.whole;
        subscribers = r.subscribers refl;
        arrived = r.arrived refl;
        announced = r.announced refl;
        learned = λ c d g. either_link o memory ys 3 a b h.whole refl l p (Keeps (filters_room o) o.ranges) (eqb d b && eqb c a) fs (s.learned d c) c d g (and_comm (eqb c a) (eqb d b)) q (h.learned c d g);
        channel = r.channel refl;
        posted = r.posted refl;
        deliveries = r.deliveries refl;
        no_broker = h.no_broker;
        no_link = λ c d g. ((h.no_link c d g).0, none_at2 o a b c d (eqb d b && eqb c a) fs (s.learned d c) p g (and_comm (eqb c a) (eqb d b)) (h.no_link c d g).1, (h.no_link c d g).2);
      }

  pub put_channel : (a b : ℕ) → edge (tree o) a b ≡ true → (ms : List Message) (ys : List ℕ) → Carries o.messages o.ranges ms ys →
      Encodes o (with_part (plan_of o) memory 4 (link a b) ys) (with_channel s a b ms)
  unfolding many_of size_of
  put_channel a b p ms ys q =
      let l = carries_length o.messages o.ranges ms ys q ∙ sym (channel_size o) in
      let r = rest o memory ys 4 (link a b) h.whole (link_within_o o a b p) l s h in
      record {
        whole = r.whole;
        subscribers = r.subscribers refl;
        arrived = r.arrived refl;
        announced = r.announced refl;
        learned = r.learned refl;
        channel = λ c d g. either_link o memory ys 4 a b h.whole refl l p (Carries o.messages o.ranges) (eqb c a && eqb d b) ms (s.channel c d) c d g refl q (h.channel c d g);
        posted = r.posted refl;
        deliveries = r.deliveries refl;
        no_broker = h.no_broker;
        no_link = λ c d g. ((h.no_link c d g).0, (h.no_link c d g).1, none_at2 o a b c d (eqb c a && eqb d b) ms (s.channel c d) p g refl (h.no_link c d g).2);
      }

  pub put_posted : (ks ys : List ℕ) → Lists ks ys → Encodes o (with_part (plan_of o) memory 5 0 ys) (with_numbers s ks)
  unfolding many_of size_of
  put_posted ks ys q =
      let l = lists_length ks ys q in
      let r = rest o memory ys 5 0 h.whole (omega arith) l s h in
      record {
        whole = r.whole;
        subscribers = r.subscribers refl;
        arrived = r.arrived refl;
        announced = r.announced refl;
        learned = r.learned refl;
        channel = r.channel refl;
        posted = here o memory ys 5 0 h.whole (omega arith) l (Lists ks) q;
        deliveries = r.deliveries refl;
        no_broker = h.no_broker;
        no_link = h.no_link;
      }

  pub put_deliveries : (hs : List Delivery) (ys : List ℕ) → Delivers hs ys → Encodes o (with_part (plan_of o) memory 6 0 ys) (with_deliveries s hs)
  unfolding many_of size_of
  put_deliveries hs ys q =
      let l = delivers_length hs ys q in
      let r = rest o memory ys 6 0 h.whole (omega arith) l s h in
      record {
        whole = r.whole;
        subscribers = r.subscribers refl;
        arrived = r.arrived refl;
        announced = r.announced refl;
        learned = r.learned refl;
        channel = r.channel refl;
        posted = r.posted refl;
        deliveries = here o memory ys 6 0 h.whole (omega arith) l (Delivers hs) q;
        no_broker = h.no_broker;
        no_link = h.no_link;
      }
