-- A memory that holds a network: the network is the one that is read from it, cleared memory holds the empty one, and to hold one is a proposition.
use Rattle.std.proofs.Common.{◌≡◌, ℕ, ◌+◌, ◌-◌, ◌*◌, ◌<◌, ◌≤◌, Bool, true, false, cond, ltb, List, [], ◌∷◌, length, take, drop, replicate, sym, refl, ap, ◌∙◌, subst, arith}
use mathlib.Core.Path.{fun_ext}
use mathlib.Core.HLevel.{Π_prop, →_prop, ×_prop, ×₃_prop}
use mathlib.Core.List.{is_set}
use native.Mathlib.Nat.{ℕ_set}
use native.Mathlib.Bridge.{le_prop}
use Rattle.std.specs.List.{AllByRecursion}
use Rattle.std.proofs.lemmas.List.{take-replicate, drop-replicate}
use Rattle.std.proofs.lemmas.Bool.{ltb-true}
use Rattle.broker.specs.Subscribers.{Subscriber, Holds}
use Rattle.broker.specs.Announcing.{Keeps}
use Rattle.broker.proofs.Part.{subscribers_held, cleared_holds}
use Rattle.broker.proofs.Kept.{held_kept, cleared_keeps}
use Rattle.channel.specs.Ring.{Row, Holds as Rings}
use Rattle.filter.specs.Filter.{Filter}
use Rattle.model.specs.Tree.{edge}
use Rattle.model.specs.Model.{Message, add, cut, notice, Delivery, Network, empty}
use Rattle.model.proofs.Invariants.{filter_set, subscriber_set, message_set}
use Rattle.layout.specs.Links.{link}
use Rattle.layout.specs.Plan.{Plan, words_of, many_of, size_of, start_of, part}
use Rattle.layout.specs.Parts.{tree, plan_of, filters_room, subscribers_part, arrived_part, announced_part, learned_part, channel_part, posted_part, deliveries_part}
use Rattle.layout.specs.Logs.{Lists, Delivers}
use Rattle.layout.specs.Mail.{Sized, Carries}
use Rattle.layout.specs.State.{network_of, Encodes, Formed}
use Rattle.layout.specs.declared.opening.Opening.{Opening}
use Rattle.layout.proofs.Carried.{carries_read, carries_none}
use Rattle.layout.proofs.Frames.{part_within}
use Rattle.layout.proofs.Logged.{lists_read, lists_none, delivers_read, delivers_none}
use Rattle.layout.proofs.Sized.{subscribers_size, tables_size, channel_size}
use Rattle.layout.proofs.Written.{link_within_o}

-- what is read where there is something, and nothing elsewhere
read_or_none : {A : Type 0} (t : Bool) (xs ys : List A) → (t ≡ true → xs ≡ ys) → (t ≡ false → ys ≡ []) → cond t xs [] ≡ ys
read_or_none true xs ys p q = p refl
read_or_none false xs ys p q = sym (q refl)

module _ (o : Opening) (memory : List ℕ) (s : Network) (h : Encodes o memory s) where
  pub reads : network_of o memory ≡ s
  unfolding network_of
  reads = λ i.
      record {
        subscribers = fun_ext (λ b. read_or_none (ltb b o.brokers) _ (s.subscribers b) (λ t. subscribers_held o.subscribers o.ranges (s.subscribers b) (subscribers_part o memory b) (h.subscribers b (ltb-true b o.brokers t))) (λ t. (h.no_broker b t).0)) i;
        learned = fun_ext (λ b. fun_ext (λ a. read_or_none (edge (tree o) a b) _ (s.learned b a) (λ t. held_kept (filters_room o) o.ranges (s.learned b a) (learned_part o memory a b) (h.learned a b t)) (λ t. (h.no_link a b t).1))) i;
        announced = fun_ext (λ a. fun_ext (λ b. read_or_none (edge (tree o) a b) _ (s.announced a b) (λ t. held_kept (filters_room o) o.ranges (s.announced a b) (announced_part o memory a b) (h.announced a b t)) (λ t. (h.no_link a b t).0))) i;
        channel = fun_ext (λ a. fun_ext (λ b. read_or_none (edge (tree o) a b) _ (s.channel a b) (λ t. carries_read o.messages o.ranges (s.channel a b) (channel_part o memory a b) (h.channel a b t)) (λ t. (h.no_link a b t).2))) i;
        posted = lists_read s.posted (posted_part o memory) h.posted i;
        arrived = fun_ext (λ b. read_or_none (ltb b o.brokers) _ (s.arrived b) (λ t. lists_read (s.arrived b) (arrived_part o memory b) (h.arrived b (ltb-true b o.brokers t))) (λ t. (h.no_broker b t).1)) i;
        deliveries = delivers_read s.deliveries (deliveries_part o memory) h.deliveries i;
      }

  pub formed : Formed o memory
  formed = subst (Encodes o memory) (sym reads) h

-- each part of a cleared memory is cleared
cleared_part : (p : Plan) (memory : List ℕ) (k i : ℕ) → words_of p ≤ length memory → memory ≡ replicate (length memory) 0 → i < many_of p k → part p memory k i ≡ replicate (size_of p k) 0
cleared_part p memory k i w z h =
    let b = part_within p k i h in
    let e : start_of p k i + size_of p k - start_of p k i ≡ size_of p k = omega arith in
    let d = drop-replicate {X = ℕ} (start_of p k i) (length memory) 0 in
    let t = take-replicate {X = ℕ} (size_of p k) (length memory - start_of p k i) 0 (omega arith) in
    rw e (ap (λ m. take (size_of p k) (drop (start_of p k i) m)) z ∙ ap (take (size_of p k)) d ∙ t)

pub cleared_encodes : (o : Opening) (memory : List ℕ) → words_of (plan_of o) ≤ length memory → memory ≡ replicate (length memory) 0 → Encodes o memory empty
unfolding many_of size_of
cleared_encodes o memory w z =
    record {
      whole = w;
      subscribers = λ b p. subst (Holds o.subscribers o.ranges []) (sym (cleared_part (plan_of o) memory 0 b w z p ∙ ap (λ n. replicate n 0) (subscribers_size o))) (cleared_holds o.subscribers o.ranges);
      arrived = λ b p. subst (Lists []) (sym (cleared_part (plan_of o) memory 1 b w z p)) lists_none;
      announced = λ a b p. subst (Keeps (filters_room o) o.ranges []) (sym (cleared_part (plan_of o) memory 2 (link a b) w z (link_within_o o a b p) ∙ ap (λ n. replicate n 0) (tables_size o).0)) (cleared_keeps (filters_room o) o.ranges);
      learned = λ a b p. subst (Keeps (filters_room o) o.ranges []) (sym (cleared_part (plan_of o) memory 3 (link a b) w z (link_within_o o a b p) ∙ ap (λ n. replicate n 0) (tables_size o).1)) (cleared_keeps (filters_room o) o.ranges);
      channel = λ a b p. subst (Carries o.messages o.ranges []) (sym (cleared_part (plan_of o) memory 4 (link a b) w z (link_within_o o a b p) ∙ ap (λ n. replicate n 0) (channel_size o))) (carries_none o.messages o.ranges o.valid.3.0);
      posted = subst (Lists []) (sym (cleared_part (plan_of o) memory 5 0 w z (omega arith))) lists_none;
      deliveries = subst (Delivers []) (sym (cleared_part (plan_of o) memory 6 0 w z (omega arith))) delivers_none;
      no_broker = λ b g. (refl, refl);
      no_link = λ a b g. (refl, refl, refl);
    }

all_prop : {A : Type 0} (P : A → Type 0) → ((x : A) → IsProp (P x)) → (xs : List A) → IsProp (AllByRecursion P xs)
all_prop P f [] p q = refl
all_prop P f (x ∷ xs) p q = λ i. (f x p.0 q.0 i, all_prop P f xs p.1 q.1 i)

sized_prop : (m : ℕ) (x : Message) → IsProp (Sized m x)
sized_prop m (add f) = ℕ_set (length f) (2 * m)
sized_prop m (cut f) = ℕ_set (length f) (2 * m)
sized_prop m (notice k e) = ℕ_set (length e) m

holds_prop : (room m : ℕ) (rs : List Subscriber) (ws : List ℕ) → IsProp (Holds room m rs ws)
holds_prop room m rs ws x y = λ i.
    record {
      words = is_set ℕ_set ws _ x.words y.words i;
      wide = all_prop (λ r. length r.filter ≡ 2 * m) (λ r. ℕ_set _ _) rs x.wide y.wide i;
      fits = le_prop x.fits y.fits i;
    }

keeps_prop : (room m : ℕ) (fs : List Filter) (ws : List ℕ) → IsProp (Keeps room m fs ws)
keeps_prop room m fs ws x y = λ i.
    record {
      words = is_set ℕ_set ws _ x.words y.words i;
      wide = Π_prop (λ f. →_prop (ℕ_set _ _)) x.wide y.wide i;
      fits = le_prop x.fits y.fits i;
    }

rings_prop : (room w b : ℕ) (xs : List Row) (ws : List ℕ) → IsProp (Rings room w b xs ws)
rings_prop room w b xs ws x y = λ i.
    record {
      words = is_set ℕ_set ws _ x.words y.words i;
      wide = all_prop (λ r. length r ≡ w) (λ r. ℕ_set _ _) xs x.wide y.wide i;
      fits = le_prop x.fits y.fits i;
      within = le_prop x.within y.within i;
      anew = →_prop (ℕ_set _ _) x.anew y.anew i;
    }

carries_prop : (room m : ℕ) (ms : List Message) (ws : List ℕ) → IsProp (Carries room m ms ws)
carries_prop room m ms ws x y = λ i.
    record {
      rows = rings_prop room (2 + 2 * m) _ _ ws x.rows y.rows i;
      sized = all_prop (Sized m) (sized_prop m) ms x.sized y.sized i;
    }

lists_prop : (ks ws : List ℕ) → IsProp (Lists ks ws)
lists_prop ks ws x y = λ i. record { words = is_set ℕ_set ws _ x.words y.words i; fits = le_prop x.fits y.fits i }

delivers_prop : (hs : List Delivery) (ws : List ℕ) → IsProp (Delivers hs ws)
delivers_prop hs ws x y = λ i. record { words = is_set ℕ_set ws _ x.words y.words i; fits = le_prop x.fits y.fits i }

pub encodes_prop : (o : Opening) (memory : List ℕ) (s : Network) → IsProp (Encodes o memory s)
encodes_prop o memory s x y = λ i.
    record {
      whole = le_prop x.whole y.whole i;
      subscribers = Π_prop (λ b. →_prop (holds_prop _ _ _ _)) x.subscribers y.subscribers i;
      arrived = Π_prop (λ b. →_prop (lists_prop _ _)) x.arrived y.arrived i;
      announced = Π_prop (λ a. Π_prop (λ b. →_prop (keeps_prop _ _ _ _))) x.announced y.announced i;
      learned = Π_prop (λ a. Π_prop (λ b. →_prop (keeps_prop _ _ _ _))) x.learned y.learned i;
      channel = Π_prop (λ a. Π_prop (λ b. →_prop (carries_prop _ _ _ _))) x.channel y.channel i;
      posted = lists_prop _ _ x.posted y.posted i;
      deliveries = delivers_prop _ _ x.deliveries y.deliveries i;
      no_broker = Π_prop (λ b. →_prop (×_prop (is_set subscriber_set _ []) (is_set ℕ_set _ []))) x.no_broker y.no_broker i;
      no_link = Π_prop (λ a. Π_prop (λ b. →_prop (×₃_prop (is_set filter_set _ []) (is_set filter_set _ []) (is_set message_set _ [])))) x.no_link y.no_link i;
    }
