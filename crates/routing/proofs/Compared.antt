-- What is to be announced, compared with what was announced last: both lie in tables of the same size, and so do what is new and what is no more.
use Rattle.std.proofs.Common.{◌≡◌, ℕ, ◌+◌, ◌-◌, ◌*◌, ◌≤◌, true, List, ◌++◌, length, get_or, ap, ◌∙◌, mul-le-mul, mul-le-mul_left, arith}
use Rattle.std.specs.List.{between}
use Rattle.filter.specs.Filter.{Filter}
use Rattle.cover.specs.Maximal.{minus}
use Rattle.cover.specs.Table.{rows, written, held, laid}
use Rattle.cover.proofs.RowLaws.{rows_written}
use Rattle.cover.proofs.TableLaws.{wide_minus, length_minus}
use Rattle.broker.specs.Announcing.{Keeps}
use Rattle.broker.proofs.Kept.{held_kept, count_kept, length_kept}
use Rattle.model.specs.Tree.{edge}
use Rattle.model.specs.Model.{announcement}
use Rattle.layout.specs.Links.{link}
use Rattle.layout.specs.Plan.{size_of, start_of}
use Rattle.layout.specs.Memory.{table_words}
use Rattle.layout.specs.Parts.{tree, plan_of, filters_room}
use Rattle.layout.specs.State.{network_of, Formed}
use Rattle.routing.specs.Around.{Ready}
use Rattle.layout.specs.declared.opening.Opening.{Opening}
use Rattle.routing.proofs.Announced.{announcement_fits, announcement_wide}
use Rattle.layout.proofs.Sized.{table_size}
use Rattle.layout.proofs.Written.{lent_part}

-- the filters that a table keeps lie within its words
pub kept_whole : (room m : ℕ) (fs : List Filter) (ws : List ℕ) → Keeps room m fs ws → 1 + 2 * m * get_or ws 0 0 ≤ length ws
kept_whole room m fs ws h =
    let c = count_kept room m fs ws h in
    let l = length_kept room m fs ws h in
    let p = mul-le-mul_left (2 * m) h.fits in
    rw (c, l) (omega arith)

-- the filters of an opening's table take no more words than those of the largest that there can be
pub table_most : (o : Opening) → 1 + 2 * o.ranges * filters_room o ≤ 15601
table_most o =
    let v = o.valid.0.1 in
    let b = o.valid.1.1 in
    let r = o.valid.2.1 in
    let p : (o.brokers - 1) * (o.subscribers + 1) ≤ 15 * 65 = mul-le-mul {n₂ = 15} {m₂ = 65} (omega arith) (omega arith) in
    let q : 2 * o.ranges * ((o.brokers - 1) * (o.subscribers + 1)) ≤ 16 * 975 = mul-le-mul {n₂ = 16} {m₂ = 975} (omega arith) p in
    omega arith

pub kept_most : (o : Opening) (fs : List Filter) (ws : List ℕ) → Keeps (filters_room o) o.ranges fs ws → 2 * o.ranges * get_or ws 0 0 ≤ 15600
kept_most o fs ws h =
    let q = table_most o in
    let w = kept_whole (filters_room o) o.ranges fs ws h in
    let l = length_kept (filters_room o) o.ranges fs ws h in
    omega arith

-- what was announced last, where it lies in the memory
pub last_kept :
    (o : Opening) (memory : List ℕ) → Formed o memory → (a b : ℕ) → edge (tree o) a b ≡ true → (i at stop : ℕ) → i ≡ link a b → at ≡ start_of (plan_of o) 2 i →
    stop ≡ start_of (plan_of o) 2 i + size_of (plan_of o) 2 → Keeps (filters_room o) o.ranges ((network_of o memory).announced a b) (between at stop memory)
last_kept o memory formed a b beside i at stop l s e =
    let p = lent_part (plan_of o) 2 i at stop memory s e in
    rw (p, l) (formed.announced a b beside)

-- a table that was found holds the announcement and nothing else
pub found_kept :
    (o : Opening) (memory : List ℕ) (b : ℕ) → Ready o memory b → (n : ℕ) → edge (tree o) b n ≡ true → (words : ℕ) (new : List ℕ) →
    words ≡ table_words o.ranges o.brokers o.subscribers → new ≡ laid (2 * o.ranges) words (announcement (tree o) (network_of o memory) b n) →
    Keeps (filters_room o) o.ranges (announcement (tree o) (network_of o memory) b n) new
found_kept o memory b ready n beside words new l e =
    record { words = e ∙ ap (λ k. laid (2 * o.ranges) k (announcement (tree o) (network_of o memory) b n)) (l ∙ table_size o); wide = announcement_wide o memory b ready n beside; fits = announcement_fits o memory b ready n beside }

-- the filters of one table that another lacks, counted and written over the front of a row, by the filters that the tables keep
pub record Lacks (room m : ℕ) (fs gs : List Filter) (k : ℕ) (out : List ℕ) : Type 0 where
  pub counted : k ≡ length (minus fs gs)
  pub few : k ≤ room
  pub there : rows (2 * m) k out ≡ minus fs gs

pub lacks :
    (room m : ℕ) (fs gs : List Filter) (xs ys : List ℕ) → Keeps room m fs xs → Keeps room m gs ys → (k : ℕ) (out rest : List ℕ) →
    k ≡ length (minus (held (2 * m) xs) (held (2 * m) ys)) → out ≡ written (minus (held (2 * m) xs) (held (2 * m) ys)) ++ rest → Lacks room m fs gs k out
lacks room m fs gs xs ys x y k out rest c w =
    let p = held_kept room m fs xs x in
    let q = held_kept room m gs ys y in
    let e : k ≡ length (minus fs gs) = rw (p, q) at c in
    let o : out ≡ written (minus fs gs) ++ rest = rw (p, q) at w in
    let l = length_minus fs gs in
    let f = x.fits in
    record { counted = e; few = omega arith; there = rw (o, e) (rows_written (2 * m) (minus fs gs) rest (wide_minus (2 * m) fs gs x.wide)) }
