-- What is read from a part between two brokers, piece by piece.
use Rattle.std.proofs.Common.{◌≡◌, ℕ, ◌<◌, ◌≤◌, false, cond, ltb, List, [], map, length, get_or, Some, None, Option, sym, ap, ◌∙◌, arith, MatchOption}
use Rattle.std.proofs.lemmas.List.{drop_more, length-map}
use Rattle.std.proofs.lemmas.Bool.{ltb-true, ltb-false, false_from_ne_true}
use Rattle.channel.specs.Message.{words, message as meant}
use Rattle.channel.specs.declared.message.Message.{Message as Sent}
use Rattle.model.specs.Tree.{edge}
use Rattle.model.specs.Model.{Message, notice}
use Rattle.layout.specs.Parts.{tree}
use Rattle.layout.specs.Mail.{row_for, message_in, piece_in, Carries}
use Rattle.layout.specs.declared.opening.Opening.{Opening}
use Rattle.steps.proofs.Options.{found, missed}
use Rattle.network.proofs.Replayed.{message_at}
use Rattle.layout.proofs.Written.{edge_brokers}

-- a broker that is not there is beside none
pub no_first : (o : Opening) (a b : ℕ) → ltb a o.brokers ≡ false → edge (tree o) a b ≡ false
no_first o a b h = false_from_ne_true (edge (tree o) a b) (λ e. omega (arith, ltb-false a o.brokers h, (edge_brokers o a b e).0))

pub no_second : (o : Opening) (a b : ℕ) → ltb b o.brokers ≡ false → edge (tree o) a b ≡ false
no_second o a b h = false_from_ne_true (edge (tree o) a b) (λ e. omega (arith, ltb-false b o.brokers h, (edge_brokers o a b e).1))

-- what was asked for at a place of a channel is not there, or is the message at that place
pub piece_read : (room m : ℕ) (ms : List Message) (ws : List ℕ) → Carries room m ms ws → m ≤ 8 → (i : ℕ) (r : Option Sent) →
    r ≡ cond (ltb i (length (map (row_for m) ms))) (Some (meant m (get_or (map (row_for m) ms) i []))) None →
    MatchOption r (length ms ≤ i) (λ x. (i < length ms) × (message_in m (words m x) ≡ piece_in ms i))
piece_read room m ms ws c few i None asked =
    let l = length-map ms (row_for m) in
    omega (arith, ltb-false i (length (map (row_for m) ms)) (missed _ _ asked))
piece_read room m ms ws c few i (Some x) asked =
    let l = length-map ms (row_for m) in
    let t = ltb-true i (length (map (row_for m) ms)) (found _ _ _ asked) in
    let h : i < length ms = omega arith in
    let n = (message_at room m ms ws c few i x asked).0 in
    (h, sym (ap (λ ps. piece_in ps 0) n) ∙ ap (λ ps. piece_in ps 0) (drop_more ms i (notice 0 []) h))
