use Rattle.std.proofs.Common.{◌≡◌, ◌≤◌, length, replicate, sym, ap, ◌∙◌, arith}
use Rattle.std.proofs.lemmas.Bool.Decides.{nat_tests}
use Rattle.layout.specs.Plan.{words_of}
use Rattle.layout.specs.Parts.{plan_of}
use Rattle.network.proofs.Opened.{opened_sound, opened_empty}
use Rattle.network.proofs.Played.{playing_none, playing_done, playing_refused, playing_all}
use Rattle.network.proofs.playing.play.Goals as goal
use Rattle.network.proofs.playing.play.Goals.{then-is_ok, else-is_ok}

pub loop-command-init : goal.loop-command-init
loop-command-init c =
    let o = c.args.opening.now in
    let e : c.fill.new.self ≡ replicate (length c.fill.new.self) 0 = c.fill.ensures.after (λ y q. q) ∙ ap (λ n. replicate n 0) (sym c.fill.ensures.len) in
    let w : words_of (plan_of o) ≤ length c.fill.new.self = grind (arith, nat_tests) in
    playing_none o c.args.list.now c.fill.new.self (opened_sound o c.fill.new.self w e) (opened_empty o c.fill.new.self w e)

pub perform-requires : goal.perform-requires
perform-requires c = c.loop-command.invariant.sound

pub overflow_add-many : goal.overflow_add-many
overflow_add-many c = omega (arith, c.loop-command.invariant.few)

pub loop-command-preserved : goal.loop-command-preserved
loop-command-preserved c =
    elim c.if-is_ok.branch [
      | then-is_ok w ↦
          rw w.many-is
          (playing_done _ _ _ _ _ c.loop-command.invariant c.loop-command-test.true _ c.perform.result c.perform.new.memory c.perform.ensures (sym c.is_ok.ensures.value ∙ w.if-is_ok.true))
      | else-is_ok w ↦
          rw w.many-is
          (playing_refused _ _ _ _ _ c.loop-command.invariant c.loop-command-test.true _ c.perform.result c.perform.new.memory c.perform.ensures (sym c.is_ok.ensures.value ∙ w.if-is_ok.false))
    ]

pub returns : goal.returns
returns c = (grind (arith, nat_tests), c.loop-command.invariant.sound, playing_all _ _ _ _ _ c.loop-command.invariant c.loop-command-test.false)
