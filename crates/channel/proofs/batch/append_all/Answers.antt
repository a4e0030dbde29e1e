use Rattle.std.proofs.Common.{◌≡◌, ◌+◌, ◌*◌, is_ok, [], ◌∷◌, ◌++◌, get_or, ap, ◌∙◌, arith}
use Rattle.std.proofs.lemmas.Bool.Decides.{nat_tests}
use Rattle.std.proofs.lemmas.List.{length_push}
use Rattle.cover.specs.Rows.{listed}
use Rattle.cover.proofs.RowLaws.{length_rows}
use Rattle.cover.proofs.TableLaws.{wide_rows}
use Rattle.cover.proofs.Keeping.{gone_through, yet_to_come}
use Rattle.channel.specs.Ring.{appended, appended_all}
use Rattle.channel.specs.Batch.{all_told}
use Rattle.channel.proofs.Batches.{appended_next, appended_none, appended_all_holds, wide_told, length_all_told, refuses_full}
use Rattle.channel.proofs.batch.append_all.Goals as goal
use Rattle.channel.proofs.batch.append_all.Goals.{In-None}

pub message-requires : goal.message-requires
message-requires c =
    let i = c.loop-filter.invariant in
    let y = yet_to_come c.args.filters.width i.0 (listed c.next.new.self) (listed c.args.filters) c.in-Some.filter.now (listed c.loop-filter.filter-iterator) (wide_rows c.args.filters.width c.args.filters.left c.args.filters.words.now c.args.filters.there) i.1 c.in-Some.ensures.steps in
    let l = length_rows c.args.filters.width c.args.filters.left c.args.filters.words.now in
    (c.requires.shape.0, y.0 ∙ c.requires.wide)

pub returns-in_err-append : goal.returns-in_err-append
returns-in_err-append c =
    let i = c.loop-filter.invariant in
    let y = yet_to_come c.args.filters.width i.0 (listed c.next.new.self) (listed c.args.filters) c.in-Some.filter.now (listed c.loop-filter.filter-iterator) (wide_rows c.args.filters.width c.args.filters.left c.args.filters.words.now c.args.filters.there) i.1 c.in-Some.ensures.steps in
    let l = length_rows c.args.filters.width c.args.filters.left c.args.filters.words.now in
    let f = refuses_full (get_or c.loop-filter.channel 1 0) c.args.room c.append.result c.append.ensures.answer (ap is_ok c.in_err-append.was) in
    absurd (omega (arith, f, y.1, i.4))

pub loop-filter-preserved : goal.loop-filter-preserved
loop-filter-preserved c =
    let i = c.loop-filter.invariant in
    let y = yet_to_come c.args.filters.width i.0 (listed c.next.new.self) (listed c.args.filters) c.in-Some.filter.now (listed c.loop-filter.filter-iterator) (wide_rows c.args.filters.width c.args.filters.left c.args.filters.words.now c.args.filters.there) i.1 c.in-Some.ensures.steps in
    let l = length_rows c.args.filters.width c.args.filters.left c.args.filters.words.now in
    let p = length_push i.0 c.in-Some.filter.now in
    let n = c.append.ensures.counted in
    let e = c.append.ensures.words ∙ ap (λ x. appended c.args.room (2 + 2 * c.args.m) x c.loop-filter.channel) c.message.ensures in (
      i.0 ++ c.in-Some.filter.now ∷ [],
      gone_through i.0 (listed c.next.new.self) (listed c.args.filters) c.in-Some.filter.now (listed c.loop-filter.filter-iterator) i.1 c.in-Some.ensures.steps,
      ap (appended_all c.args.room (2 + 2 * c.args.m) (all_told c.args.change (listed c.next.new.self))) e
          ∙ (appended_next c.args.room (2 + 2 * c.args.m) c.args.change c.in-Some.filter.now (listed c.next.new.self) (listed c.loop-filter.filter-iterator) c.loop-filter.channel c.in-Some.ensures.steps ∙ i.2),
      c.append.ensures.shape,
      grind (arith, nat_tests),
    )

-- at the end of the loop the whole list is appended
done : (c : In-None) → c.loop-filter.channel ≡ appended_all c.args.room (2 + 2 * c.args.m) (all_told c.args.change (listed c.args.filters)) c.args.channel.now
done c = appended_none c.args.room (2 + 2 * c.args.m) c.args.change (listed c.loop-filter.filter-iterator) c.loop-filter.channel c.in-None.ensures.steps.0 ∙ c.loop-filter.invariant.2

pub returns-clause-words : goal.returns-clause-words
returns-clause-words c =
    let e = done c in
    grind (arith, nat_tests)

pub returns-clause-holds : goal.returns-clause-holds
returns-clause-holds c begin xs h l =
    let n = length_all_told c.args.change c.args.filters in
    let w = wide_told c.args.change c.args.m c.args.filters c.requires.wide in
    rw (done c) (appended_all_holds _ _ begin _ xs _ h w (omega arith))
