use Rattle.std.proofs.Common.{◌*◌, ◌++◌, take, ap, ◌∙◌, arith}
use Rattle.std.proofs.lemmas.List.{take_rest, drop-drop}
use Rattle.cover.proofs.Mail.{written_to_end}
use Rattle.cover.proofs.telling.write_missing.Goals as goal

pub returns : goal.returns
returns c =
    let d = drop-drop (c.args.filters.width * c.minus.result) c.args.at c.args.mail.now in
    let y = rw (take_rest, d) at c.minus.ensures.words in
    record {
      counted = c.minus.ensures.counted;
      within = c.minus.ensures.within;
      words = written_to_end c.args.mail.now c.minus.new.out c.args.at (omega (arith, c.requires)) ∙ ap (λ xs. take c.args.at c.args.mail.now ++ xs) y;
    }
