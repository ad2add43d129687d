-- An answer is short.
use Rattle.std.proofs.Common.{◌∙◌, ap, length, arith}
use Rattle.session.specs.Parts.{book_on}
use Rattle.stream.proofs.ShortLaws.{answer_short}
use Rattle.stream.proofs.answer.Goals as goal

pub put-requires : goal.put-requires
put-requires c =
    let is = c.as_bytes.ensures.value ∙ c.deref.ensures.0 ∙ c.line.ensures.printed in
    omega (arith, ap length is, answer_short (book_on c.args.desk.now) c.args.line.now, c.requires)
