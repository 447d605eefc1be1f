-- `put_words` makes the tests of its definition in order, then puts words and 0. Assumes nothing.
use Rattle.std.proofs.Common.{arith}
use Rattle.std.proofs.lemmas.Grind.{common_steps}
use Rattle.in656.proofs.Tables.{put}
use Rattle.in656.proofs.words.put_words.Goals as goal

pub returns : goal.returns
returns c =
    put c.args.words.now c.args.out.now _ _ _ _ _ (λ e. absurd (grind (arith, common_steps, e, c.is_empty.ensures, c.if-is_empty.false))) (omega arith) c.put_text-n.ensures c.put_byte.ensures (rw (c.with_written.ensures, c.done.ensures))
