-- One digit more is read, and behind the last the number is said; so few digits say a number that leaves room for one more.
use Rattle.std.proofs.Common.{length, arith}
use Rattle.values.proofs.Digits.{few}
use Rattle.values.proofs.numbers.number_said.Goals as goal

pub with_digit-a-requires : goal.with_digit-a-requires
with_digit-a-requires c =
    let p = few c.args.decimal (length c.args.text.now) c.loop-b.b-index c.requires.0 c.requires.1 c.loop-b-test.true in
    omega (arith, c.loop-b.invariant.1)
