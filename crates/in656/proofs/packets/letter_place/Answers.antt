-- `letter_place` looks among the letters of the packets. Assumes nothing.
use Rattle.std.proofs.Common.{◌≡◌, ◌∙◌, length, arith, rules}
use Rattle.in656.proofs.Places.{count_most, letter_found}
use Rattle.in656.proofs.packets.letter_place.Goals as goal

pub returns : goal.returns
returns c =
    let l : length c.args.form.letters ≡ 10 = search rules in
    (rw c.count_of.ensures at c.place_in.ensures) ∙ letter_found c.args.form c.args.letter (omega (arith, count_most c.args.form))
