-- `reading::datafield::outside_set` meets its contract.
use Rattle.std.proofs.Common.{rules, ◌≡◌, true, false, arith}
use borrow.Author.Tests.{tests}
use Rattle.std.proofs.lemmas.Iterator.{YieldsList-from_slice, IsFirst-from_position}
use Rattle.characters.specs.Characters.{in_set}
use Rattle.reading.proofs.Walk.{inside_all, first_outside}
use Rattle.reading.proofs.datafield.outside_set.Goals as goal

pub returns-in_err-i : goal.returns-in_err-i
returns-in_err-i c =
    let d = c.args.field.now in
    let k =
    IsFirst-from_position _ _ _ (λ b. in_set b ≡ false) (λ b. in_set b ≡ true) c.in_err-i.ensures.ran (YieldsList-from_slice d cc) (λ x q h. search (rules, tests))
    (λ x q h. search (rules, tests)) in
    rw c.from_residual.ensures (inside_all 5 d (λ i l. k i 0 (omega arith) l))

pub returns : goal.returns
returns c =
    let d = c.args.field.now in
    let k =
    IsFirst-from_position _ _ _ (λ b. in_set b ≡ false) (λ b. in_set b ≡ true) c.in_ok-i.ensures.ran (YieldsList-from_slice d cc) (λ x q h. search (rules, tests))
    (λ x q h. search (rules, tests)) in
    first_outside 5 d c.in_ok-i.i k.0 (λ i l. k.2 i 0 (omega arith) l) (k.1 0)
