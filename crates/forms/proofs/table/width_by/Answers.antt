-- Ten packets at most, each of a letter and at most 255 bytes. Assumes nothing.
use Rattle.std.proofs.Common.{rules, ◌≡◌, ◌+◌, arith, sum_by}
use Rattle.std.proofs.lemmas.List.{get_or_default}
use Rattle.std.proofs.lemmas.List.Sums.{sum_by-le}
use Rattle.forms.proofs.table.width_by.Goals as goal

pub returns-clause-small : goal.returns-clause-small
returns-clause-small c =
    let s = c.args.lens.now in
    let e : c.sum.result ≡ sum_by (λ len. 1 + len) s = search rules in
    omega (arith, sum_by-le (λ len. 1 + len) 256 s (λ k d h. omega (arith, c.type_inv.lens k, get_or_default s k d 0 h)))
