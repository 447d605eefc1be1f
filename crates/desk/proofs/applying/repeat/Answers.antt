-- The stored answer lies within its place, so what is copied is that answer.
use Rattle.std.proofs.Common.{◌≡◌, ◌≤◌, length, take, length-take-le, arith, rules}
use Rattle.desk.proofs.Ranges.{ranges-parts, kept-most}
use Rattle.desk.proofs.Sendings.{repeat-sent}
use Rattle.desk.proofs.applying.repeat.Goals as goal

pub shared_ref_as_front-copy : goal.shared_ref_as_front-copy
shared_ref_as_front-copy c =
    let h : length c.args.sound.desk.stored ≡ 66 = search rules in
    let k : c.args.sound.desk.kept ≤ 66 = kept-most _ _ (ranges-parts c.args.sound.desk c.args.sound.fits).stocked in
    omega arith

pub returns : goal.returns
returns c =
    let h : length c.args.sound.desk.stored ≡ 66 = search rules in
    let k : c.args.sound.desk.kept ≤ 66 = kept-most _ _ (ranges-parts c.args.sound.desk c.args.sound.fits).stocked in
    let room : length (take c.args.sound.desk.kept c.args.sound.desk.stored) ≤ length c.args.out.now = omega (arith, c.requires, length-take-le c.args.sound.desk.kept c.args.sound.desk.stored (omega arith)) in
    repeat-sent c.args.sound.desk c.args.out.now _ _ (c.copy-sent.ensures.count room) (c.copy-sent.ensures.bytes room)
