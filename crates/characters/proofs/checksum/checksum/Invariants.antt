-- The checksum's loop: the sum of the bytes so far, modulo 256. Assumes nothing.
use Rattle.std.proofs.Common.{◌≡◌, ◌+◌, ◌%◌, ◌<◌, drop}
use Rattle.characters.specs.Checksum.{total}
use Rattle.characters.proofs.checksum.checksum.Given as goal

abbrev pub invariant-loop-b : goal.invariant-loop-b
invariant-loop-b l = (l.sum < 256) × ((l.sum + total (drop l.b-index l.s)) % 256 ≡ total l.s % 256)
