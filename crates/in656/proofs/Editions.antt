-- Which headers' versions are of the library's edition. Assumes nothing.
use mathlib.Core.Path.{◌≡◌}
use Prim.Native.Nat.{ℕ, ◌/◌, ◌%◌, ◌<◌}
use native.Mathlib.Omega.{arith}
use borrow.Author.Tests.{ne_eqb, lt-ltb, le-ltb}
use Rattle.in656.specs.Edition.{major, minor, version_of, same_edition, ReachedVersions, OtherEditions, LaterVersions}

first-in : (first second third : ℕ) → second < 256 → third < 256 → version_of first second third / 65536 ≡ first
first-in first second third s t = omega arith

second-in : (first second third : ℕ) → second < 256 → third < 256 → version_of first second third % 65536 / 256 ≡ second
second-in first second third s t = omega arith

pub reached : ReachedVersions
unfolding same_edition
reached second third s t = rw (first-in major second third (omega arith) t, second-in major second third (omega arith) t, le-ltb minor second s)

pub other-editions : OtherEditions
unfolding same_edition
other-editions first second third s t h = rw (first-in first second third s t, ne_eqb first major h)

pub later-versions : LaterVersions
unfolding same_edition
later-versions second third h s t = rw (first-in major second third s t, second-in major second third s t, lt-ltb minor second h)
