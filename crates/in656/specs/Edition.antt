-- The library's version, and which programs may use it (include/in656.h; rule F10). Assumes nothing.
use Rattle.std.specs.Prelude.{◌≡◌, Bool, true, false, cond, ℕ, ◌+◌, ◌*◌, ◌/◌, ◌%◌, ◌≤◌, ◌<◌, eqb, ltb}

-- the edition, which the soname carries
abbrev pub major : ℕ
major = 1

-- raised where calls are added, or a field is filled that was 0 before
abbrev pub minor : ℕ
minor = 0

-- raised by any other change
abbrev pub patch : ℕ
patch = 0

-- a version as one number
abbrev pub version_of : ℕ → ℕ → ℕ → ℕ
version_of first second third = first * 65536 + second * 256 + third

abbrev pub version : ℕ
version = version_of major minor patch

-- a program that was compiled with a header of this version may use the library: the same edition, and a second number that the library has reached
unfoldable pub same_edition : ℕ → Bool
same_edition v = cond (eqb (v / 65536) major) (cond (ltb minor (v % 65536 / 256)) false true) false

-- a header of the edition up to the library's second number, whatever its third: so the library's own
abbrev pub ReachedVersions : Type 0
ReachedVersions = (second third : ℕ) → second ≤ minor → third < 256 → same_edition (version_of major second third) ≡ true

-- a header of another edition never
abbrev pub OtherEditions : Type 0
OtherEditions = (first second third : ℕ) → second < 256 → third < 256 → (first ≡ major → ⊥) → same_edition (version_of first second third) ≡ false

-- nor one whose second number the library has not reached
abbrev pub LaterVersions : Type 0
LaterVersions = (second third : ℕ) → minor < second → second < 256 → third < 256 → same_edition (version_of major second third) ≡ false
