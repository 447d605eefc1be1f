-- The receiver's sum is zero. Assumes nothing.
use mathlib.Core.Path.{◌≡◌, refl}
use mathlib.Core.Bool.{Bool, true, false, cond}
use mathlib.Core.List.{List}
use Prim.Native.Nat.{ℕ, ◌+◌, ◌-◌, ◌*◌, ◌/◌, ◌%◌, ◌<◌}
use Prim.Native.Char.{code}
use native.Mathlib.Omega.{arith}
use lib.Dec.{ltb}
use lib.ListN.{length, get_or}
use borrow.Author.Tests.{ltb-true, ltb-false, lt-ltb, le-ltb}
use Rattle.characters.specs.Checksum.{checksum_of, hex_of, check_text}
use Rattle.reading.specs.Frame.{summed_of}
use Rattle.writing.proofs.RoundTrips.Frames.{two-are}
use Rattle.writing.proofs.RoundTrips.Checks.{accepted-only}
use Rattle.papers.specs.Receiver.{unhex, SumsToZero, TelegramSumsToZero, AcceptedSumsToZero}

pub sums-to-zero : SumsToZero
unfolding checksum_of
sums-to-zero s = omega arith

-- a digit reads back from its character, whichever of the two stretches 0-9 and A-F its character is from
digit-back : (d : ℕ) (t : Bool) → ltb d 10 ≡ t → unhex (cond t (d + code "0") (d + 55)) ≡ d
digit-back d true e = let l = ltb-true d 10 e in rw (lt-ltb (d + 48) 65 (omega arith)) (omega arith)
digit-back d false e = let l = ltb-false d 10 e in rw (le-ltb (d + 55) 65 (omega arith)) (omega arith)

-- so a digit written as a character reads back
hex-back : (n : ℕ) → unhex (hex_of n) ≡ n % 16
hex-back n = digit-back (n % 16) (ltb (n % 16) 10) refl

-- and so does a number written as two of them
two_back : (c high low : ℕ) → c < 256 → high ≡ hex_of (c / 16) → low ≡ hex_of c → unhex high * 16 + unhex low ≡ c
two_back c high low l p q = rw (p, q, hex-back (c / 16), hex-back c) (omega arith)

-- a checksum is one byte
checksum-low : (s : List ℕ) → checksum_of s < 256
unfolding checksum_of
checksum-low s = omega arith

pub telegram-sums-to-zero : TelegramSumsToZero
unfolding check_text
telegram-sums-to-zero s l h =
    let c : ℕ = checksum_of (summed_of s) in
    let place : length s - 2 ≡ length s - 3 + 1 = omega arith in
    let t = two-are s (length s - 3) (check_text c) h in
    rw (two_back c (get_or s (length s - 3) 0) (get_or s (length s - 2) 0) (checksum-low (summed_of s)) t.0 (rw place t.1)) (sums-to-zero (summed_of s))

pub accepted-sums-to-zero : AcceptedSumsToZero
accepted-sums-to-zero line s rec n h = let f = (accepted-only line s rec n h).framed in telegram-sums-to-zero s f.long f.sum
