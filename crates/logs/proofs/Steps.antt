-- A whole log, one record after the other: as many readings as there are bytes are enough. Assumes nothing.
use mathlib.Core.Path.{◌≡◌, refl, ap}
use mathlib.Core.List.{List, ◌∷◌}
use Prim.Native.Nat.{ℕ, zero, suc, ◌-◌, ◌≤◌, ◌<◌}
use native.Mathlib.Omega.{arith}
use lib.ListN.{length, take, drop, get_or, length-drop}
use Rattle.logs.specs.declared.marks.Mark.{Mark}
use Rattle.logs.specs.Records.{log_record, head}
use Rattle.logs.specs.Reader.{Found, found, end, refused, record_in}
use Rattle.logs.specs.Whole.{Log, onward, log_on, log_of}
use Rattle.logs.proofs.Inside.{found-whole}

-- a record that is found ends behind its head and within what is left
pub ends : (s : List ℕ) (mark : Mark) (time start behind : ℕ) → record_in 0 s ≡ found mark time start behind → (start ≡ head) × (head ≤ behind) × (behind ≤ length s) × (behind - start ≡ get_or s 6 0)
ends s mark time start behind h =
    let w = found-whole 0 s mark time start behind h in
    (omega (arith, w.start-at), omega (arith, w.behind-at), omega (arith, w.behind-at, w.all_there), omega (arith, w.start-at, w.behind-at))

-- two numbers of readings that are enough give the same log
same_log : (n m : ℕ) (s : List ℕ) → length s < n → length s < m → log_on n s ≡ log_on m s
unfolding log_on
same_log zero m s h g = absurd (omega arith)
same_log (suc n) zero s h g = absurd (omega arith)
same_log (suc n) (suc m) s h g = go (record_in 0 s) refl (λ t. same_log n m t)
  where
    go : (f : Found) → record_in 0 s ≡ f → ((t : List ℕ) → length t < n → length t < m → log_on n t ≡ log_on m t) → onward s f (log_on n) ≡ onward s f (log_on m)
    go (found mark time start behind) e later =
        let k = ends s mark time start behind e in
        ap {B = Log} (λ (y : Log). (log_record mark time (take (behind - start) (drop start s)) ∷ y.0, y.1))
        (later (drop behind s) (omega (arith, length-drop behind s, k.1, k.2)) (omega (arith, length-drop behind s, k.1, k.2)))
    go end e later = refl
    go (refused x) e later = refl

-- a whole log is what stands in front, and the whole log behind it
pub log-step : (s : List ℕ) → log_of s ≡ onward s (record_in 0 s) log_of
unfolding log_of log_on
log-step s = go (record_in 0 s) refl
  where
    go : (f : Found) → record_in 0 s ≡ f → onward s f (log_on (length s)) ≡ onward s f log_of
    go (found mark time start behind) e =
        let k = ends s mark time start behind e in
        ap {B = Log} (λ (y : Log). (log_record mark time (take (behind - start) (drop start s)) ∷ y.0, y.1))
        (same_log (length s) (suc (length (drop behind s))) (drop behind s) (omega (arith, length-drop behind s, k.1, k.2)) (omega arith))
    go end e = refl
    go (refused x) e = refl
