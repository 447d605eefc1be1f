-- The records that wait, one after the other. Assumes nothing.
use mathlib.Core.Path.{◌≡◌, refl}
use mathlib.Core.List.{List, [], ◌∷◌, ◌++◌}
use Prim.Native.Nat.{ℕ, zero, suc, ◌+◌, ◌-◌, ◌≤◌, ◌<◌, min}
use native.Mathlib.Omega.{arith}
use native.Mathlib.Numerals.{add-one}
use lib.ListN.{length, take, drop, get_or, length-take, drop_of_length-le}
use Rattle.std.proofs.lemmas.List.{get_or-take}
use Rattle.laws.proofs.Passes.{order}
use lib.Seq.{drop-cons}
use Rattle.desk.specs.declared.waiting.Waiting.{Waiting}
use Rattle.scripts.specs.Desks.Printing.{waiting_text, queue_text}

-- a record that waits, and those behind it
pub waiting-here : (q : List Waiting) (n m j : ℕ) (d : Waiting) → m ≤ n → j < length (take m q)
    → queue_text (n - j) (drop j q) ≡ waiting_text (get_or (take m q) j d) ++ queue_text (n - (j + 1)) (drop (j + 1) q)
unfolding queue_text
waiting-here q n m j d h l =
    let k : j < length q = omega (arith, length-take m q) in
    let i : j < m = omega (arith, length-take m q) in
    let e : n - j ≡ suc (n - suc j) = omega arith in
    rw (get_or-take m q j d i, add-one j, e, drop-cons q j d k)

none : (q : List Waiting) → queue_text 0 q ≡ []
unfolding queue_text
none [] = refl
none (w ∷ q) = refl

past : (k : ℕ) → queue_text k [] ≡ []
unfolding queue_text
past zero = refl
past (suc k) = refl

-- no more wait, or the queue has no more places
pub queue-end : (q : List Waiting) (n m j : ℕ) → m ≡ min n (length q) → length (take m q) ≤ j → queue_text (n - j) (drop j q) ≡ []
queue-end q n m j e h =
    order j n
    (λ l.
    let p : length q ≤ j = omega (arith, length-take m q) in
    rw (drop_of_length-le q {i = j} p) (past (n - j)))
    (λ l.
    let k : n - j ≡ 0 = omega arith in
    rw k (none (drop j q)))
