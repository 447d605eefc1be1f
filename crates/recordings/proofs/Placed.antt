-- A text that has room is put whole, and one put into a part of an output stands where the part begins. Assumes nothing.
use Rattle.std.proofs.Common.{◌≡◌, ℕ, ◌+◌, ◌≤◌, List, ◌++◌, length, take, drop, sym, ap, ◌∙◌, append_assoc, zero-add, arith, length-drop, take-append-drop, length-take, drop-drop}
use lib.Seq.{drop-append-le}
use borrow.Rule.Slice.PartMut.{mid_of, put_mid}
use Rattle.text.specs.Putting.{puts, placed}
use Rattle.text.proofs.Puts.{with-room}

pub put_whole : (t out : List ℕ) (n : ℕ) (x : List ℕ) → length t ≤ length out → (n, x) ≡ puts t 0 out → (n ≡ length t) × (x ≡ (placed t 0 out).1)
unfolding placed
put_whole t out n x h e =
    let p : (n, x) ≡ placed t 0 out = e ∙ with-room t 0 out (omega arith) in
    (ap (λ (y : ℕ × List ℕ). y.0) p ∙ zero-add (length t), ap (λ (y : ℕ × List ℕ). y.1) p)

-- a text at the front of a part of an output stands where the part begins
pub at_part : (t out : List ℕ) (filled k : ℕ) → length t ≤ k → filled + k ≤ length out → put_mid filled k out (placed t 0 (mid_of filled k out)).1 ≡ (placed t filled out).1
unfolding placed
at_part t out filled k h g =
    let d = drop filled out in
    let l : length t ≤ length (take k (drop filled out)) = omega (arith, length-take k (drop filled out), length-drop filled out) in
    let e : drop (0 + length t) (take k (drop filled out)) ++ drop k (drop filled out) ≡ drop (filled + length t) out =
    rw (zero-add (length t))
    (sym (drop-append-le (length t) (take k (drop filled out)) (drop k (drop filled out)) l) ∙ (ap (drop (length t)) (take-append-drop k (drop filled out)) ∙ drop-drop (length t) filled out)) in
    ap (λ (u : List ℕ). take filled out ++ u) (append_assoc t (drop (0 + length t) (take k (drop filled out))) (drop k (drop filled out)) ∙ ap (λ (u : List ℕ). t ++ u) e)
