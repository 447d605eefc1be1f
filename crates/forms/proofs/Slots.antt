-- The packets of a form, one after the other. Assumes nothing.
use mathlib.Core.Path.{◌≡◌, refl, ap, ◌∙◌}
use mathlib.Core.List.{List, [], ◌∷◌}
use Prim.Native.Nat.{ℕ, zero, suc, ◌+◌, ◌-◌, ◌≤◌, ◌<◌}
use native.Mathlib.Omega.{arith}
use lib.Dec.{ltb}
use lib.ListN.{length, take, drop, get_or}
use Rattle.std.specs.List.{sum_by}
use Rattle.std.proofs.lemmas.List.Sums.{sum_by-cons}
use lib.Seq.{drop-drop}
use borrow.Author.Tests.{ltb-false}
use Rattle.laws.proofs.Passes.{on_test}
use Rattle.forms.specs.Forms.{slots_in, slots_of, count_of, width_in, width_of}
use Rattle.forms.specs.declared.rows.Form.{Form}
use Rattle.characters.proofs.Parts.{part-first}

-- a form has at most ten packets
pub count_small : (f : Form) → count_of f ≤ 10
unfolding count_of
count_small f = on_test (ltb 10 f.count) (λ e. rw e (omega arith)) (λ e. rw e (ltb-false 10 f.count e))

-- the packets from the j-th on: that packet, and those behind it
pub slots-step : (ls ws : List ℕ) (n j : ℕ) → j < n
    → slots_in (n - j) (drop j ls) (drop j ws) ≡ record { letter = get_or ls j 0; len = get_or ws j 0 } ∷ slots_in (n - (j + 1)) (drop (j + 1) ls) (drop (j + 1) ws)
unfolding slots_in
slots-step ls ws n j h =
    let e : n - j ≡ suc (n - (j + 1)) = omega arith in
    rw (e, part-first ls j, part-first ws j, drop-drop 1 j ls, drop-drop 1 j ws)

-- no packets are left
pub slots_end : (ls ws : List ℕ) (n j : ℕ) → n ≤ j → slots_in (n - j) ls ws ≡ []
unfolding slots_in
slots_end ls ws n j h = let e : n - j ≡ 0 = omega arith in rw e

-- the width of the packets from the j-th on
pub width-here : (ls ws : List ℕ) (n j : ℕ) → j < n
    → width_in (slots_in (n - j) (drop j ls) (drop j ws)) ≡ 1 + get_or ws j 0 + width_in (slots_in (n - (j + 1)) (drop (j + 1) ls) (drop (j + 1) ws))
unfolding width_in
width-here ls ws n j h = rw (slots-step ls ws n j h)

-- the width of the first n packets, by the lengths of their values
width-first : (n : ℕ) (ls ws : List ℕ) → n ≤ length ws → sum_by (λ len. 1 + len) (take n ws) ≡ width_in (slots_in n ls ws)
unfolding width_in slots_in
width-first zero ls ws h = refl
width-first (suc n) ls [] h = absurd (omega arith)
width-first (suc n) ls (w ∷ ws) h = sum_by-cons (λ len. 1 + len) w (take n ws) ∙ ap (λ (k : ℕ). 1 + w + k) (width-first n (drop 1 ls) ws (omega arith))

-- and of all of them
pub width_sum : (f : Form) (n : ℕ) → n ≡ count_of f → n ≤ length f.lens → sum_by (λ len. 1 + len) (take n f.lens) ≡ width_of f
unfolding width_of slots_of
width_sum f n e h = rw (← e) (width-first n f.letters f.lens h)
