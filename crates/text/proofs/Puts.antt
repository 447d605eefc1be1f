-- Texts put into an output one behind the other. Assumes nothing.
use Rattle.std.proofs.Common.{◌≡◌, ℕ, suc, ◌+◌, ◌-◌, ◌<◌, ◌≤◌, List, [], ◌∷◌, ◌++◌, length, take, drop, set, sym, refl, ap, ◌∙◌, append_assoc}
use Rattle.std.proofs.Common.{add-zero, add-suc, suc-add, zero-add, arith, length-append, length-drop, length-set, min, take-append-drop}
use Rattle.std.proofs.Common.{length-take-le, take_all, drop-drop, take-suc-set, take_at, drop-set-lt, drop_at, le-ltb, lt-ltb}
use Rattle.std.proofs.Math.Seq.{take-nil}
use Rattle.laws.proofs.Passes.{order}
use Rattle.text.specs.Putting.{puts, placed}

-- nothing is put into an output that is full
pub full : (t : List ℕ) (at : ℕ) (out : List ℕ) → length out ≤ at → puts t at out ≡ (at, out)
unfolding puts
full [] at out h = refl
full (b ∷ t) at out h = rw (le-ltb at (length out) h)

-- one text, and another at the place behind it, are both as one text
joined : (t u : List ℕ) (at : ℕ) (out : List ℕ) → puts u (puts t at out).0 (puts t at out).1 ≡ puts (t ++ u) at out
unfolding puts
joined [] u at out = refl
joined (b ∷ t) u at out =
    order at (length out)
    (λ l. rw (lt-ltb at (length out) l) (joined t u (suc at) (set out at b)))
    (λ m. rw (le-ltb at (length out) m) (full u at out m))

pub onward : (t u : List ℕ) (at : ℕ) (out : List ℕ) (a : ℕ) (o : List ℕ) → (a, o) ≡ puts t at out → puts u a o ≡ puts (t ++ u) at out
onward t u at out a o h = ap (λ (y : ℕ × List ℕ). puts u y.0 y.1) h ∙ joined t u at out

pub then : (t u : List ℕ) (at : ℕ) (out : List ℕ) (a r : ℕ) (o x : List ℕ) → (a, o) ≡ puts t at out → (r, x) ≡ puts u a o → (r, x) ≡ puts (t ++ u) at out
then t u at out a r o x h g = g ∙ onward t u at out a o h

-- the next part of what is left of a text, and then the rest
pub part-on : (t u : List ℕ) (at : ℕ) (out : List ℕ) (a : ℕ) (o : List ℕ) {left : List ℕ} {whole : ℕ × List ℕ} → (a, o) ≡ puts t at out → left ≡ t ++ u → puts left at out ≡ whole → puts u a o ≡ whole
part-on t u at out a o h e g = onward t u at out a o h ∙ ap (λ (x : List ℕ). puts x at out) (sym e) ∙ g

-- where all of a text has room
pub with-room : (t : List ℕ) (at : ℕ) (out : List ℕ) → at + length t ≤ length out → puts t at out ≡ placed t at out
unfolding puts placed
with-room [] at out h = rw (add-zero at, take-append-drop at out)
with-room (b ∷ t) at out h =
    let l : at < length out = omega arith in
    let r : suc at + length t ≤ length (set out at b) = rw length-set (omega arith) in
    rw (lt-ltb at (length out) l)
    (with-room t (suc at) (set out at b) r
    ∙ rw (suc-add at (length t), ← (add-suc at (length t)), take-suc-set out at b l, drop-set-lt (at + suc (length t)) out at b (omega arith), append_assoc))

-- what has no room is dropped
cut : (t : List ℕ) (at : ℕ) (out : List ℕ) → puts t at out ≡ puts (take (length out - at) t) at out
unfolding puts
cut [] at out = rw (take-nil (length out - at))
cut (b ∷ t) at out =
    order at (length out)
    (λ l.
    let e : length out - at ≡ suc (length out - suc at) = omega arith in
    let f : length (set out at b) - suc at ≡ length out - suc at = rw length-set in
    rw (e, lt-ltb at (length out) l, ← f) (cut t (suc at) (set out at b)))
    (λ m. let e : length out - at ≡ 0 = omega arith in rw (e, le-ltb at (length out) m))

-- a text that was put in front of an output stands there
pub at_front : (t out : List ℕ) → length t ≤ length out → take (puts t 0 out).0 (puts t 0 out).1 ≡ t
unfolding placed
at_front t out h = rw (with-room t 0 out (omega arith)) (take_at t (drop (0 + length t) out) (0 + length t) (sym (zero-add (length t))))

-- as much of a text as there is of it
pub take-least : (t : List ℕ) (m n : ℕ) → n ≡ min (length t) m → take m t ≡ take n t
take-least t m n h =
    order m (length t) (λ l. let e : m ≡ n = omega arith in rw e)
    (λ l. let e : length t ≤ n = omega arith in take_all m t l ∙ sym (take_all n t e))

-- as much of a text as has room was copied into its stretch of an output
pub in-stretch : (t : List ℕ) (at n k : ℕ) (out new : List ℕ) → at ≤ length out → n ≡ min (length t) (length out - at) → k ≡ n → new ≡ take n t
    → (at + n, take at out ++ (new ++ drop k (drop at out))) ≡ puts t at out
unfolding placed
in-stretch t at n k out new h q e f =
    let l : length (take n t) ≡ n = length-take-le n t (omega arith) in
    let p = with-room (take n t) at out (omega arith) in
    rw (e, f, drop-drop n at out) (sym (cut t at out ∙ ap (λ (x : List ℕ). puts x at out) (take-least t (length out - at) n q) ∙ p ∙ rw l))

-- nothing is left of a text
pub put_all : (left text : List ℕ) (at : ℕ) (out : List ℕ) (a : ℕ) (o : List ℕ) → left ≡ [] → puts left a o ≡ puts text at out → (a, o) ≡ puts text at out
unfolding puts
put_all left text at out a o e h = rw e at h

-- a text placed in an output
module _ (t out : List ℕ) (at : ℕ) (h : at ≤ length out) where
  pub put-length : length (placed t at out).1 ≡ at + length t + (length out - (at + length t))
  unfolding placed
  put-length = omega (arith, length-append (take at out) (t ++ drop (at + length t) out), length-append t (drop (at + length t) out), length-take-le at out h, length-drop (at + length t) out)

  front : length (take at out ++ t) ≡ at + length t
  front = omega (arith, length-append (take at out) t, length-take-le at out h)

  split : (placed t at out).1 ≡ (take at out ++ t) ++ drop (at + length t) out
  unfolding placed
  split = sym (append_assoc (take at out) t (drop (at + length t) out))

  pub put-take : take (at + length t) (placed t at out).1 ≡ take at out ++ t
  put-take = rw split (take_at (take at out ++ t) (drop (at + length t) out) (at + length t) front)

  pub put-drop : (n : ℕ) → at + length t ≤ n → drop n (placed t at out).1 ≡ drop n out
  put-drop n g =
      let k : at + length t + (n - (at + length t)) ≡ n = omega arith in
      let d : drop (at + length t) (placed t at out).1 ≡ drop (at + length t) out = rw split (drop_at (take at out ++ t) (drop (at + length t) out) (at + length t) front) in
      ap (λ (i : ℕ). drop i (placed t at out).1) (sym k) ∙ sym (drop-drop (n - (at + length t)) (at + length t) (placed t at out).1)
      ∙ ap (drop (n - (at + length t))) d ∙ drop-drop (n - (at + length t)) (at + length t) out ∙ ap (λ (i : ℕ). drop i out) k
