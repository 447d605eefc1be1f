-- Things one behind the other, put and taken. Assumes nothing.
use mathlib.Core.Path.{◌≡◌, refl, sym, ap, subst, ◌∙◌}
use mathlib.Core.Bool.{Bool}
use mathlib.Core.List.{List, [], ◌∷◌, ◌++◌, append-nil}
use Prim.Native.Nat.{ℕ, zero, suc, ◌+◌, ◌*◌, ◌≤◌, ◌<◌}
use native.Mathlib.Omega.{arith}
use native.Mathlib.Numerals.{add-one}
use lib.ListN.{length, take, drop, get_or, length-append, drop_of_length-le}
use lib.Seq.{take_at, drop_at, drop-drop, drop-cons}
use borrow.Author.Tests.{eq-eqb, ne_eqb}
use denote.Param.Members.{Mut}
use Rattle.std.specs.Array.{IsFromFnResultFrom, IsFromFnResult}
use Rattle.std.specs.Iterator.{ActsAs}
use Rattle.laws.specs.Truth.{All}
use Rattle.text.specs.Fields.{same_text}
use Rattle.text.specs.Putting.{puts, placed}
use Rattle.text.proofs.Puts.{with-room}
use Rattle.blocks.specs.Layout.{joined, each, filled}

-- what fills an output stands there alone
pub fills : (t out : List ℕ) (r : ℕ) (x : List ℕ) → length out ≡ length t → (r, x) ≡ puts t 0 out → x ≡ t
unfolding placed
fills t out r x h e =
    ap (λ (y : ℕ × List ℕ). y.1) (e ∙ with-room t 0 out (omega arith)) ∙ rw (drop_of_length-le out {i = 0 + length t} (omega arith), append-nil)

-- so bytes that were written again are compared with a block
pub again-same : (t out b : List ℕ) (r : ℕ) (x : List ℕ) (same : Bool) → length out ≡ length t → (r, x) ≡ puts t 0 out → same ≡ same_text x b → same ≡ same_text t b
again-same t out b r x same h e g = g ∙ ap (λ (y : List ℕ). same_text y b) (fills t out r x h e)

-- a block of their length takes bytes
pub filled-with : (size : ℕ) (t b : List ℕ) → length b ≡ size → filled size t b ≡ t
unfolding filled
filled-with size t b h = rw (eq-eqb (length b) size h)

pub fill : (size : ℕ) (t b : List ℕ) (r : ℕ) (x : List ℕ) → length t ≡ size → length b ≡ size → (r, x) ≡ puts t 0 b → x ≡ filled size t b
fill size t b r x l h e = fills t b r x (h ∙ sym l) e ∙ sym (filled-with size t b h)

-- any other does not
pub unfilled : (size : ℕ) (t b : List ℕ) → (length b ≡ size → ⊥) → b ≡ filled size t b
unfolding filled
unfilled size t b h = rw (ne_eqb (length b) size h)

module _ {A : Type 0} (bytes_of : A → List ℕ) where
  -- a thing, and those behind it
  pub one-here : (d : A) (xs : List A) (i : ℕ) → i < length xs → joined bytes_of (drop i xs) ≡ bytes_of (get_or xs i d) ++ joined bytes_of (drop (i + 1) xs)
  unfolding joined
  one-here d xs i h = rw (add-one i, drop-cons xs i d h)

  -- none is left
  pub none_here : (xs : List A) (i : ℕ) → length xs ≤ i → joined bytes_of (drop i xs) ≡ []
  unfolding joined
  none_here xs i h = rw (drop_of_length-le xs {i = i} h)

  -- each in so many bytes
  pub joined_length : (width : ℕ) → ((x : A) → length (bytes_of x) ≡ width) → (xs : List A) → length (joined bytes_of xs) ≡ length xs * width
  unfolding joined
  joined_length width w [] = omega arith
  joined_length width w (x ∷ xs) = let h = joined_length width w xs in let k = w x in simp length-append (omega arith)

module _ {A : Type 0} (width : ℕ) (thing_in : List ℕ → A) where
  -- calls at each place in turn take what stands there
  taken-from : {F : Type 0} (g : Mut F (ℕ × Unit {0}) A) (b : List ℕ) (ys : List A) (n i : ℕ) (f : F) → ActsAs g f (λ (k : ℕ). thing_in (take width (drop (width * k) b)))
      → length ys ≡ i + n → IsFromFnResultFrom g f ys i n → drop i ys ≡ each width thing_in n (drop (width * i) b)
  unfolding each
  taken-from g b ys zero i f acts l h = drop_of_length-le ys {i = i} (omega arith)
  taken-from {F} g b ys (suc n) i f acts l (q, y, e, call, rest) =
      let a = acts i y q call in
      let on = taken-from g b ys n (i + 1) q (subst (λ (z : F). ActsAs g z (λ (k : ℕ). thing_in (take width (drop (width * k) b)))) (sym a.0) acts) (omega arith) rest in
      let w : width * i + width ≡ width * (i + 1) = omega arith in
      drop-cons ys i y (omega arith) ∙ (rw (← (add-one i), e.0, drop-drop width (width * i) b, w, on) (ap (λ (x : A). x ∷ each width thing_in n (drop (width * (i + 1)) b)) a.1))

  pub all-taken : {F : Type 0} {g : Mut F (ℕ × Unit {0}) A} {f : F} {ys : List A} {n : ℕ} → IsFromFnResult g f ys n → (b : List ℕ)
      → ActsAs g f (λ (k : ℕ). thing_in (take width (drop (width * k) b))) → ys ≡ each width thing_in n b
  all-taken {F} {g} {f} {ys} {n} r b acts =
      let w : width * 0 ≡ 0 = omega arith in
      rw w at (taken-from g b ys n 0 f acts (omega (arith, r.long)) r.each)

  -- what was put is taken again
  pub each_back : (bytes_of : A → List ℕ) → ((x : A) → length (bytes_of x) ≡ width) → (P : A → Type 0) → ((x : A) → P x → thing_in (bytes_of x) ≡ x)
      → (xs : List A) → All P xs → each width thing_in (length xs) (joined bytes_of xs) ≡ xs
  unfolding joined each
  each_back bytes_of w P back [] p = refl
  each_back bytes_of w P back (x ∷ xs) (q, p) =
      rw (take_at (bytes_of x) (joined bytes_of xs) width (w x), drop_at (bytes_of x) (joined bytes_of xs) width (w x), back x q, each_back bytes_of w P back xs p)
