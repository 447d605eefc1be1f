-- Frames byte by byte. Assumes nothing.
use Rattle.std.proofs.Common.{◌≡◌, ℕ, zero, suc, ◌+◌, ◌<◌, ◌≤◌, false, eqb, List, [], ◌∷◌, length, get_or, drop, sym, refl, ap, ◌∙◌, ap₂, add-one, arith, drop_of_length-le, drop-cons, eqb-true}
use Rattle.laws.specs.Text.{codes}
use Rattle.laws.specs.Truth.{All, one_of}
use Rattle.laws.proofs.Truths.{clash}
use Rattle.laws.proofs.Passes.{on_test}
use Rattle.text.specs.Frames.{end_meant, byte_meant, passed, meant_on, meant_by, shown_byte, shown_as, ShownMeans}

-- the bytes behind so many characters are those of the rest
behind : (k : ℕ) (t : List ℕ) → meant_on k t ≡ meant_on 0 (drop k t)
unfolding meant_on
behind zero t = refl
behind (suc k) [] = refl
behind (suc k) (b ∷ t) = behind k t

-- one byte more
unfolded : (x : ℕ) (t : List ℕ) → meant_on 0 (x ∷ t) ≡ byte_meant (x ∷ t) ∷ meant_on 0 (drop (passed x) t)
unfolding meant_on
unfolded x t = ap (λ (u : List ℕ). byte_meant (x ∷ t) ∷ u) (behind (passed x) t)

pub meant_here : (s t u : List ℕ) (x b : ℕ) → s ≡ x ∷ t → u ≡ drop (passed x) t → b ≡ byte_meant s → meant_on 0 s ≡ b ∷ meant_on 0 u
meant_here s t u x b d h e = ap (meant_on 0) d ∙ unfolded x t ∙ ap₂ (λ (y : ℕ) (v : List ℕ). y ∷ meant_on 0 v) (ap byte_meant (sym d) ∙ sym e) (sym h)

pub shown-here : (s : List ℕ) (i b : ℕ) → i < length s → b ≡ shown_byte (get_or s i 0) → shown_as (drop i s) ≡ b ∷ shown_as (drop (i + 1) s)
unfolding shown_as
shown-here s i b l e = rw (add-one i, drop-cons s i 0 l, e)

-- no byte is left
pub meant_done : (s : List ℕ) → length s ≡ 0 → meant_on 0 s ≡ []
unfolding meant_on
meant_done [] h = refl
meant_done (b ∷ s) h = let z : ⊥ = omega arith in absurd z

pub shown-done : (s : List ℕ) (i : ℕ) → length s ≤ i → shown_as (drop i s) ≡ []
unfolding shown_as
shown-done s i h = rw (drop_of_length-le s {i = i} h)

-- bytes without < = > mean themselves where they are shown
itself : (b : ℕ) → one_of (codes "<=>") b ≡ false → (eqb b 60 ≡ false) × (eqb b 61 ≡ false) × (eqb b 62 ≡ false)
itself b h =
    on_test (eqb b 60) (λ e. clash (sym h ∙ rw e))
    (λ e. on_test (eqb b 61) (λ f. clash (sym h ∙ rw (e, f))) (λ f. on_test (eqb b 62) (λ g. clash (sym h ∙ rw (e, f, g))) (λ g. (e, f, g))))

byte-again : (b : ℕ) (t : List ℕ) → one_of (codes "<=>") b ≡ false → byte_meant (shown_byte b ∷ t) ≡ b
unfolding byte_meant shown_byte end_meant
byte-again b t h =
    let k = itself b h in
    on_test (eqb b 10) (λ e. rw e (sym (eqb-true b 10 e)))
    (λ e. on_test (eqb b 13) (λ f. rw (e, f) (sym (eqb-true b 13 f))) (λ f. rw (e, f, k.1, k.0, k.2)))

alone : (b : ℕ) → one_of (codes "<=>") b ≡ false → passed (shown_byte b) ≡ 0
unfolding passed shown_byte
alone b h =
    let k = itself b h in
    on_test (eqb b 10) (λ e. rw e) (λ e. on_test (eqb b 13) (λ f. rw (e, f)) (λ f. rw (e, f, k.1)))

again : (s : List ℕ) → All (λ (b : ℕ). one_of (codes "<=>") b ≡ false) s → meant_on 0 (shown_as s) ≡ s
unfolding meant_on shown_as
again [] h = refl
again (b ∷ s) h = rw (alone b h.0, byte-again b (shown_as s) h.0, again s h.1)

pub shown-means : ShownMeans
unfolding meant_by
shown-means s h = again s h
