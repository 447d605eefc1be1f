-- Loading and saving a state, once for every kind of state. Assumes nothing.
use mathlib.Core.Path.{◌≡◌, sym, ap, ◌∙◌}
use mathlib.Core.Bool.{Bool, true, false}
use mathlib.Core.List.{List}
use Prim.Native.Nat.{ℕ}
use lib.ListN.{length}
use Rattle.laws.proofs.Truths.{clash}
use Rattle.laws.proofs.Passes.{on_test}
use Rattle.text.specs.Fields.{same_text}
use Rattle.text.proofs.Rows.{same-is-equal, equal-is-same}
use Rattle.blocks.specs.Layout.{filled}
use Rattle.blocks.proofs.Laid.{filled-with}
use Rattle.blocks.specs.States.{loaded}

module _ {S : Type 0} (bytes_of : S → List ℕ) (state_at : List ℕ → S) (blank : S) where
  -- the state read, and the blank one
  pub loads : (b : List ℕ) (s : S) → s ≡ state_at b → true ≡ same_text (bytes_of s) b → s ≡ loaded bytes_of state_at blank b
  unfolding loaded
  loads b s e h = let k : same_text (bytes_of (state_at b)) b ≡ true = ap (λ (x : S). same_text (bytes_of x) b) (sym e) ∙ sym h in rw k e

  pub loads-blank : (b : List ℕ) (s x : S) → s ≡ state_at b → false ≡ same_text (bytes_of s) b → x ≡ blank → x ≡ loaded bytes_of state_at blank b
  unfolding loaded
  loads-blank b s x e h f = let k : same_text (bytes_of (state_at b)) b ≡ false = ap (λ (y : S). same_text (bytes_of y) b) (sym e) ∙ sym h in rw k f

  -- what was saved is loaded
  pub loads-saved : (size : ℕ) (s : S) (b : List ℕ) → state_at (bytes_of s) ≡ s → length b ≡ size → loaded bytes_of state_at blank (filled size (bytes_of s) b) ≡ s
  loads-saved size s b e l =
      rw (filled-with size (bytes_of s) b l) (sym (loads (bytes_of s) s (sym e) (sym (equal-is-same (bytes_of s)))))

  module _ (fits : S → Bool) (out : fits blank ≡ false) where
    -- a block that loads as a state in its ranges is that state's
    its-block : (b : List ℕ) → fits (loaded bytes_of state_at blank b) ≡ true → b ≡ bytes_of (loaded bytes_of state_at blank b)
    unfolding loaded
    its-block b h =
        on_test (same_text (bytes_of (state_at b)) b)
        (λ e. rw e (sym (same-is-equal (bytes_of (state_at b)) b e)))
        (λ e. clash (sym out ∙ (rw e at h)))

    pub other : (b : List ℕ) → ((s : S) → fits s ≡ true → b ≡ bytes_of s → ⊥) → fits (loaded bytes_of state_at blank b) ≡ false
    other b h =
        on_test (fits (loaded bytes_of state_at blank b)) (λ e. absurd (h (loaded bytes_of state_at blank b) e (its-block b e))) (λ e. e)

    pub one : (a b : List ℕ) → fits (loaded bytes_of state_at blank a) ≡ true → loaded bytes_of state_at blank a ≡ loaded bytes_of state_at blank b → a ≡ b
    one a b h e = its-block a h ∙ ap bytes_of e ∙ sym (its-block b (sym (ap fits e) ∙ h))
