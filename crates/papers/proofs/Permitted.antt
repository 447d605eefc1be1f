-- The definitions permit just what the texts of the paper say. Assumes nothing.
use mathlib.Core.Path.{◌≡◌, refl, sym, ap, ◌∙◌}
use mathlib.Core.Bool.{Bool, true, false}
use mathlib.Core.List.{List, [], ◌∷◌}
use Prim.Native.Nat.{ℕ, suc, ◌+◌}
use Prim.Native.Char.{code}
use native.Mathlib.Nat.{add-zero}
use native.Mathlib.Numerals.{add-one}
use lib.ListN.{length, get_or, drop}
use lib.Seq.{get_or-drop, drop-drop}
use Rattle.laws.specs.Truth.{both, either, every}
use Rattle.laws.specs.Text.{codes}
use Rattle.laws.specs.Numerals.{number_on}
use Rattle.laws.proofs.Truths.{clash, both_left, both_right}
use Rattle.laws.proofs.Passes.{on-either, same_test, range, from-passes}
use Rattle.characters.specs.Characters.{in_set}
use Rattle.forms.specs.Lines.{up_from, line_of}
use Rattle.forms.specs.Forms.{forms, on_line, look_in, data_type, slots_in, count_of, slots_of}
use Rattle.values.specs.Packets.{lead_of, is_decimal, permits, ruled, permits_number, digit}
use Rattle.values.specs.Values.{narrow, value_of, permitted_from, number_fits, permitted}
use Rattle.reading.specs.Frame.{is_two}
use Rattle.writing.proofs.RoundTrips.Frames.{two-are}
use Rattle.papers.specs.Permitted.{alike, ExactValues, DirectionExact, EachCharacter}

pub exact-values : ExactValues
unfolding in_set line_of forms on_line look_in data_type slots_in count_of slots_of permits
exact-values = refl

-- two tests that are alike: the second holds where the first does
alike-to : (a b : Bool) → alike a b ≡ true → a ≡ true → b ≡ true
alike-to true b h k = h
alike-to false b h k = clash k

-- the values that the paper names
abbrev named : ℕ → ℕ → Bool
named a b = either (is_two (a ∷ b ∷ []) 0 (codes "88")) (is_two (a ∷ b ∷ []) 0 (codes "00"))

module _ (line kind : ℕ) where
  abbrev passes : ℕ → ℕ → Bool
  passes a b = permitted line kind (code "R") (a ∷ b ∷ [])

  -- of two digits they are the permitted ones, computed
  of-digits : every (λ (a : ℕ). every (λ (b : ℕ). alike (passes a b) (named a b)) (range 48 10)) (range 48 10) ≡ true
  unfolding lead_of is_decimal permits ruled permits_number narrow number_on value_of permitted_from number_fits permitted
  of-digits = refl

  -- a permitted value is of two digits
  two_digits : (a b : ℕ) → passes a b ≡ true → (digit a ≡ true) × (digit b ≡ true)
  unfolding permits permitted_from permitted
  two_digits a b h =
      let g = both_left (both (digit a) (both (digit b) true)) _ h in (both_left _ _ g, both_left _ _ (both_right (digit a) _ g))

  passes-named : (a b : ℕ) → passes a b ≡ true → named a b ≡ true
  passes-named a b h =
      let d = two_digits a b h in
      let t = from-passes (λ (a : ℕ). every (λ (b : ℕ). alike (passes a b) (named a b)) (range 48 10)) 48 57 a of-digits d.0 in
      alike-to _ _ (from-passes (λ (b : ℕ). alike (passes a b) (named a b)) 48 57 b t d.1) h

  named-passes : (a b : ℕ) → named a b ≡ true → passes a b ≡ true
  unfolding lead_of is_decimal permits ruled permits_number narrow number_on value_of permitted_from number_fits permitted
  named-passes a b h =
      on-either _ _ h
      (λ k. let t = two-are (a ∷ b ∷ []) 0 (codes "88") k in rw (t.0, t.1))
      (λ k. let t = two-are (a ∷ b ∷ []) 0 (codes "00") k in rw (t.0, t.1))

pub direction-exact : DirectionExact
direction-exact line kind a b = same_test _ _ (passes-named line kind a b) (named-passes line kind a b)

-- the test of each character from a place on
each_from : (line kind letter at : ℕ) (value bs : List ℕ) → drop at value ≡ bs
    → permitted_from line kind letter at bs ≡ every (λ (i : ℕ). permits line kind letter i (get_or value i 0)) (up_from at (length bs))
unfolding permitted_from
each_from line kind letter at value [] e = refl
each_from line kind letter at value (b ∷ bs) e =
    let first : get_or value (at + 0) 0 ≡ b = sym (get_or-drop at value 0 0) ∙ ap (λ (l : List ℕ). get_or l 0 0) e in
    let rest : drop (at + 1) value ≡ bs = sym (drop-drop 1 at value) ∙ ap (λ (l : List ℕ). drop 1 l) e in
    rw (rw (add-zero at) at first, add-one at, each_from line kind letter (suc at) value bs (rw (add-one at) at rest))

-- a test and one that holds are that test
with-true : (a : Bool) → both a true ≡ a
with-true true = refl
with-true false = refl

pub each-character : EachCharacter
unfolding permitted number_fits ruled
each-character line kind letter value h = rw (h, with-true (permitted_from line kind letter 0 value)) (each_from line kind letter 0 value value refl)
