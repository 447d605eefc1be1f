-- Words are found in a table that is laid out as one text: its rows with separators between, and the words of a row with others between. Assumes nothing.
use mathlib.Core.Path.{◌≡◌, refl, ap, ◌∙◌}
use mathlib.Core.Bool.{Bool, true, not}
use mathlib.Core.List.{List, [], ◌∷◌, ◌++◌, map, append_assoc}
use Prim.Native.Nat.{ℕ, zero, suc, ◌≤◌, ◌<◌, ◌+◌}
use native.Mathlib.Omega.{arith}
use lib.Dec.{eqb, leb, ltb}
use lib.ListN.{length, get_or, drop, length-append, get_or-map, get_or-eq_default}
use borrow.Author.Tests.{not-true, ltb-false, leb-true, lt-leb, eq-eqb, ne_eqb}
use Rattle.laws.specs.Truth.{both, every}
use Rattle.laws.proofs.Passes.{on_test}
use Rattle.laws.proofs.Truths.{both_left, both_right, both_true}
use Rattle.text.specs.Fields.{up_to, behind_first, from_field, row_field}
use Rattle.text.specs.Putting.{puts, placed}
use Rattle.text.proofs.Puts.{then, with-room}
use Rattle.in656.specs.Inputs.{byte_or}
use Rattle.in656.specs.declared.results.result.In656Result.{In656Result}
use Rattle.in656.specs.Results.Result.{zeros, with_written}
use Rattle.in656.specs.Words.{bar, line_feed, Table, words_of, worded}

-- texts behind others, each with a separator in front; and texts with separators between
unfoldable pub behind : ℕ → List (List ℕ) → List ℕ
behind separator [] = []
behind separator (x ∷ xs) = separator ∷ (x ++ behind separator xs)

unfoldable pub between : ℕ → List (List ℕ) → List ℕ
between separator [] = []
between separator (x ∷ xs) = x ++ behind separator xs

-- a text without separators
abbrev pub free : ℕ → List ℕ → Bool
free separator x = every (λ (b : ℕ). not (eqb b separator)) x

module _ (separator : ℕ) where
  ends : (xs : List (List ℕ)) → up_to separator (behind separator xs) ≡ []
  unfolding up_to behind
  ends [] = refl
  ends (x ∷ xs) = rw (eq-eqb separator separator refl)

  first : (x rest : List ℕ) → free separator x ≡ true → up_to separator rest ≡ [] → up_to separator (x ++ rest) ≡ x
  unfolding up_to
  first [] rest f e = e
  first (b ∷ x) rest f e =
      rw (not-true (eqb b separator) (both_left (not (eqb b separator)) (free separator x) f), first x rest (both_right (not (eqb b separator)) (free separator x) f) e)

  skipped : (x rest : List ℕ) → free separator x ≡ true → behind_first separator (x ++ rest) ≡ behind_first separator rest
  unfolding behind_first
  skipped [] rest f = refl
  skipped (b ∷ x) rest f =
      rw (not-true (eqb b separator) (both_left (not (eqb b separator)) (free separator x) f)) (skipped x rest (both_right (not (eqb b separator)) (free separator x) f))

  next : (x : List ℕ) (xs : List (List ℕ)) → free separator x ≡ true → behind_first separator (between separator (x ∷ xs)) ≡ between separator xs
  unfolding between behind behind_first
  next x [] f = skipped x [] f
  next x (y ∷ xs) f = skipped x (behind separator (y ∷ xs)) f ∙ rw (eq-eqb separator separator refl)

  -- the text of a number among texts without separators
  pub found : (n : ℕ) (xs : List (List ℕ)) → every (free separator) xs ≡ true → row_field separator n (between separator xs) ≡ get_or xs n []
  unfolding row_field from_field between up_to behind_first
  found zero [] f = refl
  found zero (x ∷ xs) f = first x (behind separator xs) (both_left (free separator x) (every (free separator) xs) f) (ends xs)
  found (suc n) [] f = found n [] f
  found (suc n) (x ∷ xs) f =
      ap (row_field separator n) (next x xs (both_left (free separator x) (every (free separator) xs) f)) ∙ found n xs (both_right (free separator x) (every (free separator) xs) f)

-- a table laid out as one text
abbrev pub laid : Table → List ℕ
laid table = between line_feed (map (between bar) table)

-- it can be found again: each row has few words without bars, and no line feed
abbrev clear : List (List ℕ) → Bool
clear row = both (every (free bar) row) (both (free line_feed (between bar row)) (leb (length row) 255))

abbrev pub orderly : Table → Bool
orderly table = both (every clear table) (leb (length table) 255)

-- a number that is wider than a byte is none of few
narrowed : {A : Type 0} (xs : List A) (d : A) (n : ℕ) → leb (length xs) 255 ≡ true → get_or xs (byte_or 255 n) d ≡ get_or xs n d
unfolding byte_or
narrowed xs d n h =
    let l = leb-true (length xs) 255 h in
    on_test (ltb n 256)
    (λ e. rw e)
    (λ e. let m = ltb-false n 256 e in rw (e, get_or-eq_default xs d {n = 255} l, get_or-eq_default xs d {n = n} (omega arith)))

-- what holds of each row holds of the row of any number, the empty one too
row-clear : (table : Table) (n : ℕ) → every clear table ≡ true → clear (get_or table n []) ≡ true
unfolding between
row-clear [] n h = refl
row-clear (row ∷ table) zero h = both_left (clear row) (every clear table) h
row-clear (row ∷ table) (suc n) h = row-clear table n (both_right (clear row) (every clear table) h)

rows-free : (table : Table) → every clear table ≡ true → every (free line_feed) (map (between bar) table) ≡ true
rows-free [] h = refl
rows-free (row ∷ table) h =
    let c = both_left (clear row) (every clear table) h in
    let f = both_left (free line_feed (between bar row)) (leb (length row) 255) (both_right (every (free bar) row) _ c) in
    both_true (free line_feed (between bar row)) (every (free line_feed) (map (between bar) table)) f (rows-free table (both_right (clear row) (every clear table) h))

-- the words of an outcome and its detail
pub said : (table : Table) (outcome detail : ℕ) → orderly table ≡ true
    → row_field bar (byte_or 255 detail) (row_field line_feed (byte_or 255 outcome) (laid table)) ≡ words_of table outcome detail
unfolding between
said table outcome detail h =
    let rows = both_left (every clear table) (leb (length table) 255) h in
    let few = both_right (every clear table) (leb (length table) 255) h in
    let row = get_or table outcome [] in
    let c = row-clear table outcome rows in
    ap (row_field bar (byte_or 255 detail))
    (found line_feed (byte_or 255 outcome) (map (between bar) table) (rows-free table rows) ∙ get_or-map (between bar) table (byte_or 255 outcome) [] ∙ ap (between bar) (narrowed table [] outcome few))
    ∙ found bar (byte_or 255 detail) row (both_left (every (free bar) row) _ c)
    ∙ narrowed row [] detail (both_right (free line_feed (between bar row)) (leb (length row) 255) (both_right (every (free bar) row) _ c))

-- so the words that were found in a table's text are those of the table
pub worded-by : (table : Table) (outcome detail : ℕ) (words out x : List ℕ) (r : In656Result) → orderly table ≡ true → (r, x) ≡ worded words out
    → words ≡ row_field bar (byte_or 255 detail) (row_field line_feed (byte_or 255 outcome) (laid table)) → (r, x) ≡ worded (words_of table outcome detail) out
worded-by table outcome detail words out x r h p q = p ∙ ap (λ (w : List ℕ). worded w out) (q ∙ said table outcome detail h)

-- words that have room are put with a 0 behind them
pub put : (words out : List ℕ) (n m : ℕ) (o x : List ℕ) (r : In656Result) → (length words ≡ 0 → ⊥) → length words < length out
    → (n, o) ≡ puts words 0 out → (m, x) ≡ puts (0 ∷ []) n o → r ≡ with_written zeros n → (r, x) ≡ worded words out
unfolding worded placed
put words out n m o x r some room p q e =
    let l : 0 + length (words ++ (0 ∷ [])) ≤ length out = rw length-append (omega arith) in
    let k : 0 + length (words ++ (0 ∷ [])) ≡ suc (length words) = omega (arith, length-append words (0 ∷ [])) in
    let z : n ≡ length words = ap (λ (y : ℕ × List ℕ). y.0) (p ∙ with-room words 0 out (omega arith)) ∙ omega arith in
    let y : x ≡ words ++ (0 ∷ drop (suc (length words)) out) =
    ap (λ (y : ℕ × List ℕ). y.1) (then words (0 ∷ []) 0 out n m o x p q ∙ with-room (words ++ (0 ∷ [])) 0 out l)
    ∙ rw (k, append_assoc words (0 ∷ []) (drop (suc (length words)) out)) in
    rw (ne_eqb (length words) 0 some, lt-leb (length out) (length words) room, e, z, y)
