-- What a search of the table of forms finds: a row that passes the test, which has what each row has. Assumes nothing.
use mathlib.Core.Path.{◌≡◌, refl, sym, ◌∙◌}
use mathlib.Core.Bool.{Bool, true}
use mathlib.Core.List.{List, [], ◌∷◌}
use Prim.Native.Nat.{ℕ}
use lib.Dec.{eqb}
use lib.ListN.{length}
use borrow.Author.Tests.{eqb-true, eq-eqb}
use Rattle.laws.specs.Truth.{every, All}
use Rattle.laws.proofs.Truths.{clash, both_left, both_right, both_true}
use Rattle.laws.proofs.Passes.{on_test, from-passes}
use Rattle.forms.specs.Lines.{lines, line_numbers, is_line}
use Rattle.forms.specs.Forms.{forms, on_line, of_type, of_letter, first_letter, look_in, type_row, form_of}
use Rattle.forms.specs.declared.rows.Form.{Form}

-- what holds of each line's number holds of every line that there is
pub each_line : (test : ℕ → Bool) → every test line_numbers ≡ true → (line : ℕ) → is_line line ≡ true → test line ≡ true
each_line test h line l = from-passes test 1 (length lines) line h l

-- what is found among rows passes the test and has what each row has
found_in : (P : Form → Type 0) (test : Form → Bool) (fs : List Form) → All P fs → (look_in fs test).found ≡ true → P (look_in fs test).form × (test (look_in fs test).form ≡ true)
unfolding look_in
found_in P test [] a h = clash h
found_in P test (f ∷ fs) a h =
    on_test (test f)
    (λ e. rw e (a.0, e))
    (λ e. rw e (found_in P test fs a.1 (rw e at h)))

-- a test that some row passes finds one where another test holds of that row too
pub wider : (s t : Form → Bool) → ((f : Form) → s f ≡ true → t f ≡ true) → (fs : List Form) → (look_in fs s).found ≡ true → (look_in fs t).found ≡ true
unfolding look_in
wider s t imp [] h = h
wider s t imp (f ∷ fs) h =
    on_test (t f)
    (λ e. rw e refl)
    (λ e. on_test (s f) (λ q. clash (sym e ∙ imp f q)) (λ q. rw e (wider s t imp fs (rw q at h))))

-- the first row that passes a test is the first that passes a narrower one which it passes
first-still : (s t : Form → Bool) → ((f : Form) → s f ≡ true → t f ≡ true) → (fs : List Form)
    → (look_in fs t).found ≡ true → s (look_in fs t).form ≡ true → look_in fs s ≡ look_in fs t
unfolding look_in
first-still s t imp [] h k = refl
first-still s t imp (f ∷ fs) h k =
    on_test (t f)
    (λ e. rw (e, rw e at k) refl)
    (λ e. on_test (s f) (λ q. clash (sym e ∙ imp f q)) (λ q. rw (e, q) (first-still s t imp fs (rw e at h) (rw e at k))))

-- a row of a type, on a line, that has what each row has
pub record Found (P : Form → Type 0) (line type : ℕ) (f : Form) : Type 0 where
  pub has : P f
  pub of-type : f.kind ≡ type
  pub on_line : on_line f line ≡ true

module _ (P : Form → Type 0) (line type : ℕ) (a : All P forms) where
  -- a row that passes the test of the type is one
  is_found : (f : Form) → P f → of_type line type f ≡ true → Found P line type f
  is_found f p e = record { has = p; of-type = eqb-true _ _ (both_left _ (on_line f line) e); on_line = both_right (eqb f.kind type) _ e }

  -- the type's first row is such a row
  pub found_type : (type_row line type).found ≡ true → Found P line type (type_row line type).form
  unfolding type_row
  found_type h = let r = found_in P (of_type line type) forms a h in is_found _ r.0 r.1

  -- so is the row of a type and a letter
  pub found-row : (letter : ℕ) → (form_of line type letter).found ≡ true → Found P line type (form_of line type letter).form
  unfolding form_of
  found-row letter h =
      on_test (look_in forms (of_letter line type letter)).found
      (λ e. let r = found_in P (of_letter line type letter) forms a e in rw e (is_found _ r.0 (both_right (eqb (first_letter (look_in forms (of_letter line type letter)).form) letter) _ r.1)))
      (λ e. rw e (found_type (rw e at h)))

-- so a type is found on no line that there is not
pub found-line : (line type letter : ℕ) → (form_of line type letter).found ≡ true → is_line line ≡ true
unfolding on_line
found-line line type letter h =
    both_left (is_line line) _ (found-row (λ (f : Form). Unit {0}) line type (unfold forms in search) letter h).on_line

module _ (line type : ℕ) where
  -- the letter does not decide whether a type is found
  pub found-any : (letter : ℕ) → (form_of line type letter).found ≡ (type_row line type).found
  unfolding form_of type_row
  found-any letter =
      on_test (look_in forms (of_letter line type letter)).found
      (λ e. rw (e, wider (of_letter line type letter) (of_type line type) (λ f. both_right (eqb (first_letter f) letter) _) forms e))
      (λ e. rw e)

  -- a row that was found is found again by its own first letter
  pub found-again : (letter : ℕ) → (form_of line type letter).found ≡ true → form_of line type (first_letter (form_of line type letter).form) ≡ form_of line type letter
  unfolding form_of type_row
  found-again letter h =
      on_test (look_in forms (of_letter line type letter)).found
      (λ e.
      let r = found_in (λ (f : Form). Unit {0}) (of_letter line type letter) forms (unfold forms in search) e in
      let k : first_letter (look_in forms (of_letter line type letter)).form ≡ letter = eqb-true _ _ (both_left _ _ r.1) in
      rw (e, k, e))
      (λ e.
      let q = rw e at h in
      let r = found_in (λ (f : Form). Unit {0}) (of_type line type) forms (unfold forms in search) q in
      let f = (look_in forms (of_type line type)).form in
      let own = both_true (eqb (first_letter f) (first_letter f)) _ (eq-eqb (first_letter f) _ refl) r.1 in
      let k = first-still (of_letter line type (first_letter f)) (of_type line type) (λ g. both_right (eqb (first_letter g) (first_letter f)) _) forms q own in
      rw (e, k, q))
