-- Each end sends on each line the types of rules L1 to L4, and no others. Assumes nothing.
use mathlib.Core.Path.{◌≡◌, refl, sym, ◌∙◌}
use mathlib.Core.Bool.{Bool, true, false, cond}
use Prim.Native.Nat.{ℕ}
use Rattle.laws.specs.Truth.{one_of}
use Rattle.laws.proofs.Truths.{both_left, both_right, clash, not-true}
use Rattle.laws.proofs.Passes.{on_test, same_test, every-all, all_map, one_of-passes}
use Rattle.forms.specs.Forms.{forms, on_line, look_in, form_of, by_master, by_slave, data_type, type_row}
use Rattle.forms.specs.declared.rows.Form.{Form}
use Rattle.forms.proofs.Found.{found_type, found-line}
use Rattle.papers.specs.Lines.{Senders, listed_by, paper, SameNumbers, Agrees, Exact, SameLines, NoTwoRows, ExactLines, NoOtherLine}

pub same-numbers : SameNumbers
same-numbers = refl

pub same-lines : SameLines
unfolding forms on_line look_in form_of type_row data_type
same-lines = search

pub no-two-rows : NoTwoRows
unfolding forms on_line
no-two-rows = refl

module _ (l : Senders) (a : Agrees l) (b : ℕ) where
  -- the row of a type on the line is sent by the end that lists the type
  listed : (sender : Bool) → (type_row l.line b).found ≡ true → (type_row l.line b).form.master ≡ sender → one_of (cond sender l.masters l.slaves) b ≡ true
  listed sender h m =
      let r = found_type (λ (f : Form). listed_by l f ≡ true) l.line b (every-all (listed_by l) forms a.rows-listed) h in
      rw (r.on_line, m, r.of-type) at r.has

  -- the types that the master sends
  masters-exact : by_master l.line b ≡ one_of l.masters b
  masters-exact =
      same_test (by_master l.line b) (one_of l.masters b)
      (λ h. listed true (both_left _ _ h) (both_right (type_row l.line b).found _ h))
      (one_of-passes (by_master l.line) l.masters b a.masters-sent)

  -- the types that the slave sends
  slaves-exact : by_slave l.line b ≡ one_of l.slaves b
  slaves-exact =
      same_test (by_slave l.line b) (one_of l.slaves b)
      (λ h. listed false (both_left _ _ h) (not-true _ (both_right (type_row l.line b).found _ h)))
      (one_of-passes (by_slave l.line) l.slaves b a.slaves-sent)

-- a line on which they agree is exact
exact : (l : Senders) → Agrees l → Exact l
exact l a = record { by-master = masters-exact l a; by-slave = slaves-exact l a }

pub exact-lines : ExactLines
exact-lines = all_map Agrees Exact exact paper same-lines

pub no-other-line : NoOtherLine
no-other-line line kind letter h = on_test (form_of line kind letter).found (λ f. clash (sym h ∙ found-line line kind letter f)) (λ f. f)
