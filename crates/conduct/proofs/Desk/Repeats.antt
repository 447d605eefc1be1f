-- A repeat gives the stored bytes unchanged, handles nothing and takes nothing from the queue (rule D7). Assumes nothing.
use mathlib.Core.Path.{◌≡◌, refl, sym, ap, ◌∙◌}
use mathlib.Core.Bool.{Bool, true, false, cond}
use mathlib.Core.List.{List}
use Prim.Native.Nat.{ℕ}
use native.Mathlib.Omega.{arith}
use lib.Dec.{eqb, leb}
use lib.ListN.{length, get_or}
use borrow.Author.Tests.{leb-true, leb-false, eq-eqb}
use Rattle.laws.specs.Truth.{from}
use Rattle.laws.proofs.Truths.{clash, both_left}
use Rattle.laws.proofs.Passes.{on_test}
use Rattle.records.specs.Refusals.{No}
use Rattle.records.specs.Answers.{Answer, accepted}
use Rattle.records.specs.Answers as w
use Rattle.reading.specs.Reading.{reading_of}
use Rattle.writing.specs.Writing.{sent_of}
use Rattle.characters.specs.Marks.{longest}
use Rattle.clock.specs.Counters.{is_number, number_in}
use Rattle.desk.specs.Deciding.{What, contents, Ruling, silent, fault, handle, repeats, matter_in, good_frame, bad_frame, ruled_by, ruling_in}
use Rattle.desk.specs.Deciding as r
use Rattle.desk.proofs.Rulings.{by_number, good-repeat, when-accepted, when-refused, bad-contents}
use Rattle.desk.specs.Heard.{repeat}
use Rattle.desk.specs.Panel.{loses_line, noted_of}
use Rattle.desk.specs.Hearing.{Hearing, faulted_of, repeated_of, handled_of, applied_of, ruling}
use Rattle.desk.specs.declared.state.Desk.{Desk}
use Rattle.desk.proofs.Sendings.{hear-room, hear-applied}
use Rattle.conduct.specs.Desk.Calls.{noted}
use Rattle.conduct.specs.Desk.Repeats.{RepeatStored, RepeatTold, ReadAgain, ContentsAgain}
use Rattle.conduct.proofs.Desk.Steps.{never}

-- a repeat needs a good line, and the last number taken
module _ (line : ℕ) (good : Bool) (last n : ℕ) (what : What) where
  good-again : (number : ℕ) (that : What) → good_frame good last number that ≡ r.repeat n what → good ≡ true
  unfolding good_frame repeats
  good-again number that e = both_left good _ (go (repeats good last number) e)
    where
      go : (b : Bool) → cond b (r.repeat number that) (handle number that) ≡ r.repeat n what → b ≡ true
      go true e = refl
      go false e = never (cc)

  bad-again : (x : No) (byte : ℕ) → bad_frame good last x byte ≡ r.repeat n what → good ≡ true
  unfolding bad_frame
  bad-again x byte e = go (eqb x.number 6) (is_number byte) (from 8 11 x.number) e
    where
      go : (a b c : Bool)
          → cond a (cond b (fault x (number_in byte)) (silent x)) (cond c (good_frame good last (number_in byte) (contents x)) (silent x)) ≡ r.repeat n what
          → good ≡ true
      go true true c e = never (cc)
      go true false c e = never (cc)
      go false b true e = good-again (number_in byte) (contents x) e
      go false b false e = never (cc)

  again-good : (frame : List ℕ) → ruling_in line good last frame ≡ r.repeat n what → good ≡ true
  unfolding ruling_in
  again-good frame e = go (reading_of line frame) e
    where
      go : (a : Answer) → ruled_by line good last (get_or frame 4 0) a ≡ r.repeat n what → good ≡ true
      go (accepted rec number) e = good-again number (matter_in line rec) e
      go (w.refused x) e = bad-again x (get_or frame 4 0) e

-- where the line is good after the first rule, that rule changes nothing
noted-good : (d : Desk) (b : Bool) → (noted_of d b).good ≡ true → noted_of d b ≡ d
unfolding noted_of
noted-good d true h = clash h
noted-good d false h = refl

-- the last number taken, on a good line
same_number : (good : Bool) (last : ℕ) → good ≡ true → repeats good last last ≡ true
same_number good last g = sym (by_number good last last g) ∙ eq-eqb last last refl

pub repeat-stored : RepeatStored
unfolding repeated_of sent_of
repeat-stored d f at frame out room n what e =
    let g = noted-good d (loses_line d at) (again-good (noted d at).line (noted d at).good (noted d at).last.0 n what frame e) in
    sym (hear-applied d at frame out f.ranged room (loses_line d at) refl (noted d at) refl (r.repeat n what) (sym e)) ∙ ap (λ (x : Desk). repeated_of x out) g

-- only a repeat tells of one
only-again : (d : Desk) (at : ℕ) (out : List ℕ) (n : ℕ) (s : Ruling) → (applied_of (noted d at) (loses_line d at) at s out).1 ≡ repeat n → (k : ℕ) × (what : What) × (s ≡ r.repeat k what)
unfolding faulted_of handled_of
only-again d at out n (r.silent x) e = never (cc)
only-again d at out n (r.fault x k) e = never (cc)
only-again d at out n (r.repeat k what) e = (k, what, refl)
only-again d at out n (r.handle k what) e = never (cc)

pub repeat-told : RepeatTold
repeat-told d f at frame out n e =
    on_test (leb longest (length out))
    (λ b.
    let room = leb-true longest (length out) b in
    let h = hear-applied d at frame out f.ranged room (loses_line d at) refl (noted d at) refl (ruling (noted d at) frame) refl in
    let o = only-again d at out n (ruling (noted d at) frame) (ap (λ (x : Hearing). x.1) h ∙ e) in
    repeat-stored d f at frame out room o.0 o.1 o.2)
    (λ b.
    let h = ap (λ (x : Hearing). x.1) (hear-room d at frame out f.ranged (leb-false longest (length out) b)) in
    never (cc))

pub read-again : ReadAgain
unfolding noted_of
read-again d at frame rec q g l =
    rw l
    (sym (good-repeat d.good d.last.0 d.last.0 (matter_in d.line rec) (same_number d.good d.last.0 g)
    ∙ when-accepted d.line d.good d.last.0 frame rec d.last.0 (sym q)))

pub contents-again : ContentsAgain
unfolding noted_of
contents-again d at frame x q a b e g l =
    rw l
    (sym (good-repeat d.good d.last.0 d.last.0 (contents x) (same_number d.good d.last.0 g)
    ∙ bad-contents d.good d.last.0 x (get_or frame 4 0) (λ z. omega arith) a (omega arith) d.last.0 (omega arith)
    ∙ when-refused d.line d.good d.last.0 frame x (get_or frame 4 0) (sym q) refl))
