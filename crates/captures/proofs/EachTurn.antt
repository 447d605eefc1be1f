-- Each turn of the listing goes on or has put all that is left, so that at the end of any run the listing of all is written (rule P5). Assumes nothing.
use Rattle.std.proofs.Common.{◌≡◌, ℕ, ◌+◌, ◌<◌, ◌≤◌, true, eqb, List, [], ◌∷◌, ◌++◌, length, take, sym, refl, ◌∙◌, arith, length-take-le, eq-eqb, ne_eqb, eqb-true, le-leb}
use borrow.Author.Tests.{eqb-false}
use Rattle.laws.proofs.Passes.{on_test}
use Rattle.characters.specs.Marks.{longest}
use Rattle.forms.specs.Lines.{is_line}
use Rattle.text.proofs.Puts.{at_front}
use Rattle.pieces.specs.Line.{bad_line, line_named}
use Rattle.pieces.specs.Turns.{beside}
use Rattle.pieces.specs.Runs.{put_by}
use Rattle.pieces.specs.declared.wants.Wants.{Wants}
use Rattle.pieces.specs.declared.wants.Wants.TheVariants.{Read, Again, End}
use Rattle.pieces.proofs.Named.{line-named}
use Rattle.pieces.proofs.Runs.{Does, goes, over, last, Steps, On, whole_run, good-turns, room}
use Rattle.captures.specs.Listing.{line_room}
use Rattle.captures.specs.declared.lister.Lister.{Lister}
use Rattle.captures.specs.declared.lister.Task.{Task}
use Rattle.captures.specs.declared.lister.Task.TheVariants as task
use Rattle.captures.specs.Part.{lines_of}
use Rattle.captures.specs.Captures.{listing_of}
use Rattle.captures.specs.Lister.{at_first, place_fits, line_for, line_task, read_task, task_for}
use Rattle.captures.specs.Turn.{unnamed, done_by, listing}
use Rattle.captures.specs.Runs.{begun, WholeListing, EachTurn, RoomToRead}
use Rattle.captures.proofs.Shifts.{lines-further}
use Rattle.captures.proofs.Going.{left, known-line, left-lines, Lists, Fits, opening, lists, went}

-- a digit that names no line, and one that does
bad-listing : (digit : ℕ) (s : List ℕ) → line_named digit ≡ 0 → listing_of (digit ∷ s) ≡ bad_line
unfolding listing_of
bad-listing digit s h = rw h

good-listing : (digit : ℕ) (s : List ℕ) → is_line (line_named digit) ≡ true → listing_of (digit ∷ s) ≡ lines_of (line_named digit) 1 0 s 0
unfolding listing_of
good-listing digit s h = rw h

-- a turn that is not refused
module _ (m : Lister) (buf : List ℕ) (got : ℕ) (out : List ℕ) (l : m.held + got ≤ length buf) (space : line_room ≤ length out) where
  abbrev hand : List ℕ
  hand = take (m.held + got) buf

  abbrev Made : Task → Type 0
  Made x = Does listing left Fits m hand got (done_by x m buf (m.held + got) out)

  -- it lists the bytes at hand
  listed : (line : ℕ) → is_line line ≡ true → ((b : List ℕ) → left m (hand ++ b) ≡ lines_of line m.ordinal m.base (hand ++ b) m.next) → m.next ≤ m.held + got
      → (m.wants ≡ Read → got ≡ 0 → ⊥) → Made (task.Lists line)
  listed line known all place some = goes (went m line buf (m.held + got) got out l place space known all some)

  -- it finds no line
  bad-put : put_by (beside buf (unnamed m out)) ≡ bad_line
  unfolding unnamed
  bad-put = at_front bad_line out (omega (arith, space))

  -- the line is known
  module _ (f : Lists m (take m.held buf)) where
    line_made : (m.wants ≡ Read → got ≡ 0 → ⊥) → Made (line_task (line_for m hand))
    unfolding line_task line_for
    line_made some =
        let z = ne_eqb m.line 0 (known-line m.line f.known) in
        rw (z, z) (listed m.line f.known (λ b. left-lines m (hand ++ b) f.known) (omega (arith, f.place)) some)

    by-wants : (v : Wants) → m.wants ≡ v → (v ≡ End → ⊥) → Made (task_for v m got hand)
    unfolding read_task
    by-wants End q going = absurd (going refl)
    by-wants Again q going = line_made (λ r e. let z : ◌≡◌ {A = ℕ} 0 1 = cc in omega arith)
    by-wants Read q going =
        on_test (eqb got 0)
        (λ z.
        let e = eqb-true got 0 z in
        let n : m.held + got ≡ m.held = omega arith in
        rw (z, ne_eqb m.line 0 (known-line m.line f.known)) (last refl e (rw n (sym (left-lines m (take m.held buf) f.known ∙ (f.idle q).0)))))
        (λ z. rw z (line_made (λ r. eqb-false got 0 z)))

-- the first turn
module _ (buf : List ℕ) (got : ℕ) (out : List ℕ) (l : 0 + got ≤ length buf) (space : line_room ≤ length out) where
  first_made : (s : List ℕ) → take (0 + got) buf ≡ s → length s ≡ got → Made at_first buf got out l space (read_task at_first got s)
  unfolding read_task line_task line_for left listing_of unnamed
  first_made [] e h = rw (eq-eqb got 0 (sym h)) (last refl (sym h) (rw e (bad-put at_first buf got out l space)))
  first_made (d ∷ p) e h =
      rw (ne_eqb got 0 (λ z. omega arith))
      (on_test (eqb (line_named d) 0)
      (λ q. rw q (over refl (λ b. rw e (bad-put at_first buf got out l space ∙ sym (bad-listing d (p ++ b) (eqb-true (line_named d) 0 q))))))
      (λ q. rw q
      (listed at_first buf got out l space (line_named d) (line-named d q)
      (λ b. rw e (good-listing d (p ++ b) (line-named d q) ∙ sym (lines-further (line_named d) 18446744073709551615 1 (d ∷ (p ++ b)) 1 0))) (omega arith) (λ r z. omega arith))))

steps : Steps listing left Fits
unfolding place_fits
steps m buf got out (opening e) going l space =
    let n : 0 + got ≤ length buf = rw e at l in
    rw e (refl, first_made buf got out n space (take (0 + got) buf) refl (omega (arith, length-take-le (0 + got) buf n)))
steps m buf got out (lists f) going l space =
    (rw (ne_eqb m.line 0 (known-line m.line f.known), f.known, le-leb m.next m.held f.place), by-wants m buf got out l space f m.wants refl going)

begins : (buf : List ℕ) → On listing left Fits steps listing_of (begun buf)
unfolding left
begins buf = record { held = omega arith; on = λ b. refl; fits = opening refl; going = λ q. let z : ◌≡◌ {A = ℕ} 0 1 = cc in omega arith }

pub whole-listing : WholeListing
whole-listing buf = whole_run listing left Fits steps listing_of (begun buf) (begins buf)

pub each_turn : EachTurn
each_turn buf = good-turns listing left Fits steps listing_of (begun buf) (begins buf)

pub room-to-read : RoomToRead
room-to-read buf = room listing left Fits steps listing_of (begun buf) (begins buf) few
  where
    few : (m : Lister) (held : List ℕ) → Fits m held → length held ≡ m.held → m.wants ≡ Read → m.held < longest
    few m held (opening o) e q = rw o (omega arith)
    few m held (lists f) e q = omega (arith, (f.idle q).1)
