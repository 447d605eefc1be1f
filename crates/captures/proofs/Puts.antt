-- A line from the front of an output, and how long it can be. Assumes nothing.
use Rattle.std.proofs.Common.{◌≡◌, ℕ, ◌^◌, ◌<◌, ◌≤◌, List, length, ap, ◌∙◌, ap₂, zero-add, arith, length-append, le-leb}
use borrow.Author.Tests.{lt-leb}
use Rattle.records.specs.declared.records.Record.{Record}
use Rattle.records.specs.Refusals.{No, no}
use Rattle.records.specs.Answers.{Answer, accepted, refused, written, Write}
use Rattle.text.specs.Numbers.{decimal_text}
use Rattle.text.specs.Items.{refusal_text}
use Rattle.text.specs.Putting.{puts, placed}
use Rattle.text.proofs.Counts.{decimal-length, at-most-twenty}
use Rattle.text.proofs.Puts.{with-room}
use Rattle.captures.specs.Listing.{answer_text, answer_room, line_text, line_room, putting, line_put}

-- a 64-bit number has at most 20 digits
digits : (n : ℕ) → n < 2 ^ 64 → length (decimal_text n) ≤ 20
digits n h = omega (arith, decimal-length n, at-most-twenty n h)

-- room for what a telegram reads as
pub ok-room : (rec : Record) (n : ℕ) → n < 2 ^ 64 → length (answer_text (accepted rec n)) ≤ answer_room
ok-room rec n h = simp length-append (omega (arith, digits n h))

pub no_room : (x : No) → x.number < 2 ^ 64 → x.place < 2 ^ 64 → length (answer_text (refused x)) ≤ answer_room
unfolding refusal_text
no_room x h g = simp length-append (omega (arith, digits x.number h, digits x.place g))

line-room : (ordinal offset : ℕ) (answer : Answer) → ordinal < 2 ^ 64 → offset < 2 ^ 64 → length (answer_text answer) ≤ answer_room → length (line_text ordinal offset answer) ≤ line_room
unfolding line_text
line-room ordinal offset answer h g k = simp length-append (omega (arith, digits ordinal h, digits offset g))

-- the text of a refusal by its number and its place
pub as-no : (x : No) (n p at : ℕ) (out : List ℕ) (r : ℕ) (o : List ℕ) → n ≡ x.number → p ≡ x.place → (r, o) ≡ puts (refusal_text (no n p)) at out → (r, o) ≡ puts (refusal_text x) at out
as-no x n p at out r o e f h = h ∙ ap₂ (λ (i j : ℕ). puts (refusal_text (no i j)) at out) e f

-- no room for a line
pub no_line : (text out : List ℕ) → length out < line_room → (refused (no 14 0), out) ≡ putting text out
unfolding putting
no_line text out h = rw (lt-leb line_room (length out) h)

-- a line from the front
from_front : (t out : List ℕ) (r : ℕ) (x : List ℕ) → line_room ≤ length out → length t ≤ line_room → (r, x) ≡ puts t 0 out → (written r, x) ≡ putting t out
unfolding putting placed
from_front t out r x h g e =
    let p = e ∙ with-room t 0 out (omega arith) in
    rw (le-leb line_room (length out) h) (rw (zero-add (length t)) at (ap {B = Write} (λ (y : ℕ × List ℕ). (written y.0, y.1)) p))

pub whole : (ordinal offset : ℕ) (answer : Answer) (out : List ℕ) (r : ℕ) (x : List ℕ) → line_room ≤ length out → ordinal < 2 ^ 64 → offset < 2 ^ 64
    → length (answer_text answer) ≤ answer_room → (r, x) ≡ puts (line_text ordinal offset answer) 0 out → (written r, x) ≡ line_put ordinal offset answer out
whole ordinal offset answer out r x h p q k e = from_front (line_text ordinal offset answer) out r x h (line-room ordinal offset answer p q k) e
