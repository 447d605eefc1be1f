-- Both round trips of reading and writing, and what follows from them (rules W7, W8). Assumes nothing.
use mathlib.Core.Path.{◌≡◌, refl, sym, ◌∙◌}
use mathlib.Core.Bool.{true}
use Prim.Native.Nat.{ℕ, ◌+◌}
use native.Mathlib.Omega.{arith}
use lib.ListN.{length}
use borrow.Author.Tests.{lt-ltb, le-leb}
use Rattle.forms.specs.Forms.{width_of}
use Rattle.records.specs.Records.{type_of, letter_of}
use Rattle.values.specs.Values.{row_of, permits_record, length_of}
use Rattle.values.proofs.Recorded.{length-row}
use Rattle.records.specs.declared.records.Record.{Record}
use Rattle.writing.specs.Writing.{telegram_of, writing_of, sent_of, send_of}
use Rattle.writing.specs.Trips.{WrittenReads, ReadPermitted, OneRecord, OneText, OneTelegram, TelegramLength, LengthBounds, Output, SentWhole}
use Rattle.writing.proofs.RoundTrips.Rows.{row}
use Rattle.writing.proofs.RoundTrips.Records.{permitted-found, permitted-line}
use Rattle.writing.proofs.RoundTrips.Checks.{passes-accepted, accepted-only}
use Rattle.writing.proofs.RoundTrips.Written.{written-carried, written-carries, written-framed, written-number, written-length}
use Rattle.writing.proofs.RoundTrips.Frames.{framed-number}
use Rattle.writing.proofs.RoundTrips.Read.{carried-permitted, carried-telegram}

pub written-reads : WrittenReads
written-reads line rec number h n =
    passes-accepted line (telegram_of line rec number) (written-framed line rec h number n) (written-carried line rec h number)
    ∙ rw (written-carries line rec h number, written-number line rec h number)

pub read-permitted : ReadPermitted
read-permitted line s rec number h =
    let a = accepted-only line s rec number h in
    let p = rw a.carries at (carried-permitted line s a.framed a.carried) in (
      permitted-line line rec p,
      (
        p,
        (
          rw a.numbered at (framed-number s a.framed),
          rw (a.carries, a.numbered) at (carried-telegram line s a.framed a.carried),
        ),
      ),
    )

pub one-telegram : OneTelegram
one-telegram line = (one-record, one-text)
  where
    one-record : OneRecord line
    one-record r q m n h k a b e =
        let x = written-reads line r m h a in
        let y = written-reads line q n k b in
        (cc, cc)

    one-text : OneText line
    one-text s t r n h k = sym (read-permitted line s r n h).1.1.1 ∙ (read-permitted line t r n k).1.1.1

-- the length of a permitted record's telegram is its form's width and 8 more
form-length : (line : ℕ) (rec : Record) → permits_record line rec ≡ true → 8 + width_of (row_of line rec).form ≡ length_of line rec
form-length line rec h = length-row line rec (row_of line rec) refl (permitted-found line rec h)

pub telegram-length : TelegramLength
telegram-length line rec number h = written-length line rec h number ∙ form-length line rec h

pub length-bounds : LengthBounds
length-bounds line rec h = let r = row line (type_of rec) (letter_of rec) (permitted-found line rec h) in omega (arith, form-length line rec h, r.wide, r.narrow)

pub output : Output
unfolding writing_of
output line rec number out h n room = rw (permitted-line line rec h, permitted-found line rec h, h, lt-ltb number 2 n, le-leb (length_of line rec) (length out) room)

pub sent-whole : SentWhole
unfolding send_of sent_of
sent-whole line rec number out h n room =
    rw (output line rec number out h n (omega (arith, (length-bounds line rec h).1)), telegram-length line rec number h)
