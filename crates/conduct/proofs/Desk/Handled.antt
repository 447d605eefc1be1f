-- What answers a good frame that is no repeat, row by row, and which answers are N with A (rules D8 to D13). Assumes nothing.
use Rattle.std.specs.Prelude.{Option, None, Some}
use mathlib.Core.Path.{◌≡◌, refl, sym, ap, ◌∙◌}
use mathlib.Core.Bool.{Bool, true, false, cond, not}
use mathlib.Core.List.{List, [], ◌∷◌}
use Prim.Native.Nat.{ℕ, ◌≤◌}
use Prim.Native.Char.{code}
use native.Mathlib.Omega.{arith}
use lib.Dec.{leb, eqb}
use lib.ListN.{length, get_or, take, drop}
use lib.Seq.{take-append_seam}
use borrow.Author.Tests.{leb-true, leb-false, eqb-true, eqb-false, eq-eqb, ne_eqb}
use Rattle.laws.specs.Truth.{from, every}
use Rattle.laws.proofs.Truths.{clash, both_left, both_right, not-true}
use Rattle.laws.proofs.Passes.{on_test, from-bounds}
use Rattle.characters.specs.Marks.{longest}
use Rattle.forms.specs.Lines.{is_line}
use Rattle.forms.specs.Forms.{by_master, forms, on_line, look_in, type_row, data_type}
use Rattle.forms.proofs.Found.{each_line}
use Rattle.records.specs.Refusals.{No}
use Rattle.records.specs.Records.{type_of}
use Rattle.records.specs.declared.records.Record.{Record}
use Rattle.records.specs.Answers.{Answer, accepted}
use Rattle.records.specs.Answers as w
use Rattle.reading.specs.Reading.{reading_of}
use Rattle.writing.specs.Writing.{telegram_of, sent_of}
use Rattle.clock.specs.Counters.{is_number, number_in}
use Rattle.desk.specs.Deciding.{What, Ruling, handle, repeats, matter_in, good_frame, bad_frame, ruled_by, ruling_in}
use Rattle.desk.specs.Deciding as r
use Rattle.desk.proofs.Rulings.{not-master, a-request, a-poll, another, good-handled, bad-contents, when-accepted, when-refused}
use Rattle.desk.specs.Fitting.{may_reply, wanted_fits}
use Rattle.desk.specs.Replying.{Origin, Reply, asked_of, polled_of}
use Rattle.desk.specs.Heard.{handled}
use Rattle.desk.specs.Panel.{loses_line, noted_of}
use Rattle.desk.specs.Queue.{oldest, reply_to}
use Rattle.desk.specs.Hearing.{Hearing, faulted_of, repeated_of, handled_of, applied_of, ruling, hear_of}
use Rattle.desk.specs.declared.state.Desk.{Desk}
use Rattle.desk.proofs.Answering.{oldest-replies}
use Rattle.desk.proofs.Sendings.{hear-room, hear-applied}
use Rattle.conduct.specs.Desk.Calls.{Fine, noted}
use Rattle.conduct.specs.Desk.Polls.{Answers}
use Rattle.conduct.specs.Desk.Handled.{ReplyRow, contents, not_master, requested, nothing_set, queue, key, panel, New, RowAnswers, HasRow, OnlyRows, NWithA}
use Rattle.conduct.proofs.Desk.Steps.{never}
use Rattle.conduct.proofs.Desk.Kept.{fits}

-- the master sends r and t on each line
asks-sent : (line : ℕ) → is_line line ≡ true → every (by_master line) (code "r" ∷ code "t" ∷ []) ≡ true
unfolding forms on_line look_in type_row
asks-sent line h = each_line (λ (l : ℕ). every (by_master l) (code "r" ∷ code "t" ∷ [])) refl line h

module _ (line : ℕ) (h : is_line line ≡ true) where
  sends-r : by_master line (code "r") ≡ true
  sends-r = both_left _ _ (asks-sent line h)

  pub sends-t : by_master line (code "t") ≡ true
  sends-t = both_left _ true (both_right (by_master line (code "r")) _ (asks-sent line h))

-- the first rule changes no reply
noted-reply : (d : Desk) (b : Bool) (what : What) → reply_to (noted_of d b) what ≡ reply_to d what
unfolding noted_of
noted-reply d true what = refl
noted-reply d false what = refl

-- what a row's frame is, and the reply to it
record Reads (d : Desk) (frame : List ℕ) (n : ℕ) (rec : Record) (origin : Origin) : Type 0 where
  what : What
  ruled : (good : Bool) (last : ℕ) → good_frame good last n what ≡ ruling_in d.line good last frame
  replied : reply_to d what ≡ (rec, origin)

module _ (d : Desk) (l : is_line d.line ≡ true) (frame : List ℕ) where
  -- a frame that is read, as what it is
  reads : (rec answer : Record) (n : ℕ) (origin : Origin) → reading_of d.line frame ≡ accepted rec n → (what : What) → what ≡ matter_in d.line rec
      → reply_to d what ≡ (answer, origin) → Reads d frame n answer origin
  reads rec answer n origin q what e p =
      record {
        what = what;
        ruled = λ good last. ap (good_frame good last n) e ∙ when-accepted d.line good last frame rec n (sym q);
        replied = p;
      }

  asks : (rec : Record) → type_of rec ≡ code "r" → r.request ≡ matter_in d.line rec
  asks rec e = a-request d.line rec (code "r") (sym e) (sends-r d.line l) refl

  polls : (rec : Record) → type_of rec ≡ code "t" → r.poll ≡ matter_in d.line rec
  polls rec e = a-poll d.line rec (code "t") (sym e) (sends-t d.line l) (λ q. omega arith) refl

  row_reads : (n : ℕ) (rec : Record) (origin : Origin) → ReplyRow d frame n rec origin → Reads d frame n rec origin
  unfolding polled_of
  row_reads n rec origin (contents {x} q a b) =
      record {
        what = r.contents x;
        ruled = λ good last. bad-contents good last x (get_or frame 4 0) (λ z. omega arith) a (omega arith) n refl ∙ when-refused d.line good last frame x (get_or frame 4 0) (sym q) refl;
        replied = refl;
      }
  row_reads n rec origin (not_master {rec = heard} q m) = reads heard rec n origin q r.not_master (not-master d.line heard (type_of heard) refl m) refl
  row_reads n rec origin (requested {rec = heard} q e s) = reads heard rec n origin q r.request (asks heard e) (ap asked_of s)
  row_reads n rec origin (nothing_set {rec = heard} q e s) = reads heard rec n origin q r.request (asks heard e) (ap asked_of s)
  row_reads n rec origin (queue {rec = heard} q e s) = reads heard rec n origin q r.poll (polls heard e) (rw (ne_eqb d.queued 0 s))
  row_reads n rec origin (key {rec = heard} q e s) = reads heard rec n origin q r.poll (polls heard e) (rw (eq-eqb d.queued 0 s))
  row_reads n rec origin (panel {rec = heard} q m a b) = reads heard rec n origin q (r.other heard) (another d.line heard (type_of heard) refl m a b) refl

-- what a handled telegram sends
handled-answers : (d : Desk) (b : Bool) (at n : ℕ) (rec : Record) (origin : Origin) (out : List ℕ) → Answers d.line rec n b origin out (handled_of (noted_of d b) b at n (rec, origin) out)
unfolding handled_of sent_of noted_of
handled-answers d true at n rec origin out = (refl, refl)
handled-answers d false at n rec origin out = (refl, refl)

-- the first rule changes no line
noted-line : (d : Desk) (b : Bool) → (noted_of d b).line ≡ d.line
unfolding noted_of
noted-line d true = refl
noted-line d false = refl

-- a frame of a row that is no repeat is handled with the row's reply
pub row-handled : (d : Desk) → Fine d → (at : ℕ) (frame out : List ℕ) → longest ≤ length out → (n : ℕ) (rec : Record) (origin : Origin) → ReplyRow d frame n rec origin → New d at n
    → handled_of (noted d at) (loses_line d at) at n (rec, origin) out ≡ hear_of d at frame out
row-handled d f at frame out room n rec origin row new =
    let e = noted d at in
    let x = row_reads d (fits d f).lined frame n rec origin row in
    let q = ap (λ (line : ℕ). ruling_in line e.good e.last.0 frame) (sym (noted-line d (loses_line d at))) in
    let s : handle n x.what ≡ ruling e frame = good-handled e.good e.last.0 n x.what new ∙ x.ruled e.good e.last.0 ∙ q in
    let p : reply_to e x.what ≡ (rec, origin) = noted-reply d (loses_line d at) x.what ∙ x.replied in
    rw p at (hear-applied d at frame out f.ranged room (loses_line d at) refl e refl (handle n x.what) s)

pub row-answers : RowAnswers
row-answers d f at frame out room n rec origin row new =
    rw (← (row-handled d f at frame out room n rec origin row new)) (handled-answers d (loses_line d at) at n rec origin out)

-- what a handled frame is: one that is read, or one whose contents are refused 8 to 11
pub data HandledAs (line : ℕ) (frame : List ℕ) : ℕ → What → Type 0 where
  read : {rec : Record} {n : ℕ} → reading_of line frame ≡ accepted rec n → HandledAs line frame n (matter_in line rec)
  unread : {x : No} → reading_of line frame ≡ w.refused x → 8 ≤ x.number → x.number ≤ 11 → HandledAs line frame (number_in (get_or frame 4 0)) (r.contents x)

module _ (line : ℕ) (good : Bool) (last n : ℕ) (what : What) (frame : List ℕ) where
  -- it is no repeat
  good_new : (number : ℕ) (that : What) → good_frame good last number that ≡ handle n what → HandledAs line frame number that
      → HandledAs line frame n what × (repeats good last n ≡ false)
  unfolding good_frame
  good_new number that e h = go (repeats good last number) refl e
    where
      go : (b : Bool) → repeats good last number ≡ b → cond b (r.repeat number that) (handle number that) ≡ handle n what
          → HandledAs line frame n what × (repeats good last n ≡ false)
      go true q e = never (cc)
      go false q e =
          let a : number ≡ n = cc in
          let c : that ≡ what = cc in
          (rw (a, c) at h, rw a at q)

  bad-new : (x : No) → reading_of line frame ≡ w.refused x → bad_frame good last x (get_or frame 4 0) ≡ handle n what → HandledAs line frame n what × (repeats good last n ≡ false)
  unfolding bad_frame
  bad-new x q e = go (eqb x.number 6) (is_number (get_or frame 4 0)) (from 8 11 x.number) (from-bounds 8 11 x.number) e
    where
      go : (a b c : Bool) → (c ≡ true → (8 ≤ x.number) × (x.number ≤ 11))
          → cond a (cond b (r.fault x (number_in (get_or frame 4 0))) (r.silent x)) (cond c (good_frame good last (number_in (get_or frame 4 0)) (r.contents x)) (r.silent x)) ≡ handle n what
          → HandledAs line frame n what × (repeats good last n ≡ false)
      go true true c k e = never (cc)
      go true false c k e = never (cc)
      go false b true k e = good_new (number_in (get_or frame 4 0)) (r.contents x) e (unread q (k refl).0 (k refl).1)
      go false b false k e = never (cc)

  pub handled-heard : ruling_in line good last frame ≡ handle n what → HandledAs line frame n what × (repeats good last n ≡ false)
  unfolding ruling_in
  handled-heard e = go (reading_of line frame) refl e
    where
      go : (a : Answer) → reading_of line frame ≡ a → ruled_by line good last (get_or frame 4 0) a ≡ handle n what → HandledAs line frame n what × (repeats good last n ≡ false)
      go (accepted rec number) q e = good_new number (matter_in line rec) e (read q)
      go (w.refused x) q e = bad-new x q e

-- the row of what was heard
module _ (d : Desk) (frame : List ℕ) where
  module _ (rec : Record) (n : ℕ) (q : reading_of d.line frame ≡ accepted rec n) where
    asked-row : type_of rec ≡ code "r" → (w : Option Record) → d.requested ≡ w → ReplyRow d frame n (asked_of w).0 (asked_of w).1
    asked-row e None s = nothing_set q e s
    asked-row e (Some set) s = requested q e s

    abbrev to_t : Reply
    to_t = polled_of d.line d.key d.queued (oldest d)

    polled-row : type_of rec ≡ code "t" → ReplyRow d frame n to_t.0 to_t.1
    unfolding polled_of
    polled-row e = on_test (eqb d.queued 0) (λ z. rw z (key q e (eqb-true d.queued 0 z))) (λ z. rw z (queue q e (eqb-false d.queued 0 z)))

    read-row : ReplyRow d frame n (reply_to d (matter_in d.line rec)).0 (reply_to d (matter_in d.line rec)).1
    unfolding matter_in
    read-row =
        on_test (by_master d.line (type_of rec))
        (λ m. on_test (eqb (type_of rec) (code "r"))
        (λ a. rw (m, a) (asked-row (eqb-true (type_of rec) (code "r") a) d.requested refl))
        (λ a. on_test (eqb (type_of rec) (code "t"))
        (λ b. rw (m, a, b) (polled-row (eqb-true (type_of rec) (code "t") b)))
        (λ b. rw (m, a, b) (panel q m (eqb-false (type_of rec) (code "r") a) (eqb-false (type_of rec) (code "t") b)))))
        (λ m. rw m (not_master q m))

  heard-row : (n : ℕ) (what : What) → HandledAs d.line frame n what → ReplyRow d frame n (reply_to d what).0 (reply_to d what).1
  heard-row n what (read {rec} q) = read-row rec n q
  heard-row n what (unread q a b) = contents q a b

-- only a rule that handles tells of it
ruled-row : (d : Desk) (at : ℕ) (frame out : List ℕ) (noting : Bool) (origin : Origin) (k : ℕ) (s : Ruling) → ruling (noted d at) frame ≡ s
    → (applied_of (noted d at) (loses_line d at) at s out).1 ≡ handled noting origin k
    → HasRow d at frame origin (take k (applied_of (noted d at) (loses_line d at) at s out).2)
unfolding faulted_of repeated_of
ruled-row d at frame out noting origin k (r.silent x) q e = never (cc)
ruled-row d at frame out noting origin k (r.fault x n) q e = never (cc)
ruled-row d at frame out noting origin k (r.repeat n what) q e = never (cc)
ruled-row d at frame out noting origin k (r.handle n what) q e =
    let b = loses_line d at in
    let line = noted-line d b in
    let x = handled-heard d.line (noted d at).good (noted d at).last.0 n what frame (ap (λ (l : ℕ). ruling_in l (noted d at).good (noted d at).last.0 frame) (sym line) ∙ q) in
    let t = telegram_of d.line (reply_to d what).0 n in
    let a : Answers d.line (reply_to d what).0 n b (reply_to d what).1 out (handled_of (noted_of d b) b at n (reply_to (noted_of d b) what) out) =
    rw (noted-reply d b what) (handled-answers d b at n (reply_to d what).0 (reply_to d what).1 out) in
    let told : handled b (reply_to d what).1 (length t) ≡ handled noting origin k = sym a.0 ∙ e in
    let o : (reply_to d what).1 ≡ origin = cc in
    let c : length t ≡ k = cc in
    record {
      number = n;
      answer = (reply_to d what).0;
      row = rw o at (heard-row d frame n what x.0);
      new = x.1;
      telegram = rw (a.1, ← c) (take-append_seam t (drop (length t) out));
    }

pub only-rows : OnlyRows
only-rows d f at frame out noting origin k e =
    on_test (leb longest (length out))
    (λ b.
    let h = hear-applied d at frame out f.ranged (leb-true longest (length out) b) (loses_line d at) refl (noted d at) refl (ruling (noted d at) frame) refl in
    rw (← h) (ruled-row d at frame out noting origin k (ruling (noted d at) frame) refl (ap (λ (x : Hearing). x.1) h ∙ e)))
    (λ b. let h = ap (λ (x : Hearing). x.1) (hear-room d at frame out f.ranged (leb-false longest (length out) b)) in never (cc))

-- the slave's data type is not N
data-not-n : (line : ℕ) → is_line line ≡ true → not (eqb (data_type line) (code "N")) ≡ true
unfolding forms on_line look_in type_row data_type
data-not-n line h = each_line (λ (l : ℕ). not (eqb (data_type l) (code "N"))) refl line h

replies-no-n : (line : ℕ) → is_line line ≡ true → (rec : Record) → may_reply line rec ≡ true → ¬ (type_of rec ≡ code "N")
unfolding may_reply
replies-no-n line h rec m q =
    let e = eqb-true (type_of rec) (data_type line) (both_left (eqb (type_of rec) (data_type line)) _ m) in
    eqb-false (data_type line) (code "N") (not-true _ (data-not-n line h)) (sym e ∙ q)

pub n-with-a : NWithA
unfolding wanted_fits
n-with-a d f frame n rec origin (contents q a b) = (λ z. refl, λ z. clash (sym z))
n-with-a d f frame n rec origin (not_master q m) = (λ z. refl, λ z. clash (sym z))
n-with-a d f frame n rec origin (requested q e s) = (λ z. clash z, λ z. replies-no-n d.line (fits d f).lined rec (rw s at (fits d f).wanted))
n-with-a d f frame n rec origin (nothing_set q e s) = (λ z. refl, λ z. clash (sym z))
n-with-a d f frame n rec origin (queue q e s) = (λ z. clash z, λ z. replies-no-n d.line (fits d f).lined (oldest d) (oldest-replies d f.holds (fits d f) s))
n-with-a d f frame n rec origin (key q e s) = (λ z. clash z, λ z t. omega arith)
n-with-a d f frame n rec origin (panel q m a b) = (λ z. clash z, λ z t. omega arith)
