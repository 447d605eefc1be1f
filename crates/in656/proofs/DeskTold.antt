-- Wherever a hearing of the desk is not refused, its result tells what the frame reads as. Assumes nothing.
use Rattle.std.specs.Prelude.{Option, None, Some}
use mathlib.Core.Path.{◌≡◌, refl, ap, ◌∙◌}
use mathlib.Core.Bool.{Bool, true, false}
use mathlib.Core.List.{List, []}
use Prim.Native.Nat.{ℕ}
use native.Mathlib.Omega.{arith}
use lib.Dec.{leb, eqb}
use lib.ListN.{length, get_or}
use Rattle.laws.specs.Truth.{from}
use Prim.Native.Char.{code}
use Rattle.laws.proofs.Passes.{on_test}
use Rattle.characters.specs.Marks.{longest}
use Rattle.forms.specs.Forms.{by_master}
use Rattle.records.specs.Refusals.{No, no}
use Rattle.records.specs.Records.{type_of}
use Rattle.records.specs.declared.records.Record.{Record}
use Rattle.records.specs.Answers.{Answer, accepted, refused}
use Rattle.reading.specs.Reading.{reading_of}
use Rattle.clock.specs.Counters.{is_number, number_in}
use Rattle.desk.specs.declared.state.Desk.{Desk}
use Rattle.desk.specs.Deciding.{What, Ruling, repeats, matter_in, good_frame, bad_frame, ruled_by, ruling_in}
use Rattle.desk.specs.Deciding as r
use Rattle.desk.specs.Replying.{asked_of, polled_of, reply_of}
use Rattle.desk.specs.State.{in_ranges}
use Rattle.desk.specs.Panel.{noted_of, loses_line}
use Rattle.desk.specs.Hearing.{faulted_of, repeated_of, handled_of, applied_of, ruling, heard_of, hear_of}
use Rattle.blocks.specs.Record.{record_length}
use Rattle.blocks.specs.Desks.{load_of}
use Rattle.in656.specs.declared.results.result.In656Result.{In656Result}
use Rattle.in656.specs.Results.Desks.{handled_result, heard_result}
use Rattle.in656.specs.Results.Frames.{with_reading, desk_frame, refusal_in, Tells}
use Rattle.in656.specs.Desks.{heard, desk_hear, DeskTells}

-- the refusal that a rule goes by
abbrev what_no : What → No
what_no (r.contents x) = x
what_no r.not_master = no 0 0
what_no r.request = no 0 0
what_no r.poll = no 0 0
what_no (r.other rec) = no 0 0

abbrev ruling_no : Ruling → No
ruling_no (r.silent x) = x
ruling_no (r.fault x n) = x
ruling_no (r.repeat n what) = what_no what
ruling_no (r.handle n what) = what_no what

-- is the reading's
good-no : (good : Bool) (last number : ℕ) (what : What) → ruling_no (good_frame good last number what) ≡ what_no what
unfolding good_frame
good-no good last number what = on_test (repeats good last number) (λ e. rw e) (λ e. rw e)

matter-no : (line : ℕ) (rec : Record) → what_no (matter_in line rec) ≡ no 0 0
unfolding matter_in
matter-no line rec =
    on_test (by_master line (type_of rec))
    (λ e. on_test (eqb (type_of rec) (code "r")) (λ f. rw (e, f)) (λ f. on_test (eqb (type_of rec) (code "t")) (λ g. rw (e, f, g)) (λ g. rw (e, f, g))))
    (λ e. rw e)

bad-no : (good : Bool) (last : ℕ) (x : No) (byte : ℕ) → ruling_no (bad_frame good last x byte) ≡ x
unfolding bad_frame
bad-no good last x byte =
    on_test (eqb x.number 6)
    (λ e. on_test (is_number byte) (λ f. rw (e, f)) (λ f. rw (e, f)))
    (λ e. on_test (from 8 11 x.number) (λ f. rw (e, f) (good-no good last (number_in byte) (r.contents x))) (λ f. rw (e, f)))

ruled-no : (line : ℕ) (good : Bool) (last byte : ℕ) (a : Answer) → ruling_no (ruled_by line good last byte a) ≡ refusal_in a
ruled-no line good last byte (accepted rec number) = good-no good last number (matter_in line rec) ∙ matter-no line rec
ruled-no line good last byte (refused x) = bad-no good last x byte

-- a frame that is read again
pub again : (p : In656Result) (a : Answer) → p.contents ≡ 0 → p.place ≡ 0 → Tells (with_reading p a) a
again p (accepted rec number) c l = (c, l)
again p (refused x) c l = (refl, refl)

-- a handled telegram tells its contents' refusal
module _ (line position queued : ℕ) (oldest : Record) where
  asked : (w : Option Record) → ((handled_result (asked_of w).1).contents ≡ 0) × ((handled_result (asked_of w).1).place ≡ 0)
  asked None = (refl, refl)
  asked (Some rec) = (refl, refl)

  polled : ((handled_result (polled_of line position queued oldest).1).contents ≡ 0) × ((handled_result (polled_of line position queued oldest).1).place ≡ 0)
  unfolding polled_of
  polled = on_test (eqb queued 0) (λ e. rw e (refl, refl)) (λ e. rw e (refl, refl))

  answers : (w : Option Record) (what : What)
      → ((handled_result (reply_of line position w queued oldest what).1).contents ≡ (what_no what).number) × ((handled_result (reply_of line position w queued oldest what).1).place ≡ (what_no what).place)
  answers w (r.contents x) = (refl, refl)
  answers w r.not_master = (refl, refl)
  answers w r.request = asked w
  answers w r.poll = polled
  answers w (r.other rec) = (refl, refl)

module _ (d : Desk) (lost : Bool) (at : ℕ) (line : ℕ) (frame out : List ℕ) where
  abbrev Result : Ruling → In656Result
  Result rule = desk_frame (applied_of d lost at rule out).1 line frame (heard_result (applied_of d lost at rule out).1)

  applied : (rule : Ruling) → ruling_no rule ≡ refusal_in (reading_of line frame) → Tells (Result rule) (reading_of line frame)
  unfolding faulted_of repeated_of handled_of
  applied (r.silent x) e = (ap (λ (y : No). y.number) e, ap (λ (y : No). y.place) e)
  applied (r.fault x n) e = again _ (reading_of line frame) refl refl
  applied (r.repeat n what) e = again _ (reading_of line frame) refl refl
  applied (r.handle n what) e =
      let a = answers d.line d.key d.queued _ d.requested what in
      (a.0 ∙ ap (λ (y : No). y.number) e, a.1 ∙ ap (λ (y : No). y.place) e)

same_line : (d : Desk) (lost : Bool) → (noted_of d lost).line ≡ d.line
unfolding noted_of
same_line d true = refl
same_line d false = refl

ruled : (d : Desk) (frame : List ℕ) (line : ℕ) → d.line ≡ line → ruling_no (ruling d frame) ≡ refusal_in (reading_of line frame)
unfolding ruling_in
ruled d frame line e = rw (← e) (ruled-no d.line d.good d.last.0 (get_or frame 4 0) (reading_of d.line frame))

-- a hearing on a state by value
hears : (d : Desk) (time : ℕ) (frame out : List ℕ) → let told = (hear_of d time frame out).1 in
    (desk_frame told d.line frame (heard_result told)).refusal ≡ 0 → Tells (desk_frame told d.line frame (heard_result told)) (reading_of d.line frame)
unfolding hear_of heard_of
hears d time frame out h =
    let n = noted_of d (loses_line d time) in
    on_test (in_ranges d)
    (λ e.
    on_test (leb longest (length out))
    (λ f. rw (e, f) (applied n (loses_line d time) time d.line frame out (ruling n frame) (ruled n frame d.line (same_line d (loses_line d time)))))
    (λ f. let z : 14 ≡ 0 = rw (e, f) at h in absurd (omega (arith, z))))
    (λ e. let z : 15 ≡ 0 = rw e at h in absurd (omega (arith, z)))

-- without a block there is none
no_block : (d : Desk) (time : ℕ) (frame : List ℕ) → (heard_result (hear_of d time frame []).1).refusal ≡ 0 → ⊥
unfolding hear_of
no_block d time frame h =
    on_test (in_ranges d) (λ e. let z : 14 ≡ 0 = rw e at h in omega (arith, z)) (λ e. let z : 15 ≡ 0 = rw e at h in omega (arith, z))

pub desk-tells : DeskTells
unfolding desk_hear heard
desk-tells b time frame block out h =
    on_test (eqb (length block) record_length)
    (λ e. rw e (hears (load_of b) time frame out (rw e at h)))
    (λ e. absurd (no_block (load_of b) time frame (rw e at h)))
