-- A turn that lists puts lines, and the lines then left are the rest of those that were left (rule P5). Assumes nothing.
use Rattle.std.proofs.Common.{◌≡◌, ℕ, ◌+◌, ◌≤◌, Bool, true, false, cond, eqb, List, [], ◌++◌, length, take, drop, sym, refl, ap, ◌∙◌, ap₂, append_assoc, append-nil, arith, length-take-le, ne_eqb}
use Rattle.laws.proofs.Passes.{from-bounds}
use Rattle.characters.specs.Marks.{unfinished}
use Rattle.forms.specs.Lines.{is_line}
use Rattle.records.specs.Answers.{written}
use Rattle.pieces.specs.Counts.{wrapped}
use Rattle.pieces.specs.Tails.{tail_put}
use Rattle.pieces.specs.Turns.{Turned}
use Rattle.pieces.specs.declared.wants.Wants.TheVariants.{Read}
use Rattle.pieces.proofs.Kept.{kept-front, kept-within}
use Rattle.pieces.proofs.Runs.{Goes}
use Rattle.captures.specs.Listing.{line_room}
use Rattle.captures.specs.declared.part.Listed.{Listed}
use Rattle.captures.specs.declared.lister.Lister.{Lister}
use Rattle.captures.specs.Part.{spans_of, lines_in, lines_of, kept_from}
use Rattle.captures.specs.Captures.{listing_of}
use Rattle.captures.specs.Whole.{lines_left}
use Rattle.captures.specs.Lister.{at_first}
use Rattle.captures.specs.Turn.{again, behind, carried, carried_on, listing}
use Rattle.captures.proofs.Filled.{Fills, part-fills}
use Rattle.captures.proofs.Whole.{in_two}

-- what is left to be written: before the line is known the listing of all bytes, and then the lines of the bytes at hand
unfoldable pub left : Lister → List ℕ → List ℕ
left m s = cond (eqb m.line 0) (listing_of s) (lines_of m.line m.ordinal m.base s m.next)

-- a line is not 0
pub known-line : (line : ℕ) → is_line line ≡ true → (line ≡ 0 → ⊥)
known-line line h z = let k = from-bounds 1 3 line h in omega arith

pub left-lines : (m : Lister) (s : List ℕ) → is_line m.line ≡ true → left m s ≡ lines_of m.line m.ordinal m.base s m.next
unfolding left
left-lines m s h = rw (ne_eqb m.line 0 (known-line m.line h))

-- a listing whose line is known goes on among the bytes held; where bytes are wanted, it holds no telegram, and few bytes
pub record Lists (m : Lister) (held : List ℕ) : Type 0 where
  pub known : is_line m.line ≡ true
  pub place : m.next ≤ m.held
  pub idle : m.wants ≡ Read → (lines_of m.line m.ordinal m.base held m.next ≡ []) × (m.held ≤ unfinished)

-- nothing is read yet, or the line is known
pub data Fits (m : Lister) (held : List ℕ) : Type 0 where
  opening : m ≡ at_first → Fits m held
  lists : Lists m held → Fits m held

-- one listing of bytes
module _ (line base : ℕ) (s : List ℕ) (place ordinal : ℕ) (out : List ℕ) (h : place ≤ length s) (r : Listed) (x : List ℕ)
    (f : Fills line base s (spans_of s place) place ordinal 0 out r x) where
  put-lines : take r.filled x ++ lines_of line r.ordinal base s r.next ≡ lines_of line ordinal base s place
  unfolding lines_of
  put-lines = f.lines

  -- the lines put and those left are all, whatever comes behind
  all_lines : (b : List ℕ) → take r.filled x ++ lines_of line r.ordinal base (s ++ b) r.next ≡ lines_of line ordinal base (s ++ b) place
  all_lines b =
      let t = take r.filled x in
      let p : lines_left s b line r.ordinal base r.next (spans_of s r.next) ≡ lines_left s b line ordinal base place (spans_of s place) =
      ap₂ (λ (e c : ℕ). lines_of line c (wrapped (base + kept_from e (length s))) (drop (kept_from e (length s)) s ++ b) 0) f.last f.count in
      ap (λ (y : List ℕ). t ++ y) (in_two s b line r.ordinal base r.next (f.within h))
      ∙ sym (append_assoc t (lines_of line r.ordinal base s r.next) (lines_left s b line r.ordinal base r.next (spans_of s r.next)))
      ∙ ap₂ (λ (y z : List ℕ). y ++ z) put-lines p
      ∙ sym (in_two s b line ordinal base place h)

  -- done, the lines left are those of the bytes kept
  module _ (d : r.done ≡ true) where
    none_left : lines_of line r.ordinal base s r.next ≡ []
    unfolding lines_of lines_in
    none_left = rw (f.done d)

    module _ (n : ℕ) (size : length s ≡ n) where
      kept-lines : (b : List ℕ) → lines_of line r.ordinal base (s ++ b) r.next
          ≡ lines_of line r.ordinal (wrapped (base + kept_from r.next n)) (drop (kept_from r.next n) s ++ b) 0
      kept-lines b =
          in_two s b line r.ordinal base r.next (f.within h)
          ∙ ap₂ (λ (y : List ℕ) (ps : List (ℕ × ℕ)). y ++ lines_left s b line r.ordinal base r.next ps) none_left (f.done d)
          ∙ ap (λ (i : ℕ). lines_of line r.ordinal (wrapped (base + kept_from r.next i)) (drop (kept_from r.next i) s ++ b) 0) size

      kept-none : lines_of line r.ordinal (wrapped (base + kept_from r.next n)) (drop (kept_from r.next n) s) 0 ≡ []
      kept-none = sym (rw (append-nil s, append-nil (drop (kept_from r.next n) s)) at (kept-lines [])) ∙ none_left

-- n bytes are listed on a line, of which all lines are left
module _ (m : Lister) (line : ℕ) (buf : List ℕ) (n got : ℕ) (out : List ℕ) (h : n ≤ length buf) (l : m.next ≤ n) (room : line_room ≤ length out) (known : is_line line ≡ true)
    (all : (b : List ℕ) → left m (take n buf ++ b) ≡ lines_of line m.ordinal m.base (take n buf ++ b) m.next) (some : m.wants ≡ Read → got ≡ 0 → ⊥) where
  size : length (take n buf) ≡ n
  size = length-take-le n buf h

  abbrev GoesOn : Turned Lister → Type 0
  GoesOn t = Goes listing left Fits m (take n buf) got t

  module _ (r : Listed) (x : List ℕ) (f : Fills line m.base (take n buf) (spans_of (take n buf) m.next) m.next m.ordinal 0 out r x) where
    within : m.next ≤ length (take n buf)
    within = omega (arith, size)

    -- the lines put, and those left
    put-and-left : (b y : List ℕ) → y ≡ lines_of line r.ordinal m.base (take n buf ++ b) r.next → take r.filled x ++ y ≡ left m (take n buf ++ b)
    put-and-left b y e =
        ap (λ (z : List ℕ). take r.filled x ++ z) e ∙ all_lines line m.base (take n buf) m.next m.ordinal out within r x f b ∙ sym (all b)

    reached : r.next ≤ n
    reached = omega (arith, f.within within, size)

    abbrev k : ℕ
    k = kept_from r.next n

    behind-all : r.done ≡ true → GoesOn (behind m line r.ordinal k n, (written r.filled, ((tail_put k n buf).1, x)))
    behind-all d =
        let i : kept_from r.next n ≤ n = omega (arith, reached) in
        let e = kept-front (kept_from r.next n) n buf i h in
        record {
          held = kept-within (kept_from r.next n) n buf i h;
          rest = λ b. put-and-left b _ (left-lines _ _ known ∙ rw e (sym (kept-lines line m.base (take n buf) m.next m.ordinal out within r x f d n size b)));
          fits = lists (record { known = known; place = omega arith; idle = λ q. (rw e (kept-none line m.base (take n buf) m.next m.ordinal out within r x f d n size), omega arith) });
          some = some;
          going = λ q. let z : ◌≡◌ {A = ℕ} 0 1 = cc in omega arith;
          again = λ q. let z : ◌≡◌ {A = ℕ} 0 1 = cc in absurd (omega arith);
        }

    among : r.done ≡ false → GoesOn (again m line r n, (written r.filled, (buf, x)))
    among d =
        record {
          held = h;
          rest = λ b. put-and-left b _ (left-lines _ _ known);
          fits = lists (record { known = known; place = reached; idle = λ q. let z : ◌≡◌ {A = ℕ} 0 1 = cc in absurd (omega arith) });
          some = some;
          going = λ q. let z : ◌≡◌ {A = ℕ} 0 1 = cc in omega arith;
          again = λ q. omega (arith, f.some d (omega arith), length-take-le r.filled x f.reach.1);
        }

    went-by : GoesOn (carried m line buf n (r, x))
    unfolding carried
    went-by = go r.done refl
      where
        go : (d : Bool) → r.done ≡ d
            → GoesOn (cond {A = Turned Lister} d (behind m line r.ordinal k n, (written r.filled, ((tail_put k n buf).1, x))) (again m line r n, (written r.filled, (buf, x))))
        go true d = behind-all d
        go false d = among d

  pub went : GoesOn (carried_on m line buf n out)
  unfolding carried_on
  went = went-by _ _ (part-fills line m.base (take n buf) m.ordinal m.next out)
