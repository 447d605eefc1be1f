-- What `list_part` leaves in the output, and what is left to list (rule P2). Assumes nothing.
use Rattle.std.proofs.Common.{◌≡◌, ℕ, ◌+◌, ◌-◌, ◌<◌, ◌≤◌, Bool, true, false, cond, leb, List, [], ◌∷◌, ◌++◌, length, take, drop, sym, refl, ap, ◌∙◌, append_assoc, arith, length-append, leb-false}
use Rattle.laws.proofs.Truths.{clash}
use Rattle.cutting.specs.Search.{Span, Found, Nothing, span_of}
use Rattle.captures.specs.declared.part.Listed.{Listed}
use Rattle.text.specs.Putting.{placed}
use Rattle.text.proofs.Puts.{put-length, put-take, put-drop}
use Rattle.pieces.specs.Counts.{wrapped}
use Rattle.captures.specs.Listing.{line_text, line_room}
use Rattle.captures.specs.Part.{spanning, spans_of, line_at, lines_in, lines_of, stopped, listed_in, list_part}
use Rattle.captures.proofs.Spans.{found_within, spans_step}
use Rattle.captures.specs.Whole.{last_end, next_ordinal}

-- the lines so far stand in front, what lies behind them is kept, and the lines left are those from the next place on, with the same last end and ordinal; not
-- done, there is no room for any line, and there are lines where there was room; done, no telegram is left
pub record Fills (line base : ℕ) (s : List ℕ) (ps : List (ℕ × ℕ)) (place ordinal filled : ℕ) (out : List ℕ) (r : Listed) (x : List ℕ) : Type 0 where
  pub lines : take r.filled x ++ lines_of line r.ordinal base s r.next ≡ take filled out ++ lines_in line ordinal base s ps
  pub behind : drop r.filled x ≡ drop r.filled out
  pub reach : (filled ≤ r.filled) × (r.filled ≤ length x)
  pub last : last_end r.next (spans_of s r.next) ≡ last_end place ps
  pub count : next_ordinal r.ordinal (spans_of s r.next) ≡ next_ordinal ordinal ps
  pub within : place ≤ length s → r.next ≤ length s
  pub full : r.done ≡ false → length x - r.filled < line_room
  pub some : r.done ≡ false → line_room ≤ length out - filled → filled < r.filled
  pub done : r.done ≡ true → spans_of s r.next ≡ []

-- a line is not empty
not-empty : (line ordinal base : ℕ) (s : List ℕ) (p : ℕ × ℕ) → 0 < length (line_at line ordinal base s p)
unfolding line_at line_text
not-empty line ordinal base s (start, end) = simp length-append (omega arith)

module _ (line base : ℕ) (s : List ℕ) where
  -- the telegrams behind the first are those from its end on, and it ends in the bytes
  behind-first : (place start end : ℕ) (ps : List (ℕ × ℕ)) → (start, end) ∷ ps ≡ spans_of s place → (ps ≡ spans_of s end) × (end ≤ length s)
  behind-first place start end ps e = go (span_of s place) refl (e ∙ spans_step s place)
    where
      first_end : List (ℕ × ℕ) → ℕ
      first_end [] = 0
      first_end ((o, f) ∷ qs) = f

      others : List (ℕ × ℕ) → List (ℕ × ℕ)
      others [] = []
      others (q ∷ qs) = qs

      go : (p : Span) → span_of s place ≡ p → (start, end) ∷ ps ≡ spanning p (spans_of s) → (ps ≡ spans_of s end) × (end ≤ length s)
      go (Found o f) h q = (ap others q ∙ ap (spans_of s) (sym (ap first_end q)), rw (ap first_end q) (found_within s place o f h).2)
      go Nothing h q = let z : ⊥ = omega (arith, ap length q) in absurd z

  fills : (ps : List (ℕ × ℕ)) (place ordinal filled : ℕ) (out : List ℕ) → ps ≡ spans_of s place → filled ≤ length out
      → Fills line base s ps place ordinal filled out (listed_in line base s ps place ordinal filled out).0 (listed_in line base s ps place ordinal filled out).1
  unfolding listed_in lines_of lines_in
  fills [] place ordinal filled out e h =
      record {
        lines = rw (← e);
        behind = refl;
        reach = (omega arith, h);
        last = rw (← e);
        count = rw (← e);
        within = λ k. k;
        full = λ q. clash (sym q);
        some = λ q. clash (sym q);
        done = λ q. sym e;
      }
  fills ((start, end) ∷ ps) place ordinal filled out e h =
      go (leb line_room (length out - filled)) (leb-false line_room (length out - filled))
      (fills ps end (wrapped (ordinal + 1)) (filled + length t) (placed t filled out).1 (behind-first place start end ps e).0)
    where
      t : List ℕ
      t = line_at line ordinal base s (start, end)

      later : Listed × List ℕ
      later = listed_in line base s ps end (wrapped (ordinal + 1)) (filled + length t) (placed t filled out).1

      here : Listed × List ℕ
      here = (stopped place ordinal filled false, out)

      go : (b : Bool) → (b ≡ false → length out - filled < line_room)
          → (filled + length t ≤ length (placed t filled out).1
          → Fills line base s ps end (wrapped (ordinal + 1)) (filled + length t) (placed t filled out).1 later.0 later.1)
          → Fills line base s ((start, end) ∷ ps) place ordinal filled out (cond b later here).0 (cond b later here).1
      go true short fill =
          let l = put-length t out filled h in
          let f = fill (omega arith) in
          record {
            lines = f.lines ∙ rw (put-take t out filled h) (append_assoc (take filled out) t (lines_in line (wrapped (ordinal + 1)) base s ps));
            behind = f.behind ∙ put-drop t out filled h _ f.reach.0;
            reach = (omega (arith, f.reach.0), f.reach.1);
            last = f.last;
            count = f.count;
            within = λ k. f.within (behind-first place start end ps e).1;
            full = f.full;
            some = λ q k. omega (arith, f.reach.0, not-empty line ordinal base s (start, end));
            done = f.done;
          }
      go false short fill =
          record {
            lines = rw (← e);
            behind = refl;
            reach = (omega arith, h);
            last = rw (← e);
            count = rw (← e);
            within = λ k. k;
            full = λ q. short refl;
            some = λ q k. absurd (omega (arith, short refl));
            done = clash;
          }

  -- What `list_part` answers.
  pub part-fills : (ordinal place : ℕ) (out : List ℕ)
      → Fills line base s (spans_of s place) place ordinal 0 out (list_part line ordinal base s place out).0 (list_part line ordinal base s place out).1
  unfolding list_part
  part-fills ordinal place out = fills (spans_of s place) place ordinal 0 out refl (omega arith)
