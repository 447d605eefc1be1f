-- A capture may be listed in pieces (rule P5). Assumes nothing.
use Rattle.std.proofs.Common.{◌≡◌, ℕ, zero, suc, ◌+◌, ◌-◌, ◌<◌, ◌≤◌, List, [], ◌∷◌, ◌++◌, length, get_or, drop, sym, refl, ap, ◌∙◌, append_assoc, arith, length-append, length-drop}
use lib.ListN.{get_or-append}
use lib.Seq.{take-append-le, drop-append-le}
use Rattle.laws.proofs.Passes.{order}
use Rattle.characters.specs.Marks.{unfinished}
use Rattle.cutting.specs.Search.{Span, Found, Nothing, span_of}
use Rattle.cutting.specs.Telegrams.{Telegram, FirstTelegram}
use Rattle.cutting.proofs.First.{span-first, search-answers}
use Rattle.pieces.specs.Counts.{wrapped}
use Rattle.captures.specs.Part.{spanning, spans_of, line_at, lines_in, lines_of, kept_from}
use Rattle.captures.specs.Whole.{lines_left, InTwo}
use Rattle.captures.proofs.Spans.{found_within, none-behind, spans_step}
use Rattle.captures.proofs.Shifts.{lines-further}

module _ (a b : List ℕ) where
  -- the telegrams of a are those of a ++ b that end in a
  within : (k : ℕ) → k < length a → get_or (a ++ b) k 0 ≡ get_or a k 0
  within k h = get_or-append a b 0 k h

  still : (o e : ℕ) → Telegram a o e → Telegram (a ++ b) o e
  still o e t =
      record {
        begins = within o (omega (arith, t.long, t.within)) ∙ t.begins;
        ends = within (e - 1) (omega (arith, t.long, t.within)) ∙ t.ends;
        long = t.long;
        short = t.short;
        within = omega (arith, t.within, length-append a b);
        between = λ k l m. rw (within k (omega (arith, t.within))) (t.between k l m);
      }

  before : (o e : ℕ) → Telegram (a ++ b) o e → e ≤ length a → Telegram a o e
  before o e t h =
      record {
        begins = sym (within o (omega (arith, t.long))) ∙ t.begins;
        ends = sym (within (e - 1) (omega (arith, t.long))) ∙ t.ends;
        long = t.long;
        short = t.short;
        within = h;
        between = λ k l m. rw (within k (omega arith)) at (t.between k l m);
      }

  -- a telegram that is found in a is found in a ++ b
  found-still : (place o e : ℕ) → span_of a place ≡ Found o e → span_of (a ++ b) place ≡ Found o e
  found-still place o e h =
      let f : FirstTelegram a place (Found o e) = rw h at (span-first a place) in
      (search-answers (a ++ b) place (Found o e)).1
      (f.0, still o e f.1, λ o' e' g t. order (length a) e' (λ l. omega (arith, f.1.within)) (λ m. f.2 o' e' g (before o' e' t m)))

  -- where none is found in a, one of a ++ b begins within the last 65 bytes of a or behind
  late : (place o e : ℕ) → span_of a place ≡ Nothing → place ≤ o → Telegram (a ++ b) o e → length a - unfinished ≤ o
  late place o e h g t =
      let f : FirstTelegram a place Nothing = rw h at (span-first a place) in
      order (length a) e (λ l. omega (arith, t.short, t.long)) (λ m. absurd (f o e g (before o e t m)))

  skipped : (place : ℕ) → span_of a place ≡ Nothing → span_of (a ++ b) place ≡ span_of (a ++ b) (kept_from place (length a))
  skipped place h = (search-answers (a ++ b) place (span_of (a ++ b) (kept_from place (length a)))).1 (go (span_of (a ++ b) (kept_from place (length a))) (span-first (a ++ b) (kept_from place (length a))))
    where
      go : (p : Span) → FirstTelegram (a ++ b) (kept_from place (length a)) p → FirstTelegram (a ++ b) place p
      go (Found o e) (f, t, first) = (omega arith, t, λ o' e' g t'. first o' e' (omega (arith, late place o' e' h g t')) t')
      go Nothing none = λ o' e' g t'. none o' e' (omega (arith, late place o' e' h g t')) t'

  module _ (line : ℕ) where
    -- the line of a telegram of a
    line-still : (ordinal base o e : ℕ) → e ≤ length a → o + 2 ≤ e → line_at line ordinal base (a ++ b) (o, e) ≡ line_at line ordinal base a (o, e)
    unfolding line_at
    line-still ordinal base o e h g =
        let k : e - o ≤ length (drop o a) = omega (arith, length-drop o a) in
        let l : o ≤ length a = omega arith in
        rw (drop-append-le o a b l, take-append-le (e - o) (drop o a) b k)

    -- one telegram's line, and those of the telegrams behind it
    lines-found : (s : List ℕ) (ordinal base place o e : ℕ) → span_of s place ≡ Found o e
        → lines_of line ordinal base s place ≡ line_at line ordinal base s (o, e) ++ lines_of line (wrapped (ordinal + 1)) base s e
    unfolding lines_of lines_in
    lines-found s ordinal base place o e h = rw (spans_step s place, h)

    -- where the searches find the same, so are the lines
    lines_same : (s : List ℕ) (ordinal base place other : ℕ) → span_of s place ≡ span_of s other → lines_of line ordinal base s place ≡ lines_of line ordinal base s other
    unfolding lines_of
    lines_same s ordinal base place other h = ap (lines_in line ordinal base s) (spans_step s place ∙ ap (λ (p : Span). spanning p (spans_of s)) h ∙ sym (spans_step s other))

    none_here : (ordinal base place : ℕ) → place ≤ length a → span_of a place ≡ Nothing → lines_of line ordinal base (a ++ b) place ≡ lines_left a b line ordinal base place []
    none_here ordinal base place h e =
        let k = kept_from place (length a) in
        let l : kept_from place (length a) ≤ length a = omega arith in
        let z : kept_from place (length a) ≡ kept_from place (length a) + 0 = omega arith in
        lines_same (a ++ b) ordinal base place k (skipped place e)
        ∙ ap (lines_of line ordinal base (a ++ b)) z
        ∙ lines-further line base k (a ++ b) ordinal 0
        ∙ ap (λ (t : List ℕ). lines_of line ordinal (wrapped (base + k)) t 0) (drop-append-le k a b l)

    -- the lines of a ++ b from a place on are those of a, and then those from the bytes kept on
    abbrev Both : ℕ → ℕ → ℕ → Type 0
    Both ordinal base place = lines_of line ordinal base (a ++ b) place ≡ lines_of line ordinal base a place ++ lines_left a b line ordinal base place (spans_of a place)

    none_both : (ordinal base place : ℕ) → place ≤ length a → span_of a place ≡ Nothing → Both ordinal base place
    unfolding lines_of lines_in
    none_both ordinal base place h e =
        let q : spans_of a place ≡ [] = spans_step a place ∙ ap (λ (p : Span). spanning p (spans_of a)) e in
        rw q (none_here ordinal base place h e)

    found-both : (ordinal base place o e : ℕ) → span_of a place ≡ Found o e → Both (wrapped (ordinal + 1)) base e → Both ordinal base place
    found-both ordinal base place o e h later =
        let w = found_within a place o e h in
        let q : spans_of a place ≡ (o, e) ∷ spans_of a e = spans_step a place ∙ ap (λ (p : Span). spanning p (spans_of a)) h in
        let f = lines-found (a ++ b) ordinal base place o e (found-still place o e h) in
        let g = lines-found a ordinal base place o e h in
        rw (q, f, g, line-still ordinal base o e w.2 w.1, append_assoc) (ap (λ (t : List ℕ). line_at line ordinal base a (o, e) ++ t) later)

    onwards : (n ordinal base place : ℕ) → length a ≤ place + n → place ≤ length a → Both ordinal base place
    onwards zero ordinal base place l h = none_both ordinal base place h (none-behind a place (omega arith))
    onwards (suc n) ordinal base place l h = go (span_of a place) refl (λ e m k. onwards n (wrapped (ordinal + 1)) base e m k)
      where
        go : (p : Span) → span_of a place ≡ p → ((e : ℕ) → length a ≤ e + n → e ≤ length a → Both (wrapped (ordinal + 1)) base e) → Both ordinal base place
        go Nothing q later = none_both ordinal base place h q
        go (Found o e) q later =
            let w = found_within a place o e q in
            found-both ordinal base place o e q (later e (omega arith) w.2)

pub in_two : InTwo
in_two a b line ordinal base place h = onwards a b line (length a) ordinal base place (omega arith) h
