-- The paper's numbers and places tell the answers of cutting and reading apart (rule G3). Assumes nothing.
use Rattle.std.specs.Prelude.{ℕ, Option, None, Some, Result, Ok, Err}
use mathlib.Core.Path.{◌≡◌, refl, sym, ap, ◌∙◌}
use Rattle.records.specs.declared.answers.Numbered.{Numbered}
use Rattle.records.specs.declared.refusals.Refusal.{Refusal}
use Rattle.records.proofs.Apart.{one-refusal, one-reading}
use Rattle.cutting.specs.declared.cutting.Cut.{Cut}
use Rattle.cutting.specs.declared.search.Span as s
use Rattle.cutting.specs.Search.{Span, Found, Nothing, found_of, OneSpan}
use Rattle.cutting.specs.Cutting.{OneCutting}

-- two cuts of the same bytes with the same reading are one
one-cut : (o e p f : ℕ) (x y : Result Numbered Refusal) → o ≡ p → e ≡ f → x ≡ y
    → ◌≡◌ {A = Cut} (record { start = o; end = e; reading = x }) (record { start = p; end = f; reading = y })
one-cut o e p f x y a b c = rw (a, b, c)

-- a promise through these definitions allows one answer only
pub one-cutting : OneCutting
one-cutting (Ok None) (Ok None) h = refl
one-cutting (Ok None) (Ok (Some b)) h = cc
one-cutting (Ok None) (Err y) h = cc
one-cutting (Ok (Some a)) (Ok None) h = cc
one-cutting (Ok (Some a)) (Ok (Some b)) h =
    let k : a.reading ≡ b.reading = one-reading a.reading b.reading (cc) in
    let e : a ≡ b = one-cut a.start a.end b.start b.end a.reading b.reading (cc) (cc) k in
    cc
one-cutting (Ok (Some a)) (Err y) h = cc
one-cutting (Err x) (Ok None) h = cc
one-cutting (Err x) (Ok (Some b)) h = cc
one-cutting (Err x) (Err y) h = let e : x ≡ y = one-refusal x y (cc) in cc

-- each span comes back from what it names
abbrev span_back : Span → Option s.Span
span_back (Found start end) = Some (record { start = start; end = end })
span_back Nothing = None

span-back : (a : Option s.Span) → span_back (found_of a) ≡ a
span-back None = refl
span-back (Some span) = refl

pub one-span : OneSpan
one-span a b h = sym (span-back a) ∙ (ap span_back h ∙ span-back b)
