-- `reading::reading::contents` meets its contract.
use Rattle.std.proofs.Common.{◌≡◌, ℕ, ◌-◌, List, refl, ap, ◌∙◌, take, drop}
use Rattle.reading.specs.Frame.{field_of}
use Rattle.reading.specs.Contents.{outside}
use Rattle.reading.proofs.Contents.{looked-in, strange-type, strange-byte, on-form}
use Rattle.reading.proofs.reading.contents.Goals as goal

pub returns-in_default : goal.returns-in_default
returns-in_default c =
    let a = c.args in
    let row = looked-in a.line a.s.now _ _ _ c.byte_at-kind.ensures c.byte_at.ensures c.in_default.ensures in
    strange-type a.line a.s.now _ _ c.byte_at-kind.ensures row refl

pub returns-in-Some-outside_set : goal.returns-in-Some-outside_set
unfolding field_of
returns-in-Some-outside_set c =
    let a = c.args in
    let s = a.s.now in
    let row = looked-in a.line s _ _ _ c.byte_at-kind.ensures c.byte_at.ensures c.in-Some.ensures in
    let field : c.part-field.result.now ≡ field_of s = c.part-field.ensures ∙ ap (λ (k : ℕ). take k (drop 5 s)) c.saturating_sub.ensures in
    let place = c.in-Some-outside_set.ensures ∙ ap (λ (d : List ℕ). outside 5 d) field in
    strange-byte a.line s _ _ c.byte_at-kind.ensures row refl _ place

pub returns : goal.returns
unfolding field_of
returns c =
    let a = c.args in
    let s = a.s.now in
    let row = looked-in a.line s _ _ _ c.byte_at-kind.ensures c.byte_at.ensures c.in-Some.ensures in
    let field : c.part-field.result.now ≡ field_of s = c.part-field.ensures ∙ ap (λ (k : ℕ). take k (drop 5 s)) c.saturating_sub.ensures in
    let inside = c.in_default-outside_set.ensures ∙ ap (λ (d : List ℕ). outside 5 d) field in
    let number = c.saturating_sub-2.ensures ∙ ap (λ (k : ℕ). k - 48) c.byte_at-2.ensures in
    c.in_form.ensures ∙ on-form a.line s _ _ c.byte_at-kind.ensures row refl _ _ inside field number
