-- `same` compares byte after byte, to the end. Assumes nothing.
use Rattle.std.proofs.Common.{rules, ◌≡◌, ◌+◌, [], ◌∷◌, ◌++◌, length, length-append, ◌∙◌, arith}
use Rattle.std.proofs.lemmas.Slice.Zip.{zip_turn, zip_end}
use Rattle.text.proofs.Rows.{other_length, all_so_far, same-on, none_left, all_seen}
use Rattle.text.proofs.fields.same.Goals as goal

pub returns-then-a-b : goal.returns-then-a-b
returns-then-a-b c = other_length _ _ c.if-a-b.true

pub loop-x-preserved : goal.loop-x-preserved
loop-x-preserved c =
    let l = c.loop-x in
    let a = c.args.a.now in
    let b = c.args.b.now in
    let p = zip_turn a b l.yielded c.into_iter-x-iterator.result l.x-iterator c.next.new.self c.next.result (search rules) (search rules) l.yielded_by _ c.in-Some.is c.next.ensures.steps in
    let q : length (l.yielded ++ ((c.in-Some.x, c.in-Some.y) ∷ [])) ≡ length l.yielded + 1 = length-append _ _ in
    rw q (l.invariant.0, omega (arith, p.0), same-on a b (length l.yielded) _ _ l.all _ p.0 l.invariant.0 (p.2 0) (p.3 0) (all_so_far l.all _) ∙ l.invariant.2)

pub returns : goal.returns
returns c =
    let l = c.loop-x in
    let a = c.args.a.now in
    let b = c.args.b.now in
    let n = zip_end a b l.yielded c.into_iter-x-iterator.result l.x-iterator c.next.new.self c.next.result (search rules) (search rules) l.yielded_by c.in-None.is c.next.ensures.steps in
    all_seen l.all _ (none_left a b (length l.yielded) (omega (arith, n, l.invariant.0)) l.invariant.0) ∙ l.invariant.2
