-- A turn of a listing, in the order of its tests. Assumes nothing.
use Rattle.std.proofs.Common.{◌≡◌, ℕ, ◌+◌, true, false, List, length, take, sym, ap, ◌∙◌}
use Rattle.records.specs.Answers.{good, written}
use Rattle.captures.specs.declared.part.Listed.{Listed}
use Rattle.captures.specs.declared.lister.Lister.{Lister}
use Rattle.captures.specs.declared.lister.Task.{Task}
use Rattle.captures.specs.Part.{list_part, kept_from}
use Rattle.pieces.specs.Tails.{tail_put}
use Rattle.pieces.specs.Turns.{Turned}
use Rattle.pieces.proofs.Runs.{wanted}
use Rattle.captures.specs.Lister.{list_fault, task_for}
use Rattle.captures.specs.Turn.{again, behind, carried, carried_on, done_by, listing, list_of}

module _ (m : Lister) (line : ℕ) (buf : List ℕ) (n : ℕ) (out s : List ℕ) (listed : Listed) (x : List ℕ) (p : s ≡ take n buf)
    (e : (listed, x) ≡ list_part line m.ordinal m.base s m.next out) where
  pub full : (l : Lister) → listed.done ≡ false → l ≡ again m line listed n → (l, (written listed.filled, (buf, x))) ≡ carried_on m line buf n out
  unfolding carried_on carried
  full l h g = rw (g, ← p, ← e, h)

  pub kept : (l : Lister) (place held : ℕ) (b : List ℕ) → listed.done ≡ true → place ≡ kept_from listed.next n → (held, b) ≡ tail_put place n buf
      → l ≡ behind m line listed.ordinal place n → (l, (written listed.filled, (b, x))) ≡ carried_on m line buf n out
  unfolding carried_on carried
  kept l place held b h k t g =
      let q : b ≡ (tail_put (kept_from listed.next n) n buf).1 = ap (λ (y : ℕ × List ℕ). y.1) t ∙ ap (λ (i : ℕ). (tail_put i n buf).1) k in
      rw (g, q, ← p, ← e, h, k)

-- the task is that of the bytes at hand, and is done
pub tasked : (m : Lister) (buf : List ℕ) (got : ℕ) (out : List ℕ) (task given : Task) (s : List ℕ) (t : Turned Lister) → good ≡ list_fault m (length buf) got (length out)
    → s ≡ take (m.held + got) buf → task ≡ task_for m.wants m got s → task ≡ given → t ≡ done_by given m buf (m.held + got) out → t ≡ list_of m buf got out
tasked m buf got out task given s t f p k g e =
    let q : given ≡ task_for m.wants m got (take (m.held + got) buf) = sym g ∙ k ∙ ap (task_for m.wants m got) p in
    wanted listing m buf got out t f (e ∙ ap (λ (y : Task). done_by y m buf (m.held + got) out) q)
