-- A call on bytes is the call by value, through what its parts promise. Assumes nothing.
use mathlib.Core.Path.{◌≡◌, ap}
use mathlib.Core.List.{List}
use Prim.Native.Nat.{ℕ}
use lib.ListN.{length}
use borrow.Author.Tests.{eq-eqb}
use Rattle.master.specs.declared.state.Master.{Master}
use Rattle.master.specs.Answers as m
use Rattle.master.specs.Sending.{Behind}
use Rattle.master.specs.Hearing as mh
use Rattle.blocks.specs.Record.{record_length}
use Rattle.blocks.specs.Masters as ms
use Rattle.in656.specs.declared.results.result.In656Result.{In656Result}
use Rattle.in656.specs.Results.Result.{Call}
use Rattle.in656.specs.Masters as master
use Rattle.in656.specs.Results.Frames.{desk_frame, master_frame}
use Rattle.desk.specs.declared.state.Desk.{Desk}
use Rattle.desk.specs.Heard as d
use Rattle.desk.specs.Hearing as dh
use Rattle.blocks.specs.Desks as ds
use Rattle.in656.specs.Desks as desk

-- a call of the master that may send
pub master-sends : (r : In656Result) (s o b : List ℕ) (x : Master) (told : m.Told) (h : Behind)
    → (r, s) ≡ master.stepped (x, told) b → (x, (told, o)) ≡ h → (r, (s, o)) ≡ master.sends h b
unfolding master.stepped
master-sends r s o b x told h p q = rw (← q) (ap (λ (w : Call). (w.0, (w.1, o))) p)

-- the master's hearing
pub master-hears : (b : List ℕ) (time : ℕ) (frame block out : List ℕ) (x y : Master) (told : m.Told) (o s k : List ℕ) (r f : In656Result)
    → x ≡ ms.load_of b → length block ≡ record_length → (y, (told, o)) ≡ mh.hear_of x time frame out → (r, s) ≡ master.stepped (y, told) b
    → k ≡ master.answer_block told block → f ≡ master_frame told x.line frame r → (f, (s, (k, o))) ≡ master.master_hear b time frame block out
unfolding master.master_hear master.heard master.stepped
master-hears b time frame block out x y told o s k r f l e q p g t =
    rw (eq-eqb _ _ e, ← l, ← q, g, t) (ap (λ (w : Call). (master_frame told x.line frame w.0, (w.1, (master.answer_block told block, o)))) p)

-- the desk's hearing
pub desk-hears : (b : List ℕ) (time : ℕ) (frame block out : List ℕ) (x y : Desk) (told : d.Told) (o s k : List ℕ) (r f : In656Result)
    → x ≡ ds.load_of b → length block ≡ record_length → (y, told, o) ≡ dh.hear_of x time frame out → (r, (s, k)) ≡ desk.heard_parts y told b block
    → f ≡ desk_frame told x.line frame r → (f, (s, (k, o))) ≡ desk.desk_hear b time frame block out
unfolding desk.desk_hear desk.heard desk.heard_parts
desk-hears b time frame block out x y told o s k r f l e q p t =
    rw (eq-eqb _ _ e, ← l, ← q, t) (ap (λ (w : In656Result × (List ℕ × List ℕ)). (desk_frame told x.line frame w.0, (w.1.0, (w.1.1, o)))) p)
