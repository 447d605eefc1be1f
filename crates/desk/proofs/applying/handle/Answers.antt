-- The record that answers is permitted on the line, so it is sent whole, and what was sent is stored.
use Rattle.std.proofs.Common.{length-take-le, sym, rules}
use Rattle.desk.specs.Deciding.{matter_of}
use Rattle.desk.proofs.Answering.{chosen-permitted}
use Rattle.desk.proofs.Sendings.{front-most, sent-inside, handle-sent}
use Rattle.desk.proofs.applying.handle.Goals as goal

pub slice_bounds-store-end : goal.slice_bounds-store-end
slice_bounds-store-end c =
    let a = c.args in
    let d = a.sound.desk in
    let p = chosen-permitted d (search rules) a.sound.fits (matter_of a.matter) _ _ c.choose-rec.ensures in
    sent-inside d.line _ a.number a.out.now p c.requires.0 c.requires.1 _ _ c.send-sent.ensures

pub slice_bounds-store-end-2 : goal.slice_bounds-store-end-2
slice_bounds-store-end-2 c =
    let a = c.args in
    let d = a.sound.desk in
    let p = chosen-permitted d (search rules) a.sound.fits (matter_of a.matter) _ _ c.choose-rec.ensures in
    sym (length-take-le _ _ (sent-inside d.line _ a.number a.out.now p c.requires.0 c.requires.1 _ _ c.send-sent.ensures))

pub store-requires : goal.store-requires
store-requires c =
    let a = c.args in
    let d = a.sound.desk in
    let p = chosen-permitted d (search rules) a.sound.fits (matter_of a.matter) _ _ c.choose-rec.ensures in
    front-most d.line _ a.number a.out.now p c.requires.0 c.requires.1 _ _ c.send-sent.ensures

pub returns : goal.returns
returns c =
    let a = c.args in
    let d = a.sound.desk in
    let p = chosen-permitted d (search rules) a.sound.fits (matter_of a.matter) _ _ c.choose-rec.ensures in
    handle-sent d (matter_of a.matter) _ _ c.choose-rec.ensures p a.lost a.at a.number a.out.now c.requires.0 c.requires.1
    _ _ c.send-sent.ensures _ _ c.mark-kept.ensures c.store.ensures
