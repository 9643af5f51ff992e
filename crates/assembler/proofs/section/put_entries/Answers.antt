use mathlib.Core.Path.{◌≡◌, refl, ◌∙◌}
use Prim.Native.Nat.{◌-◌}
use native.Mathlib.Omega.{arith}
use Rattle.assembler.proofs.Sorted.{entries_none, entries-more}
use Rattle.assembler.proofs.Laws.Section.{flat-length}
use lib.ListN.{length, take}
use lib.Seq.{length-take-le}
use Rattle.assembler.proofs.section.put_entries.Goals as goal

pub loop-i-init : goal.loop-i-init
loop-i-init c = (refl, entries_none c.args.from c.args.table.now c.args.out.now)

pub put_entry_at-at-requires : goal.put_entry_at-at-requires
put_entry_at-at-requires c = let l = c.loop-i in
    let t = c.args.table.now in
    let q : length (take l.i t) ≡ l.i = length-take-le l.i t (omega (arith, c.requires.1, c.requires.2)) in
    omega (arith, l.invariant.1.count, flat-length (take l.i t), l.invariant.0, c.requires.0, c.requires.1)

pub loop-i-preserved : goal.loop-i-preserved
loop-i-preserved c = let l = c.loop-i in
    let t = c.args.table.now in
    (c.put_entry_at-at.auto.out ∙ l.invariant.0, entries-more t _ _ _ c.args.from l.i _ _ _ (omega (arith, c.requires.0)) (omega (arith, c.requires.1, c.requires.2)) refl l.invariant.1 c.put_entry_at-at.ensures)

pub returns : goal.returns
returns c = let l = c.loop-i in let z : l.i ≡ c.args.n = omega arith in rw z at l.invariant.1
