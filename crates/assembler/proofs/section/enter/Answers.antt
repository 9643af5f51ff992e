use mathlib.Core.List.{[]}
use native.Mathlib.Omega.{arith}
use Rattle.assembler.proofs.Sorted.{entered-0, enters-1, enters-2, enters-3}
use Rattle.assembler.proofs.section.enter.Goals as goal

pub returns-then-o-lt1 : goal.returns-then-o-lt1
returns-then-o-lt1 c = record { entries = entered-0 _ _ _ c.if-o-lt1.true; count = omega arith; size = c.requires.1 }

pub insert-m-requires : goal.insert-m-requires
insert-m-requires c = (omega (arith, c.requires.0), c.requires.1)

pub returns-then-o-lt2 : goal.returns-then-o-lt2
returns-then-o-lt2 c = enters-1 _ _ [] [] _ _ 0 0 _ _ 0 0 0 0 _ c.insert-m.ensures c.entry.ensures c.if-o-lt1.false c.if-o-lt2.true

pub insert-k-requires : goal.insert-k-requires
insert-k-requires c = (omega (arith, c.insert-m.ensures.count, c.requires.0), c.insert-m.ensures.size)

pub returns-then-o-lt3 : goal.returns-then-o-lt3
returns-then-o-lt3 c = enters-2 _ _ _ [] _ _ _ 0 _ _ _ 0 _ 0 _ c.insert-m.ensures c.entry.ensures c.insert-k.ensures c.entry-2.ensures c.plus.ensures c.if-o-lt2.false c.if-o-lt3.true

pub insert-requires : goal.insert-requires
insert-requires c = (omega (arith, c.insert-m.ensures.count, c.insert-k.ensures.count, c.requires.0), c.insert-k.ensures.size)

pub returns : goal.returns
returns c = enters-3 _ _ _ _ _ _ _ _ _ _ _ _ _ _ _ c.insert-m.ensures c.entry.ensures c.insert-k.ensures c.entry-2.ensures c.plus.ensures c.insert.ensures c.entry-3.ensures c.plus-2.ensures c.if-o-lt3.false
