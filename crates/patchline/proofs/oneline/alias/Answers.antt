use Rattle.std.proofs.Common.{sym}
use Rattle.patchline.proofs.Laws.{tells-same, alias-1, alias-2, alias-3, alias-4, alias-5}
use Rattle.patchline.proofs.oneline.alias.Goals as goal

pub returns-then-eq : goal.returns-then-eq
returns-then-eq c = sym (alias-1 _ (tells-same _ c.eq.ensures c.as_slice.ensures c.if-eq.true))

pub returns-then-eq-2 : goal.returns-then-eq-2
returns-then-eq-2 c = sym (alias-2 _ (tells-same _ c.eq.ensures c.as_slice.ensures c.if-eq.false) (tells-same _ c.eq-2.ensures c.as_slice-2.ensures c.if-eq-2.true))

pub returns-then-eq-3 : goal.returns-then-eq-3
returns-then-eq-3 c = sym (alias-3 _ (tells-same _ c.eq.ensures c.as_slice.ensures c.if-eq.false) (tells-same _ c.eq-2.ensures c.as_slice-2.ensures c.if-eq-2.false) (tells-same _ c.eq-3.ensures c.as_slice-3.ensures c.if-eq-3.true))

pub returns-then-eq-4 : goal.returns-then-eq-4
returns-then-eq-4 c = sym (alias-4 _ (tells-same _ c.eq.ensures c.as_slice.ensures c.if-eq.false) (tells-same _ c.eq-2.ensures c.as_slice-2.ensures c.if-eq-2.false) (tells-same _ c.eq-3.ensures c.as_slice-3.ensures c.if-eq-3.false) (tells-same _ c.eq-4.ensures c.as_slice-4.ensures c.if-eq-4.true))

pub returns : goal.returns
returns c = sym (alias-5 _ (tells-same _ c.eq.ensures c.as_slice.ensures c.if-eq.false) (tells-same _ c.eq-2.ensures c.as_slice-2.ensures c.if-eq-2.false) (tells-same _ c.eq-3.ensures c.as_slice-3.ensures c.if-eq-3.false) (tells-same _ c.eq-4.ensures c.as_slice-4.ensures c.if-eq-4.false))
