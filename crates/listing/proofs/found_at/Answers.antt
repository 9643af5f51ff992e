use Rattle.std.proofs.Common.{refl}
use Rattle.listing.proofs.Laws.{found_nothing, found-whole, found-cut}
use Rattle.listing.proofs.found_at.Goals as goal

pub returns-then-not-fitted : goal.returns-then-not-fitted
returns-then-not-fitted c = found_nothing c.args.map.now c.args.image.now c.args.last c.args.a _ c.fitted.ensures (rw c.if-not-fitted.true refl)

pub returns-then-all_stand : goal.returns-then-all_stand
returns-then-all_stand c = found-whole c.args.map.now c.args.image.now c.args.last c.args.a _ c.fitted.ensures (rw c.if-not-fitted.false refl) _ _ c.word_at.ensures c.taken-n.ensures _ c.all_stand.ensures c.if-all_stand.true

pub returns : goal.returns
returns c = found-cut c.args.map.now c.args.image.now c.args.last c.args.a _ c.fitted.ensures (rw c.if-not-fitted.false refl) _ _ c.word_at.ensures c.taken-n.ensures _ c.all_stand.ensures c.if-all_stand.false
