use Rattle.board.proofs.Laws.{did-then, did-fail, did-saw}
use Rattle.format1.specs.Format1.{rsts}
use Rattle.format1.proofs.rsts.Goals as goal

pub returns-in_err-t : goal.returns-in_err-t
unfolding rsts
returns-in_err-t c = did-fail _ (did-saw c.requires c.pop.ensures) c.in_err-t.was c.from_residual.ensures.1

pub returns-in_err-store : goal.returns-in_err-store
unfolding rsts
returns-in_err-store c = did-then _ (did-saw c.requires c.pop.ensures) c.in_ok-t.was
    (did-fail _ c.store.ensures c.in_err-store.was c.from_residual-in_err-store.ensures.1)

pub returns : goal.returns
unfolding rsts
returns c = did-then _ (did-saw c.requires c.pop.ensures) c.in_ok-t.was
    (did-then _ c.store.ensures c.in_ok-store.was (did-saw c.store.ensures.board c.rrtt.ensures))
