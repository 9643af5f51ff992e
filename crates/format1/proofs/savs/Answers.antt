use Rattle.board.proofs.Laws.{did-then, did-fail, did-saw, did-give}
use Rattle.format1.specs.Format1.{savs}
use Rattle.format1.proofs.savs.Goals as goal

pub returns-in_err-fetched : goal.returns-in_err-fetched
unfolding savs
returns-in_err-fetched c = did-fail _ (did-saw c.requires c.fetch.ensures) c.in_err-fetched.was c.from_residual.ensures.1

pub returns-in_err-saved : goal.returns-in_err-saved
unfolding savs
returns-in_err-saved c = did-then _ (did-saw c.requires c.fetch.ensures) c.in_ok-fetched.was
    (did-fail _ c.save.ensures c.in_err-saved.was c.from_residual-in_err-saved.ensures.1)

pub returns-in_err-old : goal.returns-in_err-old
unfolding savs
returns-in_err-old c = did-then _ (did-saw c.requires c.fetch.ensures) c.in_ok-fetched.was
    (did-then _ c.save.ensures c.in_ok-saved.was
    (did-fail _ (did-saw c.save.ensures.board c.load.ensures) c.in_err-old.was c.from_residual-in_err-old.ensures.1))

pub returns-in_err-pushed : goal.returns-in_err-pushed
unfolding savs
returns-in_err-pushed c = did-then _ (did-saw c.requires c.fetch.ensures) c.in_ok-fetched.was
    (did-then _ c.save.ensures c.in_ok-saved.was
    (did-then _ (did-saw c.save.ensures.board c.load.ensures) c.in_ok-old.was
    (did-fail _ c.push.ensures c.in_err-pushed.was c.from_residual-in_err-pushed.ensures.1)))

pub returns-in_err-store : goal.returns-in_err-store
unfolding savs
returns-in_err-store c = did-then _ (did-saw c.requires c.fetch.ensures) c.in_ok-fetched.was
    (did-then _ c.save.ensures c.in_ok-saved.was
    (did-then _ (did-saw c.save.ensures.board c.load.ensures) c.in_ok-old.was
    (did-then _ c.push.ensures c.in_ok-pushed.was
    (did-fail _ c.store.ensures c.in_err-store.was c.from_residual-in_err-store.ensures.1))))

pub returns : goal.returns
unfolding savs
returns c = did-then _ (did-saw c.requires c.fetch.ensures) c.in_ok-fetched.was
    (did-then _ c.save.ensures c.in_ok-saved.was
    (did-then _ (did-saw c.save.ensures.board c.load.ensures) c.in_ok-old.was
    (did-then _ c.push.ensures c.in_ok-pushed.was
    (did-then _ c.store.ensures c.in_ok-store.was
    (rw c.ien.ensures (did-give c.store.ensures.board))))))
