use Rattle.board.proofs.Laws.{did-give, did-saw}
use Rattle.step.specs.Step.{work_of}
use Rattle.step.proofs.Laws.Ends.{no_code}
use Rattle.step.proofs.seldom.Goals as goal

pub returns-in-OpCode : goal.returns-in-OpCode
returns-in-OpCode c = absurd (no_code c.in-OpCode.is c.requires.1)

pub returns-in-HaltEnd : goal.returns-in-HaltEnd
unfolding work_of
returns-in-HaltEnd c = rw c.in-HaltEnd.is
    (did-saw c.requires.0 c.restart.ensures)

pub returns-in-Boots : goal.returns-in-Boots
unfolding work_of
returns-in-Boots c = rw (c.in-Boots.is, c.bootstrap.ensures) (did-give c.requires.0)

pub returns-in-Saves : goal.returns-in-Saves
unfolding work_of
returns-in-Saves c = rw (c.in-Saves.is, c.apart.ensures)
    c.save_places.ensures

pub returns-in-LocksUp : goal.returns-in-LocksUp
unfolding work_of
returns-in-LocksUp c = rw (c.in-LocksUp.is, c.with_mode.ensures) (did-give c.requires.0)

pub returns-in-Restarts : goal.returns-in-Restarts
unfolding work_of
returns-in-Restarts c = rw c.in-Restarts.is
    (did-saw c.requires.0 c.restart-in-Restarts.ensures)

pub returns-in-Restores : goal.returns-in-Restores
unfolding work_of
returns-in-Restores c = rw (c.in-Restores.is, c.apart-in-Restores.ensures)
    (did-saw c.requires.0 c.restore_places.ensures)

pub returns-in-NonVectored : goal.returns-in-NonVectored
unfolding work_of
returns-in-NonVectored c = rw (c.in-NonVectored.is, c.apart-in-NonVectored.ensures)
    (rw c.vector.ensures at c.trap_now.ensures)

pub returns-in-Vectored : goal.returns-in-Vectored
unfolding work_of
returns-in-Vectored c = rw (c.in-Vectored.is, c.apart-in-Vectored.ensures)
    c.vectored.ensures

pub returns-in-Waits : goal.returns-in-Waits
unfolding work_of
returns-in-Waits c = rw c.in-Waits.is
    (did-give c.requires.0)

pub returns-in-Stuck : goal.returns-in-Stuck
unfolding work_of
returns-in-Stuck c = rw c.in-Stuck.is
    (did-give c.requires.0)
