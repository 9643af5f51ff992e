use Rattle.step.specs.Step.{kind_in}
use Rattle.step.proofs.kind_in.Goals as goal

pub returns-in-Running : goal.returns-in-Running
unfolding kind_in
returns-in-Running c = rw c.in-Running.is c.asked.ensures

pub returns-in-Waiting : goal.returns-in-Waiting
unfolding kind_in
returns-in-Waiting c = rw c.in-Waiting.is c.asked-in-Waiting.ensures

pub returns-in-PowerHalt : goal.returns-in-PowerHalt
unfolding kind_in
returns-in-PowerHalt c = rw c.in-PowerHalt.is c.power_halted.ensures

pub returns-in-SwitchHalt : goal.returns-in-SwitchHalt
unfolding kind_in
returns-in-SwitchHalt c = rw c.in-SwitchHalt.is c.switch_halted.ensures

pub returns-in-Locked : goal.returns-in-Locked
unfolding kind_in
returns-in-Locked c = rw c.in-Locked.is

pub returns-in-Saved : goal.returns-in-Saved
unfolding kind_in
returns-in-Saved c = rw c.in-Saved.is c.saved.ensures
