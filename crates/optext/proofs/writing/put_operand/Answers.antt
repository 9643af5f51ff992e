use Rattle.std.proofs.Common.{[], arith}
use Rattle.hexdigits.specs.Digits.{hex4}
use Rattle.hexdigits.proofs.Laws.Laid.{wrote-sets, wrote-fits}
use Rattle.optext.proofs.writing.put_operand.Goals as goal

pub returns-in-None : goal.returns-in-None
unfolding hex4
returns-in-None c = rw c.in-None.is (wrote-sets [] c.args.out.now (omega arith))

pub returns-in-Mask : goal.returns-in-Mask
unfolding hex4
returns-in-Mask c = rw c.in-Mask.is (wrote-fits _ _ _ _ (omega (arith, c.requires)) c.put_hex4.ensures)

pub returns-in-Disp : goal.returns-in-Disp
unfolding hex4
returns-in-Disp c = rw c.in-Disp.is c.put_hex2.ensures

pub returns-in-Reg : goal.returns-in-Reg
unfolding hex4
returns-in-Reg c = rw c.in-Reg.is c.put_reg.ensures

pub returns-in-Arg4 : goal.returns-in-Arg4
unfolding hex4
returns-in-Arg4 c = rw c.in-Arg4.is c.put_digit.ensures

pub returns-in-Arg6 : goal.returns-in-Arg6
unfolding hex4
returns-in-Arg6 c = rw c.in-Arg6.is c.put_hex2-in-Arg6.ensures

pub returns-in-Count : goal.returns-in-Count
unfolding hex4
returns-in-Count c = rw c.in-Count.is c.put_hex2-in-Count.ensures

pub returns-in-High : goal.returns-in-High
unfolding hex4
returns-in-High c = rw c.in-High.is c.put_reg-in-High.ensures

pub returns-in-Mid : goal.returns-in-Mid
unfolding hex4
returns-in-Mid c = rw c.in-Mid.is c.put_reg-in-Mid.ensures

pub returns-in-Dst : goal.returns-in-Dst
unfolding hex4
returns-in-Dst c = rw c.in-Dst.is c.put_mode.ensures

pub returns-in-Addr : goal.returns-in-Addr
unfolding hex4
returns-in-Addr c = rw c.in-Addr.is c.put_mode-in-Addr.ensures

pub returns-in-Src : goal.returns-in-Src
unfolding hex4
returns-in-Src c = rw c.in-Src.is c.put_mode-in-Src.ensures

pub returns-in-Word : goal.returns-in-Word
unfolding hex4
returns-in-Word c = rw c.in-Word.is (wrote-fits _ _ _ _ (omega (arith, c.requires)) c.put_hex4-in-Word.ensures)
