use Prim.Native.Nat.{◌/◌, ◌%◌}
use mathlib.Core.Path.{◌≡◌}
use lib.ListN.{length-set}
use native.Mathlib.Omega.{arith}
use Rattle.board.specs.Work.{with_word, even}
use Rattle.board.proofs.put_word.Goals as goal

pub bounds-image-at-2 : goal.bounds-image-at-2
bounds-image-at-2 c = simp length-set (omega arith)

pub returns : goal.returns
unfolding with_word even
returns c = let v = c.args.v in
    let top : v / 256 % 256 ≡ v / 256 = omega arith in
    rw (c.low.ensures, c.high.ensures, top)
