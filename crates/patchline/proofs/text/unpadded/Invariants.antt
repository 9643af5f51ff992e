use Rattle.std.proofs.Common.{◌≡◌, length}
use Rattle.patchline.specs.Text.{without_padding}
use Rattle.patchline.proofs.text.unpadded.Given as goal

abbrev pub invariant-loop-last : goal.invariant-loop-last
invariant-loop-last l = without_padding l.kept ≡ without_padding l.t

abbrev pub decreases-loop-last : goal.decreases-loop-last
decreases-loop-last l = length l.kept
