use native.Mathlib.Omega.{arith}
use Rattle.hexdigits.proofs.Laws.Laid.{at_part}
use Rattle.stepline.proofs.Laws.{pair-length}
use Rattle.stepline.proofs.word_text_at.Goals as goal

pub overflow_add-result : goal.overflow_add-result
overflow_add-result c = omega (arith, c.put_word.ensures.count, pair-length c.args.image.now c.args.a, c.requires)

pub returns : goal.returns
returns c = at_part _ _ _ _ _ (omega (arith, c.requires)) c.put_word.ensures
