use Prim.Native.Nat.{◌+◌, ◌*◌}
use mathlib.Core.Path.{◌≡◌, refl, ◌∙◌}
use native.Mathlib.Omega.{arith}
use Rattle.trace.proofs.Laws.{put-more, put-none}
use Rattle.trace.proofs.put_entry.Goals as goal

pub loop-field-init : goal.loop-field-init
loop-field-init c = let e : c.args.at + 0 * 2 ≡ c.args.at = omega arith in (refl, rw e)

pub overflow_mul-field : goal.overflow_mul-field
overflow_mul-field c = omega arith

pub overflow_add-at : goal.overflow_add-at
overflow_add-at c = omega arith

pub put_word-requires : goal.put_word-requires
put_word-requires c = omega arith

pub loop-field-preserved : goal.loop-field-preserved
loop-field-preserved c = (
  c.put_word.auto.out ∙ c.loop-field.invariant.0,
  put-more _ _ c.args.entry c.args.at c.loop-field.field (omega arith) c.put_word.ensures ∙ c.loop-field.invariant.1,
)

pub returns : goal.returns
returns c = put-none _ c.args.entry c.args.at c.loop-field.field (omega arith) ∙ c.loop-field.invariant.1
