use Rattle.std.proofs.Common.{◌≡◌, ◌-◌, ◌+◌, length, drop, take, arith, sym, ap, ◌∙◌}
use Rattle.std.specs.Prelude.{not, ◌==◌}
use Rattle.std.specs.List.{prefix_len}
use Rattle.std.proofs.Math.ListN.{length-drop}
use Rattle.std.proofs.lemmas.Grind.{common_steps}
use Rattle.printing.specs.Lines.{line_length}
use Rattle.printing.proofs.Laws.Lines.{line-counted, line-whole, line-within}
use Rattle.printing.proofs.line_end.Goals as goal

pub returns-then-t-from : goal.returns-then-t-from
returns-then-t-from c = sym (line-whole c.args.t.now c.args.from (omega arith))

-- what was counted, and what was looked at
counted : (c : goal.After-length_before) → c.length_before.result ≡ line_length (drop c.args.from c.args.t.now)
counted c =
    let whole : take (length c.args.t.now - c.args.from) (drop c.args.from c.args.t.now) ≡ drop c.args.from c.args.t.now = grind (arith, common_steps) in
    c.length_before.ensures ∙ ap (λ l. prefix_len (λ b. not (b == 10)) l) whole ∙ line-counted (drop c.args.from c.args.t.now)

pub overflow_add-result : goal.overflow_add-result
overflow_add-result c =
    omega (arith, counted c, line-within (drop c.args.from c.args.t.now), length-drop c.args.from c.args.t.now, c.if-t-from.false, c.ranges.from)

pub returns : goal.returns
returns c = ap (λ n. c.args.from + n) (counted c)
