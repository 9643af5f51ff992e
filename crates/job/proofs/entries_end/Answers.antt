use Rattle.std.proofs.Common.{◌≡◌, ◌+◌, ◌-◌, ◌*◌, suc, sym, ap, ◌∙◌, arith}
use Rattle.std.proofs.lemmas.Result.{err_from_is_err_and}
use Rattle.wordbytes.specs.Words.{word_at}
use Rattle.refusal.proofs.Laws.Answer.{number-some}
use Rattle.job.specs.Job.{entry_size, why_entries, fit_pages}
use Rattle.job.proofs.Laws.{count_room, entry-room, entry-refused, entry-taken, page-noted, entry-passed, entries-end, pages-end}
use Rattle.job.proofs.entries_end.Goals as goal

pub loop-init : goal.loop-init
loop-init c =
    let s = c.args.s in
    let input = c.args.input.now in
    let at = c.args.start + 2 in
    let all : c.word_at-end.result - 0 ≡ word_at input c.args.start = omega (arith, c.word_at-end.ensures) in (
      count_room _ _ _ (sym c.in_ok-count_refusal.ensures),
      ap (λ n. at + n * entry_size s) all,
      ap (λ n. why_entries s input n at 0 c.args.fitted.now) all,
      ap (λ n. fit_pages s input n at c.args.fitted.now) all,
    )

pub returns-in_err-entry_refusal-clause-refused : goal.returns-in_err-entry_refusal-clause-refused
returns-in_err-entry_refusal-clause-refused c =
    let p = err_from_is_err_and c.from_residual-in_err-entry_refusal.result c.from_residual-in_err-entry_refusal.ensures.1 in
    rw (p.1, p.2, ← c.in_ok-count_refusal.ensures) (
    entry-refused c.args.s c.args.input.now (c.word_at-end.result - c.loop.counter) (c.word_at-end.result - (c.loop.counter + 1)) c.loop.at c.loop.low c.loop.fitted (omega (arith, c.loop-test.true)) _ c.in_err-entry_refusal.ensures (number-some c.in_err-entry_refusal.field-0.0) ∙ c.loop.invariant.2
    )

pub loop-preserved : goal.loop-preserved
loop-preserved c =
    let n = c.word_at-end.result - c.loop.counter in
    let m = c.word_at-end.result - (c.loop.counter + 1) in
    let e : n ≡ suc m = omega (arith, c.loop-test.true) in
    let at : c.loop.at + c.entry_size-at.result ≡ c.loop.at + entry_size c.args.s = ap (λ x. c.loop.at + x) c.entry_size-at.ensures in
    let low : c.key_at.result + 1 ≡ _ + 1 = ap (λ x. x + 1) c.key_at.ensures in (
      omega (arith, at, entry-room _ _ _ _ _ (sym c.in_ok-entry_refusal.ensures)),
      entry-passed c.args.s c.args.input.now n m c.loop.at c.loop.low c.loop.fitted e at ∙ c.loop.invariant.1,
      entry-taken c.args.s c.args.input.now n m c.loop.at c.loop.low c.loop.fitted e c.in_ok-entry_refusal.ensures at low c.note_page.ensures ∙ c.loop.invariant.2,
      page-noted c.args.s c.args.input.now n m c.loop.at c.loop.low c.loop.fitted e at c.note_page.ensures ∙ c.loop.invariant.3,
    )

pub returns-clause-refused : goal.returns-clause-refused
returns-clause-refused c = rw (← c.in_ok-count_refusal.ensures) (sym (entries-end _ _ _ _ _ _ (omega (arith, c.loop-test.false))) ∙ c.loop.invariant.2)

pub returns-clause-noted : goal.returns-clause-noted
returns-clause-noted c = sym (pages-end _ _ _ _ c.loop.low _ (omega (arith, c.loop-test.false))) ∙ c.loop.invariant.3
