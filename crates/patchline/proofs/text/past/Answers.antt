use Rattle.std.proofs.Common.{ℕ, ◌≡◌, leb, ◌&&◌, ◌∙◌, arith, rules}
use borrow.Author.Tests.{tests}
use Rattle.std.proofs.lemmas.Iterator.{YieldsList-from_slice}
use Rattle.std.proofs.lemmas.Iterator.Consumers.{YieldsList-at, count_from_yields_List}
use Rattle.std.proofs.lemmas.Iterator.Search.{YieldsList-from_take_while}
use Rattle.std.proofs.lemmas.List.Folds.{length-prefix_len}
use Rattle.patchline.specs.Text.{past_of}
use Rattle.patchline.proofs.Laws.{letters-past, letters-le}
use Rattle.patchline.proofs.text.past.Goals as goal

pub returns : goal.returns
returns c = let t = c.args.t.now in
    let top = c.args.top in
    let e : c.count.result ≡ past_of top t = count_from_yields_List c.take_while.result _ c.count.ensures.ran
    (YieldsList-from_take_while _ (λ (x : ℕ). leb 65 x && leb x top)
    (YieldsList-at c.take_while.ensures.source (YieldsList-from_slice t cc))
    c.take_while.ensures.closure c.take_while.ensures.done (λ x b q k. search (rules, tests)))
    ∙ length-prefix_len (λ (x : ℕ). leb 65 x && leb x top) t ∙ letters-past top t in
    (e, omega (arith, letters-le top t, e))
