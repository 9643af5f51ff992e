use Rattle.std.proofs.Common.{ℕ, eqb, ◌∙◌, rules}
use borrow.Author.Tests.{tests}
use Rattle.std.specs.List.{zip}
use Rattle.std.proofs.lemmas.Iterator.{YieldsList-from_slice, YieldsList-from_zip}
use Rattle.std.proofs.lemmas.Iterator.Consumers.{YieldsList-at, count_from_yields_List}
use Rattle.std.proofs.lemmas.Iterator.Search.{YieldsList-from_take_while}
use Rattle.std.proofs.lemmas.List.Folds.{length-prefix_len}
use Rattle.optext.proofs.Laws.Near.{agree-pairs}
use Rattle.optext.proofs.agreed.Goals as goal

pub returns : goal.returns
returns c = let s = c.args.s.now in
    let t = c.args.t.now in
    count_from_yields_List c.take_while.result _ c.count.ensures.ran
    (YieldsList-from_take_while _ (λ (x : ℕ × ℕ). eqb x.0 x.1)
    (YieldsList-at c.take_while.ensures.source (YieldsList-from_zip (YieldsList-from_slice s cc) (YieldsList-from_slice t cc)))
    c.take_while.ensures.closure c.take_while.ensures.done (λ x b q k. search (rules, tests)))
    ∙ length-prefix_len (λ (x : ℕ × ℕ). eqb x.0 x.1) (zip s t) ∙ agree-pairs s t
