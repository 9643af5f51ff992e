use mathlib.Core.Path.{sym, ◌∙◌}
use Rattle.board.proofs.Laws.{did-give}
use Rattle.format10.proofs.Laws.Format10.{settle-yes, settle-no}
use Rattle.format10.proofs.settle.Goals as goal

pub returns-then-stores : goal.returns-then-stores
returns-then-stores c = rw (settle-yes c.args.b c.args.s c.args.k c.args.place c.args.v (sym c.stores.ensures ∙ c.if-stores.true))
    c.write.ensures

pub returns : goal.returns
returns c = rw (settle-no c.args.b c.args.s c.args.k c.args.place c.args.v (sym c.stores.ensures ∙ c.if-stores.false))
    (did-give c.requires)
