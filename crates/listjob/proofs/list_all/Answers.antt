use Rattle.std.proofs.Common.{sym, ap, ◌∙◌, arith}
use Rattle.listing.specs.Calls.{next_told}
use Rattle.listjob.proofs.Laws.{begun-none, begun-low, begun-fits, begun_more, begun-further, begun-last}
use Rattle.listjob.proofs.list_all.Goals as goal

pub loop-next-init : goal.loop-next-init
loop-next-init c = begun-none c.args.image.now c.args.map.now c.args.first c.args.last c.args.text.now c.requires.none

pub line_at-line-requires : goal.line_at-line-requires
line_at-line-requires c = begun-fits c.args.image.now c.args.map.now c.args.first c.args.last c.args.text.now (omega arith) c.loop-next.text c.loop-next.a c.loop-next.at c.loop-next.invariant c.requires.there

pub loop-next-smaller : goal.loop-next-smaller
loop-next-smaller c = let h = c.line_at-line.ensures in
    let f = begun-further c.args.image.now c.args.map.now c.args.first c.args.last c.args.text.now (omega arith) c.loop-next.text c.loop-next.a c.loop-next.at c.loop-next.invariant _ _ h.0 _ (ap next_told (sym c.in-Some.is) ∙ h.1) in
    omega (arith, f, begun-low c.args.image.now c.args.map.now c.args.first c.args.last c.args.text.now (omega arith) c.loop-next.text c.loop-next.a c.loop-next.at c.loop-next.invariant)

pub loop-next-preserved : goal.loop-next-preserved
loop-next-preserved c = let h = c.line_at-line.ensures in
    begun_more c.args.image.now c.args.map.now c.args.first c.args.last c.args.text.now (omega arith) c.loop-next.text c.loop-next.a c.loop-next.at c.loop-next.invariant _ _ h.0 _ c.line_at-line.auto.text (ap next_told (sym c.in-Some.is) ∙ h.1)

pub returns-in-None : goal.returns-in-None
returns-in-None c = let h = c.line_at-line.ensures in
    begun-last c.args.image.now c.args.map.now c.args.first c.args.last c.args.text.now (omega arith) c.loop-next.text c.loop-next.a c.loop-next.at c.loop-next.invariant _ _ h.0 (ap next_told (sym c.in-None.is) ∙ h.1)
