use Rattle.std.proofs.Common.{◌≡◌, ◌+◌, ◌*◌, ◌%◌, ◌≤◌, Bool, ◌&&◌, length, sym, refl, ◌∙◌, ap₂, arith}
use Rattle.refusal.specs.Refusal.{flat}
use Rattle.refusal.proofs.Laws.Four.{Four, lows, lows-all, flat-more, seen_all}
use Rattle.refusal.proofs.all_flat.Goals as goal

pub loop-k-init : goal.loop-k-init
unfolding lows
loop-k-init c = refl

pub loop-k-preserved : goal.loop-k-preserved
loop-k-preserved c =
    let map = c.args.map.now in
    let i = c.loop-k.k * 4 in
    let at : i + 4 ≤ length map = omega (arith, c.loop-k-test.true, c.requires) in
    let bytes : Four map i c.four-w.result =
    record { word = c.four-w.ensures.0; first = c.four-w.ensures.1; second = c.four-w.ensures.2; third = c.four-w.ensures.3; fourth = c.four-w.ensures.4 } in
    let more = flat-more map i c.loop-k.seen c.loop-k.next c.four-w.result ((c.four-w.result + 16843009) % 4294967296) at bytes refl ∙ c.loop-k.invariant in
    let place : (c.loop-k.k + 1) * 4 ≡ i + 4 = omega arith in
    rw place more

pub returns : goal.returns
returns c = ap₂ (λ (x y : Bool). x && y) (c.low.ensures ∙ lows-all c.loop-k.seen) (c.low-2.ensures ∙ lows-all c.loop-k.next)
    ∙ sym (seen_all (lows 4 c.loop-k.seen && lows 4 c.loop-k.next) flat c.args.map.now (c.loop-k.k * 4) (omega (arith, c.loop-k-test.false, c.requires)))
    ∙ c.loop-k.invariant
