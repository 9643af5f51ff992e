use mathlib.Core.Path.{◌≡◌, refl, ◌∙◌}
use Prim.Native.Nat.{◌+◌, ◌-◌, ◌*◌, ◌≤◌}
use native.Mathlib.Omega.{arith}
use lib.ListN.{length-set}
use Rattle.assembler.specs.Source.{line_count, origin_at, end_at}
use Rattle.assembler.proofs.Origins.{origin-next, end_is, table_more, table_none}
use Rattle.assembler.proofs.source.survey.Goals as goal

pub loop-i-init : goal.loop-i-init
unfolding origin_at
loop-i-init c = let a = c.args in
    (c.count-n.ensures, refl, omega arith, c.requires.1, c.requires.2, table_none (origin_at a.source.now) a.starts.now, table_none (end_at a.source.now) a.ends.now)

pub said_at-s-requires : goal.said_at-s-requires
said_at-s-requires c = omega (arith, c.loop-i.invariant.0)

pub next_from-next-requires : goal.next_from-next-requires
next_from-next-requires c = (omega (arith, c.loop-i.invariant.0, c.loop-i.invariant.2, c.requires.0), c.said_at-s.ensures.1)

pub end_from-requires : goal.end_from-requires
end_from-requires c = (omega (arith, c.loop-i.invariant.0, c.loop-i.invariant.2, c.requires.0), c.said_at-s.ensures.1)

pub loop-i-preserved : goal.loop-i-preserved
loop-i-preserved c = let l = c.loop-i in
    let s = c.args.source.now in
    let few = c.requires.0 in
    let e : c.next_from-next.result ≡ origin_at s (l.i + 1) = c.next_from-next.ensures.0 ∙ origin-next s l.i _ _ l.invariant.1 c.said_at-s.ensures.0 in (
      l.invariant.0,
      e,
      omega (arith, c.next_from-next.ensures.1 (6 * l.i) l.invariant.2),
      simp length-set l.invariant.3,
      simp length-set l.invariant.4,
      table_more (origin_at s) l.starts l.i _ (omega (arith, l.invariant.0, l.invariant.3, few)) l.invariant.5 l.invariant.1,
      table_more (end_at s) l.ends l.i _ (omega (arith, l.invariant.0, l.invariant.4, few)) l.invariant.6 (c.end_from.ensures.0 ∙ end_is s l.i _ _ l.invariant.1 c.said_at-s.ensures.0),
    )

pub returns : goal.returns
returns c = let l = c.loop-i in
    let n = c.count-n.result in
    let s = c.args.source.now in
    let few : line_count s ≤ 1024 = c.requires.0 in
    let e : n ≡ line_count s = c.count-n.ensures in
    let z : l.i ≡ n = omega arith in
    (record { few = few; at = λ k h. table_more (origin_at s) l.starts n _ (omega (arith, e, few, l.invariant.3)) (rw z at l.invariant.5) (rw z at l.invariant.1) k (omega (arith, e, h)) }, record { at = λ k h. l.invariant.6 k (omega (arith, e, z, h)) })
