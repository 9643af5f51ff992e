use Rattle.std.proofs.Common.{sym, ◌∙◌, eq-eqb, ne_eqb}
use Rattle.refusal.specs.Refusal.{board_refusal}
use Rattle.refusal.proofs.board_refusal.Goals as goal

pub returns-then-size-ne65536 : goal.returns-then-size-ne65536
unfolding board_refusal
returns-then-size-ne65536 c = simp (ne_eqb _ _ c.if-size-ne65536.true)

pub returns-then-map-ne256 : goal.returns-then-map-ne256
unfolding board_refusal
returns-then-map-ne256 c = simp (eq-eqb _ _ c.if-size-ne65536.false, ne_eqb _ _ c.if-map-ne256.true)

pub returns-then-not-all_flat : goal.returns-then-not-all_flat
unfolding board_refusal
returns-then-not-all_flat c = simp (eq-eqb _ _ c.if-size-ne65536.false, eq-eqb _ _ c.if-map-ne256.false, sym c.all_flat.ensures ∙ c.if-not-all_flat.true)

pub returns : goal.returns
unfolding board_refusal
returns c = simp (eq-eqb _ _ c.if-size-ne65536.false, eq-eqb _ _ c.if-map-ne256.false, sym c.all_flat.ensures ∙ c.if-not-all_flat.false)
