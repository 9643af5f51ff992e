use Rattle.std.proofs.Common.{refl, arith, le-ltb, lt-ltb}
use Rattle.optext.specs.Digits.{un_hex}
use Rattle.optext.proofs.digits.un_hex.Goals as goal

pub returns-then-c-lt48 : goal.returns-then-c-lt48
unfolding un_hex
returns-then-c-lt48 c = (rw (lt-ltb _ _ c.if-c-lt48.true) refl, omega arith)

pub returns-then-c-lt58 : goal.returns-then-c-lt58
unfolding un_hex
returns-then-c-lt58 c = (rw (le-ltb _ _ c.if-c-lt48.false, lt-ltb _ _ c.if-c-lt58.true) refl, omega arith)

pub returns-then-c-lt65 : goal.returns-then-c-lt65
unfolding un_hex
returns-then-c-lt65 c = (rw (le-ltb _ _ c.if-c-lt48.false, le-ltb _ _ c.if-c-lt58.false, lt-ltb _ _ c.if-c-lt65.true) refl, omega arith)

pub returns-then-c-lt71 : goal.returns-then-c-lt71
unfolding un_hex
returns-then-c-lt71 c = (rw (le-ltb _ _ c.if-c-lt48.false, le-ltb _ _ c.if-c-lt58.false, le-ltb _ _ c.if-c-lt65.false, lt-ltb _ _ c.if-c-lt71.true) refl, omega arith)

pub returns : goal.returns
unfolding un_hex
returns c = (rw (le-ltb _ _ c.if-c-lt48.false, le-ltb _ _ c.if-c-lt58.false, le-ltb _ _ c.if-c-lt65.false, le-ltb _ _ c.if-c-lt71.false) refl, omega arith)
