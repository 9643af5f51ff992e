use Rattle.std.proofs.Common.{refl, eq-eqb, ne_eqb}
use Rattle.optext.specs.Guess.{un_word}
use Rattle.optext.proofs.reading.un_word.Goals as goal

pub returns-then-c-eq55 : goal.returns-then-c-eq55
unfolding un_word
returns-then-c-eq55 c = rw (← c.byte_at-c.ensures, eq-eqb _ _ c.if-c-eq55.true, c.un_hex-x.ensures.0, c.un_hex-y.ensures.0, c.un_hex-z.ensures.0, c.byte_at.ensures, c.byte_at-2.ensures, c.byte_at-3.ensures) refl

pub returns : goal.returns
unfolding un_word
returns c = rw (← c.byte_at-c.ensures, ne_eqb _ _ c.if-c-eq55.false, c.un_hex-x.ensures.0, c.un_hex-y.ensures.0, c.un_hex-z.ensures.0, c.byte_at.ensures, c.byte_at-2.ensures, c.byte_at-3.ensures) refl
