use Rattle.std.proofs.Common.{sym, refl, ◌∙◌, arith, length-take-le}
use Rattle.optext.specs.Line.{op_text}
use Rattle.optext.proofs.Laws.Meets.{accepts}
use Rattle.optext.proofs.Laws.Near.{agree-le-text}
use Rattle.optext.proofs.Laws.Columns.{found-text, refuses-32, refuses-31, refuses-9, refuses-30}
use Rattle.optext.proofs.Laws.Theorems.{only-guess}
use Rattle.optext.proofs.read.Goals as goal

pub returns-then-at-m : goal.returns-then-at-m
returns-then-at-m c = let a = c.args in
    let g = c.decode-g.result in
    let m = c.compare-m.result in
    accepts a.text.now a.words.now c.store.new.words c.store.result g.w g.x g.y (omega arith) (omega arith) (omega arith) c.if-words-lt3.false
    (found-text a.text.now a.words.now g c.decode-g.ensures m.at m.len (rw c.of-first.ensures at c.compare-m.ensures.0) (rw c.of-first.ensures at c.compare-m.ensures.1) c.if-at-text.true c.if-at-m.true)
    (rw c.of-first.ensures at c.store.ensures)
    (only-guess a.text.now g c.decode-g.ensures)

pub returns-then-at-text : goal.returns-then-at-text
returns-then-at-text c = let a = c.args in
    let m = c.compare-m.result in
    refuses-32 a.text.now a.words.now c.decode-g.result c.decode-g.ensures m.at m.len (rw c.of-first.ensures at c.compare-m.ensures.0) (rw c.of-first.ensures at c.compare-m.ensures.1) c.if-words-lt3.false c.if-at-text.true c.if-at-m.false

pub returns-then-at-m-2 : goal.returns-then-at-m-2
returns-then-at-m-2 c = let a = c.args in
    let m = c.compare-m.result in
    refuses-31 a.text.now a.words.now c.decode-g.result c.decode-g.ensures m.at m.len (rw c.of-first.ensures at c.compare-m.ensures.0) (rw c.of-first.ensures at c.compare-m.ensures.1) c.if-words-lt3.false c.if-at-text.false c.if-at-m-2.true

pub slice_bounds-has_space-end : goal.slice_bounds-has_space-end
slice_bounds-has_space-end c = let a = c.args in
    let m = c.compare-m.result in
    let g = c.decode-g.result in
    let h = agree-le-text a.text.now (op_text g.w g.x g.y) in
    sym (length-take-le m.at a.text.now (omega (arith, rw c.of-first.ensures at c.compare-m.ensures.0, h)))

pub returns-then-has_space : goal.returns-then-has_space
returns-then-has_space c = let a = c.args in
    let m = c.compare-m.result in
    refuses-30 a.text.now a.words.now c.decode-g.result c.decode-g.ensures m.at m.len (rw c.of-first.ensures at c.compare-m.ensures.0) (rw c.of-first.ensures at c.compare-m.ensures.1) c.if-words-lt3.false c.if-at-text.false c.if-at-m-2.false (sym c.has_space.ensures ∙ c.if-has_space.true)

pub returns : goal.returns
returns c = let a = c.args in
    let m = c.compare-m.result in
    refuses-9 a.text.now a.words.now c.decode-g.result c.decode-g.ensures m.at m.len (rw c.of-first.ensures at c.compare-m.ensures.0) (rw c.of-first.ensures at c.compare-m.ensures.1) c.if-words-lt3.false c.if-at-text.false c.if-at-m-2.false (sym c.has_space.ensures ∙ c.if-has_space.false)

pub returns-then-words-lt3 : goal.returns-then-words-lt3
returns-then-words-lt3 c = (refl, record { room = c.if-words-lt3.true; same = refl })
