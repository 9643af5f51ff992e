use Rattle.std.proofs.Common.{[], ◌∷◌, arith}
use Rattle.hexdigits.proofs.Laws.Laid.{wrote-sets}
use Rattle.optext.proofs.Laws.Meets.{words-3, words-a, words-b, words-1}
use Rattle.optext.proofs.FirstWord.store.Goals as goal

pub returns-then-second : goal.returns-then-second
returns-then-second c = let a = c.args in
    let w = a.self.word in
    rw (words-3 w a.x a.y _ _ c.first_takes-first.ensures.0 c.second_takes-second.ensures.0 c.if-first.true c.if-second.true) (wrote-sets (w ∷ a.x ∷ a.y ∷ []) a.words.now (omega arith))

pub returns-then-first : goal.returns-then-first
returns-then-first c = let a = c.args in
    let w = a.self.word in
    rw (words-a w a.x a.y _ _ c.first_takes-first.ensures.0 c.second_takes-second.ensures.0 c.if-first.true c.if-second.false) (wrote-sets (w ∷ a.x ∷ []) a.words.now (omega arith))

pub returns-then-second-2 : goal.returns-then-second-2
returns-then-second-2 c = let a = c.args in
    let w = a.self.word in
    rw (words-b w a.x a.y _ _ c.first_takes-first.ensures.0 c.second_takes-second.ensures.0 c.if-first.false c.if-second-2.true) (wrote-sets (w ∷ a.y ∷ []) a.words.now (omega arith))

pub returns : goal.returns
returns c = let a = c.args in
    let w = a.self.word in
    rw (words-1 w a.x a.y _ _ c.first_takes-first.ensures.0 c.second_takes-second.ensures.0 c.if-first.false c.if-second-2.false) (wrote-sets (w ∷ []) a.words.now (omega arith))
