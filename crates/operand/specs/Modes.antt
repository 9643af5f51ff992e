-- The modes as the code goes through them: 1 to 5 in one, 6 and 7 in one; and that this is `locate`.
use Rattle.std.specs.Prelude.{ℕ, ◌/◌, ◌%◌, Bool, true, false, ◌&&◌, not, cond, eqb, ltb}
use Rattle.board.specs.Work.{Work, give}
use Rattle.wordmath.specs.Address.{plus, minus}
use Rattle.operand.specs.declared.Place.{Place}
use Rattle.operand.specs.declared.Place.TheVariants.{Mem}
use Rattle.operand.specs.Operand.{deferred}

-- modes 1 to 5 in one: the register points to the operand, or in modes 3 and 5 to its address
abbrev pub defers : ℕ → Bool
defers mode = eqb (mode % 2) 1 && not (eqb mode 1)

abbrev pub stride : ℕ → ℕ → ℕ
stride step mode = cond (eqb (mode % 2) 1) 2 step

abbrev pub pointer : ℕ → ℕ → ℕ → ℕ
pointer r by mode = cond (ltb 3 mode) (minus r by) r

abbrev pub beyond : ℕ → ℕ → ℕ → ℕ
beyond at by mode = cond (eqb (mode / 2) 1) (plus at by) at

abbrev pub through : Bool → ℕ → ℕ → ℕ → Work Place
through true at k next = deferred at k next
through false at k next = give (Mem at k next)

unfoldable pub pointed : ℕ → ℕ → ℕ → ℕ → Work Place
pointed step k r mode =
    through (defers mode) (pointer r (stride step mode) mode) k (beyond (pointer r (stride step mode) mode) (stride step mode) mode)
