-- The moves that op codes are made of, opened together: where their accesses are counted.
use Rattle.board.specs.Work.{◌>>=◌}
use Rattle.state.specs.Stack.{push, push_reg, pop, pop_reg, pop_status, fetch, from_loc, push_both, trap, tabled}

unfoldable pub opened : Unit {0}
unfolding ◌>>=◌ push push_reg pop pop_reg pop_status fetch from_loc push_both trap tabled
opened = tt
