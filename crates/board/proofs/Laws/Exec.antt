-- The store that work leaves, answered or not.
use Rattle.board.specs.Exec.{Store, Now, good, gone}

abbrev pub store_of : {A : Type 0} → Now A → Store
store_of (good x st) = st
store_of (gone a st) = st
