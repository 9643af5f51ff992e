use mathlib.Core.Path.{◌∙◌}
use native.Mathlib.Omega.{arith}
use Rattle.job.proofs.Laws.{read-lengths}
use Rattle.runjob.proofs.Laws.{filling}
use Rattle.runjob.proofs.begin.Goals as goal

pub fill-count-requires : goal.fill-count-requires
fill-count-requires c = read-lengths _ _ _ c.args.input.now c.requires.none

pub power-state-requires : goal.power-state-requires
power-state-requires c = let f = filling c.args.input.now c.requires c.fill-count.ensures in
    record { pages = f.pages; size = f.bytes; bytes = λ i. omega (arith, c.slice_known-4-1.given i) }

pub returns : goal.returns
returns c = let f = filling c.args.input.now c.requires c.fill-count.ensures in
    record {
      powered = c.power-state.ensures.came ∙ rw (c.bench_board.ensures, c.fill-count.ensures.map_is, c.fill-count.ensures.image-is);
      map_is = c.fill-count.ensures.map_is;
      lines_is = c.fill-count.ensures.lines-is;
      count_is = c.fill-count.ensures.count-is;
      within = f.within;
      good = record { lent = c.power-state.ensures.lent; few = f.few };
    }
