-- Format 6, 0800 to 09FF: the number n, 1 to 16, on the register d; f the indicators before.
use Rattle.std.specs.Prelude.{ℕ, false}
use Rattle.wordmath.specs.declared.Flags.{Flags}
use Rattle.wordmath.specs.declared.Done.{Done}
use Rattle.opcodes.specs.declared.Immediate.{Immediate}
use Rattle.opcodes.specs.declared.Immediate.TheVariants.{Addi, Subi, Bici, Movi}
use Rattle.arith.specs.Ops.{add_of, sub_of, bic_of}

-- MOVI: N, Z and V reset, C unchanged
abbrev pub movi_of : ℕ → Flags → Done
movi_of n f = record { value = n; flags = record { n = false; z = false; v = false; c = f.c } }

abbrev pub immediate_of : Immediate → ℕ → ℕ → Flags → Done
immediate_of Addi n d f = add_of 16 n d
immediate_of Subi n d f = sub_of 16 n d
immediate_of Bici n d f = bic_of 16 n d f
immediate_of Movi n d f = movi_of n f
