-- What an empty run leaves of a state's bytes: all but the cause and the address of the step before, which become 0.
use Rattle.std.proofs.Common.{Ok}
use Prim.Native.Nat.{ℕ, ◌<◌}
use native.Mathlib.Omega.{arith}
use mathlib.Core.Bool.{false}
use mathlib.Core.List.{List, [], ◌∷◌}
use mathlib.Core.Path.{◌≡◌, refl, sym, ap, ◌∙◌}
use lib.Dec.{eqb, ltb}
use lib.ListN.{length, get_or}
use lib.Seq.{ext_get_or}
use borrow.Author.Tests.{eqb-true, not-false, ltb-false}
use Rattle.wordmath.specs.Number.{digit}
use Rattle.wordmath.specs.Status.{flags_of}
use Rattle.wordbytes.specs.Words.{byte_at}
use Rattle.wordbytes.proofs.Laws.{low_of, high-of}
use Rattle.state.specs.State.{mode_number, cleared, with_reg, with_flags, with_i2, with_mode, with_mark}
use Rattle.state.specs.Registers.{set_reg}
use Rattle.refusal.specs.Refusal.{all_of}
use Rattle.refusal.proofs.Laws.Refusal.{neither}
use Rattle.machine.specs.Numbers.{indicators, state_page, nowhere}
use Rattle.machine.specs.Back.{mode_of, from_registers, state_of}
use Rattle.machine.specs.declared.Ran.{Ran}
use Rattle.machine_c.specs.Layout.{state_bytes, page_from, state_from, settings_from, refused_state, not_state, state_refused}
use Rattle.opcodes.proofs.Laws.Past.{Below, below}
use Rattle.laws.proofs.Laws.Calls.{bytes_for, settings-taken, step-taken, buffers-taken, call-answered}
use Rattle.laws.proofs.Laws.Taken.{taken-run}
use Rattle.laws.proofs.Laws.Halves.{run_none}
use Rattle.laws.specs.One.{uncaused}
use Rattle.laws.specs.Halves.{still, Wd16RunNone}
use Rattle.laws.proofs.Laws.Cards.{done-one}

-- ---- the numbers of a state's bytes

indicators-again : (x : ℕ) → x < 16 → indicators (flags_of x) ≡ x
unfolding Below
indicators-again x h = below (λ k. indicators (flags_of k) ≡ k) 16 (each) x h
  where
    each : Below (λ k. indicators (flags_of k) ≡ k) 16
    each = ((((((((((((((((tt, refl), refl), refl), refl), refl), refl), refl), refl), refl), refl), refl), refl), refl), refl), refl), refl)

digit-again : (x : ℕ) → x < 2 → digit (eqb x 1) ≡ x
unfolding Below
digit-again x h = below (λ k. digit (eqb k 1) ≡ k) 2 (each) x h
  where
    each : Below (λ k. digit (eqb k 1) ≡ k) 2
    each = ((tt, refl), refl)

mode-number : (x : ℕ) → x < 6 → mode_number (mode_of x) ≡ x
unfolding Below
mode-number x h = below (λ k. mode_number (mode_of k) ≡ k) 6 (each) x h
  where
    each : Below (λ k. mode_number (mode_of k) ≡ k) 6
    each = ((((((tt, refl), refl), refl), refl), refl), refl)

record Ranges (b : List ℕ) : Type 0 where
  size : length b ≡ 24
  flags : byte_at b 16 < 16
  i2 : byte_at b 17 < 2
  mode : byte_at b 18 < 6
  mark : byte_at b 20 < 2

ranges : (b : List ℕ) → refused_state b ≡ false → Ranges b
unfolding refused_state
ranges b e =
    let top = neither (not_state b) (state_refused b) e in
    let told = neither _ (ltb 1 (byte_at b 21)) top.1 in
    let mark = neither _ (ltb 1 (byte_at b 20)) told.0 in
    let cause = neither _ (ltb 9 (byte_at b 19)) mark.0 in
    let mode = neither _ (ltb 5 (byte_at b 18)) cause.0 in
    let i2 = neither (ltb 15 (byte_at b 16)) (ltb 1 (byte_at b 17)) mode.0 in
    record {
      size = eqb-true (length b) 24 (not-false _ top.0);
      flags = let l = ltb-false 15 (byte_at b 16) i2.0 in omega arith;
      i2 = let l = ltb-false 1 (byte_at b 17) i2.1 in omega arith;
      mode = let l = ltb-false 5 (byte_at b 18) mode.1 in omega arith;
      mark = let l = ltb-false 1 (byte_at b 20) mark.1 in omega arith;
    }

-- 24 bytes one by one
abbrev spread : List ℕ → List ℕ
spread b =
    byte_at b 0 ∷ byte_at b 1 ∷ byte_at b 2 ∷ byte_at b 3 ∷ byte_at b 4 ∷ byte_at b 5 ∷ byte_at b 6 ∷ byte_at b 7
    ∷ byte_at b 8 ∷ byte_at b 9 ∷ byte_at b 10 ∷ byte_at b 11 ∷ byte_at b 12 ∷ byte_at b 13 ∷ byte_at b 14 ∷ byte_at b 15
    ∷ byte_at b 16 ∷ byte_at b 17 ∷ byte_at b 18 ∷ byte_at b 19 ∷ byte_at b 20 ∷ byte_at b 21 ∷ byte_at b 22 ∷ byte_at b 23 ∷ []

spread-is : (b : List ℕ) → length b ≡ 24 → spread b ≡ b
unfolding Below
spread-is b l = ext_get_or 0 (spread b) b (sym l) (λ i h. below (λ k. get_or (spread b) k 0 ≡ get_or b k 0) 24 each i h)
  where
    each : Below (λ k. get_or (spread b) k 0 ≡ get_or b k 0) 24
    each = ((((((((((((((((((((((((tt, refl), refl), refl), refl), refl), refl), refl), refl), refl), refl), refl), refl), refl), refl), refl), refl), refl), refl), refl), refl), refl), refl), refl), refl)

-- a state's bytes, read and written again with no cause
bytes-kept : (b : List ℕ) → refused_state b ≡ false → ((i : ℕ) → byte_at b i < 256) → state_bytes (state_page (state_from b)) 0 nowhere ≡ uncaused b
unfolding state_bytes state_page page_from state_of from_registers with_reg set_reg with_flags with_i2 with_mode with_mark cleared
bytes-kept b e h =
    let r = ranges b e in
    rw (
      low_of (byte_at b 0) (byte_at b 1) (h 0),
      high-of (byte_at b 0) (byte_at b 1) (h 0),
      low_of (byte_at b 2) (byte_at b 3) (h 2),
      high-of (byte_at b 2) (byte_at b 3) (h 2),
      low_of (byte_at b 4) (byte_at b 5) (h 4),
      high-of (byte_at b 4) (byte_at b 5) (h 4),
      low_of (byte_at b 6) (byte_at b 7) (h 6),
      high-of (byte_at b 6) (byte_at b 7) (h 6),
      low_of (byte_at b 8) (byte_at b 9) (h 8),
      high-of (byte_at b 8) (byte_at b 9) (h 8),
      low_of (byte_at b 10) (byte_at b 11) (h 10),
      high-of (byte_at b 10) (byte_at b 11) (h 10),
      low_of (byte_at b 12) (byte_at b 13) (h 12),
      high-of (byte_at b 12) (byte_at b 13) (h 12),
      low_of (byte_at b 14) (byte_at b 15) (h 14),
      high-of (byte_at b 14) (byte_at b 15) (h 14),
      indicators-again (byte_at b 16) r.flags,
      digit-again (byte_at b 17) r.i2,
      mode-number (byte_at b 18) r.mode,
      digit-again (byte_at b 20) r.mark,
    )
    (ap uncaused (spread-is b r.size))

-- ---- the call

pub wd16-run-none : Wd16RunNone
unfolding all_of
wd16-run-none b t m map w k b₁ t₁ m₁ good l board bytes e =
    let settings = settings_from w in
    let state = step-taken b w good in
    let free = buffers-taken b t w state (settings-taken b w good) l in
    let call = call-answered b t m map w [] k b₁ t₁ m₁ free (taken-run settings m map [] (record { board = board; few = omega arith; unused = refl })) e in
    let none = run_none settings map (state_from b) m m₁ (Ok call.1.ran) board call.1.page in
    let still-is : call.1.ran ≡ still (state_from b) = done-one none.0 in (
      call.0,
      call.1.state ∙ ap (λ a. state_bytes (state_page a.state) 0 nowhere) still-is ∙ bytes-kept b state bytes,
      call.1.tally ∙ ap bytes_for still-is,
      none.1,
    )
