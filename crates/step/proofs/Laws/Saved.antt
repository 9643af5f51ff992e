-- A RESTORE AFTER A SAVE, with nothing changed between, gives back registers, PC, indicators and I2; the mode is running, whatever it was.
use Prim.Native.Nat.{ℕ, zero, suc, ◌+◌, ◌*◌, ◌/◌, ◌%◌, ◌<◌, ◌≤◌}
use native.Mathlib.Omega.{arith}
use native.Mathlib.Decide.{ℕ_discrete}
use mathlib.Core.Bool.{Bool, true, false}
use mathlib.Core.List.{List}
use mathlib.Core.Path.{◌≡◌, refl, sym, ap, ◌∙◌}
use lib.Dec.{eqb}
use lib.ListN.{length, get_or, set, length-set}
use lib.Seq.{get_or-set_same, get_or-set_other}
use borrow.Author.Tests.{eqb-true}
use Rattle.board.specs.Work.{word, value, run, fitted, writable, even, image_word, with_word, ◌>>=◌}
use Rattle.board.proofs.Laws.{size-put}
use Rattle.board.proofs.Laws.Follows.{put-apart}
use Rattle.wordmath.specs.Number.{digit}
use Rattle.wordmath.proofs.Laws.Digit.{digit-le}
use Rattle.wordmath.specs.Status.{flags_of, enable_of}
use Rattle.state.specs.declared.State.{State}
use Rattle.state.specs.declared.Outside.{Outside}
use Rattle.state.specs.declared.Mode.TheVariants.{Running, Saved}
use Rattle.state.specs.State.{reg, with_reg, with_mode, with_mark, with_status, ps_of}
use Rattle.state.specs.Registers.{reg_of, set_reg}
use Rattle.step.specs.declared.Kind.TheVariants.{Saves, Restores, Waits}
use Rattle.step.specs.declared.Cause.TheVariants as Cause
use Rattle.step.specs.Places.{save_place, keep, pick_up, keep_four, pick_up_four, keep_registers, pick_up_registers, save_places, restore_places}
use Rattle.step.specs.Step.{after, kind_in, kind_of, work_of, step_of}
use Rattle.step.proofs.Laws.Ends.{step-well}
use Rattle.step.specs.Saved.{kept_in, saved_in, Words}

-- ---- the image after a save

kept-size : (n : ℕ) (s : State) (m : List ℕ) → length (kept_in n s m) ≡ length m
unfolding kept_in
kept-size zero s m = refl
kept-size (suc n) s m = size-put word (kept_in n s m) (save_place n) (reg s n) ∙ kept-size n s m

-- a word that was written is read
word_back : (v : ℕ) → v < 65536 → v % 256 + v / 256 % 256 * 256 ≡ v
word_back v h = omega arith

put-there : (m : List ℕ) (a v : ℕ) → even a + 1 < length m → v < 65536 → image_word (with_word m a v) a ≡ v
unfolding image_word with_word
put-there m a v h l =
    rw (
      get_or-set_other (set m (even a) (v % 256)) (even a + 1) (even a) (v / 256 % 256) 0 (λ e. omega arith),
      get_or-set_same m (even a) (v % 256) 0 (omega arith),
      get_or-set_same (set m (even a) (v % 256)) (even a + 1) (v / 256 % 256) 0 (rw (length-set m (even a) (v % 256)) h),
    )
    (word_back v l)

place_in : (k n : ℕ) → k ≤ 8 → 18 ≤ n → even (save_place k) + 1 < n
unfolding even
place_in k n h l = omega arith

places-apart : (k n : ℕ) → k < n → n ≤ 8 → save_place n / 2 ≡ save_place k / 2 → ⊥
places-apart k n h l e = omega arith

-- each register stands at its place
kept_there : {s : State} {m : List ℕ} → Words s m → (n k : ℕ) → k < n → n ≤ 8 → image_word (kept_in n s m) (save_place k) ≡ reg s k
unfolding kept_in
kept_there w zero k h l = absurd (omega arith)
kept_there {s} {m} w (suc n) k h l = elim (ℕ_discrete k n) [ yes e ↦ here e | no d ↦ earlier (omega arith) (kept_there w n k (omega arith) (omega arith)) ]
  where
    here : k ≡ n → image_word (with_word (kept_in n s m) (save_place n) (reg s n)) (save_place k) ≡ reg s k
    here e = rw e (put-there (kept_in n s m) (save_place n) (reg s n) (place_in n (length (kept_in n s m)) (omega arith) (rw (kept-size n s m) w.size)) (w.registers n (omega arith)))

    earlier : k < n → image_word (kept_in n s m) (save_place k) ≡ reg s k → image_word (with_word (kept_in n s m) (save_place n) (reg s n)) (save_place k) ≡ reg s k
    earlier b e = put-apart word (kept_in n s m) (save_place n) (reg s n) (save_place k) (places-apart k n b (omega arith)) ∙ e

module _ (out : Outside) {s : State} {m : List ℕ} (w : Words s m) where
  saved-there : (k : ℕ) → k < 8 → image_word (saved_in out s m) (save_place k) ≡ reg s k
  saved-there k h = put-apart word (kept_in 8 s m) (save_place 8) (ps_of out false s) (save_place k) (places-apart k 8 h (omega arith)) ∙ kept_there w 8 k h (omega arith)

-- ---- PS, formed and picked up again

bit-back : (b : Bool) (x : ℕ) → x ≡ digit b → eqb x 1 ≡ b
bit-back true x e = rw e
bit-back false x e = rw e

module _ (out : Outside) (s : State) where
  ps-word : ps_of out false s < 65536
  unfolding ps_of
  ps-word = omega (arith, digit-le out.fail, digit-le s.i2, digit-le s.flags.n, digit-le s.flags.z, digit-le s.flags.v, digit-le s.flags.c)

  ps-flags : flags_of (ps_of out false s) ≡ s.flags
  unfolding ps_of
  ps-flags =
      let i = digit-le s.i2 in
      let n = digit-le s.flags.n in
      let z = digit-le s.flags.z in
      let v = digit-le s.flags.v in
      let c = digit-le s.flags.c in
      rw (
        bit-back s.flags.n (ps_of out false s / 8 % 2) (omega arith),
        bit-back s.flags.z (ps_of out false s / 4 % 2) (omega arith),
        bit-back s.flags.v (ps_of out false s / 2 % 2) (omega arith),
        bit-back s.flags.c (ps_of out false s / 1 % 2) (omega arith),
      )

  ps-enable : enable_of (ps_of out false s) ≡ s.i2
  unfolding ps_of
  ps-enable =
      let i = digit-le s.i2 in
      let n = digit-le s.flags.n in
      let z = digit-le s.flags.z in
      let v = digit-le s.flags.v in
      let c = digit-le s.flags.c in
      bit-back s.i2 (ps_of out false s / 4096 % 2) (omega arith)

-- ---- the two works

-- page 0 can be written
module _ (map : List ℕ) (fit : writable map 0 ≡ true) (out : Outside) (s : State) (m : List ℕ) where
  save-well : run map (save_places out s) m ≡ value (with_mode s Saved) (saved_in out s m)
  unfolding run save_places keep_registers keep_four keep ◌>>=◌ writable kept_in
  save-well = rw fit

can-be-read : (map : List ℕ) → writable map 0 ≡ true → fitted map 0 ≡ true
unfolding writable fitted
can-be-read map e = rw (eqb-true (get_or map 0 0) 1 e)

-- the words that are picked up
abbrev picked : State → List ℕ → State
picked t n =
    let at : ℕ → ℕ = λ k. image_word n (save_place k) in
    let low = with_reg (with_reg (with_reg (with_reg t 0 (at 0)) 1 (at 1)) 2 (at 2)) 3 (at 3) in
    with_reg (with_reg (with_reg (with_reg low 4 (at 4)) 5 (at 5)) 6 (at 6)) 7 (at 7)

restore-well : (map : List ℕ) (t : State) (n : List ℕ) → fitted map 0 ≡ true → run map (restore_places t) n ≡ value (with_mode (with_status (picked t n) (image_word n (save_place 8))) Running) n
unfolding run restore_places pick_up_registers pick_up_four pick_up ◌>>=◌ fitted
restore-well map t n e = rw e

-- a state with all registers and the PS of another differs from it in the mark at most
same-picked : (s t : State) (ps : ℕ) → flags_of ps ≡ s.flags → enable_of ps ≡ s.i2
    → (let low = with_reg (with_reg (with_reg (with_reg t 0 (reg s 0)) 1 (reg s 1)) 2 (reg s 2)) 3 (reg s 3) in
    with_mode (with_status (with_reg (with_reg (with_reg (with_reg low 4 (reg s 4)) 5 (reg s 5)) 6 (reg s 6)) 7 (reg s 7)) ps) Running ≡ with_mark (with_mode s Running) t.mark)
unfolding with_reg set_reg reg reg_of with_status with_mode with_mark
same-picked s t ps e h = rw (e, h)

module _ (map : List ℕ) (fit : writable map 0 ≡ true) (out : Outside) {s : State} {m : List ℕ} (w : Words s m) where
  -- THE LAW: whatever the state is then, all but the mark comes back, and the mode is running
  pub restore-saved : (t : State) → run map (restore_places t) (saved_in out s m) ≡ value (with_mark (with_mode s Running) t.mark) (saved_in out s m)
  restore-saved t =
      let n = saved_in out s m in
      let status : image_word n (save_place 8) ≡ ps_of out false s = put-there (kept_in 8 s m) (save_place 8) (ps_of out false s) (place_in 8 (length (kept_in 8 s m)) (omega arith) (rw (kept-size 8 s m) w.size)) (ps-word out s) in
      restore-well map t n (can-be-read map fit)
      ∙ ap (λ u. value u n)
      (rw (
        saved-there out w 0 (omega arith),
        saved-there out w 1 (omega arith),
        saved-there out w 2 (omega arith),
        saved-there out w 3 (omega arith),
        saved-there out w 4 (omega arith),
        saved-there out w 5 (omega arith),
        saved-there out w 6 (omega arith),
        saved-there out w 7 (omega arith),
        status,
      )
      (same-picked s t (ps_of out false s) (ps-flags out s) (ps-enable out s)))

-- ---- the steps: I3 saves, nothing is done while it is set, and where it is clear all is as before but the mode

module _ (map : List ℕ) (fit : writable map 0 ≡ true) (out : Outside) (s : State) (m : List ℕ) (kind : kind_of s out ≡ Saves) where
  pub step-saves : step_of map out s m ≡ after (with_mode s Saved) (saved_in out s m) Cause.Switch
  unfolding work_of
  step-saves = sym (step-well map out s m {k = Saves} (sym kind) (save-well map fit out s m) refl)

  pub step_waits : (next : Outside) → next.i3 ≡ true → step_of map next (with_mode s Saved) (saved_in out s m) ≡ after (with_mode s Saved) (saved_in out s m) Cause.Nothing
  unfolding work_of kind_in with_mode run
  step_waits next e = sym (step-well map next (with_mode s Saved) (saved_in out s m) {k = Waits} (rw e) refl refl)

  pub step-restores : (next : Outside) → next.i3 ≡ false → Words s m → step_of map next (with_mode s Saved) (saved_in out s m) ≡ after (with_mode s Running) (saved_in out s m) Cause.Switch
  unfolding work_of kind_in with_mode with_mark
  step-restores next e w = sym (step-well map next (with_mode s Saved) (saved_in out s m) {k = Restores} (rw e) (restore-saved map fit out w (with_mode s Saved)) refl)
