-- WISH 12. PLUGGING IN A CARD CHANGES NOTHING THAT WAS SOUND: a run with no blank that doesn't end locked ends in the same state, with
-- the same answers and image bytes, where any further unfitted pages are fitted, writable or read-only. Pages that were fitted keep
-- their value (`Plugged`); image, state, settings and lines are the same. Whatever runs answer and leave, as their contract promises.
--
-- "No blank" is needed, because a blank is an access that a card would answer: the run then goes on with what it reads there instead
-- of the bus error's trap (blank-row, healed-row; blank-needed).
-- "Doesn't end locked" is needed, because a lock-up met by a blank counts as no blank, and a card would spare it (locked-row,
-- spared-row; lock-needed). A lock-up by the jumpers' option alone would be the same with a card, and isn't told apart.
use Rattle.std.specs.Prelude.{ℕ, true, false, List, [], ◌∷◌, ◌++◌, ◌≡◌, get_or, replicate, set, length, Option, Some, None, Ok}
use Rattle.board.specs.Work.{with_word}
use Rattle.state.specs.declared.State.{State}
use Rattle.state.specs.declared.Settings.{Settings}
use Rattle.state.specs.declared.Mode.TheVariants.{Locked}
use Rattle.state.specs.State.{mode_number, with_pc, with_sp, with_i2, cleared}
use Rattle.machine.specs.declared.Ran.{Ran}
use Rattle.machine.specs.Entry.{Finished, power_why, finished_page, run_page, stepped_page, step_page, Stepped}
use Rattle.machine.specs.Run.{End, end, run_of}
use Rattle.machine.specs.Trail.{trail_of}
use Rattle.refusal.specs.Page.{left, told}
use Rattle.step.specs.declared.Turn.{Turn}
use Rattle.step.specs.Step.{is_blank}
use Rattle.wordbytes.specs.Words.{byte_at}
use Rattle.wordbytes.specs.Words as Words
use Rattle.machine_c.specs.Layout.{settings_from}
use Rattle.endline.specs.Report.{bench_board}
use Rattle.machine_c.specs.Calls.{step_call, run_call}

-- ---- FURTHER CARDS

-- pages that were fitted keep their byte of the map; an unfitted page may get any
abbrev pub Plugged : List ℕ → List ℕ → Type 0
Plugged map big = (p : ℕ) → (get_or map p 0 ≡ 0 → ⊥) → get_or big p 0 ≡ get_or map p 0

-- ---- A RUN

-- no blank, and not locked at its end
pub record Sound (a : Ran) : Type 0 where
  pub no_blank : a.tally.blanks ≡ 0
  pub unlocked : a.state.mode ≡ Locked → ⊥

-- the same answer, in which no place and no address is told; the same image; the same state, image and cause after each step
pub record SameRun (settings : Settings) (map big lines : List ℕ) (s : State) (m : List ℕ) (a : Ran) (m₁ : List ℕ) (q : Finished) (m₂ : List ℕ) : Type 0 where
  pub answer : q ≡ Ok a
  pub no_place : a.tally.first ≡ None
  pub image : m₂ ≡ m₁
  pub steps : trail_of settings big lines s m ≡ trail_of settings map lines s m

-- ---- WHY BOTH CONDITIONS ARE NEEDED

-- pages 0 to 3 are fitted; with the card, page 4 too
abbrev pub bare_rack : List ℕ
bare_rack = replicate 4 1 ++ replicate 252 0

abbrev pub card : List ℕ
card = set bare_rack 4 1

-- 0200 at 12, 0400 at 28, 0300 at 2A
abbrev pub image : List ℕ
image = with_word (with_word (with_word (replicate 65536 0) 0x12 0x200) 0x28 0x400) 0x2a 0x300

-- running at 0100 with I2 set
abbrev pub before : ℕ → State
before sp = with_i2 (with_sp (with_pc cleared 0x100) sp) true

abbrev pub ran_in : End → Ran
ran_in (end s m t) = record { state = s; tally = t }

-- PC, SP, the mode and the blanks at the end
abbrev pub end_seen : Ran → List ℕ
end_seen a = a.state.regs.pc ∷ a.state.regs.sp ∷ mode_number a.state.mode ∷ a.tally.blanks ∷ []

-- A BLANK THAT A CARD HEALS. I0, device code 0: the table at 0400 isn't fitted, so the interrupt is dropped and its bus error goes
-- through 12 to 0200. With page 4 the table's word, 0, leads to 0400.
abbrev pub heals : List ℕ → End
heals map = run_of bench_board map (1 ∷ []) (before 0x200) image

-- A LOCK-UP THAT A CARD SPARES. I1 with the stack on page 4: neither the interrupt nor its bus error can push, so the step locks, and
-- that is no blank. With page 4 the interrupt leads to 0300.
abbrev pub spares : List ℕ → End
spares map = run_of bench_board map (2 ∷ []) (before 0x500) image

-- the law of a run, under a condition on what it answered
abbrev pub Law : (Ran → Type 0) → Type 0
Law P = (settings : Settings) (map big lines : List ℕ) (s : State) (m m₁ m₂ : List ℕ) (a : Ran) (q : Finished)
    → Plugged map big → power_why settings m big ≡ 0 → P a
    → left (finished_page (Ok a)) m₁ ≡ run_page settings m map lines s
    → left (finished_page q) m₂ ≡ run_page settings m big lines s
    → q ≡ Ok a

-- ---- A RUN

abbrev pub RunPlugged : Type 0
RunPlugged = (settings : Settings) (map big lines : List ℕ) (s : State) (m m₁ m₂ : List ℕ) (a : Ran) (q : Finished)
    → Plugged map big → power_why settings m big ≡ 0 → Sound a
    → left (finished_page (Ok a)) m₁ ≡ run_page settings m map lines s
    → left (finished_page q) m₂ ≡ run_page settings m big lines s
    → SameRun settings map big lines s m a m₁ q m₂

-- ---- A STEP: with no blank, and not locked after it

abbrev pub StepPlugged : Type 0
StepPlugged = (settings : Settings) (map big : List ℕ) (line : ℕ) (s : State) (m m₁ m₂ : List ℕ) (t : Turn) (q : Stepped)
    → Plugged map big → power_why settings m big ≡ 0 → is_blank t.cause ≡ false → (t.state.mode ≡ Locked → ⊥)
    → left (stepped_page (Ok t)) m₁ ≡ step_page settings m map line s
    → left (stepped_page q) m₂ ≡ step_page settings m big line s
    → (q ≡ Ok t) × (m₂ ≡ m₁)

-- ---- THE SAME FOR C, on the bytes that the calls leave: w are the settings' bytes

-- a step that leaves no cause 5, 6 or 9 and not mode 4
abbrev pub Wd16StepPlugged : Type 0
Wd16StepPlugged = (b m map big w : List ℕ) (line k : ℕ) (b₁ m₁ b₂ m₂ : List ℕ)
    → Plugged map big → power_why (settings_from w) m big ≡ 0
    → told 0 (b₁, m₁) ≡ step_call b m map w line
    → (byte_at b₁ 19 ≡ 5 → ⊥) → (byte_at b₁ 19 ≡ 6 → ⊥) → (byte_at b₁ 19 ≡ 9 → ⊥) → (byte_at b₁ 18 ≡ 4 → ⊥)
    → told k (b₂, m₂) ≡ step_call b m big w line
    → (k ≡ 0) × (b₂ ≡ b₁) × (m₂ ≡ m₁)

-- a run that leaves a count of 0 and not mode 4; t and t' are what the two calls are lent for the tally
abbrev pub Wd16RunPlugged : Type 0
Wd16RunPlugged = (b t t' m map big w lines : List ℕ) (k : ℕ) (b₁ t₁ m₁ b₂ t₂ m₂ : List ℕ)
    → Plugged map big → power_why (settings_from w) m big ≡ 0 → length t' ≡ 6
    → told 0 (b₁, t₁, m₁) ≡ run_call b t m map w lines
    → Words.word_at t₁ 0 ≡ 0 → (byte_at b₁ 18 ≡ 4 → ⊥)
    → told k (b₂, t₂, m₂) ≡ run_call b t' m big w lines
    → (k ≡ 0) × (b₂ ≡ b₁) × (t₂ ≡ t₁) × (m₂ ≡ m₁)

-- ---- WHY BOTH CONDITIONS ARE NEEDED

-- with both it holds
abbrev pub BothSuffice : Type 0
BothSuffice = Law Sound

-- WITHOUT "NO BLANK" THE LAW IS FALSE
abbrev pub BlankNeeded : Type 0
BlankNeeded = Law (λ a. a.state.mode ≡ Locked → ⊥) → ⊥

-- WITHOUT "DOESN'T END LOCKED" IT IS FALSE
abbrev pub LockNeeded : Type 0
LockNeeded = Law (λ a. a.tally.blanks ≡ 0) → ⊥
