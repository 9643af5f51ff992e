-- What an answer that is no refusal tells of the source; and a source in which no line is wrong is assembled.
use mathlib.Core.Path.{◌≡◌, refl, sym, ◌∙◌}
use mathlib.Core.Bool.{Bool, true, false, cond, true≢false}
use mathlib.Core.List.{List, [], ◌∷◌}
use mathlib.Core.Logic.{⊎_elim}
use Prim.Native.Nat.{ℕ, zero, suc, ◌%◌, ◌≤◌, ◌<◌}
use native.Mathlib.Omega.{arith}
use lib.Dec.{ltb}
use borrow.Author.Tests.{ltb-false, le-ltb}
use lib.ListN.{length}
use Rattle.optext.specs.First.{first_from}
use Rattle.optext.proofs.Laws.Choose.{lt-cases, first-hit}
use Rattle.patchline.proofs.Laws.Search.{first-none}
use Rattle.assembler.specs.Source.{line_count, misplaced, fails, lowest}
use Rattle.refusal.specs.Page.{refused_at, answered, Left, left, call}
use Rattle.refusal.proofs.Laws.Page.{apart, answered-one}
use Rattle.assembler.specs.Answer.{faults, source_why, section_written, checked, longest_section, assembled, asm_of}
use Rattle.assembler.proofs.Checked.{source_sound}
use Rattle.assembler.specs.declared.source.Fault.{Fault}
use Rattle.assembler.specs.declared.source.Fault.TheVariants.{Text, Given, Missing, Place, Far}
use Rattle.assembler.specs.Ends.{Right}

apart-at : (why line n : ℕ) → refused_at why line ≡ answered n → ⊥
apart-at why line n e = let z : ◌≡◌ {A = ℕ} 0 1 = cc in omega arith

not_stopped : (b : Bool) (why line n : ℕ) (out : List ℕ) (a : Left ℕ (List ℕ)) → (cond b (left (refused_at why line) out) a).page ≡ answered n → (b ≡ false) × (a.page ≡ answered n)
not_stopped true why line n out a e = absurd (apart-at why line n e)
not_stopped false why line n out a e = (refl, e)

not-refused : (why n : ℕ) (right : Left ℕ (List ℕ)) (out : List ℕ) → (call why right out).page ≡ answered n → (why ≡ 0) × (right.page ≡ answered n)
not-refused zero n right out e = (refl, e)
not-refused (suc why) n right out e = absurd (apart (sym e))

-- not too many lines, each in its place, and the section's length
pub record GoodSource (s : List ℕ) (n : ℕ) : Type 0 where
  pub few : line_count s ≤ 1024
  pub in_place : (k : ℕ) → k < line_count s → misplaced s k ≡ false
  pub size : n ≡ length (assembled s)

module _ (s out : List ℕ) (n : ℕ) where
  passed : (f : Fault) (fs : List Fault) → (checked (f ∷ fs) s (section_written (assembled s) out) out).page ≡ answered n
      → (line_count s ≤ lowest f s) × ((checked fs s (section_written (assembled s) out) out).page ≡ answered n)
  unfolding checked
  passed f fs e =
      let z = not_stopped (ltb (lowest f s) (line_count s)) _ _ n out (checked fs s (section_written (assembled s) out) out) e in
      (ltb-false _ _ z.0, z.1)

  finished : (checked [] s (section_written (assembled s) out) out).page ≡ answered n → n ≡ length (assembled s)
  unfolding checked
  finished e = sym (answered-one e)

  each : line_count s ≤ lowest Place s → (k : ℕ) → k < line_count s → misplaced s k ≡ false
  unfolding lowest
  each h k l = first-none (fails Place s) (line_count s) k h l

  lines : (asm_of s out).page ≡ answered n → (line_count s ≤ 1024) × ((checked faults s (section_written (assembled s) out) out).page ≡ answered n)
  unfolding asm_of
  lines e =
      let a = not-refused (source_why longest_section s (length out)) n _ out e in
      ((source_sound longest_section s (length out) a.0).0, a.1)

  pub good : (asm_of s out).page ≡ answered n → GoodSource s n
  unfolding faults
  good e =
      let a = lines e in
      let b = passed Text _ a.1 in
      let c = passed Given _ b.1 in
      let d = passed Missing _ c.1 in
      let f = passed Place _ d.1 in
      let g = passed Far _ f.1 in
      record { few = a.0; in_place = each f.0; size = finished g.1 }

-- ---- the other way round

pub no-first : (f : ℕ → Bool) (n : ℕ) → ((k : ℕ) → k < n → f k ≡ false) → ltb (first_from f n 0) n ≡ false
no-first f n h = ⊎_elim (λ l. absurd (true≢false (sym (first-hit f n 0 (omega (arith, l))) ∙ h (first_from f n 0) l))) (λ l. le-ltb (first_from f n 0) n l) (lt-cases (first_from f n 0) n)

pub nothing-wrong : (s out : List ℕ) → 12290 ≤ length out → length s % 32 ≡ 0 → line_count s ≤ 1024 → ((i : ℕ) → i < line_count s → Right s i)
    → asm_of s out ≡ section_written (assembled s) out
unfolding asm_of source_why faults checked lowest
nothing-wrong s out l w c r =
    rw (
      le-ltb (length out) 12290 l,
      w,
      le-ltb 1024 (line_count s) c,
      no-first (fails Text s) (line_count s) (λ i h. (r i h).known),
      no-first (fails Given s) (line_count s) (λ i h. (r i h).new),
      no-first (fails Missing s) (line_count s) (λ i h. (r i h).found),
      no-first (fails Place s) (line_count s) (λ i h. (r i h).in_place),
      no-first (fails Far s) (line_count s) (λ i h. (r i h).near),
    ) refl
