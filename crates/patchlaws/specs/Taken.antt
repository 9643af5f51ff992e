-- THE JOB READER TAKES A SECTION that the assembler made: as a job's words it is not refused by 14, 15 or 16, and the reader goes on after its last byte.
use Rattle.std.specs.Prelude.{◌≡◌, ◌⊎◌, ℕ, ◌+◌, List, ◌++◌, drop}
use Rattle.refusal.specs.Numbers.{address_unfitted}
use Rattle.wordbytes.specs.Words.{word_at}
use Rattle.job.specs.declared.Section.TheVariants as section
use Rattle.job.specs.Job.{why_entries, why_count, after_section}
use Rattle.refusal.specs.Page.{answered}
use Rattle.assembler.specs.Answer.{assembled, asm_of}

-- ---- the entries of a section

-- not refused, or by 17 alone
abbrev pub AtMostUnfitted : ℕ → Type 0
AtMostUnfitted why = (why ≡ 0) ⊎ (why ≡ address_unfitted)

-- ---- its count

-- THE SECTION IS TAKEN: wherever it stands in a job, and whatever stands around it
abbrev pub SectionTaken : Type 0
SectionTaken = (s out : List ℕ) (n : ℕ) → (asm_of s out).page ≡ answered n → (input map rest : List ℕ) (at : ℕ) → drop at input ≡ assembled s ++ rest
    → (why_count section.Words input at ≡ 0) × AtMostUnfitted (why_entries section.Words input (word_at input at) (at + 2) 0 map) × (after_section section.Words input at ≡ at + n)
