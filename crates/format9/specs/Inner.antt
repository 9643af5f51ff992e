-- The code's own words: what a function asks for that is not called for JSR and SOB.
use Rattle.std.specs.Prelude.{ℕ, ◌≡◌}
use Rattle.opcodes.specs.Fields.{format9_code}

pub record NeitherJsrNorSob (op : ℕ) : Type 0 where
  pub not-jsr : format9_code op ≡ 0 → ⊥
  pub not-sob : format9_code op ≡ 3 → ⊥
