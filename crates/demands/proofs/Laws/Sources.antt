-- Demand 1 for the calls over a source: from how they end.
use Prim.Native.Nat.{ℕ}
use mathlib.Core.List.{List}
use mathlib.Core.Path.{◌≡◌}
use Rattle.refusal.specs.Page.{Page, answered, Left}
use Rattle.assembler.specs.Ends.{tells_line, FaultLine}
use Rattle.assembler.proofs.Laws.Ends.{AssemblyEnds, done, alone, at_line, line-told}
use Rattle.demands.specs.Terms.{number_alone, place_too}
use Rattle.demands.specs.Demand1.{IsAnswer, is_answer, KeptAt}

answer-is : (p : Page ℕ) (n : ℕ) → p ≡ answered n → IsAnswer p
answer-is p n e = rw e (is_answer n)

pub ends-kept : (s out : List ℕ) (why : ℕ) (x : Left ℕ (List ℕ)) → AssemblyEnds s out why x → KeptAt why tells_line (FaultLine s) out x
ends-kept s out why x (done z n d) = record { refused_only = λ k. absurd (k z); not_refused = λ k. answer-is x.page n d }
ends-kept s out why x (alone n t d) = record { refused_only = λ k. number_alone t d; not_refused = λ z. absurd (n z) }
ends-kept s out why x (at_line line l d) = record { refused_only = λ k. place_too (line-told l).1 line l d; not_refused = λ z. absurd ((line-told l).0 z) }
