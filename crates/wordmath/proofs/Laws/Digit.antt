-- A bool's number is at most 1, and what it takes of a weight is at most that weight.
use Rattle.std.proofs.Common.{ℕ, ◌*◌, ◌≤◌, Bool, true, false, arith}
use Rattle.wordmath.specs.Number.{digit}

pub digit-le : (b : Bool) → digit b ≤ 1
digit-le true = omega arith
digit-le false = omega arith

pub digit-of-le : (b : Bool) (h : ℕ) → digit b * h ≤ h
digit-of-le true h = omega arith
digit-of-le false h = omega arith
