-- A run's end is its trail's, its count of blanks the number of blanks on the trail, its first place the least of theirs, with the address told there.
use Rattle.std.specs.Prelude.{ℕ, ◌+◌, Option, Some, None}
use Rattle.machine.specs.declared.Tally.{Tally}
use Rattle.machine.specs.declared.FirstBlank.{FirstBlank}
use Rattle.machine.specs.Trail.{place_moved}

-- ---- tallies add up

-- the first of two
abbrev pub or_first : Option FirstBlank → Option FirstBlank → Option FirstBlank
or_first (Some b) other = Some b
or_first None other = other

-- The tally of steps that follow n steps: counts add up; the first blank is the first's, or else the second's moved on by n.
unfoldable pub tally_joined : ℕ → Tally → Tally → Tally
tally_joined n t u = record { blanks = t.blanks + u.blanks; first = or_first t.first (place_moved n u.first) }
