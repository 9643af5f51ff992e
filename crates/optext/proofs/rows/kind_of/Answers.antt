use Rattle.std.proofs.Common.{refl, ne_eqb}
use Rattle.optext.specs.Rows.{kind_as}
use Rattle.optext.proofs.rows.kind_of.Goals as goal

pub returns-in-77 : goal.returns-in-77
unfolding kind_as
returns-in-77 c = rw c.in-77.is refl

pub returns-in-56 : goal.returns-in-56
unfolding kind_as
returns-in-56 c = rw c.in-56.is refl

pub returns-in-82 : goal.returns-in-82
unfolding kind_as
returns-in-82 c = rw c.in-82.is refl

pub returns-in-52 : goal.returns-in-52
unfolding kind_as
returns-in-52 c = rw c.in-52.is refl

pub returns-in-54 : goal.returns-in-54
unfolding kind_as
returns-in-54 c = rw c.in-54.is refl

pub returns-in-78 : goal.returns-in-78
unfolding kind_as
returns-in-78 c = rw c.in-78.is refl

pub returns-in-72 : goal.returns-in-72
unfolding kind_as
returns-in-72 c = rw c.in-72.is refl

pub returns-in-66 : goal.returns-in-66
unfolding kind_as
returns-in-66 c = rw c.in-66.is refl

pub returns-in-68 : goal.returns-in-68
unfolding kind_as
returns-in-68 c = rw c.in-68.is refl

pub returns-in-74 : goal.returns-in-74
unfolding kind_as
returns-in-74 c = rw c.in-74.is refl

pub returns-in-83 : goal.returns-in-83
unfolding kind_as
returns-in-83 c = rw c.in-83.is refl

pub returns-in-87 : goal.returns-in-87
unfolding kind_as
returns-in-87 c = rw c.in-87.is refl

pub returns-in_default : goal.returns-in_default
unfolding kind_as
returns-in_default c = rw (ne_eqb _ _ c.in_default.in_default-own.rest.0.0.0.0.0.0.0.0.0.0.0.1, ne_eqb _ _ c.in_default.in_default-own.rest.0.0.0.0.0.0.0.0.0.0.1, ne_eqb _ _ c.in_default.in_default-own.rest.0.0.0.0.0.0.0.0.0.1, ne_eqb _ _ c.in_default.in_default-own.rest.0.0.0.0.0.0.0.0.1, ne_eqb _ _ c.in_default.in_default-own.rest.0.0.0.0.0.0.0.1, ne_eqb _ _ c.in_default.in_default-own.rest.0.0.0.0.0.0.1, ne_eqb _ _ c.in_default.in_default-own.rest.0.0.0.0.0.1, ne_eqb _ _ c.in_default.in_default-own.rest.0.0.0.0.1, ne_eqb _ _ c.in_default.in_default-own.rest.0.0.0.1, ne_eqb _ _ c.in_default.in_default-own.rest.0.0.1, ne_eqb _ _ c.in_default.in_default-own.rest.0.1, ne_eqb _ _ c.in_default.in_default-own.rest.1) refl
