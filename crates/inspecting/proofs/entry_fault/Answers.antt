-- `inspecting::entry_fault` meets its contract: the place found, and else the mark found, say which test fails. Assumes nothing.
use Rattle.std.proofs.Common.{refl}
use Rattle.inspecting.proofs.entry_fault.Goals as goal

pub returns-in-Some : goal.returns-in-Some
returns-in-Some c = rw (c.in-Some.ensures.1, c.in-Some.ensures.2) refl

pub returns-in-Some-first_apart : goal.returns-in-Some-first_apart
returns-in-Some-first_apart c = rw (c.in_default.ensures, c.in-Some-first_apart.ensures.1, c.in-Some-first_apart.ensures.2) refl

pub returns : goal.returns
returns c = rw (c.in_default.ensures, c.in_default-first_apart.ensures) refl
