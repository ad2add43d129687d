-- The words in which the page tells the forms are those of the laws.
--     one_of, among      a shape is one of some in both
-- Assumes nothing.
use mathlib.Core.List.{List}
use Rattle.forms.specs.Forms.{Shape}
use Rattle.forms.proofs.FormLaws.{Among}
use Rattle.forms.proofs.FormLaws as laws
use Rattle.promises.specs.Text.{OneOf, first, later}

pub among : {s : Shape} {ss : List Shape} → OneOf s ss → Among s ss
among first = laws.first
among (later a) = laws.later (among a)

pub one_of : {s : Shape} {ss : List Shape} → Among s ss → OneOf s ss
one_of laws.first = first
one_of (laws.later a) = later (one_of a)
