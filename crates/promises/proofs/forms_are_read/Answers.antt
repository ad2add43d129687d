-- The laws are `reads` and `has_form`.
use mathlib.Core.Path.{ap, sym, ◌∙◌}
use mathlib.Core.Logic.{inl, inr, ⊎_elim}
use Rattle.forms.specs.Forms.{form_of}
use Rattle.forms.proofs.FormLaws.{reads, has_form}
use Rattle.promises.proofs.FormsRead.{among, one_of}
use Rattle.promises.proofs.forms_are_read.Goals as goal

pub returns-clause-filled : goal.returns-clause-filled
returns-clause-filled c = λ s values line one f. ap form_of f.is ∙ reads values (sym f.count) f.small (among one)

pub returns-clause-others : goal.returns-clause-others
returns-clause-others c = λ line. ⊎_elim inl (λ w. inr (record {
  shape = w.shape;
  values = w.values;
  among = one_of w.among;
  is_filled = record { is = w.filling.is; count = w.filling.count; small = w.filling.small };
  is = w.is;
})) (has_form line)
