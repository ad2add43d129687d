use Rattle.std.proofs.Common.{sym, ◌∙◌}
use Rattle.forms.specs.Decimal.{is_digit}
use Rattle.forms.proofs.DecimalLaws.{further_ends, ends_here, further_on, further_above, read_out}
use Rattle.forms.proofs.patterns.take_digits.Goals as goal

pub returns-then-not-is_ascii_digit : goal.returns-then-not-is_ascii_digit
unfolding is_digit
returns-then-not-is_ascii_digit c =
    sym (further_ends _ _ (ends_here _ _ c.loop-at-test.true (sym c.if-not-is_ascii_digit.ensures.value))) ∙ c.loop-at.invariant.same

pub returns-then-value-gt65535 : goal.returns-then-value-gt65535
unfolding is_digit
returns-then-value-gt65535 c =
    sym (further_above _ _ c.loop-at-test.true _ c.from.ensures (sym c.if-not-is_ascii_digit.ensures.value) c.if-value-gt65535.true) ∙ c.loop-at.invariant.same

pub loop-at-preserved : goal.loop-at-preserved
unfolding is_digit
loop-at-preserved c =
    record {
      same =
          sym (further_on _ _ c.loop-at-test.true _ c.from.ensures (sym c.if-not-is_ascii_digit.ensures.value) c.if-value-gt65535.false) ∙ c.loop-at.invariant.same;
      small = c.if-value-gt65535.false;
    }

pub returns : goal.returns
returns c = read_out _ _ _ c.loop-at-test.false ∙ c.loop-at.invariant.same
