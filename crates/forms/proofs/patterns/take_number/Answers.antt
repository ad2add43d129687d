use Rattle.std.proofs.Common.{◌≡◌, ◌-◌, sym, ap, ◌∙◌, get_or, arith}
use Rattle.forms.specs.Decimal.{is_digit, number_of}
use Rattle.forms.proofs.DecimalLaws.{none_past, none_here, zero_here, number_here}
use Rattle.forms.proofs.patterns.take_number.Goals as goal

pub returns-in_err-b : goal.returns-in_err-b
returns-in_err-b c = ap (number_of c.args.line.now) c.from_residual.ensures ∙ sym (none_past c.args.line.now c.args.at c.in_err-b.ensures.lookup.3)

pub returns-then-not-is_ascii_digit : goal.returns-then-not-is_ascii_digit
unfolding is_digit
returns-then-not-is_ascii_digit c =
    let got = c.in_ok-b.ensures.lookup in
    let byte : c.in_ok-b.field-0.now ≡ get_or c.args.line.now c.args.at 0 = got.4 (omega arith) 0 in
    sym (none_here _ _ got.3.0 (ap is_digit (sym byte) ∙ sym c.if-not-is_ascii_digit.ensures.value))

pub returns-then-b-eq48 : goal.returns-then-b-eq48
returns-then-b-eq48 c =
    let got = c.in_ok-b.ensures.lookup in
    let byte : c.in_ok-b.field-0.now ≡ get_or c.args.line.now c.args.at 0 = got.4 (omega arith) 0 in
    sym (zero_here _ _ got.3.0 (sym byte ∙ c.if-b-eq48.true))

pub returns : goal.returns
unfolding is_digit
returns c =
    let got = c.in_ok-b.ensures.lookup in
    let byte : c.in_ok-b.field-0.now ≡ get_or c.args.line.now c.args.at 0 = got.4 (omega arith) 0 in
    c.take_digits.ensures
    ∙ sym (number_here _ _ got.3.0 (ap is_digit (sym byte) ∙ sym c.if-not-is_ascii_digit.ensures.value) (λ e. c.if-b-eq48.false (byte ∙ e)) (c.from.ensures ∙ ap (λ b. b - 48) byte))
