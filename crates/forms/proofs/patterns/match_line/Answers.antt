use Rattle.std.proofs.Common.{◌≡◌, sym, ap, ◌∙◌, get_or, arith}
use Rattle.forms.specs.Pattern.{match_of}
use Rattle.forms.proofs.Matching.{index, number_read, number_missing, line_short, byte_read, other_byte, line_long, whole}
use Rattle.forms.proofs.patterns.match_line.Goals as goal
use Rattle.forms.proofs.patterns.match_line.Goals.{then-b-eq35+in_ok-value, else-b-eq35+in_ok-x+else-x-b}

pub returns-in_err-value : goal.returns-in_err-value
returns-in_err-value c =
    c.from_residual.ensures ∙ ap match_of (sym (number_missing c.loop-b.invariant c.loop-b-test.true c.if-b-eq35.true (sym c.in_err-value.ensures)))

pub bounds-values-next : goal.bounds-values-next
bounds-values-next c = index c.loop-b.invariant c.loop-b-test.true c.if-b-eq35.true

pub returns-in_err-x : goal.returns-in_err-x
returns-in_err-x c =
    c.from_residual-in_err-x.ensures ∙ ap match_of (sym (line_short c.loop-b.invariant c.loop-b-test.true c.if-b-eq35.false c.in_err-x.ensures.lookup.3))

pub returns-then-x-b : goal.returns-then-x-b
returns-then-x-b c =
    let got = c.in_ok-x.ensures.lookup in
    let byte : c.in_ok-x.field-0.now ≡ get_or c.args.line.now c.loop-b.at 0 = got.4 (omega arith) 0 in
    ap match_of (sym (other_byte c.loop-b.invariant c.loop-b-test.true c.if-b-eq35.false got.3.0 (λ e. c.if-x-b.true (byte ∙ e))))

pub loop-b-preserved : goal.loop-b-preserved
loop-b-preserved c =
    elim c.if-b-eq35.branch [
      | then-b-eq35+in_ok-value w ↦
          rw (w.values-is, w.next-is, w.at-is)
          (number_read c.loop-b.invariant c.loop-b-test.true w.if-b-eq35.true _ _ (sym w.in_ok-value.ensures))
      | else-b-eq35+in_ok-x+else-x-b w ↦
          let got = w.in_ok-x.ensures.lookup in
          let byte : w.in_ok-x.field-0.now ≡ get_or c.args.line.now c.loop-b.at 0 = got.4 (omega arith) 0 in
          rw (w.values-is, w.next-is, w.at-is)
          (byte_read c.loop-b.invariant c.loop-b-test.true w.if-b-eq35.false got.3.0 (sym byte ∙ w.if-x-b.false))
    ]

pub returns-then-at-line : goal.returns-then-at-line
returns-then-at-line c = ap match_of (sym (line_long c.loop-b.invariant c.loop-b-test.false c.if-at-line.true))

pub returns : goal.returns
returns c = whole c.loop-b.invariant c.loop-b-test.false c.if-at-line.false
