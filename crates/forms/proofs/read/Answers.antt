-- A line of up to 64 bytes has the form of the first shape that fits, and the code tries the shapes in their order.
use Rattle.std.proofs.Common.{[], ◌≡◌, refl, sym, ◌∙◌, List, ℕ, drop}
use Rattle.forms.specs.Forms.{bad, shapes, first_fit, form_of}
use Rattle.forms.proofs.FormLaws.{form_long, form_short, fit, misfit}
use Rattle.forms.proofs.read.Goals as goal

pub returns-then-line-gt64 : goal.returns-then-line-gt64
returns-then-line-gt64 c = sym (form_long _ c.if-line-gt64.true)

-- the line is short, and the first k shapes do not fit
abbrev Past : ℕ → List ℕ → Type 0
Past k line = form_of line ≡ first_fit (drop k shapes) line

none_left : (line : List ℕ) → first_fit [] line ≡ bad
unfolding first_fit
none_left line = refl

pub returns-in-Some : goal.returns-in-Some
unfolding shapes
returns-in-Some c =
    sym (form_short _ c.if-line-gt64.false ∙ fit _ _ _ c.in-Some.ensures)

pub returns-in-Some-fit : goal.returns-in-Some-fit
unfolding shapes
returns-in-Some-fit c =
    let past-1 : Past 1 c.args.line.now = form_short _ c.if-line-gt64.false ∙ misfit _ _ _ c.in_default.ensures in
    sym (past-1 ∙ fit _ _ _ c.in-Some-fit.ensures)

pub returns-in-Some-fit-2 : goal.returns-in-Some-fit-2
unfolding shapes
returns-in-Some-fit-2 c =
    let past-1 : Past 1 c.args.line.now = form_short _ c.if-line-gt64.false ∙ misfit _ _ _ c.in_default.ensures in
    let past-2 : Past 2 c.args.line.now = past-1 ∙ misfit _ _ _ c.in_default-fit.ensures in
    sym (past-2 ∙ fit _ _ _ c.in-Some-fit-2.ensures)

pub returns-in-Some-fit-3 : goal.returns-in-Some-fit-3
unfolding shapes
returns-in-Some-fit-3 c =
    let past-1 : Past 1 c.args.line.now = form_short _ c.if-line-gt64.false ∙ misfit _ _ _ c.in_default.ensures in
    let past-2 : Past 2 c.args.line.now = past-1 ∙ misfit _ _ _ c.in_default-fit.ensures in
    let past-3 : Past 3 c.args.line.now = past-2 ∙ misfit _ _ _ c.in_default-fit-2.ensures in
    sym (past-3 ∙ fit _ _ _ c.in-Some-fit-3.ensures)

pub returns-in-Some-fit-4 : goal.returns-in-Some-fit-4
unfolding shapes
returns-in-Some-fit-4 c =
    let past-1 : Past 1 c.args.line.now = form_short _ c.if-line-gt64.false ∙ misfit _ _ _ c.in_default.ensures in
    let past-2 : Past 2 c.args.line.now = past-1 ∙ misfit _ _ _ c.in_default-fit.ensures in
    let past-3 : Past 3 c.args.line.now = past-2 ∙ misfit _ _ _ c.in_default-fit-2.ensures in
    let past-4 : Past 4 c.args.line.now = past-3 ∙ misfit _ _ _ c.in_default-fit-3.ensures in
    sym (past-4 ∙ fit _ _ _ c.in-Some-fit-4.ensures)

pub returns-in-Some-fit-5 : goal.returns-in-Some-fit-5
unfolding shapes
returns-in-Some-fit-5 c =
    let past-1 : Past 1 c.args.line.now = form_short _ c.if-line-gt64.false ∙ misfit _ _ _ c.in_default.ensures in
    let past-2 : Past 2 c.args.line.now = past-1 ∙ misfit _ _ _ c.in_default-fit.ensures in
    let past-3 : Past 3 c.args.line.now = past-2 ∙ misfit _ _ _ c.in_default-fit-2.ensures in
    let past-4 : Past 4 c.args.line.now = past-3 ∙ misfit _ _ _ c.in_default-fit-3.ensures in
    let past-5 : Past 5 c.args.line.now = past-4 ∙ misfit _ _ _ c.in_default-fit-4.ensures in
    sym (past-5 ∙ fit _ _ _ c.in-Some-fit-5.ensures)

pub returns : goal.returns
unfolding shapes
returns c =
    let past-1 : Past 1 c.args.line.now = form_short _ c.if-line-gt64.false ∙ misfit _ _ _ c.in_default.ensures in
    let past-2 : Past 2 c.args.line.now = past-1 ∙ misfit _ _ _ c.in_default-fit.ensures in
    let past-3 : Past 3 c.args.line.now = past-2 ∙ misfit _ _ _ c.in_default-fit-2.ensures in
    let past-4 : Past 4 c.args.line.now = past-3 ∙ misfit _ _ _ c.in_default-fit-3.ensures in
    let past-5 : Past 5 c.args.line.now = past-4 ∙ misfit _ _ _ c.in_default-fit-4.ensures in
    let past-6 : Past 6 c.args.line.now = past-5 ∙ misfit _ _ _ c.in_default-fit-5.ensures in
    sym (past-6 ∙ none_left _)
