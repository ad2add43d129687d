-- What std says of a prefix, of a pattern behind a head.
use Rattle.std.proofs.Common.{sym, ap, ◌∙◌, ◌++◌, Some, None}
use Rattle.std.proofs.lemmas.Bool.Decides.{Decides-eqb}
use Rattle.std.proofs.lemmas.Slice.Eq.{strip_prefix_is}
use Rattle.forms.specs.Pattern.{fits, match_of}
use Rattle.forms.proofs.PatternLaws.{fits_behind, fits_elsewhere}
use Rattle.forms.proofs.patterns.fit.Goals as goal

pub returns-in_err-rest : goal.returns-in_err-rest
returns-in_err-rest c =
    let a = c.args in
    let other = strip_prefix_is Decides-eqb a.line.now a.head.now None c.in_err-rest.ensures.cases in
    c.from_residual.ensures ∙ ap match_of (sym (fits_elsewhere a.pattern.now a.head.now a.line.now c.requires.plain other))

pub returns : goal.returns
returns c =
    let a = c.args in
    let is = strip_prefix_is Decides-eqb a.line.now a.head.now (Some c.in_ok-rest.rest) c.in_ok-rest.ensures.cases in
    c.match_line.ensures ∙ ap match_of (sym (fits_behind a.pattern.now a.head.now c.in_ok-rest.rest.now c.requires.plain))
    ∙ ap (λ line. match_of (fits (a.head.now ++ a.pattern.now) line)) (sym is)
