-- `soundness::examine_links` meets its contract: the bytes are wrong, by `bytes_wrong`, or the kinds are arranged, by `links_tests`.
-- Assumes nothing.
use mathlib.Core.Path.{sym, ◌∙◌}
use mathlib.Core.Bool.{false≢true}
use native.Mathlib.Omega.{arith}
use Rattle.soundness.proofs.Soundness.{bytes_wrong, bytes_tested, links_tests}
use Rattle.soundness.proofs.examine_links.Goals as goal

pub returns-then-not-bytes_right : goal.returns-then-not-bytes_right
returns-then-not-bytes_right c =
    let s = c.requires in
    let wrong = sym c.bytes_right.ensures ∙ c.if-not-bytes_right.true in
    record {
      loaded = λ is. absurd (false≢true (sym wrong ∙ is));
      arranged = λ e. absurd (false≢true e);
      answer = bytes_wrong _ _ s.links.1 wrong;
    }

pub load-requires : goal.load-requires
load-requires c =
    let s = c.requires in
    (omega arith, s.links.0, bytes_tested _ c.args.links.now s.links.1 (sym c.bytes_right.ensures ∙ c.if-not-bytes_right.false), s.blank.0)

pub returns : goal.returns
returns c =
    let s = c.requires.links in
    let right = sym c.bytes_right.ensures ∙ c.if-not-bytes_right.false in
    let order = c.arrange.ensures in
    record {
      loaded = λ _. rw order.rows c.load.ensures;
      arranged = order.arranged.arranged;
      answer = links_tests _ _ _ s.0 (rw order.rows c.load.ensures) _ _ _ order.arranged s.1 right;
    }
