-- `soundness::examine` meets its contract, by `sound_wrong` and `sound_right`: the counts are 0 in a part of the scratch, and compared once they are counted.
-- Assumes nothing.
use mathlib.Core.Path.{sym, ◌∙◌, ap₂}
use mathlib.Core.Bool.{◌&&◌, false≢true}
use Rattle.soundness.proofs.Soundness.{linked_bytes, part_replicate, counts_tests, sound_wrong, sound_right}
use Rattle.soundness.proofs.examine.Goals as goal

pub returns-then-not-examine_links : goal.returns-then-not-examine_links
returns-then-not-examine_links c =
    record {
      loaded = λ e. absurd (false≢true e);
      prepared = λ e. absurd (false≢true e);
      answer = λ tally. sound_wrong _ _ _ _ _ tally _ (sym c.if-not-examine_links.true ∙ c.examine_links.ensures.answer);
    }

pub rule_rows-requires : goal.rule_rows-requires
rule_rows-requires c = record {
  rules = c.requires.sized.0.rules_size;
  kinds = (c.examine_links.ensures.arranged c.if-not-examine_links.false).kinds;
  blank = c.requires.blank.2;
}

pub entries_right-right-requires : goal.entries_right-right-requires
entries_right-right-requires c = record {
  sized = c.requires.sized.0;
  ready = record {
    arranged = rw c.rule_rows.ensures.order (c.examine_links.ensures.arranged c.if-not-examine_links.false);
    rule_kinds = c.rule_rows.ensures.ruled;
  };
  counts = part_replicate _ 64 0 c.args.size.marks;
}

pub returns : goal.returns
returns c =
    let s = c.requires.sized in
    let links = c.examine_links.ensures in
    let is = c.if-not-examine_links.false in
    let loaded = links.loaded (linked_bytes _ _ s.1 (sym links.answer ∙ is)) in
    let entries = c.entries_right-right.ensures in
    let counts = counts_tests _ _ _ c.args.disputes.now s.2 entries.1 c.counts_right.ensures in
    let same = c.rule_rows.ensures.order in
    record {
      loaded = λ _. rw same loaded;
      prepared = λ _. record { arranged = rw same (links.arranged is); rule_kinds = c.rule_rows.ensures.ruled };
      answer = λ tally. sound_right _ _ _ c.args.size.kinds loaded _ _ _ tally _ s.0.entries_size (sym is ∙ links.answer)
          (rw (sym same) (ap₂ ◌&&◌ entries.0 counts));
    }
