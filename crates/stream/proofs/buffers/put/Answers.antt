use Rattle.std.proofs.Common.{List, ℕ, ◌+◌, length, refl, ap, slice_set, arith}
use Rattle.std.proofs.lemmas.Slice.{put_mid-paste}
use Rattle.stream.proofs.BufferLaws.{put_feed}
use Rattle.stream.proofs.buffers.put.Goals as goal

pub returns : goal.returns
returns c =
    let a = c.args in
    let copied = put_mid-paste a.at _ a.out.now _ a.line.now (length a.line.now) c.copy_from_slice.ensures.after (omega arith) refl in
    put_feed a.line.now a.out.now a.at c.requires refl (ap (λ (out : List ℕ). slice_set out (a.at + length a.line.now) 10) copied)
