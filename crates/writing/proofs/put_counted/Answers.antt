-- `writing::put_counted` meets its contract. Assumes nothing.
use native.Mathlib.Omega.{arith}
use Rattle.counting.proofs.CountLaws.{counted_room, counted_set}
use Rattle.writing.proofs.put_counted.Goals as goal

pub recount-requires : goal.recount-requires
recount-requires c =
    let s = c.requires in
    let room = counted_room _ _ _ _ _ s.2 s.0 s.1 in
    (omega (arith, room.0), room.1, room.2)

pub returns : goal.returns
returns c =
    let s = c.requires in
    (c.put.ensures.0, c.put.ensures.1, c.put.ensures.2, rw (c.put.ensures.0, c.recount.ensures) (counted_set _ _ _ _ _ s.2 s.0 s.1 c.args.e))
