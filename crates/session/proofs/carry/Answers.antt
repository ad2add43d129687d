-- What the call did on the parts of the tables is what it does to the book.
use Rattle.tables.specs.Books.{call_of}
use Rattle.session.proofs.TurnLaws.{turn_done}
use Rattle.session.proofs.carry.Goals as goal

pub returns : goal.returns
returns c =
    let did = c.carry_out-answer.ensures in
    let done = turn_done (call_of c.args.call) did.room did.carried c.args.desk.now.n c.args.desk.now.m c.requires in
    rw c.size_after-n.ensures (record { book = done.book; tables = done.tables; printed = rw c.print_answer.ensures done.said })
