-- What the calls answer as one number, for programs in C: of 32 bits, and that of a list of edits of 64. A refusal is 65,536 + its number.
--     packed_opened    0 for an accepted open or save
--     packed_edited    the count
--     packed_pair      256 × one + the other
--     packed_listing   accepted edits in the lowest 16 bits, the sum of their counts from bit 32 on; between them 0, or 256 + the number of the edit's refusal
--     Answers          a call's outcome as programs in C get it: one number, and the tables that it leaves, of a book or of a store
--     packed_fault     sound is 0; a link byte's place, a kind, an entry's place and a mark are told apart by their upper half
-- Assumes nothing.
use Rattle.std.specs.Prelude.{◌≡◌, ℕ, ◌+◌, ◌*◌}
use Rattle.tables.specs.Calls.{OutcomeOn}
use Rattle.tables.specs.Reply.{Reply, refused, given, Fault, TwoKinds, Listing, whole, stopped}

abbrev pub packed_opened : Reply (Unit {0}) → ℕ
packed_opened (refused number) = 65536 + number
packed_opened (given _) = 0

abbrev pub packed_edited : Reply ℕ → ℕ
packed_edited (refused number) = 65536 + number
packed_edited (given count) = count

abbrev pub packed_pair : Reply TwoKinds → ℕ
packed_pair (refused number) = 65536 + number
packed_pair (given pair) = 256 * pair.one + pair.other

abbrev pub packed_fault : Reply Fault → ℕ
packed_fault (refused number) = 65536 + number
packed_fault (given Fault.sound) = 0
packed_fault (given (Fault.link_byte place)) = 131072 + place
packed_fault (given (Fault.above_itself kind)) = 196608 + kind
packed_fault (given (Fault.wrong_entry place)) = 262144 + place
packed_fault (given (Fault.wrong_count mark)) = 327680 + mark

abbrev pub packed_listing : Reply Listing → ℕ
packed_listing (refused number) = 65536 + number
packed_listing (given (whole accepted changed)) = 4294967296 * changed + accepted
packed_listing (given (stopped accepted changed number)) = 4294967296 * changed + 65536 * (256 + number) + accepted

-- the number that is returned and the tables at the end are those of the outcome
pub record Answers {T A : Type 0} (pack : Reply A → ℕ) (outcome : OutcomeOn T A) (number : ℕ) (tables : T) : Type 0 where
  pub returned : number ≡ pack outcome.reply
  pub left : tables ≡ outcome.tables
