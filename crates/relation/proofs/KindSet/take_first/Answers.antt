-- `KindSet::take_first` meets its contract: the lowest bit of the first word that is not 0. Assumes nothing.
use Rattle.std.proofs.Common.{arith, rules, ◌≡◌, ◌<◌, ◌^◌}
use Rattle.relation.proofs.Walking.{found_before, none_before}
use Rattle.relation.proofs.Taking.{first_low, first_high, take_low, take_high, take_none}
use Rattle.relation.proofs.KindSet.take_first.Goals as goal

pub returns-then-low-end : goal.returns-then-low-end
returns-then-low-end c =
    let s = c.args.self.now in
    let fits : s.low < 2 ^ 64 = search (rules, c.fits-self) in
    let some : 0 < s.low = omega (arith, c.if-self-ne0.true) in
    (found_before (omega arith) (first_low s fits some) c.if-low-end.true, c.if-low-end.true, take_low s fits some)

pub returns-then-self-ne0 : goal.returns-then-self-ne0
returns-then-self-ne0 c =
    let s = c.args.self.now in
    let fits : s.low < 2 ^ 64 = search (rules, c.fits-self) in
    none_before (omega arith) (first_low s fits (omega (arith, c.if-self-ne0.true))) (omega arith) (omega (arith, c.if-low-end.false))

pub returns-then-high-end : goal.returns-then-high-end
returns-then-high-end c =
    let s = c.args.self.now in
    let fits : s.high < 2 ^ 64 = search (rules, c.fits-self) in
    let some : 0 < s.high = omega (arith, c.if-self-ne0-2.true) in
    let none : s.low ≡ 0 = omega (arith, c.if-self-ne0.false) in
    (found_before (omega arith) (first_high s fits none some) c.if-high-end.true, c.if-high-end.true, take_high s fits none some)

pub returns-else-high-end : goal.returns-else-high-end
returns-else-high-end c =
    let s = c.args.self.now in
    let fits : s.high < 2 ^ 64 = search (rules, c.fits-self) in
    none_before (omega arith) (first_high s fits (omega (arith, c.if-self-ne0.false)) (omega (arith, c.if-self-ne0-2.true))) (omega arith) (omega (arith, c.if-high-end.false))

pub returns-else-self-ne0-2 : goal.returns-else-self-ne0-2
returns-else-self-ne0-2 c = take_none c.args.self.now c.args.end c.requires (omega (arith, c.if-self-ne0.false)) (omega (arith, c.if-self-ne0-2.false))
