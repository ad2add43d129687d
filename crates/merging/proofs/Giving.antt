-- What a row of entries holds while it is worked out: what the parents of kind c give it, and then its own rules.
--     row_first, row_merge              the first parent is taken as it is; one more is merged in
--     row_next, row_empty               up to the next parent nothing more is given; there is none
--     given_one, given_two              what a kind with one parent, and with two, is given
--     row_owned                         the own rules win
--     given_zero, given_next            no parent is gone through; all up to the next are
--     given_merge                       one entry: one parent more
--     step_done, row_decided            the own rules win, and where the parents differ what is prepared decides: an entry is worked out, and a row
-- Assumes nothing.
use mathlib.Core.Path.{◌≡◌, refl, sym, ◌∙◌, ap}
use mathlib.Core.Bool.{Bool, true, false, not}
use mathlib.Core.List.{List}
use Prim.Native.Nat.{ℕ, ◌+◌, ◌*◌, ◌<◌, ◌≤◌}
use native.Mathlib.Numerals.{add-one}
use native.Mathlib.Omega.{arith}
use lib.Dec.{eqb}
use lib.ListN.{get_or, replicate, length-replicate, get_or-replicate}
use Rattle.inheritance.specs.declared.Lookup.{Lookup}
use Rattle.inheritance.specs.declared.Lookup.TheVariants.{Rule}
use Rattle.inheritance.specs.Checked.{kind}
use Rattle.inheritance.specs.Lookup.{left, passing, join, meet}
use Rattle.inheritance.specs.Step.{narrowed, step}
use Rattle.inheritance.proofs.MeetLaws.{meet_keeps}
use Rattle.relation.specs.Bit.{bit}
use Rattle.relation.specs.First.{First}
use Rattle.relation.proofs.Walking.{first_skips}
use Rattle.inheritance.specs.Entry.{entry_of, lookup_of}
use Rattle.tables.specs.Step.{read, stepped}
use Rattle.tables.specs.Tables.{own_of}
use Rattle.inheritance.proofs.EntryLaws.{Coded, coded_none, coded_dispute, coded_read}
use Rattle.ruling.specs.declared.Prepared.{Prepared}
use Rattle.ruling.specs.Ready.{Ready}
use Rattle.deciding.specs.Deciding.{decided_at, apart}
use Rattle.deciding.specs.Row.{Row}
use Rattle.merging.specs.Merged.{merged, narrowing, ruled, given}
use Rattle.merging.proofs.MergeLaws.{merge_first}
use Rattle.merging.proofs.NarrowLaws.{apart_ruled, apart_narrows}
use Rattle.deciding.proofs.DecidingLaws.{deciding_left}
use Rattle.deciding.proofs.Rows.{row_same}

module _ (m : ℕ) (up : ℕ → ℕ → Bool) (entries : List ℕ) (c : ℕ) where
  given_coded : (k j : ℕ) → Coded (meet c (up c) (read m entries j) k)
  unfolding read
  given_coded k j = meet_keeps Coded c coded_none (coded_dispute c) (up c) (read m entries j) k (λ p h u. coded_read (get_or entries (p * m + j) 0))

  given_more : (k j : ℕ) → up c k ≡ true → merged c (given m up entries c k j) (get_or entries (k * m + j) 0) ≡ given m up entries c (k + 1) j
  unfolding merged given meet read
  given_more k j u = rw (add-one, meet, u) (ap (λ (v : Lookup). entry_of (join c v (read m entries j k))) (given_coded k j))

  given_skip : (k j : ℕ) → up c k ≡ false → given m up entries c (k + 1) j ≡ given m up entries c k j
  unfolding given meet
  given_skip k j u = rw (add-one, meet, u) refl

  pub given_zero : (j : ℕ) → given m up entries c 0 j ≡ 0
  unfolding given meet
  given_zero j = refl

  row_none : (k : ℕ) {lo hi : ℕ} → k ≡ 64 → hi ≤ 64 → Row lo hi (given m up entries c 0) (replicate k 0)
  unfolding given meet
  row_none k e h = record { long = length-replicate k 0 ∙ e; at = λ j a b. get_or-replicate k j 0 0 (omega arith) }

  -- p is the next parent from k on, or n where there is none below n
  pub given_next : {k n p : ℕ} → First (up c) k n p → (j : ℕ) → given m up entries c p j ≡ given m up entries c k j
  given_next s j = first_skips (λ k. given m up entries c k j) (up c) (λ k u. given_skip k j u) s

  pub row_next : {k n p lo hi : ℕ} {out : List ℕ} → First (up c) k n p → Row lo hi (given m up entries c k) out → Row lo hi (given m up entries c p) out
  row_next {p = p} s r = row_same (given m up entries c p) (λ j a b. sym (given_next s j)) r

  pub row_merge : (k : ℕ) {lo hi : ℕ} {out new : List ℕ} → up c k ≡ true → Row lo hi (given m up entries c k) out
      → Row lo hi (λ j. merged c (get_or out j 0) (get_or entries (k * m + j) 0)) new → Row lo hi (given m up entries c (k + 1)) new
  row_merge k u r s =
      row_same (given m up entries c (k + 1))
      (λ j a b. ap (λ (e : ℕ). merged c e (get_or entries (k * m + j) 0)) (r.at j a b) ∙ given_more k j u) s

  -- there is no parent
  pub row_empty : (k : ℕ) {n lo hi : ℕ} → k ≡ 64 → hi ≤ 64 → First (up c) 0 n n → Row lo hi (given m up entries c n) (replicate k 0)
  row_empty k e h s = row_next s (row_none k e h)

  -- one parent more, k, where e is what those before it give
  pub given_merge : (k j : ℕ) {e : ℕ} → up c k ≡ true → e ≡ given m up entries c k j → merged c e (get_or entries (k * m + j) 0) ≡ given m up entries c (k + 1) j
  given_merge k j u is = ap (λ (e : ℕ). merged c e (get_or entries (k * m + j) 0)) is ∙ given_more k j u

  -- p is the first parent
  given_first : {n p : ℕ} → First (up c) 0 n p → p < n → (j : ℕ) → get_or entries (p * m + j) 0 ≡ given m up entries c (p + 1) j
  given_first {p = p} s h j =
      sym (merge_first c (get_or entries (p * m + j) 0)) ∙ given_merge p j (s.found h) (sym (given_next s j ∙ given_zero j))

  pub row_first : {n p lo hi : ℕ} {out : List ℕ} → First (up c) 0 n p → p < n
      → Row lo hi (λ j. get_or entries (p * m + j) 0) out → Row lo hi (given m up entries c (p + 1)) out
  row_first {p = p} s h r = row_same (given m up entries c (p + 1)) (λ j a b. given_first s h j) r

  -- p is the only parent
  pub given_one : {n p : ℕ} → First (up c) 0 n p → p < n → First (up c) (p + 1) n n → (j : ℕ) → get_or entries (p * m + j) 0 ≡ given m up entries c n j
  given_one s h t j = given_first s h j ∙ sym (given_next t j)

  -- p and q are the only ones
  pub given_two : {n p q : ℕ} → First (up c) 0 n p → p < n → First (up c) (p + 1) n q → q < n → First (up c) (q + 1) n n
      → (j : ℕ) → merged c (get_or entries (p * m + j) 0) (get_or entries (q * m + j) 0) ≡ given m up entries c n j
  given_two {q = q} s h t h' v j = given_merge q j (t.found h') (given_first s h j ∙ sym (given_next t j)) ∙ sym (given_next v j)

  module _ (n : ℕ) (rules : List ℕ) where
    abbrev lefts : ℕ → ℕ → Bool
    lefts j = left n up (own_of m rules j) c

    given_own : (j : ℕ) → ruled c (get_or rules (c * m + j) 0) (narrowing n (lefts j) c (given m up entries c n j)) ≡ stepped n m up rules entries c j
    unfolding stepped step ruled given narrowing
    given_own j = go (eqb (get_or rules (c * m + j) 0) 0)
      where
        met : Lookup
        met = meet c (up c) (read m entries j) n

        go : (b : Bool) → ◌≡◌ {A = ℕ} (elim b [ true ↦ entry_of (narrowed c (passing (lefts j) n) (lookup_of (entry_of met))) | false ↦ c + 1 ])
            (entry_of (elim (not b) [ true ↦ Rule (kind c) | false ↦ narrowed c (passing (lefts j) n) met ]))
        go true = ap (λ (v : Lookup). entry_of (narrowed c (passing (lefts j) n) v)) (given_coded n j)
        go false = refl

-- .. and where the parents differ, what is prepared decides
module _ {n m : ℕ} {rules : List ℕ} {d : Prepared} (p : Ready n m rules d) (most : n ≤ 128) (entries : List ℕ) (c : ℕ) (c<n : c < n) where
  step_decided : (j : ℕ) → j < m
      → apart c (ruled c (get_or rules (c * m + j) 0) (given m (bit d.order.rows) entries c n j)) (decided_at d c j) ≡ stepped n m (bit d.order.rows) rules entries c j
  step_decided j h = let rule = get_or rules (c * m + j) 0 in
      apart_ruled c rule (given m (bit d.order.rows) entries c n j) (decided_at d c j) (omega arith)
      ∙ ap (ruled c rule) (apart_narrows n (lefts m (bit d.order.rows) entries c n rules j) c (given m (bit d.order.rows) entries c n j) (decided_at d c j)
      (deciding_left n d.order.rows d.order.kinds d.order.reach p.arranged m rules d.ruled p.rule_kinds most c j c<n h))
      ∙ given_own m (bit d.order.rows) entries c n rules j

  -- e is what all parents give
  pub step_done : (j : ℕ) {e : ℕ} → j < m → e ≡ given m (bit d.order.rows) entries c n j
      → apart c (ruled c (get_or rules (c * m + j) 0) e) (decided_at d c j) ≡ stepped n m (bit d.order.rows) rules entries c j
  step_done j h is = ap (λ (e : ℕ). apart c (ruled c (get_or rules (c * m + j) 0) e) (decided_at d c j)) is ∙ step_decided j h

  pub row_decided : {lo hi : ℕ} {mid new : List ℕ} → hi ≤ m → Row lo hi (λ j. ruled c (get_or rules (c * m + j) 0) (given m (bit d.order.rows) entries c n j)) mid
      → Row lo hi (λ j. apart c (get_or mid j 0) (decided_at d c j)) new → Row lo hi (stepped n m (bit d.order.rows) rules entries c) new
  row_decided high o s =
      row_same (stepped n m (bit d.order.rows) rules entries c)
      (λ j a b. ap (λ (e : ℕ). apart c e (decided_at d c j)) (o.at j a b) ∙ step_decided j (omega arith)) s

-- the own rules win in a row that has what the parents give
pub row_owned : {lo hi : ℕ} {f : ℕ → ℕ} {out mid : List ℕ} (c : ℕ) (rule : ℕ → ℕ) → Row lo hi f out → Row lo hi (λ j. ruled c (rule j) (get_or out j 0)) mid → Row lo hi (λ j. ruled c (rule j) (f j)) mid
row_owned c rule r o = row_same _ (λ j a b. ap (ruled c (rule j)) (r.at j a b)) o
