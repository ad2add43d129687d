-- What refusals 1, 13, 2 and 3 have tested, and what a call is where they let it through or refuse it.
--     let_through, asked_at_place, asked_between, asked_by    what `asked`, `asked_at`, `asked_link` and `asked_caller` have tested where they let a call through
--     admitted                               the same of kind, mark and tables, as what comes after requires it
--     rule_at                                what `asked_rule` has tested after `asked_at`
--     at_passes, rule_passes, link_passes, by_passes            the refusals of a call that was let through
--     at_refuses, rule_refuses, link_refuses, caller_refuses    .. and of one that was not
--     place_passes, place_refuses, place_is  refusals 1, 2 and 3 of a call on a kind and a mark of a book
--     find_at, find_refused                  find by these cases
-- Assumes nothing.
use mathlib.Core.Path.{◌≡◌, refl, ap, ◌∙◌}
use mathlib.Core.Bool.{Bool, true, false, cond, ◌&&◌, not}
use Prim.Native.Nat.{ℕ, ◌+◌, ◌*◌, ◌<◌}
use native.Mathlib.Omega.{arith}
use lib.Dec.{ltb}
use lib.ListN.{get_or}
use borrow.Author.Tests.{ltb-true, lt-ltb}
use Rattle.std.specs.Prelude.{Option, Some, None, Result}
use Rattle.inheritance.specs.declared.Kind.{Kind}
use Rattle.inheritance.specs.declared.Mark.{Mark}
use Rattle.inheritance.specs.Checked.{kind, mark, kind_below, mark_below}
use Rattle.inheritance.proofs.GivenLaws.{ok_pair}
use Rattle.tables.specs.declared.Caller.{Caller}
use Rattle.tables.specs.declared.Refusal.{Refusal}
use Rattle.tables.specs.Caller.{callers, caller}
use Rattle.tables.specs.Reply.{Reply, refused, Finding, refusal_number}
use Rattle.tables.specs.Tables.{Tables, shaped}
use Rattle.tables.specs.Calls.{Outcome, leaves, check, by_caller, finding_of, find}
use Rattle.tables.proofs.ShapeLaws.{sized_facts, shape_sized}
use Rattle.books.specs.Ask.{asked_at, asked, asked_rule, asked_link, asked_caller, checked, checked_caller, Within}

abbrev kind_or : Bool → ℕ → Option Kind
kind_or below c = cond below (Some (kind c)) None

abbrev mark_or : Bool → ℕ → Option Mark
mark_or below i = cond below (Some (mark i)) None

abbrev caller_or : Bool → ℕ → Option Caller
caller_or below c = cond below (Some (caller c)) None

-- ---- a kind and a mark

-- k and j are kind c and mark i of the book
pub record AskedAt (n m c i : ℕ) (k : Kind) (j : Mark) : Type 0 where
  pub the_kind : k ≡ kind c
  pub the_mark : j ≡ mark i
  pub kind_in_range : c < n
  pub mark_in_range : i < m

module _ (n m c i : ℕ) where
  pub asked_at_place : {k : Kind} {j : Mark} → asked_at (kind_below n c) (mark_below m i) ≡ Result.Ok (k, j) → AskedAt n m c i k j
  asked_at_place {k} {j} e = go (ltb c n) (ltb i m) refl refl e
    where
      go : (p q : Bool) → ltb c n ≡ p → ltb i m ≡ q → asked_at (kind_or p c) (mark_or q i) ≡ Result.Ok (k, j) → AskedAt n m c i k j
      go false q hp hq e = let z : ◌≡◌ {A = ℕ} 0 1 = cc in absurd (omega arith)
      go true false hp hq e = let z : ◌≡◌ {A = ℕ} 0 1 = cc in absurd (omega arith)
      go true true hp hq e = let (k-is, j-is) = ok_pair e in record { the_kind = k-is; the_mark = j-is; kind_in_range = ltb-true c n hp; mark_in_range = ltb-true i m hq }

  module _ {A : Type 0} (t : Tables) (next : Outcome A) where
    pub at_passes : {k : Kind} {j : Mark} → asked_at (kind_below n c) (mark_below m i) ≡ Result.Ok (k, j)
        → check 2 (ltb c n) t (check 3 (ltb i m) t next) ≡ next
    unfolding check
    at_passes e = let p = asked_at_place e in rw (lt-ltb c n p.kind_in_range, lt-ltb i m p.mark_in_range) refl

    pub at_refuses : {why : Refusal} → asked_at (kind_below n c) (mark_below m i) ≡ Result.Err why
        → check 2 (ltb c n) t (check 3 (ltb i m) t next) ≡ leaves (refused (refusal_number why)) t
    unfolding check
    at_refuses {why} e = go (ltb c n) (ltb i m) e
      where
        go : (p q : Bool) → asked_at (kind_or p c) (mark_or q i) ≡ Result.Err why → check 2 p t (check 3 q t next) ≡ leaves (refused (refusal_number why)) t
        go false q e = let w : Refusal.Kind ≡ why = cc in rw (← w) refl
        go true false e = let w : Refusal.Mark ≡ why = cc in rw (← w) refl
        go true true e = let z : ◌≡◌ {A = ℕ} 0 1 = cc in absurd (omega arith)

-- .. and a handling, where an edit of a rule has to have one
pub rule_at : (a : Result (Kind × Mark) Refusal) (bare : Bool) {k : Kind} {j : Mark} → asked_rule a bare ≡ Result.Ok (k, j)
    → (a ≡ Result.Ok (k, j)) × (bare ≡ false)
rule_at (Result.Err why) bare e = let z : ◌≡◌ {A = ℕ} 0 1 = cc in absurd (omega arith)
rule_at (Result.Ok at) true e = let z : ◌≡◌ {A = ℕ} 0 1 = cc in absurd (omega arith)
rule_at (Result.Ok at) false e = (e, refl)

module _ (n m c i : ℕ) (bare : Bool) {A : Type 0} (t : Tables) (next : Outcome A) where
  pub rule_passes : {k : Kind} {j : Mark} → asked_rule (asked_at (kind_below n c) (mark_below m i)) bare ≡ Result.Ok (k, j)
      → check 2 (ltb c n) t (check 3 (ltb i m) t (check 4 (not bare) t next)) ≡ next
  unfolding check
  rule_passes e = let (at, some) = rule_at _ bare e in rw some (at_passes n m c i t _ at)

  pub rule_refuses : {why : Refusal} → asked_rule (asked_at (kind_below n c) (mark_below m i)) bare ≡ Result.Err why
      → check 2 (ltb c n) t (check 3 (ltb i m) t (check 4 (not bare) t next)) ≡ leaves (refused (refusal_number why)) t
  unfolding check
  rule_refuses {why} e = go (asked_at (kind_below n c) (mark_below m i)) bare refl e
    where
      go : (a : Result (Kind × Mark) Refusal) (b : Bool) → asked_at (kind_below n c) (mark_below m i) ≡ a → asked_rule a b ≡ Result.Err why
          → check 2 (ltb c n) t (check 3 (ltb i m) t (check 4 (not b) t next)) ≡ leaves (refused (refusal_number why)) t
      go (Result.Err w) b is e = at_refuses n m c i t _ (is ∙ e)
      go (Result.Ok (k, j)) true is e = at_passes n m c i t _ is ∙ (let w : Refusal.Handling ≡ why = cc in rw (← w) refl)
      go (Result.Ok at) false is e = let z : ◌≡◌ {A = ℕ} 0 1 = cc in absurd (omega arith)

-- .. on tables that have their lengths
pub let_through : (s : Bool) {next : Result (Kind × Mark) Refusal} {k : Kind} {j : Mark} → asked s next ≡ Result.Ok (k, j) → (s ≡ true) × (next ≡ Result.Ok (k, j))
let_through true e = (refl, e)
let_through false e = let z : ◌≡◌ {A = ℕ} 0 1 = cc in absurd (omega arith)

pub admitted : (n m : ℕ) (t : Tables) (c i : ℕ) {k : Kind} {j : Mark} → checked n m t c i ≡ Result.Ok (k, j) → (shaped n m t ≡ true) × Within n m t.rules t.entries k j
admitted n m t c i e =
    let (fits, at) = let_through (shaped n m t) e in
    let p = asked_at_place n m c i at in (
      fits,
      record {
        sizes = shape_sized n m t (sized_facts 1 1 n m _ _ _ _ _ fits);
        kind_in_range = rw p.the_kind p.kind_in_range;
        mark_in_range = rw p.the_mark p.mark_in_range;
      },
    )

-- ---- a child and a parent

-- j and k are kinds c and p of the book
pub record AskedBetween (n c p : ℕ) (j k : Kind) : Type 0 where
  pub the_child : j ≡ kind c
  pub the_parent : k ≡ kind p
  pub child_below : c < n
  pub parent_below : p < n

module _ (n c p : ℕ) where
  pub asked_between : {j k : Kind} → asked_link (kind_below n c) (kind_below n p) ≡ Result.Ok (j, k) → AskedBetween n c p j k
  asked_between {j} {k} e = go (ltb c n) (ltb p n) refl refl e
    where
      go : (a b : Bool) → ltb c n ≡ a → ltb p n ≡ b → asked_link (kind_or a c) (kind_or b p) ≡ Result.Ok (j, k) → AskedBetween n c p j k
      go false b ha hb e = let z : ◌≡◌ {A = ℕ} 0 1 = cc in absurd (omega arith)
      go true false ha hb e = let z : ◌≡◌ {A = ℕ} 0 1 = cc in absurd (omega arith)
      go true true ha hb e = let (j-is, k-is) = ok_pair e in record { the_child = j-is; the_parent = k-is; child_below = ltb-true c n ha; parent_below = ltb-true p n hb }

  module _ {A : Type 0} (t : Tables) (next : Outcome A) where
    pub link_passes : {j k : Kind} → asked_link (kind_below n c) (kind_below n p) ≡ Result.Ok (j, k) → check 2 (ltb c n && ltb p n) t next ≡ next
    unfolding check
    link_passes e = let a = asked_between e in rw (lt-ltb c n a.child_below, lt-ltb p n a.parent_below) refl

    pub link_refuses : {why : Refusal} → asked_link (kind_below n c) (kind_below n p) ≡ Result.Err why
        → check 2 (ltb c n && ltb p n) t next ≡ leaves (refused (refusal_number why)) t
    unfolding check
    link_refuses {why} e = go (ltb c n) (ltb p n) e
      where
        go : (a b : Bool) → asked_link (kind_or a c) (kind_or b p) ≡ Result.Err why → check 2 (a && b) t next ≡ leaves (refused (refusal_number why)) t
        go false b e = let w : Refusal.Kind ≡ why = cc in rw (← w) refl
        go true false e = let w : Refusal.Kind ≡ why = cc in rw (← w) refl
        go true true e = let z : ◌≡◌ {A = ℕ} 0 1 = cc in absurd (omega arith)

-- ---- a caller

-- the tables have their lengths, and by is caller c
pub record AskedBy (n m : ℕ) (t : Tables) (c : ℕ) (by : Caller) : Type 0 where
  pub fits : shaped n m t ≡ true
  pub the_caller : by ≡ caller c
  pub caller_in_range : c < callers

module _ (n m : ℕ) (t : Tables) (c : ℕ) where
  pub asked_by : {by : Caller} → checked_caller n m t c ≡ Result.Ok by → AskedBy n m t c by
  asked_by {by} e = go (shaped n m t) (ltb c callers) refl refl e
    where
      go : (s a : Bool) → shaped n m t ≡ s → ltb c callers ≡ a → asked_caller s (caller_or a c) ≡ Result.Ok by → AskedBy n m t c by
      go false a hs ha e = let z : ◌≡◌ {A = ℕ} 0 1 = cc in absurd (omega arith)
      go true false hs ha e = let z : ◌≡◌ {A = ℕ} 0 1 = cc in absurd (omega arith)
      go true true hs ha e = record { fits = hs; the_caller = cc; caller_in_range = ltb-true c callers ha }

  module _ {A : Type 0} (next : Outcome A) where
    pub by_passes : shaped n m t ≡ true → c < callers → by_caller n m t c next ≡ next
    unfolding check
    by_passes fits low = rw (fits, lt-ltb c callers low) refl

    pub caller_refuses : {why : Refusal} → checked_caller n m t c ≡ Result.Err why → by_caller n m t c next ≡ leaves (refused (refusal_number why)) t
    unfolding check
    caller_refuses {why} e = go (shaped n m t) (ltb c callers) e
      where
        go : (s a : Bool) → asked_caller s (caller_or a c) ≡ Result.Err why → check 1 s t (check 13 a t next) ≡ leaves (refused (refusal_number why)) t
        go false a e = let w : Refusal.Shape ≡ why = cc in rw (← w) refl
        go true false e = let w : Refusal.Caller ≡ why = cc in rw (← w) refl
        go true true e = let z : ◌≡◌ {A = ℕ} 0 1 = cc in absurd (omega arith)

-- ---- a call on a kind and a mark of a book

module _ (n m : ℕ) (t : Tables) (c i : ℕ) where
  module _ {A : Type 0} (next : Outcome A) where
    pub place_passes : {k : Kind} {j : Mark} → checked n m t c i ≡ Result.Ok (k, j)
        → check 1 (shaped n m t) t (check 2 (ltb c n) t (check 3 (ltb i m) t next)) ≡ next
    unfolding check
    place_passes e = let (fits, at) = let_through (shaped n m t) e in rw fits (at_passes n m c i t next at)

    pub place_refuses : {why : Refusal} → checked n m t c i ≡ Result.Err why
        → check 1 (shaped n m t) t (check 2 (ltb c n) t (check 3 (ltb i m) t next)) ≡ leaves (refused (refusal_number why)) t
    unfolding check
    place_refuses {why} e = go (shaped n m t) e
      where
        go : (s : Bool) → asked s (asked_at (kind_below n c) (mark_below m i)) ≡ Result.Err why
            → check 1 s t (check 2 (ltb c n) t (check 3 (ltb i m) t next)) ≡ leaves (refused (refusal_number why)) t
        go false e = let w : Refusal.Shape ≡ why = cc in rw (← w) refl
        go true e = at_refuses n m c i t next e

  -- the kind and the mark are the numbers asked for
  pub place_is : {k : Kind} {j : Mark} → checked n m t c i ≡ Result.Ok (k, j) → (k ≡ kind c) × (j ≡ mark i)
  place_is e = let p = asked_at_place n m c i (let_through (shaped n m t) e).1 in (p.the_kind, p.the_mark)

-- ---- find

-- the answer at kind c and mark i
abbrev pub finding_at : (n m : ℕ) → Tables → (c i : ℕ) → Reply Finding
finding_at n m t c i = finding_of n (λ o. get_or t.rules (o * m + i) 0) (get_or t.entries (c * m + i) 0)

module _ (n m : ℕ) (t : Tables) (c i : ℕ) where
  pub find_at : {k : Kind} {j : Mark} → checked n m t c i ≡ Result.Ok (k, j)
      → (find n m t c i).reply ≡ finding_at n m t k.0 j.0
  unfolding find
  find_at e = let (k-is, j-is) = place_is n m t c i e in rw (k-is, j-is) (ap (λ (o : Outcome Finding). o.reply) (place_passes n m t c i _ e))

  pub find_refused : {why : Refusal} → checked n m t c i ≡ Result.Err why
      → (find n m t c i).reply ≡ refused (refusal_number why)
  unfolding find
  find_refused e = ap (λ (o : Outcome Finding). o.reply) (place_refuses n m t c i _ e)
