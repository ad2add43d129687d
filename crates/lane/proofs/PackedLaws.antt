-- `find_packed` by the cases of `asked`, and an entry's packed answer by the tests of the code.
--     packed_plain             none or a dispute: the entry is the upper half
--     packed_bad               an entry that is none of the three
--     bytes_within             what an answer on the bytes requires
--     packed_refused           a refusal's number
--     packed_at                the packed answer at a kind and a mark of the book
-- Assumes nothing.
use mathlib.Core.Path.{◌≡◌, refl, sym, ap, ◌∙◌}
use mathlib.Core.Bool.{Bool, true, false, ◌&&◌, ◌||◌, true≢false}
use Prim.Native.Nat.{ℕ, ◌+◌, ◌*◌, ◌≤◌}
use native.Mathlib.Omega.{arith}
use lib.Dec.{eqb, leb}
use borrow.Author.Tests.{eqb-true, eqb-false, leb-true, leb-false, le-leb}
use Rattle.inheritance.specs.declared.Kind.{Kind}
use Rattle.inheritance.specs.declared.Mark.{Mark}
use Rattle.inheritance.specs.Checked.{kind_below, mark_below}
use Rattle.tables.specs.declared.Refusal.{Refusal}
use Rattle.std.specs.Prelude.{Result}
use Rattle.books.specs.Ask.{asked_at, asked, Within}
use Rattle.tables.specs.Reply.{refusal_number}
use Rattle.tables.specs.Tables.{Tables, shaped}
use Rattle.tables.specs.Calls.{finding_of}
use Rattle.tables.specs.Controller.{words16, spelled, shaped_bytes, packed, find_packed}
use Rattle.tables.proofs.ControllerLaws.{spelled_shape}
use Rattle.tables.proofs.ShapeLaws.{and_iff}
use Rattle.books.proofs.AskLaws.{let_through, admitted, finding_at, find_at, find_refused}
use Rattle.tables.proofs.FindingLaws.{finding_none, finding_dispute, finding_bad}

module _ (n e : ℕ) (rule : ℕ → ℕ) where
  pub packed_plain : n ≤ 128 → (eqb e 0 || (leb 257 e && leb e (256 + n))) ≡ true → packed (finding_of n rule e) ≡ 65536 * e
  packed_plain kinds is = go (eqb e 0) refl is
    where
      go : (b : Bool) → eqb e 0 ≡ b → (b || (leb 257 e && leb e (256 + n))) ≡ true → packed (finding_of n rule e) ≡ 65536 * e
      go true zero h = let none = eqb-true e 0 zero in rw (finding_none n rule e none) (omega arith)
      go false some h =
          let (low, high) = simp and_iff at h in
          let low' = leb-true 257 e low in
          rw (finding_dispute n rule e (omega arith) low' (leb-true e (256 + n) high)) (omega arith)

  pub packed_bad : (leb 1 e && leb e n) ≡ false → (eqb e 0 || (leb 257 e && leb e (256 + n))) ≡ false → packed (finding_of n rule e) ≡ 10
  packed_bad no_rule is = go (eqb e 0) (leb e n) refl refl is
    where
      go : (b past : Bool) → eqb e 0 ≡ b → leb e n ≡ past → (b || (leb 257 e && leb e (256 + n))) ≡ false → packed (finding_of n rule e) ≡ 10
      go true past zero low h = absurd (true≢false h)
      go false true some low h =
          let ne = eqb-false e 0 some in
          absurd (true≢false (sym ((and_iff (leb 1 e) (leb e n)).1 (le-leb 1 e (omega arith), low)) ∙ no_rule))
      go false false some low h = ap packed (finding_bad n rule e (leb-false e n low) h)

module _ (n m : ℕ) (t : Tables) (c i : ℕ) where
  pub packed_at : {k : Kind} {j : Mark} → asked (shaped_bytes n m t) (asked_at (kind_below n c) (mark_below m i)) ≡ Result.Ok (k, j)
      → find_packed n m t c i ≡ packed (finding_at n m (spelled t) k.0 j.0)
  unfolding find_packed
  packed_at {k} {j} e =
      let is = (let_through (shaped_bytes n m t) e).0 in
      let same : asked (shaped n m (spelled t)) (asked_at (kind_below n c) (mark_below m i)) ≡ Result.Ok (k, j) = rw (spelled_shape n m t is) (rw is at e) in
      rw (is, find_packed) (ap packed (find_at n m (spelled t) c i same))

  pub bytes_within : {k : Kind} {j : Mark} → asked (shaped_bytes n m t) (asked_at (kind_below n c) (mark_below m i)) ≡ Result.Ok (k, j)
      → Within n m (words16 t.rules) (words16 t.entries) k j
  bytes_within {k} {j} e =
      let is = (let_through (shaped_bytes n m t) e).0 in
      (admitted n m (spelled t) c i {k = k} {j = j} (rw (spelled_shape n m t is) (rw is at e))).1

  pub packed_refused : {why : Refusal} → asked (shaped_bytes n m t) (asked_at (kind_below n c) (mark_below m i)) ≡ Result.Err why
      → find_packed n m t c i ≡ refusal_number why
  unfolding find_packed
  packed_refused {why} e = go (shaped_bytes n m t) refl e
    where
      go : (b : Bool) → shaped_bytes n m t ≡ b → asked b (asked_at (kind_below n c) (mark_below m i)) ≡ Result.Err why
          → find_packed n m t c i ≡ refusal_number why
      go false is e = let w : Refusal.Shape ≡ why = cc in rw (is, find_packed, ← w) refl
      go true is e =
          let same : asked (shaped n m (spelled t)) (asked_at (kind_below n c) (mark_below m i)) ≡ Result.Err why = rw (spelled_shape n m t is) e in
          rw (is, find_packed) (ap packed (find_refused n m (spelled t) c i same))
