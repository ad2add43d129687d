-- What find answers to an entry, by where the entry stands.
--     finding_none, finding_rule, finding_dispute, finding_bad    0; 1 to n; 257 to 256 + n; any other
--     handled_none, handled_some                                  a rule with no handling number, and with one
-- Assumes nothing.
use mathlib.Core.Path.{◌≡◌, refl}
use mathlib.Core.Bool.{Bool, true, false, ◌&&◌}
use Prim.Native.Nat.{ℕ, ◌+◌, ◌-◌, ◌≤◌, ◌<◌}
use native.Mathlib.Omega.{arith}
use lib.Dec.{leb}
use borrow.Author.Tests.{ne_eqb, le-leb, lt-leb}
use Rattle.tables.specs.Reply.{refused, given, Finding}
use Rattle.tables.specs.Calls.{handled, finding_of}

pub handled_none : (o h : ℕ) → h ≡ 0 → handled o h ≡ refused 10
handled_none o h e = rw e refl

pub handled_some : (o h : ℕ) → 0 < h → handled o h ≡ given (Finding.rule o h)
handled_some o h some = rw (ne_eqb h 0 (λ e. omega arith), handled) refl

taken : {A : Type 0} {x : A} (y : A) (b : Bool) → b ≡ true → ◌≡◌ {A = A} (elim b [ true ↦ x | false ↦ y ]) x
taken y b e = rw e refl

module _ (n : ℕ) (rule : ℕ → ℕ) (e : ℕ) where
  pub finding_none : e ≡ 0 → finding_of n rule e ≡ given Finding.none
  unfolding finding_of
  finding_none none = rw none refl

  pub finding_rule : 0 < e → e ≤ n → finding_of n rule e ≡ handled (e - 1) (rule (e - 1))
  unfolding finding_of
  finding_rule some low = rw (ne_eqb e 0 (λ x. omega arith), finding_of) (taken _ _ (le-leb e n low))

  pub finding_dispute : n < e → 257 ≤ e → e ≤ 256 + n → finding_of n rule e ≡ given (Finding.dispute (e - 257))
  unfolding finding_of
  finding_dispute past low high =
      rw (ne_eqb e 0 (λ x. omega arith), lt-leb e n past, le-leb 257 e low, le-leb e (256 + n) high, finding_of) refl

  pub finding_bad : n < e → (leb 257 e && leb e (256 + n)) ≡ false → finding_of n rule e ≡ refused 10
  unfolding finding_of
  finding_bad past other = rw (ne_eqb e 0 (λ x. omega arith), lt-leb e n past, other, finding_of) refl
