-- Eight tests at once: their bits in a byte, and that byte's bits in a set.
--     octet_none, octet_more     no test yet; one more
--     on_shl, on_tail            a word that is moved up; a word without the bits before a place
--     octet_low, octet_high      an octet is added to a set, to its low word and to its high one
-- Assumes nothing.
use mathlib.Core.Path.{◌≡◌, refl, sym, ap, ◌∙◌}
use mathlib.Core.Bool.{Bool, true, false, ◌&&◌, and-false, and-true}
use Prim.Native.Nat.{ℕ, suc, ◌+◌, ◌-◌, ◌*◌, ◌/◌, ◌%◌, ◌^◌, ◌<◌, ◌≤◌, zero-le}
use native.Mathlib.Nat.{mul-mod_left, div-eq_of_lt, pow-suc, lt_of_lt_of_le, mul_assoc, one-mul, zero-mul}
use native.Mathlib.Omega.{arith}
use borrow.Author.Tests.{le-leb, lt-leb, leb-true, leb-false, le-ltb}
use mir.Val.{bool_byte}
use lib.Bits.{bit_or, or_lt}
use lib.Dec.{eqb, leb}
use lib.Pow.{pow_mono, pow-add, shl-shr, shl_exact}
use Rattle.relation.specs.declared.KindSet.{KindSet}
use Rattle.relation.specs.Bit.{Octet, on, Gains}
use Rattle.inheritance.proofs.Bools.{same_bool}
use Rattle.relation.proofs.Bools.{one_more}
use Rattle.relation.proofs.BitLaws.{on_or, on_power, gains_low, gains_high}
use Rattle.relation.proofs.Zeros.{on_zero}
use Rattle.relation.proofs.Walking.{on_shifted}

-- ---- one octet

-- what the code adds for a byte: 2 ^ k where it is 1
pub on_shown : (b : Bool) (k j : ℕ) → k < 8 → on ((bool_byte b * 2 ^ k) % 2 ^ 8) j ≡ (eqb j k && b)
on_shown true k j h = ap (λ (x : ℕ). on x j) (shl_exact 1 k 8 (omega arith) (omega arith) ∙ one-mul (2 ^ k)) ∙ on_power k j ∙ sym (and-true (eqb j k))
on_shown false k j h = ap (λ (x : ℕ). on (x % 2 ^ 8) j) (zero-mul (2 ^ k)) ∙ on_zero j ∙ sym (and-false (eqb j k))

module _ (f : ℕ → Bool) where
  pub octet_none : Octet f 0 0
  octet_none = record { small = omega arith; at = λ j. on_zero j ∙ sym (rw (le-ltb j 0 zero-le) refl) }

  pub octet_more : (k bits : ℕ) {b : Bool} → k < 8 → b ≡ f k → Octet f k bits → Octet f (k + 1) (bit_or bits ((bool_byte b * 2 ^ k) % 2 ^ 8))
  octet_more k bits {b} h e o = record {
    small = or_lt 8 bits _ o.small (omega arith);
    at = λ j. on_or bits _ j ∙ rw (o.at j, on_shown b k j h, e) (one_more f j k);
  }

-- ---- an octet in a set

on_below : (w m k : ℕ) → on (w * 2 ^ (suc m + k)) k ≡ false
unfolding on
on_below w m k =
    ap (λ (x : ℕ). eqb (x % 2) 1)
    (ap (λ (x : ℕ). w * x / 2 ^ k) (pow-add 2 (suc m) k) ∙ ap (λ (x : ℕ). x / 2 ^ k) (sym (mul_assoc w (2 ^ suc m) (2 ^ k)))
    ∙ shl-shr (w * 2 ^ suc m) k ∙ ap (λ (x : ℕ). w * x) (pow-suc 2 m) ∙ sym (mul_assoc w (2 ^ m) 2))
    ∙ ap (λ (x : ℕ). eqb x 1) (mul-mod_left (w * 2 ^ m) 2)

pub on_shl : (w s k : ℕ) → on (w * 2 ^ s) k ≡ (leb s k && on w (k - s))
on_shl w s k = go (leb s k) refl
  where
    go : (t : Bool) → leb s k ≡ t → on (w * 2 ^ s) k ≡ (t && on w (k - s))
    go true e =
        let h = leb-true s k e in
        let split : k ≡ s + (k - s) = omega arith in
        ap (on (w * 2 ^ s)) split ∙ sym (on_shifted (w * 2 ^ s) s (k - s)) ∙ ap (λ (x : ℕ). on x (k - s)) (shl-shr w s)
    go false e =
        let h = leb-false s k e in
        let split : s ≡ suc (s - suc k) + k = omega arith in
        ap (λ (x : ℕ). on (w * 2 ^ x) k) split ∙ on_below w (s - suc k) k

-- the word without the bits before s
pub on_tail : (w s k : ℕ) → on (w / 2 ^ s * 2 ^ s) k ≡ (leb s k && on w k)
on_tail w s k = on_shl (w / 2 ^ s) s k ∙ go (leb s k) refl
  where
    go : (t : Bool) → leb s k ≡ t → (t && on (w / 2 ^ s) (k - s)) ≡ (t && on w k)
    go true e =
        let h = leb-true s k e in
        on_shifted w s (k - s) ∙ ap (on w) (omega arith)
    go false e = refl

pub on_small : (w k : ℕ) → w < 256 → 8 ≤ k → on w k ≡ false
unfolding on
on_small w k h l = ap (λ (x : ℕ). eqb (x % 2) 1) (div-eq_of_lt (lt_of_lt_of_le h (pow_mono l)))

module _ (s : KindSet) (q bits : ℕ) (small : bits < 256) where
  -- the bits that code makes of an octet, in the word that it finds for q
  abbrev eight : ℕ
  eight = (bits * 2 ^ (8 * (q % 8))) % 2 ^ 64

  on_eight : (k : ℕ) → on eight k ≡ (leb (8 * (q % 8)) k && on bits (k - 8 * (q % 8)))
  on_eight k = ap (λ (w : ℕ). on w k) (shl_exact 8 (8 * (q % 8)) 64 small (omega arith)) ∙ on_shl bits (8 * (q % 8)) k

  pub octet_low : q < 8 → Gains s (record { low = bit_or s.low ((bits * 2 ^ (8 * (q % 8))) % 2 ^ 64); high = s.high }) (λ p. leb (8 * q) p && on bits (p - 8 * q))
  octet_low l = gains_low s eight (λ p. leb (8 * q) p && on bits (p - 8 * q))
      (λ p h. let same : q % 8 ≡ q = omega arith in on_eight p ∙ rw same refl)
      (λ p h _. rw (on_small bits (p - 8 * q) small (omega arith), and-false) refl)

  pub octet_high : 8 ≤ q → q < 16 → Gains s (record { low = s.low; high = bit_or s.high ((bits * 2 ^ (8 * (q % 8))) % 2 ^ 64) }) (λ p. leb (8 * q) p && on bits (p - 8 * q))
  octet_high l m = gains_high s eight (λ p. leb (8 * q) p && on bits (p - 8 * q)) here (λ p h. rw (lt-leb (8 * q) p (omega arith)) refl)
    where
      here : (p : ℕ) → 64 ≤ p → p < 128 → on eight (p - 64) ≡ (leb (8 * q) p && on bits (p - 8 * q))
      here p h _ =
          let from : leb (8 * (q % 8)) (p - 64) ≡ leb (8 * q) p =
          same_bool _ _ (λ e. let t = leb-true (8 * (q % 8)) (p - 64) e in le-leb (8 * q) p (omega arith)) (λ e. let t = leb-true (8 * q) p e in le-leb (8 * (q % 8)) (p - 64) (omega arith)) in
          let place : p - 64 - 8 * (q % 8) ≡ p - 8 * q = omega arith in
          on_eight (p - 64) ∙ rw (from, place) refl
