-- Which lines fit a pattern.
--     filled_fits     a pattern filled with numbers of at most 65,535 fits, with these numbers, where no digit and no number follows a number
--     fits_filled     and no other line fits: one that fits is the pattern filled with the numbers found, as many as it has slots
--     slots_here, slots_kept    how many numbers are left of a pattern
--     length_filled   how long a filled pattern is at most
--     fits_behind, fits_elsewhere    a line that starts with the bytes before the first number fits where the rest fits behind them; no other line does
-- Assumes nothing.
use mathlib.Core.Path.{◌≡◌, refl, sym, ap, ap₂, ◌∙◌}
use mathlib.Core.Bool.{Bool, true, false, ◌&&◌, not}
use mathlib.Core.List.{List, [], ◌∷◌, ◌++◌}
use Rattle.std.specs.Prelude.{Option, Some, None}
use Prim.Native.Nat.{ℕ, suc, ◌+◌, ◌*◌, ◌≤◌, ◌<◌}
use native.Mathlib.Omega.{arith}
use borrow.Author.Tests.{eq-eqb, ne_eqb, eqb-true}
use lib.Dec.{eqb}
use lib.ListN.{length, length-append, get_or, drop}
use Rattle.forms.specs.Decimal.{Number, missing, number, is_digit, digits, number_at}
use Rattle.forms.specs.Pattern.{slots, filled, prefixed, number_then, byte_then, fits}
use Rattle.forms.proofs.DecimalLaws.{digits_most, Ends, number_digits, Spells, spells, drop_next}

-- the numbers are at most 65,535
abbrev pub Small : List ℕ → Type 0
Small [] = Unit
Small (v ∷ vs) = (v ≤ 65535) × Small vs

-- ---- A pattern, byte by byte

module _ (b : ℕ) (p : List ℕ) where
  pub slots_number : eqb b 35 ≡ true → slots (b ∷ p) ≡ suc (slots p)
  unfolding slots
  slots_number e = rw (e, slots)

  pub slots_byte : eqb b 35 ≡ false → slots (b ∷ p) ≡ slots p
  unfolding slots
  slots_byte e = rw (e, slots)

  pub filled_number : (vs : List ℕ) → eqb b 35 ≡ true → filled (b ∷ p) vs ≡ digits (get_or vs 0 0) ++ filled p (drop 1 vs)
  unfolding filled
  filled_number vs e = rw (e, filled)

  pub filled_byte : (vs : List ℕ) → eqb b 35 ≡ false → filled (b ∷ p) vs ≡ b ∷ filled p vs
  unfolding filled
  filled_byte vs e = rw (e, filled)

  pub fits_number : (line : List ℕ) → eqb b 35 ≡ true → fits (b ∷ p) line ≡ number_then (number_at line) (fits p)
  unfolding fits
  fits_number line e = rw (e, fits)

  pub fits_byte : (line : List ℕ) → eqb b 35 ≡ false → fits (b ∷ p) line ≡ byte_then b line (fits p)
  unfolding fits
  fits_byte line e = rw (e, fits)

module _ (p : List ℕ) (i : ℕ) (inside : i < length p) where
  pub slots_here : get_or p i 0 ≡ 35 → slots (drop i p) ≡ suc (slots (drop (i + 1) p))
  slots_here is = rw (drop_next p i inside) (slots_number _ _ (eq-eqb _ _ is))

  pub slots_kept : (get_or p i 0 ≡ 35 → ⊥) → slots (drop i p) ≡ slots (drop (i + 1) p)
  slots_kept other = rw (drop_next p i inside) (slots_byte _ _ (ne_eqb _ _ other))

pub length_filled : (p vs : List ℕ) → length (filled p vs) ≤ length p + 4 * slots p
length_filled [] vs = unfold filled in omega arith
length_filled (b ∷ p) vs = go (eqb b 35) refl (λ ws. length_filled p ws)
  where
    go : (t : Bool) → eqb b 35 ≡ t → ((ws : List ℕ) → length (filled p ws) ≤ length p + 4 * slots p)
        → length (filled (b ∷ p) vs) ≤ length (b ∷ p) + 4 * slots (b ∷ p)
    go true e next =
        rw (filled_number b p vs e, slots_number b p e)
        (omega (arith, length-append (digits (get_or vs 0 0)) (filled p (drop 1 vs)), digits_most (get_or vs 0 0), next (drop 1 vs)))
    go false e next = rw (filled_byte b p vs e, slots_byte b p e) (omega (arith, next vs))

-- ---- A filled pattern fits

-- neither a digit nor a number stands first
abbrev pub plain : List ℕ → Bool
plain [] = true
plain (b ∷ p) = not (eqb b 35) && not (is_digit b)

-- no digit and no number follows a number
unfoldable pub apart : List ℕ → Bool
apart [] = true
apart (b ∷ p) = elim (eqb b 35) [ true ↦ plain p && apart p | false ↦ apart p ]

plain_ends : (p vs : List ℕ) → plain p ≡ true → Ends (filled p vs)
unfolding filled
plain_ends [] vs h = tt
plain_ends (b ∷ p) vs h = go (eqb b 35) (is_digit b) refl refl h
  where
    go : (x y : Bool) → eqb b 35 ≡ x → is_digit b ≡ y → (not x && not y) ≡ true
        → Ends (elim x [ true ↦ digits (get_or vs 0 0) ++ filled p (drop 1 vs) | false ↦ b ∷ filled p vs ])
    go false false e f g = f
    go false true e f g = let z : ◌≡◌ {A = ℕ} 0 1 = cc in absurd (omega arith)
    go true y e f g = let z : ◌≡◌ {A = ℕ} 0 1 = cc in absurd (omega arith)

pub both_true : (x y : Bool) → (x && y) ≡ true → (x ≡ true) × (y ≡ true)
both_true true true h = (refl, refl)
both_true true false h = let z : ◌≡◌ {A = ℕ} 0 1 = cc in absurd (omega arith)
both_true false y h = let z : ◌≡◌ {A = ℕ} 0 1 = cc in absurd (omega arith)

pub filled_fits : (p vs : List ℕ) → apart p ≡ true → slots p ≡ length vs → Small vs → fits p (filled p vs) ≡ Some vs
unfolding apart
filled_fits [] [] a n small = unfold fits filled in refl
filled_fits [] (v ∷ vs) a n small = absurd (unfold slots in omega arith)
filled_fits (b ∷ p) vs a n small = go (eqb b 35) refl vs n small (λ ws h m s. filled_fits p ws h m s)
  where
    go : (t : Bool) → eqb b 35 ≡ t → (ws : List ℕ) → slots (b ∷ p) ≡ length ws → Small ws
        → ((us : List ℕ) → apart p ≡ true → slots p ≡ length us → Small us → fits p (filled p us) ≡ Some us)
        → fits (b ∷ p) (filled (b ∷ p) ws) ≡ Some ws
    go true e [] m s next = let h = slots_number b p e in absurd (omega arith)
    go true e (w ∷ ws) m s next =
        let h = slots_number b p e in
        let both = both_true (plain p) (apart p) (rw (e, apart) at a) in
        rw (
          fits_number b p (filled (b ∷ p) (w ∷ ws)) e,
          filled_number b p (w ∷ ws) e,
          number_digits w (filled p ws) s.0 (plain_ends p ws both.0),
          next ws both.1 (omega arith) s.1,
        )
    go false e ws m s next =
        let h = slots_byte b p e in
        rw (fits_byte b p (filled (b ∷ p) ws) e, filled_byte b p ws e, eq-eqb b b refl, byte_then)
        (next ws (rw (e, apart) at a) (omega arith) s)

-- ---- Only a filled pattern fits

-- the line is the pattern filled with these numbers, one for each slot
pub record Filling (p line vs : List ℕ) : Type 0 where
  pub is : line ≡ filled p vs
  pub count : length vs ≡ slots p
  pub small : Small vs

abbrev Fitting : List ℕ → List ℕ → Option (List ℕ) → Type 0
Fitting p line None = Unit
Fitting p line (Some vs) = Filling p line vs

number_fitting : (b : ℕ) (p line : List ℕ) → eqb b 35 ≡ true → (v : ℕ) (rest : List ℕ) → (line ≡ digits v ++ rest) × (v ≤ 65535)
    → (o : Option (List ℕ)) → Fitting p rest o → Fitting (b ∷ p) line (prefixed (v ∷ []) o)
number_fitting b p line e v rest h None f = tt
number_fitting b p line e v rest h (Some vs) f =
    record {
      is = h.0 ∙ ap (λ l. digits v ++ l) f.is ∙ sym (filled_number b p (v ∷ vs) e);
      count = ap suc f.count ∙ sym (slots_number b p e);
      small = (h.1, f.small);
    }

byte_fitting : (b : ℕ) (p : List ℕ) → eqb b 35 ≡ false → (x : ℕ) (rest : List ℕ) → x ≡ b
    → (o : Option (List ℕ)) → Fitting p rest o → Fitting (b ∷ p) (x ∷ rest) o
byte_fitting b p e x rest same None f = tt
byte_fitting b p e x rest same (Some vs) f =
    record {
      is = ap (λ y. y ∷ rest) same ∙ ap (λ l. b ∷ l) f.is ∙ sym (filled_byte b p vs e);
      count = f.count ∙ sym (slots_byte b p e);
      small = f.small;
    }

fitting : (p line : List ℕ) → Fitting p line (fits p line)
fitting [] [] = unfold fits in record { is = unfold filled in refl; count = unfold slots in refl; small = tt }
fitting [] (x ∷ line) = unfold fits in tt
fitting (b ∷ p) line = go (eqb b 35) refl (λ l. fitting p l)
  where
    number_first : eqb b 35 ≡ true → (n : Number) → Spells line n → ((l : List ℕ) → Fitting p l (fits p l))
        → Fitting (b ∷ p) line (number_then n (fits p))
    number_first e missing h next = tt
    number_first e (number v rest) h next = number_fitting b p line e v rest h (fits p rest) (next rest)

    byte_first : eqb b 35 ≡ false → (l : List ℕ) → ((l : List ℕ) → Fitting p l (fits p l)) → Fitting (b ∷ p) l (byte_then b l (fits p))
    byte_first e [] next = tt
    byte_first e (x ∷ rest) next = same (eqb x b) refl
      where
        same : (t : Bool) → eqb x b ≡ t → Fitting (b ∷ p) (x ∷ rest) (elim t [ true ↦ fits p rest | false ↦ None ])
        same true f = byte_fitting b p e x rest (eqb-true x b f) (fits p rest) (next rest)
        same false f = tt

    go : (t : Bool) → eqb b 35 ≡ t → ((l : List ℕ) → Fitting p l (fits p l)) → Fitting (b ∷ p) line (fits (b ∷ p) line)
    go true e next = rw (fits_number b p line e) (number_first e (number_at line) (spells line) next)
    go false e next = rw (fits_byte b p line e) (byte_first e line next)

pub fits_filled : {p line vs : List ℕ} → fits p line ≡ Some vs → Filling p line vs
fits_filled {p} {line} e = rw e at (fitting p line)

-- ---- A pattern behind its first bytes

module _ (p : List ℕ) where
  pub fits_behind : (h rest : List ℕ) → slots h ≡ 0 → fits (h ++ p) (h ++ rest) ≡ fits p rest
  fits_behind [] rest plain = refl
  fits_behind (b ∷ h) rest plain = go (eqb b 35) refl (λ e. fits_behind h rest (sym (slots_byte b h e) ∙ plain))
    where
      go : (t : Bool) → eqb b 35 ≡ t → (eqb b 35 ≡ false → fits (h ++ p) (h ++ rest) ≡ fits p rest) → fits (b ∷ h ++ p) (b ∷ h ++ rest) ≡ fits p rest
      go true e next = absurd (omega (arith, slots_number b h e))
      go false e next = rw (fits_byte b (h ++ p) (b ∷ h ++ rest) e, eq-eqb b b refl, byte_then) (next e)

  pub fits_elsewhere : (h line : List ℕ) → slots h ≡ 0 → ((rest : List ℕ) → line ≡ h ++ rest → ⊥) → fits (h ++ p) line ≡ None
  fits_elsewhere [] line plain other = absurd (other line refl)
  fits_elsewhere (b ∷ h) line plain other = go (eqb b 35) refl line other (λ e l o. fits_elsewhere h l (sym (slots_byte b h e) ∙ plain) o)
    where
      go : (t : Bool) → eqb b 35 ≡ t → (l : List ℕ) → ((rest : List ℕ) → l ≡ b ∷ h ++ rest → ⊥)
          → (eqb b 35 ≡ false → (l : List ℕ) → ((rest : List ℕ) → l ≡ h ++ rest → ⊥) → fits (h ++ p) l ≡ None)
          → fits (b ∷ h ++ p) l ≡ None
      go true e l o next = absurd (omega (arith, slots_number b h e))
      go false e [] o next = rw (fits_byte b (h ++ p) [] e)
      go false e (x ∷ l) o next = rw (fits_byte b (h ++ p) (x ∷ l) e) (same (eqb x b) refl)
        where
          same : (t : Bool) → eqb x b ≡ t → elim t as (λ _. Option (List ℕ)) [ true ↦ fits (h ++ p) l | false ↦ None ] ≡ None
          same true f = next e l (λ rest q. o rest (ap₂ (λ (y : ℕ) (ys : List ℕ). y ∷ ys) (eqb-true x b f) q))
          same false f = refl
