-- The forms of lines.
--     form_long, form_short    a line of over 64 bytes is bad; a shorter one has the form of the first shape that fits
--     fit, misfit              a shape fits, or the next is tried
--     reads                    a shape filled with numbers of at most 65,535 is read as its form: no other shape fits too
--     has_form                 and no other line has a form
-- Assumes nothing.
use mathlib.Core.Path.{◌≡◌, refl, ◌∙◌}
use mathlib.Core.Bool.{Bool, true, false, ◌&&◌, ◌||◌, not}
use mathlib.Core.List.{List, [], ◌∷◌}
use mathlib.Core.Logic.{◌⊎◌, inl, inr}
use Rattle.std.specs.Prelude.{Option, Some, None}
use Prim.Native.Nat.{ℕ, ◌+◌, ◌*◌, ◌≤◌, ◌<◌}
use native.Mathlib.Omega.{arith}
use borrow.Author.Tests.{le-leb, lt-leb, leb-true}
use lib.Dec.{eqb, leb}
use lib.ListN.{length, get_or}
use Rattle.forms.specs.Decimal.{is_digit}
use Rattle.forms.specs.Pattern.{slots, filled, byte_then, fits, match_of}
use Rattle.forms.proofs.PatternLaws.{both_true, Small, apart, fits_byte, filled_byte, length_filled, filled_fits, Filling, fits_filled}
use Rattle.forms.specs.Forms.{Form, bad, Shape, shapes, or_else, first_fit, form_of}

pub form_long : (line : List ℕ) → 64 < length line → form_of line ≡ bad
unfolding form_of
form_long line h = rw (lt-leb (length line) 64 h, form_of)

pub form_short : (line : List ℕ) → length line ≤ 64 → form_of line ≡ first_fit shapes line
unfolding form_of
form_short line h = rw (le-leb (length line) 64 h, form_of)

or_yes : (vs : ℕ × ℕ × ℕ) (o : Option (List ℕ)) (form : ℕ → ℕ → ℕ → Form) (next : Form) → Some vs ≡ match_of o
    → or_else o form next ≡ form vs.0 vs.1 vs.2
or_yes vs None form next e = let z : ◌≡◌ {A = ℕ} 0 1 = cc in absurd (omega arith)
or_yes vs (Some ws) form next e = let same : vs ≡ (get_or ws 0 0, get_or ws 1 0, get_or ws 2 0) = cc in rw same refl

or_no : (o : Option (List ℕ)) (form : ℕ → ℕ → ℕ → Form) (next : Form) → None ≡ match_of o → or_else o form next ≡ next
or_no None form next e = refl
or_no (Some vs) form next e = let z : ◌≡◌ {A = ℕ} 0 1 = cc in absurd (omega arith)

-- a shape is tried, and then the next
module _ (s : Shape) (rest : List Shape) (line : List ℕ) where
  pub fit : {vs : ℕ × ℕ × ℕ} → Some vs ≡ match_of (fits s.pattern line)
      → first_fit (s ∷ rest) line ≡ s.form vs.0 vs.1 vs.2
  unfolding first_fit
  fit {vs} e = or_yes vs (fits s.pattern line) s.form (first_fit rest line) e

  pub misfit : None ≡ match_of (fits s.pattern line) → first_fit (s ∷ rest) line ≡ first_fit rest line
  unfolding first_fit
  misfit e = or_no (fits s.pattern line) s.form (first_fit rest line) e

-- ---- A shape filled with numbers is read as its form

-- the two patterns differ in a byte before the first number of either
unfoldable pub clash : List ℕ → List ℕ → Bool
clash [] q = false
clash (a ∷ p) [] = false
clash (a ∷ p) (b ∷ q) = not (eqb a 35) && not (eqb b 35) && (not (eqb b a) || clash p q)

clash_misfit : (p q vs : List ℕ) → clash p q ≡ true → fits p (filled q vs) ≡ None
unfolding clash
clash_misfit [] q vs h = let z : ◌≡◌ {A = ℕ} 0 1 = cc in absurd (omega arith)
clash_misfit (a ∷ p) [] vs h = let z : ◌≡◌ {A = ℕ} 0 1 = cc in absurd (omega arith)
clash_misfit (a ∷ p) (b ∷ q) vs h = go (eqb a 35) (eqb b 35) (eqb b a) refl refl refl (λ t. clash_misfit p q vs t) h
  where
    go : (x y z : Bool) → eqb a 35 ≡ x → eqb b 35 ≡ y → eqb b a ≡ z → (clash p q ≡ true → fits p (filled q vs) ≡ None)
        → (not x && not y && (not z || clash p q)) ≡ true → fits (a ∷ p) (filled (b ∷ q) vs) ≡ None
    go true y z e f g next t = let w : ◌≡◌ {A = ℕ} 0 1 = cc in absurd (omega arith)
    go false true z e f g next t = let w : ◌≡◌ {A = ℕ} 0 1 = cc in absurd (omega arith)
    go false false false e f g next t = rw (fits_byte a p (filled (b ∷ q) vs) e, filled_byte b q vs f, g, byte_then)
    go false false true e f g next t = rw (fits_byte a p (filled (b ∷ q) vs) e, filled_byte b q vs f, g, byte_then) (next t)

unfoldable clash_all : Shape → List Shape → Bool
clash_all s [] = true
clash_all s (r ∷ rest) = clash s.pattern r.pattern && clash_all s rest

-- each shape is shorter than a line however it is filled, its numbers stand apart, and it differs from the shapes after it
unfoldable well_made : List Shape → Bool
well_made [] = true
well_made (s ∷ rest) =
    leb (length s.pattern + 4 * slots s.pattern) 64 && apart s.pattern && clash_all s rest && well_made rest

shapes_well_made : well_made shapes ≡ true
unfolding well_made clash_all clash apart slots shapes is_digit
shapes_well_made = refl

-- s is one of the shapes
pub data Among (s : Shape) : List Shape → Type 0 where
  first : {rest : List Shape} → Among s (s ∷ rest)
  later : {r : Shape} {rest : List Shape} → Among s rest → Among s (r ∷ rest)

-- the form that a shape is with these numbers
abbrev pub form_with : Shape → List ℕ → Form
form_with s vs = s.form (get_or vs 0 0) (get_or vs 1 0) (get_or vs 2 0)

clash_among : (r : Shape) {s : Shape} {rest : List Shape} → Among s rest → clash_all r rest ≡ true → clash r.pattern s.pattern ≡ true
unfolding clash_all
clash_among r first h = (both_true _ _ h).0
clash_among r (later {r = q} a) h = clash_among r a (both_true (clash r.pattern q.pattern) _ h).1

record Made (s : Shape) (rest : List Shape) : Type 0 where
  short : length s.pattern + 4 * slots s.pattern ≤ 64
  numbers_apart : apart s.pattern ≡ true
  clashes : clash_all s rest ≡ true
  others : well_made rest ≡ true

made : {s : Shape} {rest : List Shape} → well_made (s ∷ rest) ≡ true → Made s rest
unfolding well_made
made h =
    let last = both_true _ _ h in
    let third = both_true _ _ last.0 in
    let second = both_true _ _ third.0 in
    record { short = leb-true _ _ second.0; numbers_apart = second.1; clashes = third.1; others = last.1 }

module _ {s : Shape} (vs : List ℕ) (count : slots s.pattern ≡ length vs) (small : Small vs) where
  among_short : {ss : List Shape} → Among s ss → well_made ss ≡ true → length (filled s.pattern vs) ≤ 64
  among_short first h = omega (arith, length_filled s.pattern vs, (made h).short)
  among_short (later a) h = among_short a (made h).others

  among_fits : {ss : List Shape} → Among s ss → well_made ss ≡ true → first_fit ss (filled s.pattern vs) ≡ form_with s vs
  unfolding first_fit
  among_fits first h = rw (filled_fits s.pattern vs (made h).numbers_apart count small)
  among_fits (later a) h =
      rw (clash_misfit _ s.pattern vs (clash_among _ a (made h).clashes)) (among_fits a (made h).others)

  pub reads : Among s shapes → form_of (filled s.pattern vs) ≡ form_with s vs
  reads a = form_short _ (among_short a shapes_well_made) ∙ among_fits a shapes_well_made

-- ---- Only a filled shape has a form

-- the line is one of the shapes filled with numbers of at most 65,535, and this is its form
pub record Written (ss : List Shape) (line : List ℕ) (form : Form) : Type 0 where
  pub shape : Shape
  pub among : Among shape ss
  pub values : List ℕ
  pub filling : Filling shape.pattern line values
  pub is : form ≡ form_with shape values

first_written : (ss : List Shape) (line : List ℕ) → (first_fit ss line ≡ bad) ⊎ Written ss line (first_fit ss line)
unfolding first_fit
first_written [] line = inl refl
first_written (s ∷ rest) line = go (fits s.pattern line) refl (first_written rest line)
  where
    go : (o : Option (List ℕ)) → fits s.pattern line ≡ o → (first_fit rest line ≡ bad) ⊎ Written rest line (first_fit rest line)
        → (or_else o s.form (first_fit rest line) ≡ bad) ⊎ Written (s ∷ rest) line (or_else o s.form (first_fit rest line))
    go (Some vs) e next = inr (record { shape = s; among = first; values = vs; filling = fits_filled e; is = refl })
    go None e (inl b) = inl b
    go None e (inr w) =
        inr (record { shape = w.shape; among = later w.among; values = w.values; filling = w.filling; is = w.is })

pub has_form : (line : List ℕ) → (form_of line ≡ bad) ⊎ Written shapes line (form_of line)
unfolding form_of
has_form line = go (leb (length line) 64)
  where
    go : (t : Bool) → (◌≡◌ {A = Form} (elim t [ true ↦ first_fit shapes line | false ↦ bad ]) bad)
        ⊎ Written shapes line (elim t [ true ↦ first_fit shapes line | false ↦ bad ])
    go true = first_written shapes line
    go false = inl refl
