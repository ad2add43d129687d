-- Holding a line against a pattern from left to right.
--     Matching    the pattern up to i fits the line before `at`, and its numbers are the first `next` values
--     byte_read, number_read                               one byte of the pattern more
--     number_missing, line_short, other_byte, line_long    the line does not fit
--     whole                                                it does, and these are its numbers
-- Assumes nothing.
use mathlib.Core.Path.{◌≡◌, refl, sym, ap, ◌∙◌}
use mathlib.Core.Bool.{Bool, true, false}
use mathlib.Core.List.{List, [], ◌∷◌, ◌++◌, append-nil, append_assoc}
use Rattle.std.specs.Prelude.{Option, Some, None}
use Prim.Native.Nat.{ℕ, ◌+◌, ◌≤◌, ◌<◌}
use native.Mathlib.Numerals.{add-one}
use native.Mathlib.Omega.{arith}
use borrow.Author.Tests.{eq-eqb, ne_eqb, ltb-true, ltb-false}
use lib.Dec.{ltb}
use lib.ListN.{length, get_or, take, drop, set, drop_of_length-le, length-set, length-take, get_or-eq_default}
use lib.Seq.{drop-cons, take-suc-set, get_or-set_other, get_or-take}
use Rattle.forms.specs.Decimal.{missing, number, number_at}
use Rattle.forms.specs.Pattern.{slots, fits, prefixed, number_then, byte_then, match_of}
use Rattle.forms.proofs.DecimalLaws.{drop_next}
use Rattle.forms.proofs.PatternLaws.{slots_here, slots_kept, fits_number, fits_byte}

pub record Matching (p line : List ℕ) (i at next : ℕ) (values : List ℕ) : Type 0 where
  pub so_far : prefixed (take next values) (fits (drop i p) (drop at line)) ≡ fits p line
  pub unused : (k : ℕ) → next ≤ k → get_or values k 0 ≡ 0
  pub room : next + slots (drop i p) ≤ 3
  pub three : length values ≡ 3

prefixed_more : (vs : List ℕ) (v : ℕ) (o : Option (List ℕ)) → prefixed vs (prefixed (v ∷ []) o) ≡ prefixed (vs ++ v ∷ []) o
prefixed_more vs v None = refl
prefixed_more vs v (Some ws) = ap (λ l. Some l) (sym (append_assoc vs (v ∷ []) ws))

module _ {p line : List ℕ} {i at next : ℕ} {values : List ℕ} (m : Matching p line i at next values) where
  -- what is left decides
  left : (o : Option (List ℕ)) → fits (drop i p) (drop at line) ≡ o → fits p line ≡ prefixed (take next values) o
  left o e = sym m.so_far ∙ ap (λ o. prefixed (take next values) o) e

  module _ (inside : i < length p) where
    module _ (is_number : get_or p i 0 ≡ 35) where
      at_number : fits (drop i p) (drop at line) ≡ number_then (number_at (drop at line)) (fits (drop (i + 1) p))
      at_number = rw (drop_next p i inside) (fits_number _ _ _ (eq-eqb _ _ is_number))

      pub index : next < 3
      index = omega (arith, slots_here p i inside is_number)

      pub number_read : (v end : ℕ) → number_at (drop at line) ≡ number v (drop end line)
          → Matching p line (i + 1) end (next + 1) (set values next v)
      number_read v end e =
          let long = m.three in
          let low : next < length values = omega (arith, index) in
          record {
            so_far =
                rw (add-one next, take-suc-set values next v low) (sym (prefixed_more (take next values) v (fits (drop (i + 1) p) (drop end line))))
                ∙ sym (left _ (at_number ∙ ap (λ n. number_then n (fits (drop (i + 1) p))) e));
            unused = λ k h. get_or-set_other values next k v 0 (omega arith) ∙ m.unused k (omega arith);
            room = omega (arith, slots_here p i inside is_number);
            three = length-set values next v ∙ m.three;
          }

      pub number_missing : number_at (drop at line) ≡ missing → fits p line ≡ None
      number_missing e = left _ (at_number ∙ ap (λ n. number_then n (fits (drop (i + 1) p))) e)

    module _ (is-byte : get_or p i 0 ≡ 35 → ⊥) where
      at_byte : fits (drop i p) (drop at line) ≡ byte_then (get_or p i 0) (drop at line) (fits (drop (i + 1) p))
      at_byte = rw (drop_next p i inside) (fits_byte _ _ _ (ne_eqb _ _ is-byte))

      pub line_short : length line ≤ at → fits p line ≡ None
      line_short short = left _ (at_byte ∙ ap (λ l. byte_then (get_or p i 0) l (fits (drop (i + 1) p))) (drop_of_length-le line short))

      module _ (more : at < length line) where
        pub byte_read : get_or line at 0 ≡ get_or p i 0 → Matching p line (i + 1) (at + 1) next values
        byte_read same =
            record {
              so_far = sym (left (fits (drop (i + 1) p) (drop (at + 1) line)) (at_byte ∙ (rw (drop_next line at more, eq-eqb _ _ same, byte_then))));
              unused = m.unused;
              room = omega (arith, slots_kept p i inside is-byte);
              three = m.three;
            }

        pub other_byte : (get_or line at 0 ≡ get_or p i 0 → ⊥) → fits p line ≡ None
        other_byte other = left None (at_byte ∙ (rw (drop_next line at more, ne_eqb _ _ other, byte_then)))

  module _ (ended : length p ≤ i) where
    pub line_long : at < length line → fits p line ≡ None
    unfolding fits
    line_long more = left None (rw (drop_of_length-le p ended, drop-cons line at 0 more, fits))

    pub whole : length line ≤ at → Some (get_or values 0 0, get_or values 1 0, get_or values 2 0) ≡ match_of (fits p line)
    unfolding fits
    whole short =
        let all : fits p line ≡ Some (take next values) =
        left (Some []) (rw (drop_of_length-le p ended, drop_of_length-le line short)) ∙ ap (λ l. Some l) (append-nil (take next values)) in
        rw (all, first 0, first 1, first 2)
      where
        first : (k : ℕ) → get_or (take next values) k 0 ≡ get_or values k 0
        first k = go (ltb k next) refl
          where
            go : (t : Bool) → ltb k next ≡ t → get_or (take next values) k 0 ≡ get_or values k 0
            go true e = get_or-take next values k 0 (ltb-true k next e)
            go false e =
                let h = ltb-false k next e in
                get_or-eq_default (take next values) 0 (omega (arith, length-take next values)) ∙ sym (m.unused k h)
