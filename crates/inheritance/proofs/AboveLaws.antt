-- The laws of `above`, for every n and every up:
--     chain_above, above_chain          the test and the chains agree
--     link_above, above_trans           a direct parent is above; what is above a kind above c is above c
--     above_same                        links that agree below n have the same kinds above each other
--     upto_dec                          whether p is c or above it
--     chain_trans                       two chains joined; upto_step, upto_chain: the same where the first may have no link
--     count_le, count_lt                a test that passes more has the larger count
--     count_same                        tests that agree
--     count_none, count_some, count_changed     none passes; one that passes is counted; one is tested anew
--     rank_lt, rank_falls, chain_falls  where no kind is above itself: fewer than n, and fewer at each parent and along each chain
--     by_parents                        there, what is so of a kind wherever it is so of its parents is so of every kind
--     no_chain, chainless_acyclic       no kind is above itself just where no chain leads from a kind to itself
--     fewer_chain, fewer_acyclic        with fewer links: each chain was there before, and still no kind is above itself
--     SameBut, old_or_new               one link is changed: each link was there before, or is that one
--     unlink_fewer, unlink_acyclic      one link is removed: there are fewer, and still no kind is above itself
--     link_acyclic                      one link is added, whose child is neither its parent nor above its parent
-- Assumes nothing.
use mathlib.Core.Path.{◌≡◌, refl, sym, ap, ap₂, ◌∙◌}
use mathlib.Core.Logic.{◌⊎◌, inl, inr, ⊎_elim, ◌≢◌}
use mathlib.Core.Bool.{Bool, true, false, ◌||◌, true≢false, and-eq-true_iff, not-eq-not}
use Prim.Native.Nat.{ℕ, zero, suc, ◌+◌, ◌≤◌, ◌<◌, zero-le}
use native.Mathlib.Nat.{le_refl, le_of_suc-le-suc, not-suc-le-zero, eq-or-lt_of_le}
use native.Mathlib.Decide.{ℕ_discrete}
use native.Mathlib.Omega.{arith}
use Rattle.inheritance.specs.Above.{Chain, link, step, Upto, through, above, Acyclic, one_if, count, rank}

or_right : (a : Bool) {b : Bool} → b ≡ true → (a || b) ≡ true
or_right true e = refl
or_right false e = e

pub or_cases : (a b : Bool) → (a || b) ≡ true → (a ≡ true) ⊎ (b ≡ true)
or_cases true b e = inl refl
or_cases false b e = inr e

pub lt_suc_cases : {j k : ℕ} → j < suc k → (j ≡ k) ⊎ (j < k)
lt_suc_cases l = eq-or-lt_of_le (le_of_suc-le-suc l)

-- ---- `through` is transitive at each kind below k

module _ (up : ℕ → ℕ → Bool) where
  abbrev Thru : ℕ → ℕ → ℕ → Type 0
  Thru k c p = through up k c p ≡ true

  thru_more : (k c p : ℕ) → Thru k c p → Thru (suc k) c p
  unfolding through
  thru_more k c p e = rw e

  thru_meet : (k c p : ℕ) → Thru k c k → Thru k k p → Thru (suc k) c p
  unfolding through
  thru_meet k c p ck kp = or_right (through up k c p) ((and-eq-true_iff _ _).1 (ck, kp))

  thru_cases : (k c p : ℕ) → Thru (suc k) c p → Thru k c p ⊎ (Thru k c k × Thru k k p)
  unfolding through
  thru_cases k c p e = ⊎_elim inl (λ both. inr ((and-eq-true_iff _ _).0 both)) (or_cases _ _ e)

  thru_link : (k c p : ℕ) → up c p ≡ true → Thru k c p
  unfolding through
  thru_link zero c p e = e
  thru_link (suc k) c p e = thru_more k c p (thru_link k c p e)

  join_top : (k c p : ℕ) → Thru (suc k) c k → Thru (suc k) k p → Thru (suc k) c p
  join_top k c p ck kp =
      thru_meet k c p (⊎_elim (λ h. h) (λ h. h.0) (thru_cases k c k ck)) (⊎_elim (λ h. h) (λ h. h.1) (thru_cases k k p kp))

  join_below : (k c q p : ℕ) → ((a b : ℕ) → Thru k a q → Thru k q b → Thru k a b) → Thru (suc k) c q → Thru (suc k) q p → Thru (suc k) c p
  join_below k c q p join cq qp = go (thru_cases k c q cq) (thru_cases k q p qp)
    where
      go : Thru k c q ⊎ (Thru k c k × Thru k k q) → Thru k q p ⊎ (Thru k q k × Thru k k p) → Thru (suc k) c p
      go (inl h) (inl j) = thru_more k c p (join c p h j)
      go (inl h) (inr j) = thru_meet k c p (join c k h j.0) j.1
      go (inr h) (inl j) = thru_meet k c p h.0 (join k p h.1 j)
      go (inr h) (inr j) = thru_meet k c p h.0 j.1

  thru_trans : (k c q p : ℕ) → q < k → Thru k c q → Thru k q p → Thru k c p
  thru_trans zero c q p l cq qp = absurd (not-suc-le-zero l)
  thru_trans (suc k) c q p l cq qp =
      ⊎_elim (λ e. join_top k c p (rw e at cq) (rw e at qp)) (λ m. join_below k c q p (λ a b. thru_trans k a q b m) cq qp) (lt_suc_cases l)

-- ---- the test and the chains

module _ (n : ℕ) (up : ℕ → ℕ → Bool) where
  pub link_above : (c p : ℕ) → up c p ≡ true → above n up c p ≡ true
  unfolding above
  link_above = thru_link up n

  pub above_trans : (c q p : ℕ) → q < n → above n up c q ≡ true → above n up q p ≡ true → above n up c p ≡ true
  unfolding above
  above_trans = thru_trans up n

  pub chain_above : {c p : ℕ} → Chain n up c p → above n up c p ≡ true
  chain_above (link l e) = link_above _ _ e
  chain_above (step l e r) = above_trans _ _ _ l (link_above _ _ e) (chain_above r)

  pub chain_trans : {c q p : ℕ} → Chain n up c q → Chain n up q p → Chain n up c p
  chain_trans (link l e) s = step l e s
  chain_trans (step l e r) s = step l e (chain_trans r s)

  thru_chain : (k c p : ℕ) → k ≤ n → p < n → Thru up k c p → Chain n up c p
  unfolding through
  thru_chain zero c p m l e = link l e
  thru_chain (suc k) c p m l e =
      ⊎_elim (thru_chain k c p (omega arith) l)
      (λ h. chain_trans (thru_chain k c k (omega arith) m h.0) (thru_chain k k p (omega arith) l h.1)) (thru_cases up k c p e)

  pub above_chain : (c p : ℕ) → p < n → above n up c p ≡ true → Chain n up c p
  unfolding above
  above_chain c p = thru_chain n c p (le_refl n)

-- ---- links that agree

module _ (n : ℕ) (up up' : ℕ → ℕ → Bool) (agree : (c p : ℕ) → c < n → p < n → up c p ≡ up' c p) where
  through_same : (k : ℕ) → k ≤ n → (c p : ℕ) → c < n → p < n → through up k c p ≡ through up' k c p
  unfolding through
  through_same zero h c p hc hp = agree c p hc hp
  through_same (suc k) h c p hc hp =
      let stage = through_same k (omega arith) in
      rw (stage c p hc hp, stage c k hc h, stage k p h hp) refl

  pub above_same : (c p : ℕ) → c < n → p < n → above n up c p ≡ above n up' c p
  unfolding above
  above_same = through_same n (le_refl n)

-- ---- counts

one_if_le : (a b : Bool) → (a ≡ true → b ≡ true) → one_if a ≤ one_if b
one_if_le true b h = rw (h refl) (le_refl 1)
one_if_le false b h = zero-le

module _ (f g : ℕ → Bool) where
  pub count_le : (n : ℕ) → ((k : ℕ) → k < n → f k ≡ true → g k ≡ true) → count f n ≤ count g n
  unfolding count
  count_le zero h = zero-le
  count_le (suc n) h = omega (arith, count_le n (λ k l. h k (omega arith)), one_if_le (f n) (g n) (h n (omega arith)))

  pub count_lt : (n : ℕ) → ((k : ℕ) → k < n → f k ≡ true → g k ≡ true) → (j : ℕ) → j < n → f j ≡ false → g j ≡ true → count f n < count g n
  unfolding count
  count_lt zero h j l fj gj = absurd (not-suc-le-zero l)
  count_lt (suc n) h j l fj gj =
      let below : (k : ℕ) → k < n → f k ≡ true → g k ≡ true = λ k m. h k (omega arith) in
      ⊎_elim (λ e. omega (arith, count_le n below, ap one_if (rw e at fj), ap one_if (rw e at gj)))
      (λ m. omega (arith, count_lt n below j m fj gj, one_if_le (f n) (g n) (h n (omega arith)))) (lt_suc_cases l)

pub count_same : (f g : ℕ → Bool) (n : ℕ) → ((k : ℕ) → k < n → f k ≡ g k) → count f n ≡ count g n
unfolding count
count_same f g zero h = refl
count_same f g (suc n) h = ap₂ (λ (x : ℕ) (b : Bool). x + one_if b) (count_same f g n (λ k l. h k (omega arith))) (h n (omega arith))

pub count_none : (f : ℕ → Bool) (n : ℕ) → ((k : ℕ) → k < n → f k ≡ false) → count f n ≡ 0
unfolding count
count_none f zero h = refl
count_none f (suc n) h = omega (arith, count_none f n (λ k l. h k (omega arith)), ap one_if (h n (omega arith)))

pub count_some : (f : ℕ → Bool) (n c : ℕ) → c < n → one_if (f c) ≤ count f n
unfolding count
count_some f zero c l = absurd (omega arith)
count_some f (suc n) c l =
    ⊎_elim (λ (last : c ≡ n). omega (arith, ap (λ (x : ℕ). one_if (f x)) last)) (λ (less : c < n). omega (arith, count_some f n c less)) (lt_suc_cases l)

-- a count with one number tested anew
pub count_changed : (f g : ℕ → Bool) (n c : ℕ) → c < n → ((k : ℕ) → k < n → k ≢ c → f k ≡ g k) → count g n + one_if (f c) ≡ count f n + one_if (g c)
unfolding count
count_changed f g zero c l same = absurd (omega arith)
count_changed f g (suc n) c l same =
    ⊎_elim
    (λ (last : c ≡ n).
    omega (arith, ap (λ (x : ℕ). one_if (f x)) last, ap (λ (x : ℕ). one_if (g x)) last, count_same f g n (λ k m. same k (omega arith) (λ e. omega arith))))
    (λ (less : c < n).
    omega (arith, count_changed f g n c less (λ k m. same k (omega arith)), ap one_if (same n (omega arith) (λ e. omega arith)))) (lt_suc_cases l)

abbrev always : ℕ → Bool
always k = true

count_always : (n : ℕ) → count always n ≡ n
unfolding count
count_always zero = refl
count_always (suc n) = omega (arith, count_always n)

-- ---- the rank of a kind

module _ (n : ℕ) (up : ℕ → ℕ → Bool) where
  pub upto_dec : (c p : ℕ) → p < n → Dec (Upto n up c p)
  upto_dec c p l = go (ℕ_discrete c p) (above n up c p) refl
    where
      go : Dec (c ≡ p) → (b : Bool) → above n up c p ≡ b → Dec (Upto n up c p)
      go (yes e) b a = yes (inl e)
      go (no e) true a = yes (inr (above_chain n up c p l a))
      go (no e) false a = no (⊎_elim e (λ r. true≢false (sym (chain_above n up r) ∙ a)))

  pub chainless_acyclic : ((c : ℕ) → c < n → Chain n up c c → ⊥) → Acyclic n up
  chainless_acyclic none c l = (not-eq-not {b = false}).0 (λ e. none c l (above_chain n up c c l e))

  not_above_chain : {c p : ℕ} → above n up c p ≡ false → Chain n up c p → ⊥
  not_above_chain e r = true≢false (sym (chain_above n up r) ∙ e)

  module _ (acyclic : Acyclic n up) where
    pub no_chain : {c : ℕ} → c < n → Chain n up c c → ⊥
    no_chain l = not_above_chain (acyclic _ l)

    pub rank_lt : (c : ℕ) → c < n → rank n up c < n
    unfolding rank
    rank_lt c l = omega (arith, count_lt (above n up c) always n (λ k m e. refl) c l (acyclic c l) refl, count_always n)

    pub rank_falls : (c p : ℕ) → p < n → up c p ≡ true → rank n up p < rank n up c
    unfolding rank
    rank_falls c p l e =
        let cp : above n up c p ≡ true = link_above n up c p e in
        count_lt (above n up p) (above n up c) n (λ k m. above_trans n up c p k l cp) p l (acyclic p l) cp

    pub chain_falls : {c p : ℕ} → Chain n up c p → rank n up p < rank n up c
    chain_falls (link l u) = rank_falls _ _ l u
    chain_falls (step l u r) = omega (arith, rank_falls _ _ l u, chain_falls r)

    module _ (P : ℕ → Type 0) (one : (c : ℕ) → c < n → ((p : ℕ) → p < n → up c p ≡ true → P p) → P c) where
      by_rank : (d c : ℕ) → c < n → rank n up c < d → P c
      by_rank zero c l h = absurd (not-suc-le-zero h)
      by_rank (suc d) c l h = one c l (λ p m u. let f = rank_falls c p m u in by_rank d p m (omega arith))

      pub by_parents : (c : ℕ) → c < n → P c
      by_parents c l = by_rank (suc (rank n up c)) c l (omega arith)

-- ---- fewer links

module _ (n : ℕ) (up up' : ℕ → ℕ → Bool) (had : (c p : ℕ) → c < n → p < n → up' c p ≡ true → up c p ≡ true) where
  pub fewer_chain : {c p : ℕ} → c < n → Chain n up' c p → Chain n up c p
  fewer_chain l (link m e) = link m (had _ _ l m e)
  fewer_chain l (step m e r) = step m (had _ _ l m e) (fewer_chain m r)

  pub fewer_acyclic : Acyclic n up → Acyclic n up'
  fewer_acyclic acyclic = chainless_acyclic n up' (λ c l r. no_chain n up acyclic l (fewer_chain l r))

-- ---- one link removed or added

-- up' is up but for the link from c₀ to p₀
abbrev pub SameBut : ℕ → (up up' : ℕ → ℕ → Bool) → ℕ → ℕ → Type 0
SameBut n up up' c₀ p₀ = (c p : ℕ) → c < n → p < n → ((c ≡ c₀) × (p ≡ p₀) → ⊥) → up' c p ≡ up c p

module _ (n : ℕ) (up : ℕ → ℕ → Bool) where
  pub upto_step : {c q p : ℕ} → q < n → up c q ≡ true → Upto n up q p → Chain n up c p
  upto_step l e (inl h) = rw (← h) (link l e)
  upto_step l e (inr s) = step l e s

  pub upto_chain : {c q p : ℕ} → Upto n up c q → Chain n up q p → Chain n up c p
  upto_chain (inl e) r = rw e r
  upto_chain (inr t) r = chain_trans n up t r

  upto_trans : {c q p : ℕ} → Upto n up c q → Upto n up q p → Upto n up c p
  upto_trans (inl h) s = rw h s
  upto_trans (inr r) (inl h) = inr (rw h at r)
  upto_trans (inr r) (inr s) = inr (chain_trans n up r s)

module _ (n : ℕ) (up up' : ℕ → ℕ → Bool) (c₀ p₀ : ℕ) (same : SameBut n up up' c₀ p₀) where
  pub old_or_new : (c p : ℕ) → c < n → p < n → up' c p ≡ true → (up c p ≡ true) ⊎ ((c ≡ c₀) × (p ≡ p₀))
  old_or_new c p l m e = go (ℕ_discrete c c₀) (ℕ_discrete p p₀)
    where
      go : Dec (c ≡ c₀) → Dec (p ≡ p₀) → (up c p ≡ true) ⊎ ((c ≡ c₀) × (p ≡ p₀))
      go (yes h) (yes j) = inr (h, j)
      go (yes h) (no j) = inl (sym (same c p l m (λ b. j b.1)) ∙ e)
      go (no h) j = inl (sym (same c p l m (λ b. h b.0)) ∙ e)

  pub unlink_fewer : up' c₀ p₀ ≡ false → (c p : ℕ) → c < n → p < n → up' c p ≡ true → up c p ≡ true
  unlink_fewer gone c p l m e = ⊎_elim (λ old. old) (had e) (old_or_new c p l m e)
    where
      had : {c p : ℕ} → up' c p ≡ true → (c ≡ c₀) × (p ≡ p₀) → up c p ≡ true
      had e new = absurd (true≢false (sym e ∙ rw (new.0, new.1) gone))

  pub unlink_acyclic : up' c₀ p₀ ≡ false → Acyclic n up → Acyclic n up'
  unlink_acyclic gone = fewer_acyclic n up up' (unlink_fewer gone)

  -- a chain of up' from c to p that passes the link from c₀ to p₀
  abbrev Passing : ℕ → ℕ → Type 0
  Passing c p = Upto n up c c₀ × Upto n up p₀ p

  passing_step : {c q p : ℕ} → c < n → q < n → up' c q ≡ true → Upto n up q p ⊎ Passing q p → Chain n up c p ⊎ Passing c p
  passing_step {c} {q} {p} l m e = go (old_or_new c q l m e)
    where
      go : (up c q ≡ true) ⊎ ((c ≡ c₀) × (q ≡ p₀)) → Upto n up q p ⊎ Passing q p → Chain n up c p ⊎ Passing c p
      go (inl old) (inl r) = inl (upto_step n up m old r)
      go (inl old) (inr r) = inr (inr (upto_step n up m old r.0), r.1)
      go (inr new) (inl r) = inr (inl new.0, rw new.1 at r)
      go (inr new) (inr r) = inr (inl new.0, r.1)

  old_or_passing : {c p : ℕ} → c < n → Chain n up' c p → Chain n up c p ⊎ Passing c p
  old_or_passing l (link m e) = passing_step l m e (inl (inl refl))
  old_or_passing l (step m e r) = passing_step l m e (⊎_elim (λ old. inl (inr old)) inr (old_or_passing m r))

  pub link_acyclic : c₀ ≢ p₀ → above n up p₀ c₀ ≡ false → Acyclic n up → Acyclic n up'
  link_acyclic apart free acyclic =
      chainless_acyclic n up' (λ c l r. ⊎_elim (no_chain n up acyclic l) (λ s. round (upto_trans n up s.1 s.0)) (old_or_passing l r))
    where
      round : Upto n up p₀ c₀ → ⊥
      round = ⊎_elim (λ e. apart (sym e)) (not_above_chain n up free)
