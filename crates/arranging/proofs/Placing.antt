-- The kinds that have a place, while `climb` goes up the links.
--     count_all, count_one             counts: all pass; one more
--     Widened, widened                 one row has more, and the others are as they were
--     joined_kept, joined_own          row c: in rows that are the same where it counts; with a place of its own
--     state_same, state_other, state_set    the states after a store
--     same_new, same_done              a state as code tests it, and its number
--     state_small, all_new             there are three; that of each kind at the start
--     placed_none                      no kind has a place
--     placed_row                       the row of a kind on the way is another
--     placed_visit, placed_more        one kind more is on the way; one more has a place, whose parents all have theirs
-- Assumes nothing.
use mathlib.Core.Path.{◌≡◌, refl, sym, ap, subst, ◌∙◌}
use mathlib.Core.Logic.{◌≢◌, ◌⊎◌, inl, inr, ⊎_elim}
use mathlib.Core.Bool.{Bool, true, false, ◌&&◌, ◌||◌, not, or-true, or-false}
use mathlib.Core.List.{List}
use Prim.Native.Nat.{ℕ, zero, suc, ◌+◌, ◌-◌, ◌<◌, ◌≤◌}
use native.Mathlib.Decide.{ℕ_discrete}
use native.Mathlib.Omega.{arith}
use borrow.Author.Tests.{eq-eqb, ne_eqb, eqb-true}
use lib.Dec.{eqb}
use lib.ListN.{length, get_or, set, replicate, length-set, length-replicate}
use lib.Seq.{get_or-set_same, get_or-set_other}
use Rattle.inheritance.specs.Above.{one_if, count}
use Rattle.inheritance.proofs.AboveLaws.{or_cases, count_same, count_some, count_changed}
use Rattle.relation.specs.declared.Relation.{Relation}
use Rattle.relation.specs.Bit.{bit, Blank, Added}
use denote.Enum.Bare.{sameb}
use Rattle.arranging.specs.contracts.State.{the_type}
use Rattle.arranging.specs.declared.State.{State}
use Rattle.arranging.specs.declared.State.TheVariants.{New, Open, Done}
use Rattle.arranging.specs.Arranged.{number_of, state, unplaced, Joined, Placed}
use Rattle.relation.proofs.Stores.{set_at}

-- ---- lists and counts

pub count_all : (f : ℕ → Bool) (n : ℕ) → ((c : ℕ) → c < n → f c ≡ true) → count f n ≡ n
unfolding count
count_all f zero h = refl
count_all f (suc n) h = omega (arith, count_all f n (λ c l. h c (omega arith)), ap one_if (h n (omega arith)))

pub count_one : (f g : ℕ → Bool) (n c : ℕ) → c < n → f c ≡ false → g c ≡ true → ((d : ℕ) → d < n → d ≢ c → f d ≡ g d) → count g n ≡ count f n + 1
count_one f g n c l fc gc same = omega (arith, count_changed f g n c l same, ap one_if fc, ap one_if gc)

-- ---- one row

-- row c has more, and the other rows are as they were
pub record Widened (c : ℕ) (more : ℕ → Bool) (old new : Relation) : Type 0 where
  pub own : (q : ℕ) → q < 128 → bit new c q ≡ (bit old c q || more q)
  pub other : (d q : ℕ) → q < 128 → d ≢ c → bit new d q ≡ bit old d q

pub widened : (c : ℕ) (more : ℕ → Bool) {old new : Relation} → Added old new (λ d q. eqb d c && more q) → Widened c more old new
widened c more a = record {
  own = λ q h. a.bits c q h ∙ rw (eq-eqb c c refl) refl;
  other = λ d q h ne. a.bits d q h ∙ rw (ne_eqb d c ne, or-false) refl;
}

module _ {c : ℕ} {more : ℕ → Bool} {old new : Relation} (a : Widened c more old new) where
  row_had : (d q : ℕ) → q < 128 → bit old d q ≡ true → bit new d q ≡ true
  row_had d q h e = go (ℕ_discrete d c)
    where
      go : Dec (d ≡ c) → bit new d q ≡ true
      go (yes same) = rw same (a.own q h ∙ rw (rw same at e) refl)
      go (no ne) = a.other d q h ne ∙ e

  row_gets : (q : ℕ) → q < 128 → more q ≡ true → bit new c q ≡ true
  row_gets q h e = a.own q h ∙ rw e (or-true (bit old c q))

module _ {up : ℕ → ℕ → Bool} {c : ℕ} where
  pub joined_kept : {p : ℕ} {own : ℕ → Type 0} (old new : Relation) → ((q : ℕ) → q < 128 → bit new c q ≡ bit old c q)
      → ((x q : ℕ) → x < p → q < 128 → up c x ≡ true → bit new x q ≡ bit old x q) → Joined up old c p own → Joined up new c p own
  joined_kept old new row rows j = record {
    ours = λ q h o. row q h ∙ j.ours q h o;
    theirs = λ x q l h u e. row q h ∙ j.theirs x q l h u (sym (rows x q l h u) ∙ e);
    only = λ q h e. ⊎_elim inl (λ w. inr (w.0, w.1, w.2, rows w.0 q w.1 h w.2 ∙ w.3)) (j.only q h (sym (row q h) ∙ e));
  }

  pub joined_own : {p i : ℕ} {old new : Relation} → Widened c (λ q. eqb q i) old new → Joined up old c p (λ q. ⊥) → Joined up new c p (λ q. q ≡ i)
  joined_own {p} {i} {old} {new} a j = record {
    ours = λ q h o. row_gets a q h (eq-eqb q i o);
    theirs = λ x q l h u e. go x q l h u e (ℕ_discrete x c);
    only = λ q h e.
        ⊎_elim
        (λ had. ⊎_elim (λ o. absurd o) (λ w. inr (w.0, w.1, w.2, row_had a w.0 q h w.3)) (j.only q h had))
        (λ got. inl (eqb-true q i got))
        (or_cases (bit old c q) (eqb q i) (sym (a.own q h) ∙ e));
  }
    where
      go : (x q : ℕ) → x < p → q < 128 → up c x ≡ true → bit new x q ≡ true → Dec (x ≡ c) → bit new c q ≡ true
      go x q l h u e (yes same) = subst (λ (y : ℕ). bit new y q ≡ true) same e
      go x q l h u e (no ne) = row_had a c q h (j.theirs x q l h u (sym (a.other x q h ne) ∙ e))

-- ---- the kinds that have a place

pub unplaced_at : (states : List State) (c x : ℕ) → state states c ≡ x → unplaced states c ≡ not (eqb x 2)
unfolding unplaced
unplaced_at states c x e = ap (λ (y : ℕ). not (eqb y 2)) e

module _ (states : List State) (c : ℕ) where
  pub state_same : (x : State) → c < length states → state (set states c x) c ≡ number_of x
  state_same x lt = ap number_of (get_or-set_same states c x New lt)

  pub state_other : (d : ℕ) (x : State) → d ≢ c → state (set states c x) d ≡ state states d
  state_other d x ne = ap number_of (get_or-set_other states c d x New ne)

-- the states after a store: that of the kind, and the others
abbrev pub StateSet : List State → ℕ → State → ℕ → Type 0
StateSet states c x d = ((d ≡ c) × (state (set states c x) d ≡ number_of x)) ⊎ ((d ≢ c) × (state (set states c x) d ≡ state states d))

pub state_set : (states : List State) (c : ℕ) (x : State) → c < length states → (d : ℕ) → StateSet states c x d
state_set states c x lt d = go (ℕ_discrete d c)
  where
    go : Dec (d ≡ c) → StateSet states c x d
    go (yes e) = inl (e, ap (state (set states c x)) e ∙ state_same states c x lt)
    go (no ne) = inr (ne, state_other states c d x ne)

-- a state is a new one, or a done one, as code tests it, where its number is theirs
pub same_new : (a : State) → sameb the_type a New ≡ eqb (number_of a) 0
unfolding number_of
same_new New = refl
same_new Open = refl
same_new Done = refl

pub same_done : (a : State) → sameb the_type a Done ≡ eqb (number_of a) 2
unfolding number_of
same_done New = refl
same_done Open = refl
same_done Done = refl

pub state_small : (states : List State) (c : ℕ) → state states c < 3
unfolding number_of
state_small states c = go (get_or states c New)
  where
    go : (x : State) → number_of x < 3
    go New = omega arith
    go Open = omega arith
    go Done = omega arith

pub all_new : (k c : ℕ) → state (replicate k New) c ≡ 0
unfolding number_of
all_new zero c = refl
all_new (suc k) zero = refl
all_new (suc k) (suc c) = all_new k c

pub apart : (states : List State) (c d : ℕ) → state states d ≢ state states c → d ≢ c
apart states c d ne e = ne (ap (state states) e)

-- k is not written as 128, so that `replicate k New` stays as it is
pub placed_none : (n : ℕ) (up : ℕ → ℕ → Bool) (k : ℕ) {order : List ℕ} {reach : Relation} → k ≡ 128 → length order ≡ 128 → Blank reach
    → Placed n up 0 (replicate k New) order reach
placed_none n up k e long b = record {
  long_states = length-replicate k New ∙ e;
  long_order = long;
  left = omega (arith, count_all (unplaced (replicate k New)) n (λ c l. unplaced_at (replicate k New) c 0 (all_new k c)));
  kinds = λ i l h. absurd (omega arith);
  once = λ i j l m h. absurd (omega arith);
  each = λ c l e. absurd (omega (arith, all_new k c));
  later = λ i p l h. absurd (omega arith);
  places = λ i l h. absurd (omega arith);
  blank = λ c q l h e. b.none c q;
}

module _ {n : ℕ} {up : ℕ → ℕ → Bool} {k : ℕ} {states : List State} {order : List ℕ} {reach : Relation} (s : Placed n up k states order reach) where
  -- a kind that has a place, and the parents of such a kind, are not c
  pub placed_row : {c : ℕ} {new : Relation} → state states c ≡ 1 → ((d q : ℕ) → q < 128 → d ≢ c → bit new d q ≡ bit reach d q) → Placed n up k states order new
  placed_row {c} {new} way rows = record {
    long_states = s.long_states;
    long_order = s.long_order;
    left = s.left;
    kinds = s.kinds;
    once = s.once;
    each = s.each;
    later = s.later;
    places = λ i l h.
        joined_kept reach new
        (λ q m. other (get_or order i 0) q m (omega (arith, (s.kinds i l h).1)))
        (λ x q m hq u.
        let w = s.later i x l h m u in
        let two = (s.kinds w.0 w.1 (omega (arith, w.2))).1 in
        other x q hq (subst (λ (y : ℕ). state states y ≢ 1) w.3 (omega arith)))
        (s.places i l h);
    blank = λ d q l h e. other d q h (omega arith) ∙ s.blank d q l h e;
  }
    where
      other : (d q : ℕ) → q < 128 → state states d ≢ 1 → bit new d q ≡ bit reach d q
      other d q h ne = rows d q h (apart states c d (omega arith))

  module _ {c : ℕ} (most : n ≤ 128) (lt : c < n) where
    within : c < length states
    within = omega (arith, s.long_states)

    pub placed_visit : state states c ≡ 0 → Placed n up k (set states c Open) order reach
    unfolding number_of
    placed_visit new = record {
      long_states = simp length-set s.long_states;
      long_order = s.long_order;
      left = omega (arith, s.left, count_same (unplaced (set states c Open)) (unplaced states) n same);
      kinds = λ i l h. let (m, two) = s.kinds i l h in (m, ⊎_elim (λ e. absurd (omega (arith, ap (state states) e.0))) (λ e. e.1 ∙ two) (after (get_or order i 0)));
      once = s.once;
      each = λ d l e. ⊎_elim (λ w. absurd (omega (arith, w.1))) (λ w. s.each d l (sym w.1 ∙ e)) (after d);
      later = s.later;
      places = s.places;
      blank = λ d q l h e. ⊎_elim (λ w. absurd (omega (arith, w.1))) (λ w. s.blank d q l h (sym w.1 ∙ e)) (after d);
    }
      where
        after : (d : ℕ) → StateSet states c Open d
        after = state_set states c Open within

        same : (d : ℕ) → d < n → unplaced (set states c Open) d ≡ unplaced states d
        same d l =
            ⊎_elim
            (λ e. unplaced_at (set states c Open) d 1 e.1 ∙ sym (unplaced_at states d 0 (ap (state states) e.0 ∙ new)))
            (λ e. unplaced_at (set states c Open) d (state states d) e.1 ∙ sym (unplaced_at states d (state states d) refl))
            (after d)

    -- c is on the way, so some kind has no place
    pub room : state states c ≡ 1 → k < n
    room way = omega (arith, s.left, count_some (unplaced states) n c lt, ap one_if (unplaced_at states c 1 way))

    pub placed_more : {new : Relation} → state states c ≡ 1 → ((x : ℕ) → x < n → up c x ≡ true → state states x ≡ 2)
        → Joined up reach c n (λ q. ⊥) → Widened c (λ q. eqb q (n - 1 - k)) reach new
        → Placed n up (k + 1) (set states c Done) (set order (n - 1 - k) c) new
    unfolding number_of
    placed_more {new} way parents j a = record {
      long_states = simp length-set s.long_states;
      long_order = simp length-set s.long_order;
      left = omega (arith, s.left, count_one (unplaced (set states c Done)) (unplaced states) n c lt (unplaced_at (set states c Done) c 2 own) (unplaced_at states c 1 way) same);
      kinds = λ i l h.
          ⊎_elim
          (λ e. subst (λ (x : ℕ). (x < n) × (state (set states c Done) x ≡ 2)) (sym e.1) (lt, own))
          (λ e. let (m, two) = s.kinds i l e.0 in
          subst (λ (x : ℕ). (x < n) × (state (set states c Done) x ≡ 2)) (sym e.1) (m, still (get_or order i 0) two))
          (at i l h);
      once = λ i i' l l' h h' e. once' i i' l l' e (at i l h) (at i' l' h');
      each = λ d l e.
          ⊎_elim
          (λ w. (n - 1 - k, omega (arith, last), omega (arith, last), get_or-set_same order (n - 1 - k) c 0 free ∙ sym w.0))
          (λ w. let (i, m, h, f) = s.each d l (sym w.1 ∙ e) in (i, m, omega arith, kept i h ∙ f))
          (after d);
      later = λ i p l h m u.
          ⊎_elim
          (λ e. let (i', m', h', f) = s.each p m (parents p m (subst (λ (x : ℕ). up x p ≡ true) e.1 u)) in (i', m', omega (arith, last), kept i' h' ∙ f))
          (λ e. let (i', m', h', f) = s.later i p l e.0 m (subst (λ (x : ℕ). up x p ≡ true) e.1 u) in (i', m', h', kept i' (omega arith) ∙ f))
          (at i l h);
      places = λ i l h.
          ⊎_elim
          (λ e. subst (λ (x : ℕ). Joined up new x n (λ q. q ≡ i)) (sym e.1) (subst (λ (y : ℕ). Joined up new c n (λ q. q ≡ y)) (sym e.0) (joined_own a j)))
          (λ e. subst (λ (x : ℕ). Joined up new x n (λ q. q ≡ i)) (sym e.1) (base.places i l e.0))
          (at i l h);
      blank = λ d q l h e. ⊎_elim (λ w. absurd (omega (arith, w.1))) (λ w. base.blank d q l h (sym w.1 ∙ e)) (after d);
    }
      where
        last : k < n
        last = room way

        base : Placed n up k states order new
        base = placed_row way a.other

        free : n - 1 - k < length order
        free = omega (arith, s.long_order)

        after : (d : ℕ) → StateSet states c Done d
        after = state_set states c Done within

        own : state (set states c Done) c ≡ 2
        own = state_same states c Done within

        still : (d : ℕ) → state states d ≡ 2 → state (set states c Done) d ≡ 2
        still d two = state_other states c d Done (apart states c d (omega arith)) ∙ two

        kept : (i : ℕ) → n ≤ i + k → get_or (set order (n - 1 - k) c) i 0 ≡ get_or order i 0
        kept i h = get_or-set_other order (n - 1 - k) i c 0 (omega (arith, last))

        At : ℕ → Type 0
        At i = ((i ≡ n - 1 - k) × (get_or (set order (n - 1 - k) c) i 0 ≡ c)) ⊎ ((n ≤ i + k) × (get_or (set order (n - 1 - k) c) i 0 ≡ get_or order i 0))

        at : (i : ℕ) → i < n → n ≤ i + (k + 1) → At i
        at i l h = ⊎_elim (λ e. inl e) (λ e. inr (omega (arith, last, e.0), e.1)) (set_at order (n - 1 - k) c free i)

        once' : (i i' : ℕ) → i < n → i' < n → get_or (set order (n - 1 - k) c) i 0 ≡ get_or (set order (n - 1 - k) c) i' 0 → At i → At i' → i ≡ i'
        once' i i' l l' e (inl w) (inl w') = w.0 ∙ sym w'.0
        once' i i' l l' e (inl w) (inr w') = absurd (omega (arith, way, (s.kinds i' l' w'.0).1, ap (state states) (sym w.1 ∙ e ∙ w'.1)))
        once' i i' l l' e (inr w) (inl w') = absurd (omega (arith, way, (s.kinds i l w.0).1, ap (state states) (sym w.1 ∙ e ∙ w'.1)))
        once' i i' l l' e (inr w) (inr w') = s.once i i' l l' w.0 w'.0 (sym w.1 ∙ e ∙ w'.1)

        same : (d : ℕ) → d < n → d ≢ c → unplaced (set states c Done) d ≡ unplaced states d
        same d l ne =
            unplaced_at (set states c Done) d (state states d) (state_other states c d Done ne) ∙ sym (unplaced_at states d (state states d) refl)
