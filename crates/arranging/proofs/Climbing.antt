-- Going up from kind c: what is so after each of its parents.
--     Climbing                     the parents of c before p are gone through: the invariant of the loop
--     climbing_none                c is on the way, and no parent is gone through
--     climbing_up                  parent p is gone up from
--     climbing_on                  .. or was visited, and its row is gathered
--     climbing_skip                there is no parent before the next
--     climbing_written             what was gathered is stored as row c
--     fewer                        fewer kinds are unvisited than where c was
--     climbed_placed, climbed      every parent is gone through, and c gets a place, or does not
-- Assumes nothing.
use mathlib.Core.Path.{◌≡◌, refl, sym, ap, ◌∙◌}
use mathlib.Core.Logic.{◌≢◌, ◌⊎◌, inl, inr, ⊎_elim, by_cases}
use mathlib.Core.Bool.{Bool, true, false, ◌&&◌, false≢true, and-eq-true_iff}
use mathlib.Core.List.{List}
use Prim.Native.Nat.{ℕ, ◌+◌, ◌-◌, ◌<◌, ◌≤◌}
use native.Mathlib.Decide.{ℕ_discrete, dec_lt}
use native.Mathlib.Omega.{arith}
use borrow.Author.Tests.{eq-eqb, eqb-true}
use lib.Dec.{eqb}
use lib.ListN.{length, set}
use Rattle.inheritance.specs.Above.{Chain, link, Upto, Acyclic, count}
use Rattle.inheritance.proofs.AboveLaws.{count_lt, upto_chain, no_chain}
use Rattle.relation.specs.declared.KindSet.{KindSet}
use Rattle.relation.specs.declared.Relation.{Relation}
use Rattle.relation.specs.Bit.{holds, bit, none_of, row_of, Gains, RowSet}
use Rattle.relation.specs.First.{First}
use Rattle.arranging.specs.declared.State.{State}
use Rattle.arranging.specs.declared.State.TheVariants.{Open, Done}
use Rattle.arranging.specs.Arranged.{number_of, state, unvisited, Placed, Fresh, Climbed}
use Rattle.relation.proofs.BitLaws.{row_same, row_other}
use Rattle.arranging.proofs.Placing.{Widened, StateSet, state_set, state_same, state_other, state_small, apart, placed_row, placed_visit, placed_more}
use Rattle.arranging.proofs.Gathering.{Gathered, gathered_none, gathered_kept, gathered_more, gathered_written, gathered_joined}

unvisited_at : (s : List State) (d x : ℕ) → state s d ≡ x → unvisited s d ≡ eqb x 0
unfolding unvisited
unvisited_at s d x e = ap (λ (y : ℕ). eqb y 0) e

unvisited_is : (s : List State) (d : ℕ) → unvisited s d ≡ true → state s d ≡ 0
unfolding unvisited
unvisited_is s d e = eqb-true (state s d) 0 e

-- v and reach where the loop began, w and reach' now
pub record Climbing (n : ℕ) (up : ℕ → ℕ → Bool) (c p k : ℕ) (good : Bool) (above : KindSet) (v w : List State) (order : List ℕ) (reach reach' : Relation) : Type 0 where
  pub within : p ≤ n
  pub placed : Placed n up k w order reach'
  pub states : (d : ℕ) → d < n → state v d ≢ 0 → state w d ≡ state v d
  pub rows : (d q : ℕ) → d < n → q < 128 → d ≢ c → state v d ≢ 0 → bit reach' d q ≡ bit reach d q
  pub gathered : Gathered up reach' c p above
  pub gone : (x : ℕ) → x < p → up c x ≡ true → state w x ≢ 0
  pub fit : good ≡ true → (x : ℕ) → x < p → up c x ≡ true → state w x ≡ 2
  pub calm : Acyclic n up → ((g : ℕ) → g < n → state v g ≡ 1 → Upto n up g c)
      → (good ≡ true) × ((d : ℕ) → d < n → state w d ≡ 1 → state v d ≡ 1)

module _ {n : ℕ} {up : ℕ → ℕ → Bool} {c : ℕ} (most : n ≤ 128) where
  pub climbing_none : {k : ℕ} {s : List State} {order : List ℕ} {reach : Relation} → Fresh n c s → Placed n up k s order reach
      → Climbing n up c 0 k true none_of (set s c Open) (set s c Open) order reach reach
  climbing_none {s = s} {reach = reach} f p = record {
    within = omega arith;
    placed = placed_visit p most f.kind f.new;
    states = λ d l ne. refl;
    rows = λ d q l h ne vis. refl;
    gathered = gathered_none reach;
    gone = λ x l. absurd (omega arith);
    fit = λ g x l. absurd (omega arith);
    calm = λ acyclic way. (refl, λ d l e. e);
  }

  module _ {p k : ℕ} {good : Bool} {above : KindSet} {v w : List State} {order : List ℕ} {reach reach' : Relation} (lt : c < n) (way : state v c ≡ 1)
      (s : Climbing n up c p k good above v w order reach reach') where
    pub on_way : state w c ≡ 1
    on_way = s.states c lt (omega arith) ∙ way

    pub climbing_up : {k' : ℕ} {w' : List State} {order' : List ℕ} {reach'' : Relation} → p < n → up c p ≡ true → Placed n up k' w' order' reach'' → Climbed n up p w w' reach' reach''
        → Climbing n up c p k' good above v w' order' reach reach''
    climbing_up {w' = w'} {reach'' = reach''} l u placed m = record {
      within = s.within;
      placed = placed;
      states = λ d h ne. m.kept.states d h (was d h ne) ∙ s.states d h ne;
      rows = λ d q h hq ne vis. m.kept.rows d q h hq (was d h vis) ∙ s.rows d q h hq ne vis;
      gathered = gathered_kept reach' reach'' (λ x q h hq e. m.kept.rows x q (omega arith) hq (s.gone x h e)) s.gathered;
      gone = λ x h e. let was = s.gone x h e in omega (arith, m.kept.states x (omega arith) was);
      fit = λ g x h e. let two = s.fit g x h e in m.kept.states x (omega arith) (omega arith) ∙ two;
      calm = λ acyclic ways.
          let (fine, old) = s.calm acyclic ways in
          (fine, λ d h e. old d h (m.calm acyclic (λ g hg one. upto_chain n up (ways g hg (old g hg one)) (link l u)) d h e));
    }
      where
        was : (d : ℕ) → d < n → state v d ≢ 0 → state w d ≢ 0
        was d h ne = omega (arith, s.states d h ne)

    pub climbing_on : {row next : KindSet} → p < n → up c p ≡ true → state w p ≢ 0 → row ≡ row_of reach' p → Gains above next (holds row)
        → Climbing n up c (p + 1) k (good && eqb (state w p) 2) next v w order reach reach'
    climbing_on l u vis is gains = record {
      within = omega arith;
      placed = s.placed;
      states = s.states;
      rows = s.rows;
      gathered = gathered_more is gains u s.gathered;
      gone = λ x h e. by_cases (dec_lt x p) (λ m. s.gone x m e) (λ m. let same : x ≡ p = omega arith in omega (arith, ap (state w) same));
      fit = λ g x h e.
          let both = (and-eq-true_iff good (eqb (state w p) 2)).0 g in
          by_cases (dec_lt x p) (λ m. s.fit both.0 x m e)
          (λ m. let same : x ≡ p = omega arith in ap (state w) same ∙ eqb-true (state w p) 2 both.1);
      calm = λ acyclic ways. let (fine, old) = s.calm acyclic ways in (rw fine (eq-eqb (state w p) 2 (two acyclic ways old)), old);
    }
      where
        two : Acyclic n up → ((g : ℕ) → g < n → state v g ≡ 1 → Upto n up g c) → ((d : ℕ) → d < n → state w d ≡ 1 → state v d ≡ 1) → state w p ≡ 2
        two acyclic ways old =
            let no : state w p ≢ 1 = λ one. no_chain n up acyclic l (upto_chain n up (ways p l (old p l one)) (link l u)) in
            omega (arith, state_small w p)

    pub climbing_skip : {i : ℕ} → First (up c) p n i → Climbing n up c i k good above v w order reach reach'
    climbing_skip {i} f = record {
      within = f.high;
      placed = s.placed;
      states = s.states;
      rows = s.rows;
      gathered = record {
        theirs = λ x q l h u. s.gathered.theirs x q (before x l u) h u;
        only = λ q h e. let (x, l, u, b) = s.gathered.only q h e in (x, omega (arith, f.low), u, b);
      };
      gone = λ x l u. s.gone x (before x l u) u;
      fit = λ g x l u. s.fit g x (before x l u) u;
      calm = s.calm;
    }
      where
        before : (x : ℕ) → x < i → up c x ≡ true → x < p
        before x l u = by_cases (dec_lt x p) (λ m. m) (λ m. absurd (false≢true (sym (f.none x (omega arith) l) ∙ u)))

    pub climbing_written : {reach'' : Relation} → RowSet c above reach' reach'' → Climbing n up c p k good above v w order reach reach''
    climbing_written a = record {
      within = s.within;
      placed = placed_row s.placed on_way (λ d q _ ne. row_other a d q ne);
      states = s.states;
      rows = λ d q h hq ne was. row_other a d q ne ∙ s.rows d q h hq ne was;
      gathered = gathered_written a s.gathered;
      gone = s.gone;
      fit = s.fit;
      calm = s.calm;
    }

  -- ---- from where c was not visited

  module _ {p k : ℕ} {good : Bool} {above : KindSet} {s w : List State} {order order₀ : List ℕ} {reach reach' : Relation} {k₀ : ℕ} (f : Fresh n c s) (p₀ : Placed n up k₀ s order₀ reach)
      (m : Climbing n up c p k good above (set s c Open) w order reach reach') where
    in_list : c < length s
    in_list = omega (arith, f.kind, p₀.long_states)

    pub marked : state (set s c Open) c ≡ 1
    unfolding number_of
    marked = state_same s c Open in_list

    after : (d : ℕ) → d ≢ c → state (set s c Open) d ≡ state s d
    after d ne = state_other s c d Open ne

    other : (d : ℕ) → state s d ≢ 0 → d ≢ c
    other d ne = apart s c d (omega (arith, f.new))

    kept_state : (d : ℕ) → d < n → state s d ≢ 0 → state w d ≡ state s d
    kept_state d l ne = let same = after d (other d ne) in m.states d l (omega arith) ∙ same

    pub fewer : count (unvisited w) n < count (unvisited s) n
    fewer =
        count_lt (unvisited w) (unvisited s) n (λ d l e. go d l (unvisited_is w d e) (ℕ_discrete (state s d) 0)) c f.kind
        (unvisited_at w c 1 (on_way f.kind marked m)) (unvisited_at s c 0 f.new)
      where
        go : (d : ℕ) → d < n → state w d ≡ 0 → Dec (state s d ≡ 0) → unvisited s d ≡ true
        go d l e (yes h) = unvisited_at s d 0 h
        go d l e (no h) = absurd (h (sym (kept_state d l h) ∙ e))

    module _ {w' : List State} {reach'' : Relation} (same : (d : ℕ) → d ≢ c → state w' d ≡ state w d)
        (rows : (d q : ℕ) → q < 128 → d ≢ c → bit reach'' d q ≡ bit reach' d q) (vis : state w' c ≢ 0)
        (done : good ≡ true → state w' c ≢ 1) where
      climbed_so : Climbed n up c s w' reach reach''
      climbed_so = record {
        kept = record {
          states = λ d l ne. same d (other d ne) ∙ kept_state d l ne;
          rows = λ d q l h ne. let e = after d (other d ne) in rows d q h (other d ne) ∙ m.rows d q l h (other d ne) (omega arith);
        };
        gone = vis;
        calm = λ acyclic ways d l e.
            let (fine, old) = m.calm acyclic (λ g h one. on g h one ways (state_set s c Open in_list g)) in
            ⊎_elim
            (λ (y : d ≡ c). absurd (done fine (sym (ap (state w') y) ∙ e)))
            (λ ne. sym (after d ne) ∙ old d l (sym (same d ne) ∙ e))
            (dec d);
      }
        where
          on : (g : ℕ) → g < n → state (set s c Open) g ≡ 1 → ((g : ℕ) → g < n → state s g ≡ 1 → Chain n up g c) → StateSet s c Open g → Upto n up g c
          on g h one ways (inl y) = inl y.0
          on g h one ways (inr y) = inr (ways g h (sym y.1 ∙ one))

          dec : (d : ℕ) → (d ≡ c) ⊎ (d ≢ c)
          dec d = go (ℕ_discrete d c)
            where
              go : Dec (d ≡ c) → (d ≡ c) ⊎ (d ≢ c)
              go (yes e) = inl e
              go (no e) = inr e

  pub climbed_placed : {k k₀ : ℕ} {above : KindSet} {s w : List State} {order order₀ : List ℕ} {reach old reach' reach'' : Relation} → Fresh n c s → Placed n up k₀ s order₀ reach
      → Climbing n up c n k true above (set s c Open) w order reach old → RowSet c above old reach'
      → Widened c (λ q. eqb q (n - 1 - k)) reach' reach''
      → (Placed n up (k + 1) (set w c Done) (set order (n - 1 - k) c) reach'') × (Climbed n up c s (set w c Done) reach reach'')
  unfolding number_of
  climbed_placed {w = w} f p₀ was b a =
      let m = climbing_written f.kind (marked f p₀ was) was b in
      let here : c < length w = omega (arith, f.kind, m.placed.long_states) in
      let two : state (set w c Done) c ≡ 2 = state_same w c Done here in (
        placed_more m.placed most f.kind (on_way f.kind (marked f p₀ m) m) (m.fit refl) (gathered_joined (row_same b) m.gathered) a,
        climbed_so f p₀ m (λ d ne. state_other w c d Done ne) a.other (omega arith) (λ g. omega arith),
      )

  pub climbed : {k k₀ : ℕ} {above : KindSet} {s w : List State} {order order₀ : List ℕ} {reach old reach' : Relation} → Fresh n c s → Placed n up k₀ s order₀ reach
      → Climbing n up c n k false above (set s c Open) w order reach old → RowSet c above old reach'
      → (Placed n up k w order reach') × (Climbed n up c s w reach reach')
  climbed f p₀ was b =
      let m = climbing_written f.kind (marked f p₀ was) was b in
      let one = on_way f.kind (marked f p₀ m) m in
      (m.placed, climbed_so f p₀ m (λ d ne. refl) (λ d q h ne. refl) (omega arith) (λ (g : false ≡ true). absurd (false≢true g)))
