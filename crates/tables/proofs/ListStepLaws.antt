-- What holds of every list of edits, whatever tables it was lent.
--     edit_obeys       what holds of an accepted edit, whichever of the four it is
--     list_whole       a list that is accepted whole has made the edit of each record, in order, and tells their number and the sum of their counts
--     list_stopped     a list that stopped has made those before the record at which it stopped, and no other; the edit of that record, on the tables that
--                      it leaves, is refused by the number that it tells
--     list_refused     a refused list writes to no table
--     list_empty, list_single    a list of none, and of one, that is not refused
--     list_small       at most 4,096 edits, and a sum of at most 8,192 for each
--     list_joined      a list that is accepted whole, and then another, make and leave what the two do as one list
-- Assumes nothing.
use mathlib.Core.Path.{◌≡◌, refl, sym, ap, ap₂, ◌∙◌, subst}
use mathlib.Core.Bool.{Bool, true, false}
use mathlib.Core.List.{List, [], ◌∷◌, ◌++◌}
use Prim.Native.Nat.{ℕ, zero, suc, ◌+◌, ◌*◌, ◌<◌, ◌≤◌}
use native.Mathlib.Nat.{mul-le-mul}
use native.Mathlib.Omega.{arith}
use lib.ListN.{length, length-append}
use Rattle.inheritance.specs.Above.{one_if, count}
use Rattle.tables.specs.declared.Edit.{Edit}
use Rattle.tables.specs.Caller.{callers}
use Rattle.tables.specs.Reply.{Reply, refused, given, Listing, whole, stopped}
use Rattle.tables.specs.Tables.{Tables, shaped, sound}
use Rattle.tables.specs.Edit.{apart}
use Rattle.tables.specs.Calls.{Outcome, leaves}
use Rattle.tables.specs.Lists.{Change, add_rule, take_rule, add_link, take_link, edit_outcome, change_in, if_change, record_outcome}
use Rattle.tables.specs.Lists.{run, counting, counted_in, next_edit, make_list}
use Rattle.tables.specs.ListSteps.{Obeys, EditMade, Steps, none_left, one_more, StoppedAt, counted_on, Small}
use Rattle.tables.proofs.BookLaws.{Consistent, consistent_shaped, consistent_sound, tested_consistent, edit_consistent}
use Rattle.tables.proofs.CallLaws.{given_not_refused, refused_add_rule, refused_take_rule, refused_add_link, refused_take_link}
use Rattle.tables.proofs.EditLaws.{add_rule_edits, take_rule_edits, add_link_edits, take_link_edits}
use Rattle.tables.proofs.ListLaws.{run_append, run_stays, Begins, list_keeps, list_cases, begins_list, list_begins}
use Rattle.tables.proofs.ShapeLaws.{sized_facts}

-- ---- one edit

module _ (n m : ℕ) (t : Tables) (caller : ℕ) where
  edit_obeys_there : (c : Change) (count : ℕ) → (edit_outcome n m t caller c).reply ≡ given count → Obeys n m caller c t (edit_outcome n m t caller c).tables count
  unfolding edit_outcome
  edit_obeys_there (add_rule kind mark handling) = add_rule_edits n m t caller kind mark handling
  edit_obeys_there (take_rule kind mark) = take_rule_edits n m t caller kind mark
  edit_obeys_there (add_link child parent) = add_link_edits n m t caller child parent
  edit_obeys_there (take_link child parent) = take_link_edits n m t caller child parent

  pub edit_obeys : (c : Change) (count : ℕ) (t' : Tables) → edit_outcome n m t caller c ≡ leaves (given count) t' → Obeys n m caller c t t' count
  edit_obeys c count t' is =
      subst (λ (u : Tables). Obeys n m caller c t u count) (ap (λ (o : Outcome ℕ). o.tables) is)
      (edit_obeys_there c count (ap (λ (o : Outcome ℕ). o.reply) is))

  edit_refused : (c : Change) (number : ℕ) → (edit_outcome n m t caller c).reply ≡ refused number → (edit_outcome n m t caller c).tables ≡ t
  unfolding edit_outcome
  edit_refused (add_rule kind mark handling) = refused_add_rule n m t caller kind mark handling
  edit_refused (take_rule kind mark) = refused_take_rule n m t caller kind mark
  edit_refused (add_link child parent) = refused_add_link n m t caller child parent
  edit_refused (take_link child parent) = refused_take_link n m t caller child parent

  record_refused : (e : Edit) (number : ℕ) → (record_outcome n m t caller e).reply ≡ refused number → (record_outcome n m t caller e).tables ≡ t
  unfolding record_outcome
  record_refused e number = go (change_in e)
    where
      go : (c : Reply Change) → (if_change n m t caller c).reply ≡ refused number → (if_change n m t caller c).tables ≡ t
      go (given c) is = edit_refused c number is
      go (refused other) is = refl

  record_made : (e : Edit) (count : ℕ) (t' : Tables) → record_outcome n m t caller e ≡ leaves (given count) t' → EditMade n m caller e t count t'
  unfolding record_outcome
  record_made e count t' = go (change_in e) refl
    where
      go : (c : Reply Change) → change_in e ≡ c → if_change n m t caller c ≡ leaves (given count) t' → EditMade n m caller e t count t'
      go (given c) stands is = record { change = c; stands_for = stands; accepted = is; obeys = edit_obeys c count t' is }
      go (refused number) stands is = absurd (given_not_refused count number (sym (ap (λ (o : Outcome ℕ). o.reply) is)))

-- ---- how a run of edits ends

module _ (n m caller : ℕ) where
  -- after `before` accepted edits with the sum `sum`, these records led from tables t to such a reply and tables u
  abbrev Ended : (before sum : ℕ) → List Edit → Tables → Reply Listing → Tables → Type 0
  Ended before sum es t (given (whole accepted changed)) u =
      (more : ℕ) × (accepted ≡ before + length es) × (changed ≡ sum + more) × Steps n m caller es t more u
  Ended before sum es t (given (stopped accepted changed number)) u =
      (some more : ℕ) × (accepted ≡ before + some) × (changed ≡ sum + more) × StoppedAt n m caller es t some more number u
  Ended before sum es t (refused number) u = ⊥

  abbrev EndedIn : (before sum : ℕ) → List Edit → Tables → Outcome Listing → Type 0
  EndedIn before sum es t o = Ended before sum es t o.reply o.tables

  -- one more in front
  ended_more : (before sum : ℕ) (e : Edit) (es : List Edit) (t t' : Tables) (count : ℕ) → EditMade n m caller e t count t' → (o : Outcome Listing)
      → EndedIn (before + 1) (sum + count) es t' o → EndedIn before sum (e ∷ es) t o
  ended_more before sum e es t t' count first o = go o.reply
    where
      go : (reply : Reply Listing) → Ended (before + 1) (sum + count) es t' reply o.tables → Ended before sum (e ∷ es) t reply o.tables
      go (given (whole accepted changed)) (more, all, total, steps) = (count + more, omega arith, omega arith, one_more e es t t' _ count more first steps)
      go (given (stopped accepted changed number)) (some, more, all, total, at) = (
        suc some,
        count + more,
        omega arith,
        omega arith,
        record {
          before = e ∷ at.before;
          there = at.there;
          after = at.after;
          parts = ap (λ (l : List Edit). e ∷ l) at.parts;
          how_many = ap suc at.how_many;
          made = one_more e _ t t' _ count more first at.made;
          refusal = at.refusal;
        },
      )
      go (refused number) never = never

  run_ended : (es : List Edit) (before sum : ℕ) (t : Tables) → EndedIn before sum es t (run (next_edit n m caller) es (leaves (given (whole before sum)) t))
  unfolding run next_edit
  run_ended [] before sum t = (0, omega arith, omega arith, none_left t)
  run_ended (e ∷ es) before sum t = go (record_outcome n m t caller e).reply refl (run_ended es)
    where
      left : Tables
      left = (record_outcome n m t caller e).tables

      go : (reply : Reply ℕ) → (record_outcome n m t caller e).reply ≡ reply
          → ((b s : ℕ) (u : Tables) → EndedIn b s es u (run (next_edit n m caller) es (leaves (given (whole b s)) u)))
          → EndedIn before sum (e ∷ es) t (run (next_edit n m caller) es (leaves (given (counting before sum reply)) left))
      go (given count) is rest =
          ended_more before sum e es t left count (record_made n m t caller e count left (ap (λ (r : Reply ℕ). leaves r left) is))
          (run (next_edit n m caller) es (leaves (given (whole (before + 1) (sum + count))) left)) (rest (before + 1) (sum + count) left)
      go (refused number) is rest =
          subst (EndedIn before sum (e ∷ es) t) (sym (run_stays n m caller (given (stopped before sum number)) (λ e u. refl) es left)) (
            0,
            0,
            omega arith,
            omega arith,
            record {
              before = [];
              there = e;
              after = es;
              parts = refl;
              how_many = refl;
              made = subst (Steps n m caller [] t 0) (sym (record_refused n m t caller e number is)) (none_left t);
              refusal = subst (λ (u : Tables). (record_outcome n m u caller e).reply ≡ refused number) (sym (record_refused n m t caller e number is)) is;
            },
          )

stopped_within : {n m caller : ℕ} {es : List Edit} {t : Tables} {accepted changed number : ℕ} {left : Tables}
    → StoppedAt n m caller es t accepted changed number left → accepted < length es
stopped_within at = omega (arith, ap length at.parts, length-append at.before (at.there ∷ at.after), at.how_many)

-- ---- the laws

module _ (n m : ℕ) (t : Tables) (caller : ℕ) (es : List Edit) where
  -- its edits, once it has begun
  abbrev ran : Outcome Listing
  ran = run (next_edit n m caller) es (leaves (given (whole 0 0)) t)

  ran_ended : (reply : Reply Listing) → ran.reply ≡ reply → Ended n m caller 0 0 es t reply ran.tables
  ran_ended reply is = subst (λ (r : Reply Listing). Ended n m caller 0 0 es t r ran.tables) is (run_ended n m caller es 0 0 t)

  ended_by : (l : Listing) → (make_list n m t caller es).reply ≡ given l → Ended n m caller 0 0 es t (given l) (make_list n m t caller es).tables
  ended_by l = list_cases n m t caller es (λ o. o.reply ≡ given l → Ended n m caller 0 0 es t (given l) o.tables)
      (λ number is. absurd (given_not_refused l number (sym is))) (λ _. ran_ended (given l))

  pub list_whole : (accepted changed : ℕ) → (make_list n m t caller es).reply ≡ given (whole accepted changed)
      → (accepted ≡ length es) × Steps n m caller es t changed (make_list n m t caller es).tables
  list_whole accepted changed is =
      let (more, all, total, steps) = ended_by (whole accepted changed) is in
      let same : more ≡ changed = omega arith in
      (omega arith, subst (λ (x : ℕ). Steps n m caller es t x (make_list n m t caller es).tables) same steps)

  pub list_stopped : (accepted changed number : ℕ) → (make_list n m t caller es).reply ≡ given (stopped accepted changed number)
      → (accepted < length es) × StoppedAt n m caller es t accepted changed number (make_list n m t caller es).tables
  list_stopped accepted changed number is =
      let (some, more, all, total, at) = ended_by (stopped accepted changed number) is in
      let same_some : some ≡ accepted = omega arith in
      let same_more : more ≡ changed = omega arith in (
        omega (arith, stopped_within at),
        subst (λ (x : ℕ). StoppedAt n m caller es t x changed number (make_list n m t caller es).tables) same_some
            (subst (λ (x : ℕ). StoppedAt n m caller es t some x number (make_list n m t caller es).tables) same_more at),
      )

  pub list_refused : (number : ℕ) → (make_list n m t caller es).reply ≡ refused number → (make_list n m t caller es).tables ≡ t
  list_refused number = list_cases n m t caller es (λ o. o.reply ≡ refused number → o.tables ≡ t) (λ _ _. refl) (λ _ is. absurd (ran_ended (refused number) is))

module _ (n m : ℕ) (t : Tables) (caller : ℕ) (fits : shaped n m t ≡ true) (known : caller < callers) (is_sound : sound n m t ≡ true) where
  pub list_empty : make_list n m t caller [] ≡ leaves (given (whole 0 0)) t
  unfolding run
  list_empty = begins_list n m t caller [] (record { fits = fits; short = omega arith; known = known; is_sound = is_sound })

  -- it gives what the edit gives
  pub list_single : (e : Edit) (c : Change) → change_in e ≡ given c → make_list n m t caller (e ∷ []) ≡ counted_in 0 0 (edit_outcome n m t caller c)
  unfolding run next_edit record_outcome
  list_single e c stands =
      begins_list n m t caller (e ∷ []) (record { fits = fits; short = omega arith; known = known; is_sound = is_sound })
      ∙ ap (λ (r : Reply Change). counted_in 0 0 (if_change n m t caller r)) stands

-- ---- how large the numbers are

count_within : (f : ℕ → Bool) (k : ℕ) → count f k ≤ k
unfolding count
count_within f zero = omega arith
count_within f (suc k) = omega (arith, count_within f k, one (f k))
  where
    one : (b : Bool) → one_if b ≤ 1
    one true = omega arith
    one false = omega arith

module _ (n m caller : ℕ) (kinds : n ≤ 128) (marks : m ≤ 64) where
  pub obeys_small : (c : Change) (t t' : Tables) (returned : ℕ) → Obeys n m caller c t t' returned → returned ≤ 8192
  obeys_small c t t' returned = go c
    where
      small : returned ≡ count (apart t.entries t'.entries) (n * m) → returned ≤ 8192
      small counted = omega (arith, counted, count_within (apart t.entries t'.entries) (n * m), mul-le-mul kinds marks)

      go : (c : Change) → Obeys n m caller c t t' returned → returned ≤ 8192
      go (add_rule kind mark handling) obeys = small obeys.edited.counted
      go (take_rule kind mark) obeys = small obeys.edited.counted
      go (add_link child parent) obeys = small obeys.edited.counted
      go (take_link child parent) obeys = small obeys.edited.counted

  steps_small : {es : List Edit} {t u : Tables} {changed : ℕ} → Steps n m caller es t changed u → changed ≤ length es * 8192
  steps_small (none_left t) = omega arith
  steps_small (one_more e es t t' u count changed first rest) = omega (arith, obeys_small first.change t t' count first.obeys, steps_small rest)

pub list_small : (n m : ℕ) (t : Tables) (caller : ℕ) (es : List Edit) (l : Listing) → (make_list n m t caller es).reply ≡ given l → Small l
list_small n m t caller es l is = go l is (list_begins n m t caller es l is)
  where
    go : (l : Listing) → (make_list n m t caller es).reply ≡ given l → Begins n m t caller (length es) → Small l
    go (whole accepted changed) is b =
        let size = sized_facts 1 1 n m _ _ _ _ _ b.fits in
        let (all, steps) = list_whole n m t caller es accepted changed is in
        (omega (arith, b.short), omega (arith, steps_small n m caller size.kinds.1 size.marks.1 steps))
    go (stopped accepted changed number) is b =
        let size = sized_facts 1 1 n m _ _ _ _ _ b.fits in
        let (within, at) = list_stopped n m t caller es accepted changed number is in
        (omega (arith, b.short), omega (arith, at.how_many, steps_small n m caller size.kinds.1 size.marks.1 at.made))

-- ---- a list, and then another

module _ (n m caller : ℕ) where
  abbrev later : (accepted changed : ℕ) → Outcome Listing → Outcome Listing
  later accepted changed o = leaves (counted_on accepted changed o.reply) o.tables

  -- what was counted before is added, and plays no other part
  run_later : (es : List Edit) (a c b d : ℕ) (u : Tables)
      → run (next_edit n m caller) es (leaves (given (whole (a + b) (c + d))) u) ≡ later a c (run (next_edit n m caller) es (leaves (given (whole b d)) u))
  unfolding run next_edit
  run_later [] a c b d u = refl
  run_later (e ∷ es) a c b d u = go (record_outcome n m u caller e).reply (λ count. run_later es a c (b + 1) (d + count) left)
    where
      left : Tables
      left = (record_outcome n m u caller e).tables

      end : Listing → Outcome Listing
      end l = run (next_edit n m caller) es (leaves (given l) left)

      over : (a c number : ℕ) → end (stopped a c number) ≡ leaves (given (stopped a c number)) left
      over a c number = run_stays n m caller (given (stopped a c number)) (λ e u. refl) es left

      go : (reply : Reply ℕ) → ((count : ℕ) → end (whole (a + (b + 1)) (c + (d + count))) ≡ later a c (end (whole (b + 1) (d + count))))
          → end (counting (a + b) (c + d) reply) ≡ later a c (end (counting b d reply))
      go (given count) rest = ap₂ (λ (x y : ℕ). end (whole x y)) (omega arith) (omega arith) ∙ rest count
      go (refused number) rest = over (a + b) (c + d) number ∙ ap (later a c) (sym (over b d number))

  pub list_joined : (t : Tables) (xs ys : List Edit) (accepted changed : ℕ) → (make_list n m t caller xs).reply ≡ given (whole accepted changed)
      → length (xs ++ ys) ≤ 4096
      → let then = make_list n m (make_list n m t caller xs).tables caller ys in
      make_list n m t caller (xs ++ ys) ≡ leaves (counted_on accepted changed then.reply) then.tables
  list_joined t xs ys accepted changed is short =
      begins_list n m t caller (xs ++ ys) (record { fits = b.fits; short = short; known = b.known; is_sound = b.is_sound })
      ∙ run_append (next_edit n m caller) xs ys _ ∙ ap (run (next_edit n m caller) ys) front ∙ run_later ys accepted changed 0 0 u
      ∙ ap (later accepted changed) (sym (begins_list n m u caller ys then_begins))
    where
      b : Begins n m t caller (length xs)
      b = list_begins n m t caller xs (whole accepted changed) is

      u : Tables
      u = (make_list n m t caller xs).tables

      kept : Consistent n m u
      kept = list_keeps n m t caller (Consistent n m) (λ v c s. edit_consistent n m v s n m caller c) (tested_consistent n m t b.fits b.is_sound) xs

      then_begins : Begins n m u caller (length ys)
      then_begins = record { fits = consistent_shaped kept; short = omega (arith, length-append xs ys); known = b.known; is_sound = consistent_sound kept }

      front : run (next_edit n m caller) xs (leaves (given (whole 0 0)) t) ≡ leaves (given (whole (accepted + 0) (changed + 0))) u
      front =
          sym (begins_list n m t caller xs b) ∙ ap (λ (r : Reply Listing). leaves r u) is
          ∙ ap₂ (λ (x y : ℕ). leaves (given (whole x y)) u) (omega arith) (omega arith)
