-- What a list of steps keeps, and what a list of edits does.
--     run_keeps        what every step keeps, a list of steps keeps; run_relates: what every step keeps of two states
--     run_append       a list of steps, and then another
--     edit_cases       an edit is refused and leaves the tables, or it is accepted, and its checks are passed
--     change_in_19     a record that stands for no change is refused by 19
--     run_cases        what holds where a list of edits begins, and after each of its edits if it held before it, holds where the list ends
--     run_stays        after a refusal no edit is tried
--     begin_keeps      the checks before the first edit leave the tables
--     list_keeps       what every edit keeps of the tables, a list keeps
--     list_cases       a list is refused and leaves the tables, or its checks are passed; begins_list: then its edits are run; list_begins: .. if it is given
-- Assumes nothing.
use mathlib.Core.Path.{◌≡◌, refl, sym, ap, ◌∙◌, subst}
use mathlib.Core.Bool.{Bool, true, false, and-eq-true_iff}
use mathlib.Core.List.{List, [], ◌∷◌, ◌++◌}
use Prim.Native.Nat.{ℕ, ◌≤◌, ◌<◌}
use borrow.Author.Tests.{leb-true, ltb-true, le-leb, lt-ltb}
use lib.Dec.{eqb, ltb}
use lib.ListN.{length, length-set}
use Rattle.tables.specs.declared.Edit.{Edit}
use Rattle.tables.specs.Caller.{callers}
use Rattle.tables.specs.Reply.{Reply, refused, given, Listing, whole, stopped}
use Rattle.tables.specs.Tables.{Tables, shaped, sound}
use Rattle.tables.specs.Calls as calls
use Rattle.tables.specs.Calls.{Outcome, leaves, check}
use Rattle.tables.specs.Lists.{Change, edit_outcome, change_in, if_change, record_outcome, run, counted_in, onward, next_edit, begin_list, make_list}
use Rattle.tables.specs.Lists.Change.{add_rule, take_rule, add_link, take_link}
use Rattle.tables.proofs.CallLaws.{given_not_refused, check_cases, check_holds}

pub run_keeps : {C S : Type 0} (turn : C → S → S) (P : S → Type 0) → ((c : C) (s : S) → P s → P (turn c s)) → (cs : List C) (s : S) → P s → P (run turn cs s)
unfolding run
run_keeps turn P keeps [] s p = p
run_keeps turn P keeps (c ∷ cs) s p = run_keeps turn P keeps cs (turn c s) (keeps c s p)

-- what every step keeps of two states, a list of steps keeps
pub run_relates : {C S : Type 0} (turn : C → S → S) (R : S → S → Type 0) → ((c : C) (a b : S) → R a b → R (turn c a) (turn c b))
    → (cs : List C) (a b : S) → R a b → R (run turn cs a) (run turn cs b)
unfolding run
run_relates turn R keeps [] a b r = r
run_relates turn R keeps (c ∷ cs) a b r = run_relates turn R keeps cs (turn c a) (turn c b) (keeps c a b r)

-- a list of steps, and then another
pub run_append : {C S : Type 0} (turn : C → S → S) (xs ys : List C) (s : S) → run turn (xs ++ ys) s ≡ run turn ys (run turn xs s)
unfolding run
run_append turn [] ys s = refl
run_append turn (x ∷ xs) ys s = run_append turn xs ys (turn x s)

-- ---- one edit

-- what the checks of an accepted edit have shown, whichever of the four it is, of the links and rules that it leaves
pub record Passes (n m : ℕ) (t : Tables) (caller : ℕ) (links rules : List ℕ) : Type 0 where
  pub fits : shaped n m t ≡ true
  pub known : caller < callers
  pub is_sound : sound n m t ≡ true
  pub links_length : length links ≡ length t.links
  pub rules_length : length rules ≡ length t.rules

module _ (n m : ℕ) (t : Tables) (caller : ℕ) (P : Outcome ℕ → Type 0) (when-refused : (number : ℕ) → P (leaves (refused number) t))
    (when-accepted : (links rules : List ℕ) → Passes n m t caller links rules → P (calls.accepted n m t caller links rules)) where
  past : (number : ℕ) (next : Outcome ℕ) (b : Bool) → (b ≡ true → P next) → P (check number b t next)
  past number next b rest = check_cases number t next P b (when-refused number) rest

  rule_passes : (rules : List ℕ) → length rules ≡ length t.rules → shaped n m t ≡ true → ltb caller callers ≡ true → sound n m t ≡ true
      → P (calls.accepted n m t caller t.links rules)
  rule_passes rules same fits known is_sound = when-accepted t.links rules
      (record { fits = fits; known = ltb-true _ _ known; is_sound = is_sound; links_length = refl; rules_length = same })

  link_passes : (links : List ℕ) → length links ≡ length t.links → shaped n m t ≡ true → ltb caller callers ≡ true → sound n m t ≡ true
      → P (calls.accepted n m t caller links t.rules)
  link_passes links same fits known is_sound = when-accepted links t.rules
      (record { fits = fits; known = ltb-true _ _ known; is_sound = is_sound; links_length = same; rules_length = refl })

  pub edit_cases : (c : Change) → P (edit_outcome n m t caller c)
  unfolding edit_outcome calls.add_rule calls.take_rule calls.add_link calls.take_link
  edit_cases (add_rule k j h) =
      past _ _ _ λ fits. past _ _ _ λ known. past _ _ _ λ _. past _ _ _ λ _. past _ _ _ λ _. past _ _ _ λ is_sound.
      rule_passes _ (length-set t.rules _ _) fits known is_sound
  edit_cases (take_rule k j) =
      past _ _ _ λ fits. past _ _ _ λ known. past _ _ _ λ _. past _ _ _ λ _. past _ _ _ λ is_sound. past _ _ _ λ _.
      rule_passes _ (length-set t.rules _ _) fits known is_sound
  edit_cases (add_link c p) =
      past _ _ _ λ fits. past _ _ _ λ known. past _ _ _ λ _. past _ _ _ λ is_sound. past _ _ _ λ _. past _ _ _ λ _.
      link_passes _ (length-set t.links _ _) fits known is_sound
  edit_cases (take_link c p) =
      past _ _ _ λ fits. past _ _ _ λ known. past _ _ _ λ _. past _ _ _ λ is_sound. past _ _ _ λ _.
      link_passes _ (length-set t.links _ _) fits known is_sound

-- ---- one edit of a list

refused_same : {A : Type 0} (number other : ℕ) → ◌≡◌ {A = Reply A} (refused number) (refused other) → other ≡ number
refused_same number other is = cc

else_19 : (number : ℕ) (b : Bool) (c : Change) (rest : Reply Change) → (rest ≡ refused number → number ≡ 19)
    → ◌≡◌ {A = Reply Change} (elim b [ true ↦ given c | false ↦ rest ]) (refused number) → number ≡ 19
else_19 number true c rest next is = absurd (given_not_refused c number is)
else_19 number false c rest next is = next is

pub change_in_19 : (e : Edit) (number : ℕ) → change_in e ≡ refused number → number ≡ 19
unfolding change_in
change_in_19 e number =
    else_19 number (eqb e.what 1) _ _ (else_19 number (eqb e.what 2) _ _ (else_19 number (eqb e.what 3) _ _ (else_19 number (eqb e.what 4) _ _
    (refused_same 19 number))))

module _ (n m caller : ℕ) (P : Outcome Listing → Type 0)
    (edited : (accepted changed : ℕ) (u : Tables) (c : Change) → P (leaves (given (whole accepted changed)) u)
    → P (counted_in accepted changed (edit_outcome n m u caller c)))
    (no-edit : (accepted changed : ℕ) (u : Tables) → P (leaves (given (whole accepted changed)) u) → P (leaves (given (stopped accepted changed 19)) u)) where
  turn_cases : (e : Edit) (o : Outcome Listing) → P o → P (next_edit n m caller e o)
  unfolding next_edit record_outcome
  turn_cases e o = go o.reply
    where
      change : (accepted changed : ℕ) (u : Tables) → P (leaves (given (whole accepted changed)) u) → (c : Reply Change) → change_in e ≡ c
          → P (counted_in accepted changed (if_change n m u caller c))
      change accepted changed u p (given c) is = edited accepted changed u c p
      change accepted changed u p (refused number) is =
          subst (λ (x : ℕ). P (leaves (given (stopped accepted changed x)) u)) (sym (change_in_19 e number is)) (no-edit accepted changed u p)

      go : (reply : Reply Listing) → P (leaves reply o.tables) → P (onward n m caller e o.tables reply)
      go (given (whole accepted changed)) p = change accepted changed o.tables p (change_in e) refl
      go (given (stopped accepted changed number)) p = p
      go (refused number) p = p

  pub run_cases : (es : List Edit) (o : Outcome Listing) → P o → P (run (next_edit n m caller) es o)
  run_cases = run_keeps (next_edit n m caller) P turn_cases

-- where the reply is such that no edit is tried, the list is over
pub run_stays : (n m caller : ℕ) (reply : Reply Listing) → ((e : Edit) (u : Tables) → onward n m caller e u reply ≡ leaves reply u)
    → (es : List Edit) (u : Tables) → run (next_edit n m caller) es (leaves reply u) ≡ leaves reply u
unfolding run next_edit
run_stays n m caller reply over [] u = refl
run_stays n m caller reply over (e ∷ es) u = ap (run (next_edit n m caller) es) (over e u) ∙ run_stays n m caller reply over es u

-- ---- a list

-- the checks before the first edit of a list of so many records are passed
pub record Begins (n m : ℕ) (t : Tables) (caller records : ℕ) : Type 0 where
  pub fits : shaped n m t ≡ true
  pub short : records ≤ 4096
  pub known : caller < callers
  pub is_sound : sound n m t ≡ true

module _ (n m : ℕ) (t : Tables) (caller : ℕ) where
  pub begin_keeps : (records : ℕ) → (begin_list n m t caller records).tables ≡ t
  unfolding begin_list
  begin_keeps records =
      let Kept : Tables → Type 0 = λ t'. t' ≡ t in
      check_holds 1 t _ Kept _ refl λ _. check_holds 13 t _ Kept _ refl λ _. check_holds 5 t _ Kept _ refl λ _. refl

  pub list_keeps : (P : Tables → Type 0) → ((u : Tables) (c : Change) → P u → P (edit_outcome n m u caller c).tables) → P t
      → (es : List Edit) → P (make_list n m t caller es).tables
  unfolding make_list
  list_keeps P keeps p es =
      run_cases n m caller (λ o. P o.tables) (λ accepted changed u c. keeps u c) (λ accepted changed u q. q) es
      (begin_list n m t caller (length es)) (subst P (sym (begin_keeps (length es))) p)

  module _ (es : List Edit) where
    -- what holds of a refusal, which leaves the tables, and of the run of the edits where the checks are passed, holds of the list
    pub list_cases : (P : Outcome Listing → Type 0) → ((number : ℕ) → P (leaves (refused number) t))
        → (Begins n m t caller (length es) → P (run (next_edit n m caller) es (leaves (given (whole 0 0)) t))) → P (make_list n m t caller es)
    unfolding make_list begin_list
    list_cases P when-refused rest =
        let After : Outcome Listing → Type 0 = λ o. P (run (next_edit n m caller) es o) in
        check_cases 1 t _ After _ (over 1) λ first. check_cases 13 t _ After _ (over 13) λ known. check_cases 5 t _ After _ (over 5) λ is_sound.
        let (fits, short) = (and-eq-true_iff (shaped n m t) _).0 first in
        rest (record { fits = fits; short = leb-true _ _ short; known = ltb-true _ _ known; is_sound = is_sound })
      where
        over : (number : ℕ) → P (run (next_edit n m caller) es (leaves (refused number) t))
        over number = subst P (sym (run_stays n m caller (refused number) (λ e u. refl) es t)) (when-refused number)

    pub begins_list : Begins n m t caller (length es) → make_list n m t caller es ≡ run (next_edit n m caller) es (leaves (given (whole 0 0)) t)
    unfolding make_list begin_list check
    begins_list b = rw (b.fits, le-leb (length es) 4096 b.short, lt-ltb caller callers b.known, b.is_sound) refl

    -- a list that is not refused has begun
    pub list_begins : (l : Listing) → (make_list n m t caller es).reply ≡ given l → Begins n m t caller (length es)
    list_begins l = list_cases (λ o. o.reply ≡ given l → Begins n m t caller (length es)) (λ number is. absurd (given_not_refused l number (sym is))) (λ b _. b)
