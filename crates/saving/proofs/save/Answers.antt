-- `saving::save` meets its contract: a refusal, or there is room for each copy, and pasted there it is the copy under the name. Assumes nothing.
use mathlib.Core.Path.{◌≡◌, refl, sym, ap, ap₂, ◌∙◌, subst}
use mathlib.Core.Bool.{true, ◌&&◌}
use Prim.Native.Nat.{ℕ, ◌*◌, ◌<◌}
use native.Mathlib.Nat.{mul-le-mul}
use native.Mathlib.Omega.{arith}
use Rattle.stores.specs.declared.Name.{Name}
use Rattle.std.specs.Prelude.{Some, None}
use Rattle.stores.specs.Name.{names, name_below}
use Rattle.books.specs.Lent.{tables_read}
use Rattle.stores.specs.Lent.{store_of}
use Rattle.stores.specs.Store.{Store, stored}
use Rattle.stores.proofs.NameLaws.{named}
use Rattle.stores.proofs.StoreLaws.{placed, save_shape}
use Rattle.tables.specs.Calls.{leaves}
use Rattle.tables.specs.declared.Refusal.{Refusal}
use Rattle.tables.specs.Reply.{Reply, refused, refusal_number}
use Rattle.tables.specs.Tables.{Tables, shaped}
use Rattle.tables.proofs.ReplyLaws.{passed_on}
use Rattle.saving.proofs.SaveLaws.{BothFit, both_fit, saving_done, name_refused, save_done}
use Rattle.std.proofs.Common.{Bool}
use Rattle.saving.proofs.save.Goals as goal

-- past the first test all tables have their lengths
fitted : (n m : ℕ) (t : Tables) (s : Store) {x y : Bool} → x ≡ shaped n m t → y ≡ stored n m s → (x && y) ≡ true → (shaped n m t && stored n m s) ≡ true
fitted n m t s xs ys e = sym (ap₂ ◌&&◌ xs ys) ∙ e

low : (number : ℕ) {k : Name} → name_below number ≡ Some k → k.0 < names
low number e =
    let (the_name, below) = named number e in
    subst (λ (k : Name). k.0 < names) (sym the_name) below

pub returns-then-not-shaped-room-clause-outcome : goal.returns-then-not-shaped-room-clause-outcome
returns-then-not-shaped-room-clause-outcome c =
    let a = c.args in
    let t : Tables = tables_read a.tables.now in
    let s : Store = store_of a.store.now in
    let room = c.is_shaped-room.ensures ∙ ap (stored a.tables.now.n a.tables.now.m) c.read.ensures in
    sym (save_shape _ _ t s _ (sym (ap₂ ◌&&◌ c.is_shaped-shaped.ensures room) ∙ c.if-not-shaped-room.true))

pub copy_at-requires : goal.copy_at-requires
copy_at-requires c =
    let a = c.args in
    let t : Tables = tables_read a.tables.now in
    let s : Store = store_of a.store.now in
    let room = c.is_shaped-room.ensures ∙ ap (stored a.tables.now.n a.tables.now.m) c.read.ensures in
    let fits : (shaped a.tables.now.n a.tables.now.m t && stored a.tables.now.n a.tables.now.m s) ≡ true = fitted a.tables.now.n a.tables.now.m t s c.is_shaped-shaped.ensures room c.if-not-shaped-room.false in
    let known : name_below a.name.0 ≡ Some c.in_ok-known.known = grind arith in
    let b : BothFit a.tables.now.n a.tables.now.m t s = both_fit a.tables.now.n a.tables.now.m t s fits in
    rw (c.from-number.ensures, c.from-kinds.ensures) (omega (arith, (placed c.in_ok-known.known.0 (a.tables.now.n * a.tables.now.n) a.store.now.links.now (low _ known) (mul-le-mul b.sizes.kinds b.sizes.kinds) b.store.links_length).room, b.links_size))

pub copy_at-requires-2 : goal.copy_at-requires-2
copy_at-requires-2 c =
    let a = c.args in
    let t : Tables = tables_read a.tables.now in
    let s : Store = store_of a.store.now in
    let room = c.is_shaped-room.ensures ∙ ap (stored a.tables.now.n a.tables.now.m) c.read.ensures in
    let fits : (shaped a.tables.now.n a.tables.now.m t && stored a.tables.now.n a.tables.now.m s) ≡ true = fitted a.tables.now.n a.tables.now.m t s c.is_shaped-shaped.ensures room c.if-not-shaped-room.false in
    let known : name_below a.name.0 ≡ Some c.in_ok-known.known = grind arith in
    let b : BothFit a.tables.now.n a.tables.now.m t s = both_fit a.tables.now.n a.tables.now.m t s fits in
    rw (c.from-number.ensures, c.from-kinds.ensures, c.from-marks.ensures) (omega (arith, (placed c.in_ok-known.known.0 (a.tables.now.n * a.tables.now.m) a.store.now.rules.now (low _ known) (omega (arith, mul-le-mul b.sizes.kinds b.sizes.marks)) b.store.rules_length).room, b.sizes.rules_size))

pub copy_at-requires-3 : goal.copy_at-requires-3
copy_at-requires-3 c =
    let a = c.args in
    let t : Tables = tables_read a.tables.now in
    let s : Store = store_of a.store.now in
    let room = c.is_shaped-room.ensures ∙ ap (stored a.tables.now.n a.tables.now.m) c.read.ensures in
    let fits : (shaped a.tables.now.n a.tables.now.m t && stored a.tables.now.n a.tables.now.m s) ≡ true = fitted a.tables.now.n a.tables.now.m t s c.is_shaped-shaped.ensures room c.if-not-shaped-room.false in
    let known : name_below a.name.0 ≡ Some c.in_ok-known.known = grind arith in
    let b : BothFit a.tables.now.n a.tables.now.m t s = both_fit a.tables.now.n a.tables.now.m t s fits in
    rw (c.from-number.ensures, c.from-kinds.ensures, c.from-marks.ensures) (omega (arith, (placed c.in_ok-known.known.0 (a.tables.now.n * a.tables.now.m) a.store.now.entries.now (low _ known) (omega (arith, mul-le-mul b.sizes.kinds b.sizes.marks)) b.store.entries_length).room, b.sizes.entries_size))

pub copy_at-requires-4 : goal.copy_at-requires-4
copy_at-requires-4 c =
    let a = c.args in
    let t : Tables = tables_read a.tables.now in
    let s : Store = store_of a.store.now in
    let room = c.is_shaped-room.ensures ∙ ap (stored a.tables.now.n a.tables.now.m) c.read.ensures in
    let fits : (shaped a.tables.now.n a.tables.now.m t && stored a.tables.now.n a.tables.now.m s) ≡ true = fitted a.tables.now.n a.tables.now.m t s c.is_shaped-shaped.ensures room c.if-not-shaped-room.false in
    let known : name_below a.name.0 ≡ Some c.in_ok-known.known = grind arith in
    let b : BothFit a.tables.now.n a.tables.now.m t s = both_fit a.tables.now.n a.tables.now.m t s fits in
    rw (c.from-number.ensures, c.from-marks.ensures) (omega (arith, (placed c.in_ok-known.known.0 (a.tables.now.m) a.store.now.disputes.now (low _ known) (omega (arith, b.sizes.marks)) b.store.disputes_length).room, b.disputes_size))

pub bounds-flags-number : goal.bounds-flags-number
bounds-flags-number c =
    let a = c.args in
    let t : Tables = tables_read a.tables.now in
    let s : Store = store_of a.store.now in
    let room = c.is_shaped-room.ensures ∙ ap (stored a.tables.now.n a.tables.now.m) c.read.ensures in
    let fits : (shaped a.tables.now.n a.tables.now.m t && stored a.tables.now.n a.tables.now.m s) ≡ true = fitted a.tables.now.n a.tables.now.m t s c.is_shaped-shaped.ensures room c.if-not-shaped-room.false in
    let known : name_below a.name.0 ≡ Some c.in_ok-known.known = grind arith in
    let b : BothFit a.tables.now.n a.tables.now.m t s = both_fit a.tables.now.n a.tables.now.m t s fits in
    omega (arith, low _ known, b.store.flags_length)

pub returns-in_err-known-clause-outcome : goal.returns-in_err-known-clause-outcome
returns-in_err-known-clause-outcome c =
    let a = c.args in
    let t : Tables = tables_read a.tables.now in
    let s : Store = store_of a.store.now in
    let room = c.is_shaped-room.ensures ∙ ap (stored a.tables.now.n a.tables.now.m) c.read.ensures in
    let fits : (shaped a.tables.now.n a.tables.now.m t && stored a.tables.now.n a.tables.now.m s) ≡ true = fitted a.tables.now.n a.tables.now.m t s c.is_shaped-shaped.ensures room c.if-not-shaped-room.false in
    let none : name_below a.name.0 ≡ None = grind arith in
    let why : c.in_err-known.field-0.0 ≡ Refusal.Name = grind arith in
    ap (λ (reply : Reply (Unit {0})). leaves reply s) (passed_on _ _ c.from_residual.ensures.1 ∙ ap (λ (w : Refusal). refused (refusal_number w)) why) ∙ name_refused _ _ t s a.name.0 fits none

pub returns-clause-outcome : goal.returns-clause-outcome
returns-clause-outcome c =
    let a = c.args in
    let t : Tables = tables_read a.tables.now in
    let s : Store = store_of a.store.now in
    let room = c.is_shaped-room.ensures ∙ ap (stored a.tables.now.n a.tables.now.m) c.read.ensures in
    let fits : (shaped a.tables.now.n a.tables.now.m t && stored a.tables.now.n a.tables.now.m s) ≡ true = fitted a.tables.now.n a.tables.now.m t s c.is_shaped-shaped.ensures room c.if-not-shaped-room.false in
    let known : name_below a.name.0 ≡ Some c.in_ok-known.known = grind arith in
    let b : BothFit a.tables.now.n a.tables.now.m t s = both_fit a.tables.now.n a.tables.now.m t s fits in
    save_done _ _ t s _ fits known
    (saving_done _ _ t s c.in_ok-known.known.0 b
    (rw c.from-number.ensures refl)
    (rw (c.from-number.ensures, c.from-kinds.ensures) at c.copy_at.ensures)
    (rw (c.from-number.ensures, c.from-kinds.ensures, c.from-marks.ensures) at c.copy_at-2.ensures)
    (rw (c.from-number.ensures, c.from-kinds.ensures, c.from-marks.ensures) at c.copy_at-3.ensures)
    (rw (c.from-number.ensures, c.from-marks.ensures) at c.copy_at-4.ensures))
