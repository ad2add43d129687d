-- What follows from what a function gave.
--     none_if    where no value is given under a test: it failed. `cond_some` of std has the other case
--     ok_pair    where a pair is given: its parts
-- Assumes nothing.
use mathlib.Core.Path.{◌≡◌, refl, ap}
use mathlib.Core.Bool.{Bool, true, false, cond}
use Prim.Native.Nat.{ℕ}
use native.Mathlib.Omega.{arith}
use Rattle.std.specs.Prelude.{Some, None, Result}

pub none_if : {A : Type 0} (b : Bool) (x : A) → cond b (Some x) None ≡ None → b ≡ false
none_if true x e = let z : ◌≡◌ {A = ℕ} 0 1 = cc in absurd (omega arith)
none_if false x e = refl

pub ok_pair : {A B E : Type 0} {a x : A} {b y : B} → ◌≡◌ {A = Result (A × B) E} (Result.Ok (a, b)) (Result.Ok (x, y)) → (x ≡ a) × (y ≡ b)
ok_pair {A} {B} {E} {a} {x} {b} {y} e = let p : ◌≡◌ {A = A × B} (x, y) (a, b) = cc in (ap (λ (q : A × B). q.0) p, ap (λ (q : A × B). q.1) p)
