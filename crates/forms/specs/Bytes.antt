-- The bytes of a text.
-- Assumes nothing.
use Rattle.std.specs.Prelude.{List, [] as none, ◌∷◌ as then, ℕ}
use Prim.Native.Char.{code}
use Prim.Native.String.{String, [], ◌∷◌}

abbrev pub bytes : String → List ℕ
bytes [] = none
bytes (c ∷ s) = then (code c) (bytes s)
