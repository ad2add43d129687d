-- A session of lines, and then of more lines.
--     answers_apart    what is printed for them
--     written_apart    what is written for them
-- Assumes nothing.
use mathlib.Core.Path.{◌≡◌, refl, sym, ap}
use mathlib.Core.List.{List, [], ◌∷◌, ◌++◌, append_assoc}
use Prim.Native.Nat.{ℕ}
use Rattle.tables.specs.Lists.{run}
use Rattle.session.specs.Line.{Book, line_of}
use Rattle.session.specs.Session.{book_after, answers, written}

pub answers_apart : (b : Book) (lines more : List (List ℕ)) → answers b (lines ++ more) ≡ answers b lines ++ answers (book_after b lines) more
unfolding answers run
answers_apart b [] more = refl
answers_apart b (line ∷ lines) more = ap (λ (rest : List (List ℕ)). (line_of b line).printed ∷ rest) (answers_apart (line_of b line).book lines more)

pub written_apart : (lines more : List (List ℕ)) → written (lines ++ more) ≡ written lines ++ written more
unfolding written
written_apart [] more = refl
written_apart (line ∷ lines) more = rw (written_apart lines more) (sym (append_assoc line (10 ∷ written lines) (written more)))
