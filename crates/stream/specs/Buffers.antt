-- What the functions find and leave in the buffers.
--     LineEnd    the first line feed from a place on, or that there is none
--     Put        bytes are put into a buffer behind those that wait there
--     cut        what is carried of a line whose end has not come yet
-- Assumes nothing.
use Rattle.std.specs.Prelude.{◌≡◌, List, ◌++◌, ℕ, ◌+◌, ◌≤◌, ◌<◌, length, get_or, take, drop, MatchOption, Option}

-- the bytes of a block from one place up to another have no line feed
abbrev pub NoneBetween : (block : List ℕ) (from end : ℕ) → Type 0
NoneBetween block from end = (k : ℕ) → from ≤ k → k < end → get_or block k 0 ≡ 10 → ⊥

abbrev pub LineEnd : (block : List ℕ) (from : ℕ) → Option ℕ → Type 0
LineEnd block from found =
    MatchOption found (NoneBetween block from (length block)) (λ end. (from ≤ end) × (end < length block) × (get_or block end 0 ≡ 10) × NoneBetween block from end)

pub record Put (bytes before : List ℕ) (at end : ℕ) (after : List ℕ) : Type 0 where
  pub long : end ≡ at + length bytes
  pub whole : after ≡ take at before ++ (bytes ++ drop (at + length bytes) before)

-- a line of 65 bytes is no form already, whatever follows
unfoldable pub cut : List ℕ → List ℕ
cut partial = take 65 partial
