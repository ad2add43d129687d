-- Soundness with the links in rows of bits, as code tests it.
--     rows_links, links_rows             rows that are loaded have the links
--     bytes_wrong, bytes_tested          what the test of the bytes says where it fails, and where it holds
--     linked_bytes                       it holds where the links are right
--     part_replicate                     a part of a list of equal numbers
--     links_tests                        the tests of the code are those of `links_right`
--     counts_tests                       .. and the comparison with what is counted is that of `count_right`
--     sound_wrong, sound_right           .. and all are those of `sound`, where the links are wrong, and where they are right
--     examined_entries                   where the links are right, the lookups by the rows are those by the links
-- Assumes nothing.
use mathlib.Core.Path.{◌≡◌, refl, sym, ◌∙◌, ap, ap₂}
use mathlib.Core.Bool.{Bool, true, false, ◌&&◌, true≢false, and-eq-true_iff}
use mathlib.Core.List.{List, ◌∷◌}
use Prim.Native.Nat.{ℕ, zero, suc, ◌*◌, ◌<◌, ◌≤◌}
use native.Mathlib.Omega.{arith}
use borrow.Author.Tests.{lt-ltb, leb-true}
use Rattle.std.proofs.Common.{IsTrue, ◌↔◌}
use lib.ListN.{length, take, replicate}
use Rattle.inheritance.proofs.Bools.{same_bool}
use Rattle.arranging.specs.declared.Order.{Order}
use Rattle.arranging.specs.Arranged.{Arrangement}
use Rattle.relation.specs.declared.Relation.{Relation}
use Rattle.relation.specs.Bit.{bit}
use Rattle.loading.specs.Loaded.{Loaded, Tested, link}
use Rattle.tables.specs.Step.{right}
use Rattle.deciding.proofs.DecidingLaws.{arranged_acyclic}
use Rattle.soundness.specs.Examined.{LinksExamined}
use Rattle.tables.specs.Tables.{lent, up_of, entries_of, all_below, byte_right, bytes_right, well_linked, links_right, count_right, disputes_of, sound_over, sound}
use Rattle.tables.proofs.DisputeLaws.{counts_mean, mean_counts}
use Rattle.tables.proofs.SoundLaws.{free_means, means_free, free_agree, entries_of_agree, right_up, sound_by_steps}
use Rattle.tables.proofs.TableLaws.{below_true}

-- the bytes alone
module _ (n : ℕ) (links : List ℕ) (size : length links ≡ n * n) where
  bytes_same : all_below (byte_right links) (length links) ≡ bytes_right n links
  unfolding bytes_right
  bytes_same = ap (all_below (byte_right links)) size

  pub bytes_wrong : all_below (byte_right links) (length links) ≡ false → false ≡ links_right n links
  bytes_wrong wrong = ap (λ (b : Bool). b && well_linked n (up_of n links)) (sym wrong ∙ bytes_same)

  pub bytes_tested : all_below (byte_right links) (length links) ≡ true → Tested n links
  bytes_tested right i h = leb-true _ 1 (below_true (byte_right links) (length links) right i (omega arith))

  pub linked_bytes : links_right n links ≡ true → all_below (byte_right links) (length links) ≡ true
  linked_bytes is = bytes_same ∙ ((and-eq-true_iff (bytes_right n links) _).0 is).0

-- the later tests play no part where the first two fail, and decide where they hold
and_fails : (a b c d : Bool) → false ≡ (a && b) → false ≡ (a && (b && c && d))
and_fails true b c d e = ap (λ (x : Bool). x && c && d) e
and_fails false b c d e = refl

and_holds : (a b c d : Bool) → true ≡ (a && b) → (c && d) ≡ (a && (b && c && d))
and_holds true b c d e = ap (λ (x : Bool). x && c && d) e
and_holds false b c d e = absurd (true≢false e)

pub sound_wrong : (n m : ℕ) (links rules entries tally disputes : List ℕ) → false ≡ links_right n links
    → false ≡ sound n m (lent links rules entries tally disputes)
unfolding sound sound_over
sound_wrong n m links rules entries tally disputes e = and_fails (bytes_right n links) (well_linked n (up_of n links)) _ _ e

-- size is not written as 64, so that `replicate size x` stays as it is
pub part_replicate : (k size x : ℕ) → k ≤ size → take k (replicate size x) ≡ replicate k x
part_replicate zero size x h = refl
part_replicate (suc k) zero x h = absurd (omega arith)
part_replicate (suc k) (suc size) x h = ap {B = List ℕ} (λ l. x ∷ l) (part_replicate k size x (omega arith))

-- the counts are those that the code has counted exactly where `count_right` holds of each
pub counts_tests : (n m : ℕ) (entries disputes : List ℕ) {counts : List ℕ} {same : Bool} → length disputes ≡ m → counts ≡ disputes_of n m entries
    → IsTrue same ↔ (disputes ≡ counts) → same ≡ all_below (count_right n m entries disputes) m
counts_tests n m entries disputes {same = same} size are is =
    same_bool same _ (λ e. mean_counts n m entries disputes (is.0 e ∙ are)) (λ e. is.1 (counts_mean n m entries disputes size e ∙ sym are))

module _ (n : ℕ) (links : List ℕ) (rows : Relation) (kinds : n ≤ 128) (loaded : Loaded n links rows) where
  pub rows_links : (c p : ℕ) → c < n → p < n → bit rows c p ≡ up_of n links c p
  unfolding link
  rows_links c p hc hp = loaded.bits c p (omega arith) ∙ rw (link, lt-ltb c n hc, lt-ltb p n hp) refl

  pub links_rows : (c p : ℕ) → c < n → p < n → up_of n links c p ≡ bit rows c p
  links_rows c p hc hp = sym (rows_links c p hc hp)

  module _ (order : List ℕ) (reach : Relation) (found : Bool) (a : Arrangement n rows order reach found) where
    free_tests : found ≡ well_linked n (bit rows)
    free_tests = same_bool _ _ (λ e. means_free n (bit rows) (a.free e)) (λ e. a.all (free_means n (bit rows) e))

    pub links_tests : length links ≡ n * n → all_below (byte_right links) (length links) ≡ true → found ≡ links_right n links
    links_tests size right =
        ap₂ ◌&&◌ (sym right ∙ bytes_same n links size) (free_tests ∙ free_agree n (bit rows) (up_of n links) rows_links)

  pub sound_right : (m : ℕ) (rules entries tally disputes : List ℕ) → length entries ≡ n * m → {r : Bool} → true ≡ links_right n links
      → r ≡ (right n m (bit rows) rules entries && all_below (count_right n m entries disputes) m) → r ≡ sound n m (lent links rules entries tally disputes)
  sound_right m rules entries tally disputes size e q =
      q
      ∙ ap (λ (b : Bool). b && all_below (count_right n m entries disputes) m) (right_up n m (bit rows) (up_of n links) rules entries rows_links)
      ∙ and_holds (bytes_right n links) (well_linked n (up_of n links)) _ _ e
      ∙ sym (sound_by_steps n m (lent links rules entries tally disputes) size (omega arith))

pub examined_entries : {n : ℕ} {links : List ℕ} {order : Order} {r : Bool} → n ≤ 128 → length links ≡ n * n → LinksExamined n links order r → r ≡ true
    → (m : ℕ) (rules : List ℕ) → entries_of n m (bit order.rows) rules ≡ entries_of n m (up_of n links) rules
examined_entries {n} {links} {order} kinds size x found m rules =
    let loaded = x.loaded (linked_bytes n links size (sym x.answer ∙ found)) in
    entries_of_agree n (bit order.rows) (up_of n links) (rows_links n links order.rows kinds loaded) m (omega arith) (arranged_acyclic n order.rows _ _ (x.arranged found)) rules
