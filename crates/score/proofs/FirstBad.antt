-- What 9 says of rows, by the rows before a place and those from it on; so also of rows put together from others.
use Rattle.std.proofs.Common.{◌≡◌, refl, sym, ap, ◌∙◌, ℕ, zero, suc, ◌+◌, ◌-◌, ◌*◌, ◌≤◌, ◌<◌, Bool, true, false, cond, List, ◌++◌, length, take, drop, Option, None, Some, option_map, Ok, Err, arith, length-drop, length-take-le, take-take, take_all, take_at, drop_at, drop-drop}
use Rattle.std.specs.Result.{result_and}
use Rattle.lists.proofs.Places.{drop_of_take}
use Rattle.lists.proofs.Shifts.{put_front_parts, insert_front, remove_front}
use Rattle.score.specs.declared.refusal.Refusal.{Refusal}
use Rattle.score.specs.declared.refusal.Refusal.TheVariants.{Limit}
use Rattle.score.specs.Numbers.{Tested, accepted}
use Rattle.score.specs.Rows.{row_words, row_at, put_row, insert_row, remove_row}
use Rattle.score.specs.Limits.{row_within, first_bad, bad_refusal, limit_refusal}
use Rattle.score.specs.Inner.{front, rows_from, row_refusal, refused_from}

-- Only the words of those rows count.
bad_of_take : (n : ℕ) (rows : List ℕ) → first_bad n (take (n * row_words) rows) ≡ first_bad n rows
unfolding first_bad
bad_of_take zero rows = refl
bad_of_take (suc n) rows =
    let k : suc n * row_words ≡ row_words + n * row_words = omega arith in
    rw (k, take-take row_words (row_words + n * row_words) rows (omega arith), drop_of_take row_words (n * row_words) rows, bad_of_take n (drop row_words rows))

pub limit_of_take : (n : ℕ) (rows : List ℕ) → limit_refusal n (take (n * row_words) rows) ≡ limit_refusal n rows
unfolding limit_refusal
limit_of_take n rows = rw (bad_of_take n rows)

-- Where 9 refuses nothing, no row is bad.
pub none_refused : (n : ℕ) (rows : List ℕ) → limit_refusal n rows ≡ accepted → first_bad n rows ≡ None
unfolding limit_refusal bad_refusal
none_refused n rows e = go (first_bad n rows) e
  where
    go : (b : Option ℕ) → bad_refusal b ≡ accepted → b ≡ None
    go None e = refl
    go (Some r) e = cc

-- ---- The rows that the code goes through, with the places that they have in a score.

from_place : (f : ℕ) (b : Option ℕ) → bad_refusal (option_map (λ k. suc f + k) b) ≡ bad_refusal (option_map (λ k. f + k) (option_map suc b))
from_place f None = refl
from_place f (Some k) = ap (λ (x : ℕ). bad_refusal (Some x)) (omega arith)

from_first : (n f : ℕ) (rows : List ℕ) → refused_from f n rows ≡ bad_refusal (option_map (λ k. f + k) (first_bad n rows))
unfolding refused_from bad_refusal first_bad
from_first zero f rows = refl
from_first (suc n) f rows = go (row_within (take row_words rows)) (from_first n (suc f) (drop row_words rows))
  where
    rest : List ℕ
    rest = drop row_words rows

    go : (w : Bool) → refused_from (suc f) n rest ≡ bad_refusal (option_map (λ k. suc f + k) (first_bad n rest)) → result_and (cond w accepted (Err (Limit f))) (refused_from (suc f) n rest) ≡ bad_refusal (option_map (λ k. f + k) (cond w (option_map suc (first_bad n rest)) (Some 0)))
    go true e = e ∙ from_place f (first_bad n rest)
    go false e = ap (λ (x : ℕ). Err (Limit x)) (omega arith)

pub from_0 : (n : ℕ) (rows : List ℕ) → refused_from 0 n rows ≡ limit_refusal n rows
unfolding limit_refusal
from_0 n rows = from_first n 0 rows ∙ ap bad_refusal (go (first_bad n rows))
  where
    go : (b : Option ℕ) → option_map (λ k. 0 + k) b ≡ b
    go None = refl
    go (Some k) = ap Some (omega arith)

from_take : (n f : ℕ) (rows : List ℕ) → refused_from f n (take (n * row_words) rows) ≡ refused_from f n rows
from_take n f rows = from_first n f (take (n * row_words) rows) ∙ ap (λ b. bad_refusal (option_map (λ k. f + k) b)) (bad_of_take n rows) ∙ sym (from_first n f rows)

and_and : (a b c : Tested) → result_and (result_and a b) c ≡ result_and a (result_and b c)
and_and (Ok u) b c = refl
and_and (Err r) b c = refl

-- Of two tests in turn, the first refusal is that of both; where the first accepts, the second decides.
pub refused_first : (a b : Tested) (r : Refusal) → a ≡ Err r → result_and a b ≡ Err r
refused_first a b r e = rw e

pub accepted_first : (a b : Tested) (u : Unit {0}) → a ≡ Ok u → result_and a b ≡ b
accepted_first a b u e = rw e

-- The first a rows, then the others.
from_both : (a m f : ℕ) (rows : List ℕ) → refused_from f (a + m) rows ≡ result_and (refused_from f a rows) (refused_from (f + a) m (drop (a * row_words) rows))
unfolding refused_from
from_both zero m f rows =
    let q : 0 + m ≡ m = omega arith in
    let p : f + 0 ≡ f = omega arith in
    rw (q, p)
from_both (suc a) m f rows =
    let q : suc a + m ≡ suc (a + m) = omega arith in
    let k : suc a * row_words ≡ row_words + a * row_words = omega arith in
    let p : f + suc a ≡ suc f + a = omega arith in
    rw (q, k, p, sym (drop-drop (a * row_words) row_words rows), from_both a m (suc f) (drop row_words rows))
    (sym (and_and (row_refusal f (take row_words rows)) _ _))

-- ---- One row after the other.

-- The next row, and the rows behind it.
pub next_row : (first n k : ℕ) (rows : List ℕ) → k < n
    → refused_from (first + k) (n - k) (drop (k * row_words) rows) ≡ result_and (row_refusal (first + k) (row_at rows k)) (refused_from (first + (k + 1)) (n - (k + 1)) (drop ((k + 1) * row_words) rows))
unfolding refused_from
next_row first n k rows h =
    let q : n - k ≡ suc (n - (k + 1)) = omega arith in
    let p : first + (k + 1) ≡ suc (first + k) = omega arith in
    let d : (k + 1) * row_words ≡ k * row_words + row_words = omega arith in
    rw (q, p, d, sym (drop-drop row_words (k * row_words) rows))

-- ---- The first k rows, and then others.

module _ (rows others : List ℕ) (k m : ℕ) (fits : k * row_words ≤ length rows) where
  abbrev joined : List ℕ
  joined = front rows k ++ others

  front_long : length (front rows k) ≡ k * row_words
  front_long = length-take-le (k * row_words) rows fits

  before_same : refused_from 0 k joined ≡ refused_from 0 k rows
  before_same = sym (from_take k 0 joined) ∙ ap (refused_from 0 k) (take_at (front rows k) others (k * row_words) front_long) ∙ from_take k 0 rows

  from_joined : refused_from 0 (k + m) joined ≡ result_and (refused_from 0 k rows) (refused_from k m others)
  from_joined =
      let z : 0 + k ≡ k = omega arith in
      from_both k m 0 joined ∙ rw (before_same, drop_at (front rows k) others (k * row_words) front_long, z)

-- A row, and then others.
from_row : (row others : List ℕ) (five : length row ≡ row_words) (m f : ℕ) → refused_from f (1 + m) (row ++ others) ≡ result_and (row_refusal f row) (refused_from (f + 1) m others)
unfolding refused_from
from_row row others five m f =
    let q : 1 + m ≡ suc m = omega arith in
    let p : f + 1 ≡ suc f = omega arith in
    rw (q, p, take_at row others row_words five, drop_at row others row_words five)

-- ---- The resulting score of a call.

-- The rows below the count are all that counts.
limit_by : (n m : ℕ) (rows others : List ℕ) → m ≡ n → take (n * row_words) rows ≡ others → limit_refusal n rows ≡ refused_from 0 m others
limit_by n m rows others c q = sym (from_0 n rows) ∙ sym (from_take n 0 rows) ∙ ap (refused_from 0 n) q ∙ ap (λ (x : ℕ). refused_from 0 x others) (sym c)

module _ (rows : List ℕ) (n p : ℕ) where
  -- A row in the place of row p.
  pub limit_with : p < n → n * row_words ≤ length rows → (row : List ℕ) → length row ≡ row_words
      → limit_refusal n (put_row rows p row) ≡ result_and (refused_from 0 p rows) (result_and (row_refusal p row) (refused_from (p + 1) (n - (p + 1)) (drop ((p + 1) * row_words) rows)))
  limit_with h r row five =
      limit_by n (p + (1 + (n - (p + 1)))) (put_row rows p row) _ (omega arith) (put_front_parts row_words rows p n row h r five)
      ∙ from_joined rows (row ++ rows_from rows (p + 1) (n - (p + 1))) p (1 + (n - (p + 1))) (omega arith)
      ∙ rw (from_row row (rows_from rows (p + 1) (n - (p + 1))) five (n - (p + 1)) p, from_take (n - (p + 1)) (p + 1) (drop ((p + 1) * row_words) rows))

  -- A row put in as row p.
  pub limit_inserted : p ≤ n → (n + 1) * row_words ≤ length rows → (row : List ℕ) → length row ≡ row_words
      → limit_refusal (n + 1) (insert_row n rows p row) ≡ result_and (refused_from 0 p rows) (result_and (row_refusal p row) (refused_from (p + 1) (n - p) (drop (p * row_words) rows)))
  limit_inserted h r row five =
      limit_by (n + 1) (p + (1 + (n - p))) (insert_row n rows p row) _ (omega arith) (insert_front row_words rows p n row h r five)
      ∙ from_joined rows (row ++ rows_from rows p (n - p)) p (1 + (n - p)) (omega arith)
      ∙ rw (from_row row (rows_from rows p (n - p)) five (n - p) p, from_take (n - p) (p + 1) (drop (p * row_words) rows))

  -- Row p taken out.
  pub limit_removed : p < n → n * row_words ≤ length rows
      → limit_refusal (n - 1) (remove_row n rows p) ≡ result_and (refused_from 0 p rows) (refused_from p (n - (p + 1)) (drop ((p + 1) * row_words) rows))
  limit_removed h r =
      limit_by (n - 1) (p + (n - (p + 1))) (remove_row n rows p) _ (omega arith) (remove_front row_words rows p n h r)
      ∙ from_joined rows (rows_from rows (p + 1) (n - (p + 1))) p (n - (p + 1)) (omega arith)
      ∙ rw (from_take (n - (p + 1)) p (drop ((p + 1) * row_words) rows))

-- The rows behind a place, as they are lent.
pub lent_rest : (rows : List ℕ) (a : ℕ) → take (length rows - a) (drop a rows) ≡ drop a rows
lent_rest rows a = take_all (length rows - a) (drop a rows) (rw length-drop (omega arith))
