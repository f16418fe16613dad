-- The limits, tested on words. A float's test from 0 to a limit is one comparison of its word with the limit's word, after -0 is taken for +0.
use Rattle.std.proofs.Common.{◌≡◌, refl, sym, ◌∙◌, subst, ⊎_elim, true, false, ◌&&◌, ◌||◌, cond, List, ℕ, zero, suc, ◌^◌, ◌≤◌, ◌<◌, eq-or-lt_of_le, arith, ne_eqb, leb, eqb, pos}
use Rattle.std.proofs.lemmas.Bool.{lt-leb}
use Rattle.std.proofs.Math.Dec.{leb-zero}
use Rattle.std.specs.Float.Ieee.{fin, binary32, of_bits, le}
use Rattle.words.specs.Binary32.{decimal}
use Rattle.score.specs.Rows.{note, timbre, morph, harmonics, restart, word_for}
use Rattle.score.specs.Limits.{float_to, limit, row_within}
use Rattle.lists.proofs.Cases.{le_or_lt, and_false}
use Rattle.score.proofs.Order.{word_size, finite_word, words_order, past_finite, minus_zero, below_zero}

-- a word, with -0 taken for +0
abbrev pub plain : ℕ → ℕ
plain w = cond (eqb w 0x80000000) 0 w

from_zero : (w : ℕ) → w < 0x7f800000 → le (fin false 0 (pos 0)) (of_bits binary32 w) ≡ true
unfolding of_bits
from_zero w h = words_order 0 w (omega arith) h ∙ leb-zero w

at_minus_zero : (high : ℕ) → high < 0x7f800000 → float_to (of_bits binary32 high) 0x80000000 ≡ leb (plain 0x80000000) high
unfolding float_to decimal of_bits le
at_minus_zero high H = minus_zero (of_bits binary32 high) (word_size high) (2 ^ 149) (finite_word high H) ∙ sym (leb-zero high)

pub float_to_word : (high w : ℕ) → high < 0x7f800000 → w < 2 ^ 32 → float_to (of_bits binary32 high) w ≡ leb (plain w) high
unfolding float_to decimal
float_to_word high w H W = ⊎_elim with_sign (λ l. ⊎_elim (past l) finite (le_or_lt 0x7f800000 w)) (le_or_lt 0x80000000 w)
  where
    finite : w < 0x7f800000 → float_to (of_bits binary32 high) w ≡ leb (plain w) high
    finite l = rw (from_zero w l, words_order w high l H, ne_eqb w 0x80000000 (λ e. omega arith))

    past : w < 0x80000000 → 0x7f800000 ≤ w → float_to (of_bits binary32 high) w ≡ leb (plain w) high
    past u l = rw (past_finite w (of_bits binary32 high) (word_size high) (2 ^ 149) l u (finite_word high H), and_false, ne_eqb w 0x80000000 (λ e. omega arith), lt-leb w high (omega arith))

    signed : 0x80000000 < w → float_to (of_bits binary32 high) w ≡ leb (plain w) high
    signed l = rw (below_zero w l W, ne_eqb w 0x80000000 (λ e. omega arith), lt-leb w high (omega arith))

    with_sign : 0x80000000 ≤ w → float_to (of_bits binary32 high) w ≡ leb (plain w) high
    with_sign l = ⊎_elim (λ e. subst (λ (v : ℕ). float_to (of_bits binary32 high) v ≡ leb (plain v) high) e (at_minus_zero high H)) signed (eq-or-lt_of_le l)

-- ---- a row
restart_word : (w : ℕ) → leb w 1 ≡ (eqb w 0 || eqb w 1) && true
restart_word zero = refl
restart_word (suc zero) = refl
restart_word (suc (suc w)) = rw (lt-leb (suc (suc w)) 1 (omega arith), ne_eqb (suc (suc w)) 0 (λ e. omega arith), ne_eqb (suc (suc w)) 1 (λ e. omega arith))

-- the limits with their words for 120 and 1
pub row_words_lem : (row : List ℕ)
    → float_to (of_bits binary32 0x42f00000) (word_for note row)
    && (float_to (of_bits binary32 0x3f800000) (word_for timbre row)
    && (float_to (of_bits binary32 0x3f800000) (word_for morph row)
    && (float_to (of_bits binary32 0x3f800000) (word_for harmonics row) && leb (word_for restart row) 1)))
    ≡ row_within row
unfolding row_within limit decimal of_bits
row_words_lem row = rw (restart_word (word_for restart row))
