-- The loop over the words: the answers so far are those of the words so far.
use Rattle.std.proofs.Common.{◌≡◌, ℕ, ◌+◌, ◌<◌, List, length, set, sym, refl, ap, ◌∙◌, subst}
use Rattle.std.specs.Float.Ieee.{binary32, of_bits}
use Rattle.utils.specs.Frames.{state_after, Filled}
use Rattle.utils.proofs.Frames.{after_more, each_length, each_at, filled_none, filled_more, filled_all}
use Rattle.helpers_c.specs.Helpers.{answer_at, next_word, answers_from}

-- the answer at place j
abbrev answer_of : ℕ → ℕ → ℕ → ℕ
answer_of which from j = answer_at which (of_bits binary32 (state_after next_word j from))

pub record Going (which from : ℕ) (answers : List ℕ) (w i : ℕ) : Type 0 where
  pub word : w ≡ state_after next_word i from
  pub done : Filled (answer_of which from) 0 answers i

pub begins : (which from : ℕ) (answers : List ℕ) → Going which from answers from 0
unfolding state_after
begins which from answers = record { word = refl; done = filled_none (answer_of which from) 0 answers }

pub goes_on : (which from : ℕ) (answers : List ℕ) (w i a v : ℕ) → i < length answers → a ≡ answer_at which (of_bits binary32 w) → v ≡ next_word w → Going which from answers w i
    → Going which from (set answers i a) v (i + 1)
goes_on which from answers w i a v l e f p =
    record {
      word = after_more next_word i from w v f p.word;
      done = filled_more (answer_of which from) 0 answers i a l (e ∙ ap (λ (x : ℕ). answer_at which (of_bits binary32 x)) p.word) p.done;
    }

pub ends : (which from n : ℕ) (answers : List ℕ) (w i : ℕ) → length answers ≡ n → i ≡ n → Going which from answers w i → answers ≡ answers_from which n from
ends which from n answers w i long e p =
    filled_all (answer_of which from) 0 answers (answers_from which n from) (each_length next_word _ n from ∙ sym long)
    (λ j h. each_at next_word _ 0 n from j (subst (λ (k : ℕ). j < k) long h)) (subst (Filled (answer_of which from) 0 answers) (e ∙ sym long) p.done)
