-- What reading a text answers, and the first refusal of the three. No more rows or edits are read than there are words for: 12 stands before
-- that.
use Rattle.std.proofs.Common.{◌≡◌, refl, sym, ap, ◌∙◌, ℕ, ◌*◌, ◌≤◌, Bool, true, false, cond, ◌&&◌, ◌||◌, eqb, ltb, List, ◌++◌, length, drop, Result, Ok, Err, arith}
use Rattle.std.specs.Prelude.{replicate}
use Rattle.std.proofs.lemmas.Bool.{ltb-false, eqb-true}
use Rattle.std.proofs.lemmas.List.{length-replicate}
use Rattle.score.specs.declared.refusal.Refusal.TheVariants.{Rows, Space, Bank}
use Rattle.score.specs.Rows.{row_words}
use Rattle.score.specs.Rows as score_rows
use Rattle.score.specs.Numbers.{Tested, accepted}
use Rattle.score.specs.declared.refusal.Refusal.{Refusal}
use Rattle.reader.specs.Reading.{Answer, Outcome, outcome, allowed, settle, test_count, read_text, score_table, edit_table, read_of, read_edits_of, edit_words, Accepted}
use Rattle.reader.proofs.Accepted.{accepted_passes}
use Rattle.inputs.specs.declared.Inputs.{Inputs}
use Rattle.inputs.specs.Inputs.{most_rows, bytes_of_bank, zeros, test_length, text_of, score_text, edits_text, test_bank, read_into, inputs_by, inputs_of}

-- ---- one text

module _ (read : List ℕ → List ℕ → Outcome) (text words : List ℕ) where
  pub too_long : {r : Refusal} → test_length text ≡ Err r → (text_of read text words).answer ≡ Err r
  unfolding text_of
  too_long e = rw e refl

  pub as_read : {a : Answer} {left : List ℕ} → test_length text ≡ accepted → outcome a left ≡ read text words → text_of read text words ≡ outcome a left
  unfolding text_of
  as_read e h = rw e (sym h)

-- ---- the three

module _ (score edits : List ℕ) (bank : ℕ) where
  pub score_refused : {r : Refusal} → (score_text score).answer ≡ Err r → inputs_of score edits bank ≡ Err r
  unfolding inputs_by
  score_refused e = rw e refl

  pub edits_refused : {n : ℕ} {r : Refusal} → (score_text score).answer ≡ Ok n → (edits_text edits).answer ≡ Err r → inputs_of score edits bank ≡ Err r
  unfolding inputs_by
  edits_refused e h = rw (e, h) refl

  pub bank_refused : {n m : ℕ} {r : Refusal} → (score_text score).answer ≡ Ok n → (edits_text edits).answer ≡ Ok m → test_bank bank ≡ Err r
      → inputs_of score edits bank ≡ Err r
  unfolding inputs_by
  bank_refused e h b = rw (e, h, b) refl

  pub all_taken : {n m : ℕ} {rows words : List ℕ} → score_text score ≡ outcome (Ok n) rows → edits_text edits ≡ outcome (Ok m) words
      → test_bank bank ≡ accepted → inputs_of score edits bank ≡ Ok (read_into n rows m words)
  unfolding inputs_by
  all_taken e h b = rw (e, h, b) refl

-- ---- words enough

refused_not : {A : Type 0} (r : Refusal) (n : ℕ) → ◌≡◌ {A = Answer} (Err r) (Ok n) → A
refused_not r n h = let z : ◌≡◌ {A = ℕ} 0 1 = cc in absurd (omega arith)

settled_fits : (score : Bool) (words : ℕ) (a : Answer) (rows lent : List ℕ) (n : ℕ) → (settle score words a rows lent).answer ≡ Ok n → words * n ≤ length lent
unfolding settle test_count
settled_fits score words (Err r) rows lent n h = refused_not r n h
settled_fits score words (Ok count) rows lent n h = pick (score && (eqb count 0 || ltb score_rows.most_rows count)) (ltb (length lent) (words * count)) refl h
  where
    pick : (a b : Bool) → ltb (length lent) (words * count) ≡ b
        → (allowed (cond a (Err Rows) (cond b (Err Space) accepted)) (outcome (Ok count) (rows ++ drop (words * count) lent)) lent).answer ≡ Ok n → words * n ≤ length lent
    pick true b e h = refused_not Rows n h
    pick false true e h = refused_not Space n h
    pick false false e h = let m : count ≡ n = cc in rw (sym m) (ltb-false (length lent) (words * count) e)

pub read_fits : (text lent : List ℕ) (n : ℕ) → (read_of text lent).answer ≡ Ok n → row_words * n ≤ length lent
unfolding read_of read_text score_table
read_fits text lent n h = settled_fits true row_words _ _ lent n h

pub read_edits_fits : (text lent : List ℕ) (n : ℕ) → (read_edits_of text lent).answer ≡ Ok n → edit_words * n ≤ length lent
unfolding read_edits_of read_text edit_table score_table
read_edits_fits text lent n h = settled_fits false edit_words _ _ lent n h

pub zero_words : (n : ℕ) → replicate {A = ℕ} n 0 ≡ zeros n
unfolding zeros
zero_words n = refl

pub zeros_long : {l : List ℕ} (n : ℕ) → l ≡ zeros n → length l ≡ n
unfolding zeros
zeros_long n e = ap length e ∙ length-replicate {A = ℕ} n 0

-- ---- inputs that are taken

pub record Taken (score edits : List ℕ) (bank : ℕ) (given : Inputs) : Type 0 where
  pub answer : (score_text score).answer ≡ Ok given.count
  pub rows : (score_text score).rows ≡ given.rows
  pub bank_long : bank ≡ bytes_of_bank

pub taken : (score edits : List ℕ) (bank : ℕ) (given : Inputs) → inputs_of score edits bank ≡ Ok given → Taken score edits bank given
unfolding inputs_by test_bank
taken score edits bank given h = by (score_text score).answer (edits_text edits).answer (eqb bank bytes_of_bank) refl refl h
  where
    not_taken : (r : Refusal) → ◌≡◌ {A = Result Inputs Refusal} (Err r) (Ok given) → Taken score edits bank given
    not_taken r h = let z : ◌≡◌ {A = ℕ} 0 1 = cc in absurd (omega arith)

    by : (a b : Answer) (q : Bool) → (score_text score).answer ≡ a → eqb bank bytes_of_bank ≡ q
        → inputs_by a (score_text score).rows b (edits_text edits).rows (cond q accepted (Err Bank)) ≡ Ok given → Taken score edits bank given
    by (Err r) b q e f h = not_taken r h
    by (Ok n) (Err r) q e f h = not_taken r h
    by (Ok n) (Ok m) false e f h = not_taken Bank h
    by (Ok n) (Ok m) true e f h =
        let g : read_into n (score_text score).rows m (edits_text edits).rows ≡ given = cc in
        let count : Inputs → Answer = λ i. Ok i.count in
        record {
          answer = e ∙ ap count g;
          rows = ap (λ (i : Inputs). i.rows) g;
          bank_long = eqb-true bank bytes_of_bank f;
        }

pub score_brings : (text : List ℕ) (n : ℕ) → (score_text text).answer ≡ Ok n → Accepted n (zeros (most_rows * row_words)) (score_text text).rows
unfolding text_of
score_brings text n e = pick (test_length text) e
  where
    lent : List ℕ
    lent = zeros (most_rows * row_words)

    pick : (t : Tested) → (allowed t (read_of text lent) lent).answer ≡ Ok n → Accepted n lent (allowed t (read_of text lent) lent).rows
    pick (Ok u) e = accepted_passes text lent n e
    pick (Err r) e = refused_not r n e
