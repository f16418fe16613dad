-- Lines tested one after the other: the first decides, or those that are left.
use Rattle.std.proofs.Common.{◌≡◌, refl, sym, ap, ◌∙◌, Bool, List, [], ◌∷◌, ℕ, suc, ◌+◌, ◌*◌, ◌≤◌, ◌<◌, add-one, arith, length, drop, Ok, Err, true≢false}
use Rattle.std.specs.Result.{is_ok, result_and, IsErrAnd}
use Rattle.score.specs.declared.refusal.Refusal.{Refusal}
use Rattle.score.specs.Numbers.{Tested, accepted}
use Rattle.text.specs.Text.{lines_of, rest_of}
use Rattle.names.specs.declared.Source.{Source}
use Rattle.values.specs.Lines.{test_line}
use Rattle.values.specs.Inner.{field_bytes, first_line}
use Rattle.reader.specs.Reading.{Answer, test_lines}
use Rattle.text.proofs.FirstLine.{some_line, no_line}
use Rattle.values.proofs.Values.{next_line}

-- ---- an answer is a number of rows or a refusal
pub same_count : (a b : ℕ) → ◌≡◌ {A = Answer} (Ok a) (Ok b) → a ≡ b
same_count a b e = cc

pub not_both : (r : Refusal) (n : ℕ) → ◌≡◌ {A = Answer} (Err r) (Ok n) → ⊥
not_both r n e = true≢false (sym (ap is_ok e))

pub not_refused : (r : Refusal) → ◌≡◌ {A = Tested} (Err r) accepted → ⊥
not_refused r e = true≢false (sym (ap is_ok e))

-- what `?` hands on is the error
pub handed_on : (r : Answer) (x : Refusal) → IsErrAnd r (λ e. e ≡ x) → r ≡ Err x
handed_on (Ok n) x h = absurd h
handed_on (Err e) x h = ap Err h

pub tested_on : (t : Tested) (x : Refusal) → IsErrAnd t (λ e. e ≡ x) → t ≡ Err x
tested_on (Ok u) x h = absurd h
tested_on (Err e) x h = ap Err h

-- where a test and what comes after it answer a number, the test passes
pub both_pass : (t : Tested) (a : Answer) (c : ℕ) → result_and t a ≡ Ok c → (t ≡ accepted) × (a ≡ Ok c)
both_pass (Ok u) a c e = (refl, e)
both_pass (Err r) a c e = absurd (not_both r c e)

no_bytes : (text : List ℕ) → length text ≡ 0 → text ≡ []
no_bytes [] e = refl
no_bytes (b ∷ text) e = absurd (omega arith)

module _ (n : ℕ) (sources : List Source) (score : Bool) where
  -- What the lines of a text come to, the first of them number `at`, and the test of the line there.
  abbrev pub tested_from : List ℕ → ℕ → Answer
  tested_from text at = test_lines n sources score at (lines_of text)

  abbrev pub test_at : List ℕ → ℕ → Tested
  test_at text at = test_line n sources score at (first_line text)

  -- Of a text the first `at` lines are tested, and `rest` is left.
  pub record Left (text rest : List ℕ) (at : ℕ) : Type 0 where
    pub counted : at + length rest ≤ length text
    pub left : tested_from text 0 ≡ tested_from rest at

  module _ (text : List ℕ) (at : ℕ) where
    pub none_left : length text ≡ 0 → tested_from text at ≡ Ok at
    unfolding test_lines
    none_left h = rw (no_bytes text h, no_line)

    module _ (h : 0 < length text) where
      pub first_tested : tested_from text at ≡ result_and (test_at text at) (test_lines n sources score (suc at) (rest_of (lines_of text)))
      unfolding test_lines
      first_tested = ap (test_lines n sources score at) (some_line text h)

      pub line_refused : (r : Refusal) → test_at text at ≡ Err r → tested_from text at ≡ Err r
      line_refused r e = first_tested ∙ rw e

      pub line_passes : (some : 0 < n) → test_at text at ≡ accepted → tested_from text at ≡ tested_from (drop (n * field_bytes) text) (at + 1)
      line_passes some z = first_tested ∙ rw (z, next_line n sources score at text some z, add-one)
