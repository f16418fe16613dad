-- The program's own rendering is never refused; so, by demand 3, its files hold the fresh rendering of the score after the edits.
use Rattle.std.proofs.Common.{◌≡◌, refl, sym, ap, ◌∙◌, arith, ℕ, zero, suc, ◌*◌, ◌≤◌, ◌<◌, false, ltb, List, [], ◌∷◌, ◌++◌, length, take, drop, append-nil, take-append-drop, length-take-le, IsOk}
use Rattle.std.proofs.lemmas.Bool.{le-ltb}
use Rattle.std.proofs.lemmas.List.{length-replicate}
use Rattle.formats.specs.Formats.{samples_of}
use Rattle.oscillator.specs.Bank.{bank_length}
use Rattle.voice.specs.Voice.{kept_count}
use Rattle.score.specs.Rows.{row_words, wrong_rows}
use Rattle.score.specs.Rows as score
use Rattle.score.specs.Limits.{limit_refusal}
use Rattle.score.specs.Numbers.{accepted}
use Rattle.score.proofs.FirstBad.{limit_of_take}
use Rattle.reader.specs.Reading.{Accepted}
use Rattle.rows.specs.Rows.{Setup, Take}
use Rattle.refusals.specs.declared.Call.TheVariants.{Render}
use Rattle.refusals.specs.Calls.{count_after, rows_after, least_count, largest_count}
use Rattle.refusals.specs.Refusals.{settings_refusal, short_take, lengths_refusal, wrong_position, full, score_refusal, refusal_of}
use Rattle.take.specs.Take.{done_of, call_of}
use Rattle.retakes.specs.Retakes.{take_of, fresh_of, Reel, reel, refusal_in, called, next, after, Five, Fives, cut}
use Rattle.retakes.proofs.Retakes.{demand_3}
use Rattle.inputs.specs.Inputs.{most_rows, bytes_of_bank, zeros}
use Rattle.inputs.proofs.Texts.{taken, score_brings}
use Rattle.outputs.specs.Files.{files_of}
use Rattle.retake_lib.specs.Program.{frames, setup_of, blank, edits_from, played, output_of, program, FilesFresh}
use Rattle.retake_lib.proofs.Exact.{Exact, exact_begins, exact_rendered, exact_after}

-- ---- the samples of a bank

pub samples_long : (n : ℕ) (bytes : List ℕ) → length bytes ≡ n * 2 → length (samples_of bytes) ≡ n
unfolding samples_of
samples_long zero [] e = refl
samples_long zero (low ∷ bytes) e = absurd (omega arith)
samples_long (suc n) [] e = absurd (omega arith)
samples_long (suc n) (low ∷ []) e = absurd (omega arith)
samples_long (suc n) (low ∷ high ∷ bytes) e = ap suc (samples_long n bytes (omega arith))

-- ---- the rendering

enough : (k : ℕ) → ltb k k ≡ false
enough k = le-ltb k k (omega arith)

right_rows : (n : ℕ) → 0 < n → n ≤ score.most_rows → wrong_rows 1 score.most_rows n (n * row_words) ≡ false
right_rows n some few = rw (le-ltb n 1 (omega arith), le-ltb score.most_rows n few, enough (n * row_words)) refl

long_take : (n : ℕ) → short_take n frames (n * frames) (n * frames) (n * kept_count) ≡ false
long_take n = rw (enough (n * frames), enough (n * kept_count)) refl

module _ (bank rows : List ℕ) (n : ℕ) (b : length bank ≡ bytes_of_bank) (g : Accepted n (zeros (most_rows * row_words)) rows) where
  score_long : length (take (n * row_words) rows) ≡ n * row_words
  score_long = length-take-le (n * row_words) rows (omega (arith, g.long, g.space))

  limits_pass : limit_refusal n (take (n * row_words) rows) ≡ accepted
  limits_pass = limit_of_take n rows ∙ g.passes

  settings_pass : settings_refusal (setup_of bank) ≡ accepted
  unfolding settings_refusal
  settings_pass = rw (samples_long bank_length bank b) refl

  lent_pass : lengths_refusal (setup_of bank) n (take (n * row_words) rows) (blank n) Render ≡ accepted
  unfolding lengths_refusal least_count largest_count zeros
  lent_pass =
      rw (score_long, length-replicate {A = ℕ} (n * frames) 0, length-replicate {A = ℕ} (n * kept_count) 0, right_rows n g.some g.few, long_take n) refl

  abbrev start : Reel
  start = reel n (take (n * row_words) rows) (blank n)

  not_refused : refusal_in (setup_of bank) start Render ≡ accepted
  unfolding refusal_of score_refusal wrong_position full count_after rows_after
  not_refused = rw (settings_pass, lent_pass, limits_pass) refl

  render_passes : IsOk (called (setup_of bank) start Render).answer
  unfolding call_of done_of
  render_passes = rw not_refused refl

-- ---- nothing past the count

zeros_long : (n : ℕ) → length (zeros n) ≤ n
unfolding zeros
zeros_long n = omega (arith, length-replicate {A = ℕ} n 0)

-- the samples of a take of just its score's rows are all there are
samples_are : (s : Setup) (n : ℕ) (o : Reel) (t : Take) → Exact s n o → cut s o.count o.left ≡ t → files_of o.left.out o.left.aux ≡ files_of t.out t.aux
samples_are s n o t x e =
    let c : cut s n o.left ≡ t = sym (ap (λ (m : ℕ). cut s m o.left) x.count_is) ∙ e in
    rw (whole o.left.out x.out, whole o.left.aux x.aux) (ap (λ (u : Take). files_of u.out u.aux) c)
  where
    whole : (l : List ℕ) → drop (n * s.frames) l ≡ [] → l ≡ take (n * s.frames) l
    whole l z = sym (take-append-drop (n * s.frames) l) ∙ ap (λ (y : List ℕ). take (n * s.frames) l ++ y) z ∙ append-nil _

-- ---- the claim

fives : (m : ℕ) (words : List ℕ) → Fives (edits_from m words)
unfolding edits_from Five Fives
fives zero words = tt
fives (suc m) words = (refl, fives m _)

pub files_fresh : FilesFresh
unfolding program output_of played after
files_fresh score edits bank given e =
    let s = setup_of bank in
    let n = given.count in
    let t = taken score edits (length bank) given e in
    let g : Accepted n (zeros (most_rows * row_words)) given.rows = rw t.rows at (score_brings score n t.answer) in
    let o = start bank given.rows n t.bank_long g in
    let p = demand_3 s o (edits_from given.edit_count given.edits) (fives given.edit_count given.edits) (render_passes bank given.rows n t.bank_long g) in
    let x = exact_after s n given.edit_count given.edits (next s o Render) (exact_rendered s n o (exact_begins s n _ (blank n) (zeros_long (n * frames)) (zeros_long (n * frames)))) in
    rw e (samples_are s n (after s (next s o Render) (edits_from given.edit_count given.edits)) _ x p.below
    ∙ ap (λ (q : Reel). files_of (take_of (fresh_of s q)).out (take_of (fresh_of s q)).aux) p.all)
