-- The parts of an output put together: the rendering, the lines, and the files of what the edits left. A take that is all 0.
use Rattle.std.proofs.Common.{◌≡◌, refl, ap, ◌∙◌, arith, ℕ, zero, suc, ◌*◌, ◌≤◌, List, [], ◌∷◌, ◌++◌, take, Result}
use Rattle.std.specs.Prelude.{replicate}
use Rattle.score.specs.declared.refusal.Refusal.{Refusal}
use Rattle.rows.specs.declared.Report.{Report}
use Rattle.rows.specs.Rows.{Setup, Take, lent}
use Rattle.refusals.specs.declared.Call.{Call}
use Rattle.refusals.specs.declared.Call.TheVariants.{Render}
use Rattle.refusals.specs.Calls.{count_after}
use Rattle.take.specs.Take.{outcome, call_of}
use Rattle.retakes.specs.Retakes.{Reel, reel, next, after}
use Rattle.voice.specs.Voice.{kept_count}
use Rattle.inputs.specs.Inputs.{zeros}
use Rattle.outputs.specs.Lines.{heading}
use Rattle.outputs.specs.Files.{File, files_of}
use Rattle.retake_lib.specs.Program.{frames, blank, Output, edit_lines, played}
use Rattle.retake_lib.specs.Edits.{EditsDone}
use Rattle.retake_lib.proofs.Editing.{next_left}

pub played_is : (s : Setup) (n : ℕ) (rows : List ℕ) (t : Take) (es : List Call) {a : Result Report Refusal} {t' : Take} {o : Reel} {none printed printed' : List ℕ} {files : List File}
    → outcome a rows t' ≡ call_of s n rows t Render → none ≡ [] → printed ≡ none ++ heading → EditsDone s es (reel n rows t') o printed printed'
    → files ≡ files_of o.left.out o.left.aux → ◌≡◌ {A = Output} (record { printed = printed'; files = files }) (played s n rows t es)
unfolding played count_after
played_is s n rows t es {t' = t'} {printed' = printed'} {files = files} r e h d f =
    let q : reel n rows t' ≡ next s (reel n rows t) Render = next_left s n rows t Render refl r in
    let p : printed' ≡ heading ++ edit_lines s (next s (reel n rows t) Render) es =
    d.lines ∙ ap (λ (x : List ℕ). x ++ edit_lines s (reel n rows t') es) (h ∙ ap (λ (x : List ℕ). x ++ heading) e) ∙ ap (λ (m : Reel). heading ++ edit_lines s m es) q in
    let left = d.left ∙ ap (λ (m : Reel). after s m es) q in
    let g = f ∙ ap (λ (m : Reel). files_of m.left.out m.left.aux) left in
    rw (p, g) refl

-- ---- parts of zeros

take_replicate : (k n : ℕ) → k ≤ n → take {A = ℕ} k (replicate n 0) ≡ replicate k 0
take_replicate zero n h = refl
take_replicate (suc k) zero h = absurd (omega arith)
take_replicate (suc k) (suc n) h = ap (λ (l : List ℕ). 0 ∷ l) (take_replicate k n (omega arith))

pub part_of_zeros : (n k : ℕ) → k ≤ n → take {A = ℕ} k (replicate n 0) ≡ zeros k
unfolding zeros
part_of_zeros n k h = take_replicate k n h

pub played_blank : (s : Setup) (n : ℕ) (rows : List ℕ) (es : List Call) {out aux kept : List ℕ} {w : Output}
    → out ≡ zeros (n * frames) → aux ≡ zeros (n * frames) → kept ≡ zeros (n * kept_count)
    → w ≡ played s n rows (lent out aux kept) es → w ≡ played s n rows (blank n) es
played_blank s n rows es o a k h = rw (o, a, k) at h
