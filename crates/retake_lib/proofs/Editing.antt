-- Edits one after the other: what is left to edit and to print, after what was edited and printed, is the whole.
use Rattle.std.proofs.Common.{◌≡◌, refl, sym, ap, ◌∙◌, arith, ℕ, zero, suc, ◌+◌, ◌*◌, ◌/◌, ◌<◌, ◌≤◌, add-one, Bool, true, false, cond, List, [], ◌∷◌, ◌++◌, append_assoc, append-nil, length, map, get_or, take, drop, drop_of_length-le, is_ok, Result}
use Rattle.std.proofs.Math.Seq.{drop-cons}
use Rattle.std.specs.Simd.{first_chunks}
use Rattle.reader.specs.Reading.{edit_words}
use Rattle.score.specs.declared.refusal.Refusal.{Refusal}
use Rattle.rows.specs.declared.Report.{Report}
use Rattle.rows.specs.Rows.{Setup, Take}
use Rattle.refusals.specs.declared.Call.{Call}
use Rattle.refusals.specs.Calls.{count_after, position}
use Rattle.take.specs.Take.{Outcome, outcome, call_of}
use Rattle.retakes.specs.Retakes.{Reel, reel, called, next, after}
use Rattle.outputs.specs.Lines.{edit_line}
use Rattle.retake_lib.specs.Program.{edit_from, edit_lines, edits_from}
use Rattle.retake_lib.specs.Edits.{EditDone, EditsDone}

-- ---- the row count

-- a rendering and an edit leave it, accepted or refused
pub next_is : (s : Setup) (o : Reel) (c : Call) → count_after o.count c ≡ o.count → next s o c ≡ reel o.count (called s o c).rows (called s o c).left
unfolding next
next_is s o c e = ap (λ (n : ℕ). reel n (called s o c).rows (called s o c).left) (by (is_ok (called s o c).answer))
  where
    by : (b : Bool) → cond b (count_after o.count c) o.count ≡ o.count
    by true = e
    by false = refl

pub next_left : (s : Setup) (n : ℕ) (rows : List ℕ) (t : Take) (c : Call) {a : Result Report Refusal} {rows' : List ℕ} {t' : Take} → count_after n c ≡ n
    → outcome a rows' t' ≡ call_of s n rows t c → reel n rows' t' ≡ next s (reel n rows t) c
next_left s n rows t c e h = ap (λ (o : Outcome). reel n o.rows o.left) h ∙ sym (next_is s (reel n rows t) c e)

-- ---- one edit

pub edit_done : (s : Setup) (n : ℕ) (rows : List ℕ) (t : Take) (w : List ℕ) {answer : Result Report Refusal} {rows' : List ℕ} {t' : Take} {printed printed' : List ℕ}
    → outcome answer rows' t' ≡ call_of s n rows t (edit_from w) → printed' ≡ printed ++ edit_line (get_or w 0 0) answer
    → EditDone s (edit_from w) (reel n rows t) (reel n rows' t') printed printed'
unfolding count_after position
edit_done s n rows t w h p = record { left = next_left s n rows t (edit_from w) refl h; line = rw (sym (ap (λ (o : Outcome). o.answer) h)) p }

-- ---- all edits

-- of the edits, those from edit k on are left to make and to print
pub record Left (s : Setup) (edits : List (List ℕ)) (o₀ : Reel) (printed₀ : List ℕ) (o : Reel) (printed : List ℕ) (k : ℕ) : Type 0 where
  pub done : List ℕ
  pub written : printed ≡ printed₀ ++ done
  pub lines : done ++ edit_lines s o (map edit_from (drop k edits)) ≡ edit_lines s o₀ (map edit_from edits)
  pub left : after s o (map edit_from (drop k edits)) ≡ after s o₀ (map edit_from edits)

pub begins : (s : Setup) (edits : List (List ℕ)) (o : Reel) (printed : List ℕ) → Left s edits o printed o printed 0
begins s edits o printed = record { done = []; written = sym (append-nil printed); lines = refl; left = refl }

module _ {s : Setup} {edits : List (List ℕ)} {o₀ : Reel} {printed₀ : List ℕ} {o : Reel} {printed : List ℕ} {k : ℕ}
    (so_far : Left s edits o₀ printed₀ o printed k) where
  pub goes_on : {o' : Reel} {printed' : List ℕ} → k < length edits → EditDone s (edit_from (get_or edits k [])) o o' printed printed'
      → Left s edits o₀ printed₀ o' printed' (k + 1)
  unfolding edit_lines after
  goes_on h d =
      let e = edit_from (get_or edits k []) in
      let line = edit_line (position e) (called s o e).answer in
      let next_edit : drop k edits ≡ get_or edits k [] ∷ drop (suc k) edits = drop-cons edits k [] h in
      record {
        done = so_far.done ++ line;
        written = d.line ∙ ap (λ (x : List ℕ). x ++ line) so_far.written ∙ append_assoc printed₀ so_far.done line;
        lines = rw (add-one, append_assoc, d.left) (rw next_edit at so_far.lines);
        left = rw (add-one, d.left) (rw next_edit at so_far.left);
      }

  pub ends : k ≡ length edits → EditsDone s (map edit_from edits) o₀ o printed₀ printed
  unfolding edit_lines after
  ends l =
      let none : drop k edits ≡ [] = drop_of_length-le edits {i = k} (omega arith) in
      record { left = rw none at so_far.left; lines = rw (sym (rw none at so_far.lines), append-nil) so_far.written }

-- ---- the edits of a run of words

six : (w : List ℕ) → edit_from (take 6 w) ≡ edit_from w
six [] = refl
six (a ∷ []) = refl
six (a ∷ b ∷ []) = refl
six (a ∷ b ∷ c ∷ []) = refl
six (a ∷ b ∷ c ∷ d ∷ []) = refl
six (a ∷ b ∷ c ∷ d ∷ e ∷ []) = refl
six (a ∷ b ∷ c ∷ d ∷ e ∷ f ∷ w) = refl

edits_are : (count m : ℕ) (words : List ℕ) → count ≤ m → map edit_from (take count (first_chunks edit_words m words)) ≡ edits_from count words
unfolding edits_from
edits_are zero m words h = refl
edits_are (suc n) zero words h = absurd (omega arith)
edits_are (suc n) (suc m) words h = rw (six words, edits_are n m (drop edit_words words) (omega arith)) refl

pub edits_of : (count : ℕ) (words : List ℕ) (chunks : List (List ℕ)) → chunks ≡ first_chunks edit_words (length words / edit_words) words
    → count * edit_words ≤ length words → map edit_from (take count chunks) ≡ edits_from count words
edits_of count words chunks e h = rw e (edits_are count (length words / edit_words) words (omega arith))
