-- A call that leaves the row count writes nothing past the count: so a take of just the rows of its score stays one, and its samples fit a file.
use Rattle.std.proofs.Common.{◌≡◌, refl, sym, ap, ◌∙◌, arith, ℕ, zero, suc, ◌*◌, ◌≤◌, List, [], length, drop, length-drop, drop_of_length-le, ◌⊎◌, inl, inr, Result, Ok, Err}
use Rattle.score.specs.Numbers.{Tested, accepted}
use Rattle.score.specs.declared.refusal.Refusal.{Refusal}
use Rattle.rows.specs.declared.Report.{Report}
use Rattle.rows.specs.Rows.{Setup, Take}
use Rattle.refusals.specs.declared.Call.{Call}
use Rattle.refusals.specs.declared.Call.TheVariants.{Render}
use Rattle.refusals.specs.Calls.{count_after}
use Rattle.take.specs.Take.{outcome, call_of}
use Rattle.retakes.specs.Retakes.{Reel, reel, refusal_in, next, after, Five, Unchanging, Right, Retaken}
use Rattle.retakes.proofs.Doing.{unchanging_or_not, retakes}
use Rattle.inputs.specs.Inputs.{most_rows}
use Rattle.retake_lib.specs.Program.{frames, edits_from}
use Rattle.retake_lib.specs.Edits.{EditsDone}
use Rattle.retake_lib.proofs.Editing.{next_is, next_left}

-- a take of just the n rows of its score
pub record Exact (s : Setup) (n : ℕ) (o : Reel) : Type 0 where
  pub count_is : o.count ≡ n
  pub out : drop (n * s.frames) o.left.out ≡ []
  pub aux : drop (n * s.frames) o.left.aux ≡ []

pub exact_next : (s : Setup) (n : ℕ) (o : Reel) (c : Call) → Five c → count_after o.count c ≡ o.count → Exact s n o → Exact s n (next s o c)
exact_next s n o c five e x = go (refusal_in s o c) refl
  where
    right : Right s o c (Retaken s o c)
    right = retakes s o c five

    accepts : refusal_in s o c ≡ accepted → Unchanging o c ⊎ (Unchanging o c → ⊥) → Exact s n (next s o c)
    accepts z (inl u) = rw (right.unchanged z u).1 x
    accepts z (inr u) =
        let past = (right.changed z u).writes.past in
        let same : (next s o c).count ≡ n = ap (λ (q : Reel). q.count) (next_is s o c e) ∙ x.count_is in
        record {
          count_is = same;
          out = sym (ap (λ (m : ℕ). drop (m * s.frames) (next s o c).left.out) same) ∙ past.out ∙ ap (λ (m : ℕ). drop (m * s.frames) o.left.out) same ∙ x.out;
          aux = sym (ap (λ (m : ℕ). drop (m * s.frames) (next s o c).left.aux) same) ∙ past.aux ∙ ap (λ (m : ℕ). drop (m * s.frames) o.left.aux) same ∙ x.aux;
        }

    go : (r : Tested) → refusal_in s o c ≡ r → Exact s n (next s o c)
    go (Ok u) h = accepts h (unchanging_or_not s o c)
    go (Err r) h = rw (right.refuses r h).1 x

pub exact_after : (s : Setup) (n m : ℕ) (words : List ℕ) (o : Reel) → Exact s n o → Exact s n (after s o (edits_from m words))
unfolding edits_from after count_after Five
exact_after s n zero words o x = x
exact_after s n (suc m) words o x = exact_after s n m _ _ (exact_next s n o _ refl refl x)

-- a take that is as long as its rows
pub exact_begins : (s : Setup) (n : ℕ) (rows : List ℕ) (t : Take) → length t.out ≤ n * s.frames → length t.aux ≤ n * s.frames → Exact s n (reel n rows t)
exact_begins s n rows t o a = record { count_is = refl; out = drop_of_length-le t.out {i = n * s.frames} o; aux = drop_of_length-le t.aux {i = n * s.frames} a }

pub exact_rendered : (s : Setup) (n : ℕ) (o : Reel) → Exact s n o → Exact s n (next s o Render)
unfolding Five count_after
exact_rendered s n o x = exact_next s n o Render tt refl x

within : (k : ℕ) (l : List ℕ) → drop k l ≡ [] → length l ≤ k
within k l z = omega (arith, length-drop k l, ap length z)

pub samples_fit : (s : Setup) (n : ℕ) (rows : List ℕ) (t : Take) (m : ℕ) (words : List ℕ) {a : Result Report Refusal} {t' : Take} {o : Reel} {printed printed' : List ℕ}
    → length t.out ≤ n * s.frames → length t.aux ≤ n * s.frames → n ≤ most_rows → s.frames ≡ frames → outcome a rows t' ≡ call_of s n rows t Render
    → EditsDone s (edits_from m words) (reel n rows t') o printed printed'
    → (length o.left.out * 4 ≤ most_rows * frames * 4) × (length o.left.aux * 4 ≤ most_rows * frames * 4)
unfolding count_after
samples_fit s n rows t m words {t' = t'} {o = o} long long' few e r d =
    let q : reel n rows t' ≡ next s (reel n rows t) Render = next_left s n rows t Render refl r in
    let first : Exact s n (reel n rows t') = rw q (exact_rendered s n (reel n rows t) (exact_begins s n rows t long long')) in
    let last : Exact s n o = rw d.left (exact_after s n m words (reel n rows t') first) in
    let k : n * s.frames ≡ n * frames = ap (λ (f : ℕ). n * f) e in
    (omega (arith, k, few, within (n * s.frames) o.left.out last.out), omega (arith, k, few, within (n * s.frames) o.left.aux last.aux))
