-- A row's words put into a take that may be longer: they stand there, the other rows are as they were, and no length changes.
use Rattle.std.proofs.Common.{ap, ◌∙◌, ◌≡◌, List, ◌⊎◌, ℕ, ◌+◌, ◌*◌, ◌≤◌, ◌<◌, arith, length}
use Rattle.lists.proofs.Places.{Outside, part_end, put_part, put_outside, put_long, part_outside, outside_then}
use Rattle.score.specs.Rows.{row_words}
use Rattle.voice.specs.Voice.{kept_count}
use Rattle.voice.proofs.Laws as voice
use Rattle.rows.specs.Rows.{Setup, Take, lent, row_from, row_by, put_words}
use Rattle.runs.specs.Inner.{SameLengths}
use Rattle.retakes.specs.Retakes.{words_at}

-- The buffers hold n rows.
pub record Roomy (s : Setup) (n : ℕ) (rows : List ℕ) (t : Take) : Type 0 where
  pub rows_room : n * row_words ≤ length rows
  pub out_room : n * s.frames ≤ length t.out
  pub aux_room : n * s.frames ≤ length t.aux
  pub kept_room : n * kept_count ≤ length t.kept

pub lengths_then : (t u v : Take) → SameLengths t u → SameLengths u v → SameLengths t v
lengths_then t u v p q =
    record {
      out_long = omega (arith, p.out_long, q.out_long);
      aux_long = omega (arith, p.aux_long, q.aux_long);
      kept_long = omega (arith, p.kept_long, q.kept_long);
    }

pub roomy_still : (s : Setup) (n : ℕ) (rows : List ℕ) (t u : Take) → SameLengths t u → Roomy s n rows t → Roomy s n rows u
roomy_still s n rows t u l r =
    record {
      rows_room = r.rows_room;
      out_room = omega (arith, r.out_room, l.out_long);
      aux_room = omega (arith, r.aux_room, l.aux_long);
      kept_room = omega (arith, r.kept_room, l.kept_long);
    }

-- A take is its three lists.
pub take_is : (t u : Take) → t.out ≡ u.out → t.aux ≡ u.aux → t.kept ≡ u.kept → t ≡ u
take_is t u o a k =
    ap (λ (x : List ℕ). lent x t.aux t.kept) o ∙ ap (λ (x : List ℕ). lent u.out x t.kept) a ∙ ap (λ (x : List ℕ). lent u.out u.aux x) k

-- Outside rows k to j - 1 a take is as it was.
pub record Elsewhere (frames k j : ℕ) (old new : Take) : Type 0 where
  pub out : Outside frames k j old.out new.out
  pub aux : Outside frames k j old.aux new.aux
  pub kept : Outside kept_count k j old.kept new.kept

-- ---- A row.

pub record RowSized (frames : ℕ) (w : Take) : Type 0 where
  pub out_long : length w.out ≡ frames
  pub aux_long : length w.aux ≡ frames
  pub kept_long : length w.kept ≡ kept_count

pub row_sized : (s : Setup) (row before : List ℕ) → RowSized s.frames (row_by s row before).words
unfolding row_by row_from
row_sized s row before = record { out_long = voice.out_long _ _ _ _ _; aux_long = voice.aux_long _ _ _ _ _; kept_long = voice.kept_long _ }

module _ (s : Setup) (n k : ℕ) (rows : List ℕ) (t w : Take) (z : Roomy s n rows t) (h : k < n) (v : RowSized s.frames w) where
  out_fits : k * s.frames + s.frames ≤ length t.out
  out_fits = omega (arith, part_end k n s.frames h, z.out_room)

  aux_fits : k * s.frames + s.frames ≤ length t.aux
  aux_fits = omega (arith, part_end k n s.frames h, z.aux_room)

  kept_fits : k * kept_count + kept_count ≤ length t.kept
  kept_fits = omega (arith, part_end k n kept_count h, z.kept_room)

  pub put_lengths : SameLengths t (put_words s.frames t k w)
  put_lengths =
      record {
        out_long = put_long s.frames k t.out w.out out_fits v.out_long;
        aux_long = put_long s.frames k t.aux w.aux aux_fits v.aux_long;
        kept_long = put_long kept_count k t.kept w.kept kept_fits v.kept_long;
      }

  pub put_elsewhere : Elsewhere s.frames k (k + 1) t (put_words s.frames t k w)
  put_elsewhere =
      record {
        out = put_outside s.frames k t.out w.out out_fits v.out_long;
        aux = put_outside s.frames k t.aux w.aux aux_fits v.aux_long;
        kept = put_outside kept_count k t.kept w.kept kept_fits v.kept_long;
      }

  pub put_words_back : words_at s.frames (put_words s.frames t k w) k ≡ w
  put_words_back =
      rw (
        put_part s.frames k t.out w.out out_fits v.out_long,
        put_part s.frames k t.aux w.aux aux_fits v.aux_long,
        put_part kept_count k t.kept w.kept kept_fits v.kept_long,
      )

-- ---- Rows elsewhere.

pub elsewhere_then : (frames k j : ℕ) (a b c : Take) → k < j → Elsewhere frames k (k + 1) a b → Elsewhere frames (k + 1) j b c → Elsewhere frames k j a c
elsewhere_then frames k j a b c h p q =
    record {
      out = outside_then frames k j _ _ _ h p.out q.out;
      aux = outside_then frames k j _ _ _ h p.aux q.aux;
      kept = outside_then kept_count k j _ _ _ h p.kept q.kept;
    }

pub words_elsewhere : (frames k j : ℕ) (old new : Take) → Elsewhere frames k j old new → (i : ℕ) → (i < k) ⊎ (j ≤ i)
    → words_at frames new i ≡ words_at frames old i
words_elsewhere frames k j old new e i h =
    rw (
      part_outside frames k j old.out new.out e.out i h,
      part_outside frames k j old.aux new.aux e.aux i h,
      part_outside kept_count k j old.kept new.kept e.kept i h,
    )
