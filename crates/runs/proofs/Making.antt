-- A row is made: its block is the voice's by the definitions' own arguments, and its words come back into the take as `put`.
use Rattle.std.proofs.Common.{◌≡◌, sym, ap, ◌∙◌, List, Bool, ℕ, ◌+◌, ◌-◌, ◌*◌, ◌≤◌, length, take, drop, arith}
use Rattle.lists.specs.Lists.{put, same}
use Rattle.lists.proofs.Copying.{part_long}
use Rattle.lists.proofs.Places.{part_end, put_same_length}
use Rattle.utils.specs.Rendered.{most_frames, Renders}
use Rattle.utils.specs.declared.holds.Holds.{Holds}
use Rattle.utils.specs.declared.engine.EngineParameters.{EngineParameters}
use Rattle.voice.specs.declared.State.{State}
use Rattle.voice.specs.Voice.{kept_count, voice_of, kept_words, state_of, rendered}
use Rattle.score.specs.Rows.{most_rows, row_at}
use Rattle.rows.specs.Rows.{Setup, Take, lent, fresh_start, kept_at, words_before, parameters_of, start_of, row_from, row_by}
use Rattle.runs.specs.Inner.{Blocks, Room, Makes, RowDone}

-- A block that the voice rendered, told the row's start and parameters, is the row's.
pub makes : (s : Setup) (row before : List ℕ) (n : ℕ) (st : State) (p : EngineParameters) (state : State) (holds : Holds) (out aux kept : List ℕ)
    → n ≡ s.frames → st ≡ start_of (fresh_start s) row (state_of (voice_of s.instrument) before) → p ≡ parameters_of s.rate row
    → Renders (rendered s.bank s.map n p st) n state holds out aux → kept ≡ kept_words state → Makes s.frames (row_by s row before) holds out aux kept
unfolding row_by row_from
makes s row before n st p state holds out aux kept en es ep r ek =
    rw (sym es, sym ep)
    (record {
      out_is = rw en at r.out_is;
      aux_is = rw en at r.aux_is;
      kept_is = ek ∙ ap kept_words (rw en at r.state_is);
      holds_is = rw en at r.holds_is;
      holds_most = rw en at r.holds_most;
    })

-- What is lent of row k's place is a block's.
pub blocks : (frames k : ℕ) (rows : List ℕ) (t : Take) → Room frames k rows t
    → Blocks frames (take (k * frames + frames - k * frames) (drop (k * frames) t.out)) (take (k * frames + frames - k * frames) (drop (k * frames) t.aux))
blocks frames k rows t r =
    record {
      frames_most = r.frames_most;
      out_long = part_long t.out (k * frames) frames r.out_room;
      aux_long = part_long t.aux (k * frames) frames r.aux_room;
    }

-- Its last place is a small number.
pub place_most : (frames k : ℕ) (rows : List ℕ) (t : Take) → Room frames k rows t → k * frames + frames ≤ most_rows * most_frames
place_most frames k rows t r = omega (arith, part_end k most_rows frames r.row_most, r.frames_most)

-- A row that was made, written and kept.
pub row_done : (s : Setup) (rows : List ℕ) (k : ℕ) (t : Take) (row before : List ℕ) (holds : Holds) (b : Bool) (out aux new out' aux' kept' : List ℕ)
    → row ≡ row_at rows k → before ≡ words_before s t.kept k → Makes s.frames (row_by s row before) holds out aux new → Room s.frames k rows t
    → out' ≡ put t.out (k * s.frames) out → length out ≡ s.frames → aux' ≡ put t.aux (k * s.frames) aux → length aux ≡ s.frames
    → b ≡ same (kept_at t.kept k) new → kept' ≡ put t.kept (k * kept_count) new → length kept' ≡ length t.kept → RowDone s rows k t holds b (lent out' aux' kept')
row_done s rows k t row before holds b out aux new out' aux' kept' er eb m r eo lo ea la es ek lk =
    record {
      holds_is = rw (er, eb) at m.holds_is;
      holds_most = m.holds_most;
      same_is = es ∙ ap (λ (x : List ℕ). same (kept_at t.kept k) x) (rw (er, eb) at m.kept_is);
      left_is = rw (eo, ea, ek, rw (er, eb) at m.out_is, rw (er, eb) at m.aux_is, rw (er, eb) at m.kept_is);
      lengths = record {
        out_long = ap length eo ∙ put_same_length t.out out (k * s.frames) (omega (arith, lo, r.out_room));
        aux_long = ap length ea ∙ put_same_length t.aux aux (k * s.frames) (omega (arith, la, r.aux_room));
        kept_long = lk;
      };
    }
