-- What each test of the writer says of its refusal, and what is known of a score that passes them.
use Rattle.std.proofs.Common.{◌≡◌, refl, sym, ap, ◌∙◌, Bool, true, false, cond, List, ◌++◌, append_assoc, ℕ, ◌+◌, ◌-◌, ◌≤◌, ◌<◌, arith, lt-ltb, le-ltb, ltb-false, ltb, length, take, drop, take_at, drop_at, drop-drop, Ok, Err}
use Rattle.score.specs.declared.refusal.Refusal.{Refusal}
use Rattle.std.specs.Result.{result_and}
use Rattle.score.specs.declared.refusal.Refusal.TheVariants.{Rows, Paper}
use Rattle.score.specs.Numbers.{Tested, accepted}
use Rattle.score.specs.Rows.{most_rows, wrong_rows}
use Rattle.score.specs.Limits.{limit_refusal}
use Rattle.score.proofs.RowsRight.{RowsRight, rows_right}
use Rattle.text.specs.Text.{line_of, text_of}
use Rattle.reader.proofs.Testing.{not_refused}
use Rattle.writer.specs.Writing.{names_bytes, text_bytes, names, row_lines, score_text, write_refusal, outcome, write_of}
use Rattle.writer.proofs.Lines.{score_text_lem, names_long, text_long}

-- What passes: a count with its row words, rows within their limits, and room for the text.
pub record Writable (count : ℕ) (rows lent : List ℕ) : Type 0 where
  pub counted : RowsRight 1 most_rows count (length rows)
  pub within : limit_refusal count rows ≡ accepted
  pub long : length (score_text count rows) ≡ text_bytes count
  pub room : text_bytes count ≤ length lent

module _ (count : ℕ) (rows lent : List ℕ) where
  abbrev wrong : Bool
  wrong = wrong_rows 1 most_rows count (length rows)

  pub not_counted : wrong ≡ true → Err Rows ≡ write_refusal count rows lent
  unfolding write_refusal
  not_counted w = rw w

  module _ (w : wrong ≡ false) where
    pub right : RowsRight 1 most_rows count (length rows)
    right = rows_right 1 most_rows count (length rows) w

    pub not_within : (r : Refusal) → limit_refusal count rows ≡ Err r → Err r ≡ write_refusal count rows lent
    unfolding write_refusal
    not_within r l = rw (w, l)

    module _ (l : limit_refusal count rows ≡ accepted) where
      pub no_room : length lent < text_bytes count → Err Paper ≡ write_refusal count rows lent
      unfolding write_refusal
      no_room h = rw (w, l, text_long count rows right.rows_room, lt-ltb (length lent) (text_bytes count) h)

      pub passes : text_bytes count ≤ length lent → accepted ≡ write_refusal count rows lent
      unfolding write_refusal
      passes h = rw (w, l, text_long count rows right.rows_room, le-ltb (length lent) (text_bytes count) h)

  pub writable : write_refusal count rows lent ≡ accepted → Writable count rows lent
  unfolding write_refusal
  writable e = go wrong (limit_refusal count rows) (ltb (length lent) (length (score_text count rows))) refl refl refl e
    where
      go : (w : Bool) (l : Tested) (p : Bool) → wrong ≡ w → limit_refusal count rows ≡ l → ltb (length lent) (length (score_text count rows)) ≡ p
          → cond w (Err Rows) (result_and l (cond p (Err Paper) accepted)) ≡ accepted → Writable count rows lent
      go true l p f g h e = absurd (not_refused Rows e)
      go false (Err r) p f g h e = absurd (not_refused r e)
      go false (Ok u) true f g h e = absurd (not_refused Paper e)
      go false (Ok u) false f g h e =
          let long = text_long count rows (right f).rows_room in
          record { counted = right f; within = g; long = long; room = omega (arith, long, ltb-false (length lent) (length (score_text count rows)) h) }

  -- ---- what a call leaves
  pub write_refused : (r : Refusal) → write_refusal count rows lent ≡ Err r → outcome (Err r) lent ≡ write_of count rows lent
  unfolding write_of
  write_refused r e = rw e

  pub write_done : write_refusal count rows lent ≡ accepted
      → outcome (Ok (length (score_text count rows))) (score_text count rows ++ drop (length (score_text count rows)) lent) ≡ write_of count rows lent
  unfolding write_of
  write_done e = rw e

  -- the line of names put at the front, and the lines of the rows behind it
  pub both_put : (x y : List ℕ) (bytes : ℕ) → write_refusal count rows lent ≡ accepted → x ≡ line_of names → y ≡ text_of (row_lines count rows) → bytes ≡ text_bytes count
      → outcome (Ok bytes)
      (take names_bytes (x ++ drop names_bytes lent) ++ (y ++ drop (bytes - names_bytes) (drop names_bytes (x ++ drop names_bytes lent))))
      ≡ write_of count rows lent
  both_put x y bytes e f g b =
      let w = writable e in
      let all : x ++ y ≡ score_text count rows = rw (f, g) (score_text_lem count rows) in
      let long : length (score_text count rows) ≡ bytes = w.long ∙ sym b in
      let n : names_bytes + (bytes - names_bytes) ≡ bytes = omega (arith, b) in
      let k : length x ≡ names_bytes = ap length f ∙ names_long in
      let d : drop (bytes - names_bytes) (drop names_bytes lent) ≡ drop bytes lent = drop-drop (bytes - names_bytes) names_bytes lent ∙ ap (λ (i : ℕ). drop i lent) n in
      rw (take_at x (drop names_bytes lent) names_bytes k, drop_at x (drop names_bytes lent) names_bytes k, d)
      (ap (outcome (Ok bytes)) (sym (append_assoc x y (drop bytes lent)) ∙ ap (λ (z : List ℕ). z ++ drop bytes lent) all)
      ∙ ap (λ (i : ℕ). outcome (Ok i) (score_text count rows ++ drop i lent)) (sym long)
      ∙ write_done e)
