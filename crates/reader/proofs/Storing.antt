-- Rows stored one after the other: what is stored and what the lines that are left give is all, and the words past all rows stay.
use Rattle.std.proofs.Common.{◌≡◌, refl, sym, ap, ◌∙◌, ⊎_elim, Bool, true, false, List, [], ◌∷◌, ◌++◌, append-nil, append_assoc, ℕ, suc, ◌+◌, ◌-◌, ◌*◌, ◌≤◌, ◌<◌, le_refl, mul-suc, mul-le-mul_left, add-one, arith, length, take, drop, length-append, length-drop, take-append-drop, length-take-le, take_at, drop_at, drop-drop, Ok}
use Rattle.score.specs.Numbers.{accepted}
use Rattle.names.specs.declared.Source.{Source}
use Rattle.text.specs.Text.{Line, lines_of}
use Rattle.values.specs.Lines.{holds_words, row_of, rows_of, test_line}
use Rattle.values.specs.Inner.{field_bytes, first_line}
use Rattle.reader.specs.Reading.{test_lines}
use Rattle.lists.proofs.Cases.{le_or_lt}
use Rattle.text.proofs.FirstLine.{some_line}
use Rattle.values.proofs.Values.{value, next_line, line_fits}
use Rattle.reader.proofs.Testing.{same_count, both_pass, tested_from, test_at, first_tested, none_left, line_passes}

-- each line counts
pub counted : (n : ℕ) (sources : List Source) (score : Bool) (lines : List Line) (at c : ℕ) → test_lines n sources score at lines ≡ Ok c → c ≡ at + length lines
unfolding test_lines
counted n sources score [] at c e = let q = same_count at c e in omega arith
counted n sources score (line ∷ lines) at c e =
    let p = both_pass (test_line n sources score at line) (test_lines n sources score (suc at) lines) c e in
    omega (arith, counted n sources score lines (suc at) c p.1)

no_more : (lines : List Line) → length lines ≡ 0 → lines ≡ []
no_more [] e = refl
no_more (line ∷ lines) e = absurd (omega arith)

-- ---- the invariant: of rows of `width` words on lines of n names, k are stored, and `rest` is left of the text
pub record Stored (n width : ℕ) (sources : List Source) (text rest : List ℕ) (lines : ℕ) (rows₀ rows : List ℕ) (k : ℕ) : Type 0 where
  pub upto : k ≤ lines
  pub inside : length rest ≤ length text
  pub long : length rows ≡ length rows₀
  pub tested : tested_from n sources false rest k ≡ Ok lines
  pub stored : take (width * k) rows ++ rows_of sources (lines_of rest) ≡ rows_of sources (lines_of text)
  pub kept : drop (width * lines) rows ≡ drop (width * lines) rows₀

module _ (n width : ℕ) (sources : List Source) (text : List ℕ) (lines : ℕ) (rows₀ : List ℕ) where
  pub stores : tested_from n sources false text 0 ≡ Ok lines → Stored n width sources text text lines rows₀ rows₀ 0
  stores t =
      let z : width * 0 ≡ 0 = omega arith in
      record { upto = omega arith; inside = le_refl (length text); long = refl; tested = t; stored = rw z refl; kept = refl }

  pub all_stored : (rest rows : List ℕ) (k : ℕ) → Stored n width sources text rest lines rows₀ rows k → lines ≤ k → rows ≡ rows_of sources (lines_of text) ++ drop (width * lines) rows₀
  unfolding rows_of
  all_stored rest rows k s h =
      let e : k ≡ lines = omega (arith, s.upto) in
      let m = no_more (lines_of rest) (omega (arith, counted n sources false (lines_of rest) k lines s.tested)) in
      let t = rw (m, append-nil, e) at s.stored in
      sym (take-append-drop (width * lines) rows)
      ∙ ap (λ (l : List ℕ). l ++ drop (width * lines) rows) t
      ∙ ap (λ (l : List ℕ). rows_of sources (lines_of text) ++ l) s.kept

  module _ (enough : width * lines ≤ length rows₀) (some : 0 < n) where
    module _ (rest rows : List ℕ) (k : ℕ) (s : Stored n width sources text rest lines rows₀ rows k) (h : k < lines) where
      line_there : 0 < length rest
      line_there =
          ⊎_elim
          (λ l. absurd (omega (arith, same_count k lines (sym (none_left n sources false rest k (omega arith)) ∙ s.tested))))
          (λ l. l)
          (le_or_lt (length rest) 0)

      pub passes : test_at n sources false rest k ≡ accepted
      passes = (both_pass _ _ lines (sym (first_tested n sources false rest k line_there) ∙ s.tested)).0

      pub words_there : holds_words n (first_line rest) ≡ true
      words_there = value n sources k (first_line rest) false passes

      pub next_fits : n * field_bytes ≤ length rest
      next_fits = line_fits n sources false k rest some passes

      pub part_fits : width * k + width ≤ length rows
      part_fits = omega (arith, s.long, mul-suc width k, mul-le-mul_left width h)

      rows_there : rows_of sources (lines_of rest) ≡ row_of sources (first_line rest) ++ rows_of sources (lines_of (drop (n * field_bytes) rest))
      unfolding rows_of
      rows_there =
          ap (rows_of sources) (some_line rest line_there)
          ∙ ap (λ (ls : List Line). row_of sources (first_line rest) ++ rows_of sources ls) (next_line n sources false k rest some passes)

      span : width * k + width - width * k ≡ width
      span = omega arith

      pub part_long : length (take (width * k + width - width * k) (drop (width * k) rows)) ≡ width
      part_long = rw span (length-take-le width (drop (width * k) rows) (omega (arith, length-drop (width * k) rows, part_fits)))

      module _ (row : List ℕ) (r : row ≡ row_of sources (first_line rest)) (l : length row ≡ width) where
        front : length (take (width * k) rows ++ row) ≡ width * k + width
        front = length-append (take (width * k) rows) row ∙ omega (arith, length-take-le (width * k) rows (omega (arith, part_fits)))

        abbrev behind : List ℕ
        behind = drop width (drop (width * k) rows)

        regroup : take (width * k) rows ++ row ++ behind ≡ take (width * k) rows ++ (row ++ behind)
        regroup = append_assoc (take (width * k) rows) row behind

        rest_kept : drop (width * lines) (take (width * k) rows ++ (row ++ behind)) ≡ drop (width * lines) rows₀
        rest_kept =
            let m = width * lines - (width * k + width) in
            let t : width * k + width + m ≡ width * lines = omega (arith, mul-suc width k, mul-le-mul_left width h) in
            ap (drop (width * lines)) (sym regroup)
            ∙ ap (λ (j : ℕ). drop j (take (width * k) rows ++ row ++ behind)) (sym t)
            ∙ sym (drop-drop m (width * k + width) (take (width * k) rows ++ row ++ behind))
            ∙ ap (drop m) (drop_at (take (width * k) rows ++ row) behind (width * k + width) front ∙ drop-drop width (width * k) rows)
            ∙ drop-drop m (width * k + width) rows
            ∙ ap (λ (j : ℕ). drop j rows) t
            ∙ s.kept

        same_long : length (take (width * k) rows ++ row ++ behind) ≡ length rows
        same_long =
            rw (length-append (take (width * k) rows ++ row) behind, front, length-drop width (drop (width * k) rows), length-drop (width * k) rows)
            (omega (arith, s.long, part_fits))

        now_stored : take (width * k + width) (take (width * k) rows ++ row ++ behind) ++ rows_of sources (lines_of (drop (n * field_bytes) rest))
            ≡ rows_of sources (lines_of text)
        now_stored = rw (take_at (take (width * k) rows ++ row) behind (width * k + width) front, append_assoc, r, sym rows_there) s.stored

        pub stores_on : Stored n width sources text (drop (n * field_bytes) rest) lines rows₀ (take (width * k) rows ++ (row ++ drop (width * k + width - width * k) (drop (width * k) rows))) (k + 1)
        stores_on =
            rw span
            (record {
              upto = omega arith;
              inside = omega (arith, s.inside, length-drop (n * field_bytes) rest);
              long = rw (sym regroup) (same_long ∙ s.long);
              tested = sym (line_passes n sources false rest k line_there some passes) ∙ s.tested;
              stored = rw (add-one, mul-suc width k, sym regroup) now_stored;
              kept = rest_kept;
            })
