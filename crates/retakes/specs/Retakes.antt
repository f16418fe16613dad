-- Demand 3: what is promised of an accepted whole rendering and of every list of calls after it, edits, insertions, removals and renderings; and
-- before it, what a call does to any take. The calls are `call_of` of take · Take, to which the code is proved equal. Below: fresh rendering, lists
-- of calls, what a list is to leave, what one call does, and the claims: `Retakes` of any take, `HoldKinds` of what any call reports, `Demand3`,
-- `Inherited` of what every row has.
use Rattle.std.specs.Prelude.{ℕ, zero, suc, ◌+◌, ◌-◌, ◌*◌, ◌≤◌, ◌<◌, List, [], ◌∷◌, ◌++◌, map, Bool, true, cond, ◌≡◌, ◌⊎◌, ltb, length, get_or, take, drop, Ok, Err, is_ok, IsOk, flat_map}
use Rattle.std.specs.List.{AllByRecursion}
use Rattle.lists.specs.Lists.{part, put}
use Rattle.utils.specs.Holds.{none, total}
use Rattle.utils.specs.declared.holds.Holds.{Holds}
use Rattle.voice.specs.declared.State.{State}
use Rattle.voice.specs.Voice.{kept_count, voice_of, kept_words, state_of}
use Rattle.voice.specs.HoldKinds.{KindsOn}
use Rattle.score.specs.Rows.{row_words, word_for, restart, row_at, put_row}
use Rattle.score.specs.Limits.{row_within}
use Rattle.score.specs.Numbers.{Tested, accepted}
use Rattle.score.specs.declared.refusal.Refusal.{Refusal}
use Rattle.rows.specs.Rows.{Setup, Take, lent, fresh_start, Row, row_from, row_by, row_in, words_before, nothing}
use Rattle.rows.specs.declared.Report.{Report}
use Rattle.refusals.specs.declared.Call.{Call}
use Rattle.refusals.specs.declared.Call.TheVariants.{Render, Edit, Insert, Remove}
use Rattle.refusals.specs.Calls.{count_after, position}
use Rattle.refusals.specs.Refusals.{refusal_of}
use Rattle.take.specs.Take.{Outcome, call_of}

-- ---- Fresh rendering.

-- Rows from row i on, as many as the first number says, where st is the state that is carried to row i. "At row 0 and at each row with restart
-- 1 the state becomes the fresh value. The row's block is then made from that state and the row .. This gives the row's out and aux words,
-- its `held`, and its 13 kept words, from which the next row starts."
unfoldable pub fresh_from : Setup → List ℕ → ℕ → ℕ → State → List Row
fresh_from s rows zero i st = []
fresh_from s rows (suc l) i st =
    let m = row_from s (row_at rows i) st in
    m ∷ fresh_from s rows l (i + 1) (state_of (voice_of s.instrument) m.words.kept)

-- A score of n rows: "Fresh rendering, in demand 3, is fed instrument, rate, frames, bank, map and a score, and nothing of any lent take."
abbrev pub fresh : Setup → ℕ → List ℕ → List Row
fresh s n rows = fresh_from s rows n 0 (fresh_start s)

-- The rows' words one after the other, of out, of aux or of kept.
unfoldable pub joined : (Take → List ℕ) → List Row → List ℕ
joined of rs = flat_map (λ (r : Row). of r.words) rs

-- The take of a rendering.
abbrev pub take_of : List Row → Take
take_of rs = lent (joined (λ (w : Take). w.out) rs) (joined (λ (w : Take). w.aux) rs) (joined (λ (w : Take). w.kept) rs)

-- What the rows hold, summed.
abbrev pub holds_of : List Row → Holds
holds_of rs = total (map (λ (r : Row). r.holds) rs)

-- Rows k to j - 1.
abbrev pub rows_from : List Row → ℕ → ℕ → List Row
rows_from rs k j = take (j - k) (drop k rs)

abbrev pub no_row : Row
no_row = record { words = lent [] [] []; holds = none }

-- The words of the state before row i in a rendering: those kept after the row before it, and at row 0 those of the fresh state.
abbrev pub before_in : Setup → List Row → ℕ → List ℕ
before_in s rs zero = kept_words (fresh_start s)
before_in s rs (suc i) = (get_or rs i no_row).words.kept

-- ---- Lists of calls.

-- What a call is handed and leaves: the row count, the lent row words and the lent take.
pub record Reel : Type 0 where
  pub count : ℕ
  pub rows : List ℕ
  pub left : Take

abbrev pub reel : ℕ → List ℕ → Take → Reel
reel n rows t = record { count = n; rows = rows; left = t }

-- What the table says of a call that is handed a reel.
abbrev pub refusal_in : Setup → Reel → Call → Tested
refusal_in s o c = refusal_of s o.count o.rows o.left c

abbrev pub accepts : Setup → Reel → Call → Bool
accepts s o c = is_ok (refusal_in s o c)

-- A call handed a reel.
abbrev pub called : Setup → Reel → Call → Outcome
called s o c = call_of s o.count o.rows o.left c

-- What it leaves. "each call handed the row count as it then is": the caller counts an accepted insertion or removal.
unfoldable pub next : Setup → Reel → Call → Reel
next s o c =
    let a = called s o c in
    reel (cond (is_ok a.answer) (count_after o.count c) o.count) a.rows a.left

-- What a list of calls leaves, each handed what the call before it left.
unfoldable pub after : Setup → Reel → List Call → Reel
after s o [] = o
after s o (c ∷ cs) = after s (next s o c) cs

-- A row has five words.
unfoldable pub Five : Call → Type 0
Five Render = Unit {0}
Five (Edit k row) = length row ≡ row_words
Five (Insert p row) = length row ≡ row_words
Five (Remove p) = Unit {0}

unfoldable pub Fives : List Call → Type 0
Fives cs = AllByRecursion Five cs

-- ---- What a list of calls is to leave.

-- A score: the words of the rows below the count.
abbrev pub score_of : Reel → List ℕ
score_of o = take (o.count * row_words) o.rows

-- A score with a call's row put in its place, put between the others, or taken out: of the score alone, where `rows_after` is of the lent words.
unfoldable pub score_with : List ℕ → Call → List ℕ
score_with rows Render = rows
score_with rows (Edit k row) = put_row rows k row
score_with rows (Insert p row) = take (p * row_words) rows ++ (row ++ drop (p * row_words) rows)
score_with rows (Remove p) = take (p * row_words) rows ++ drop ((p + 1) * row_words) rows

-- The fresh rendering of a reel's score.
abbrev pub fresh_of : Setup → Reel → List Row
fresh_of s o = fresh s o.count (score_of o)

-- A take's words with a rendering's laid over them from the first place on: "Places past the new count keep their words."
abbrev pub laid_over : Take → Take → Take
laid_over t u = lent (put t.out 0 u.out) (put t.aux 0 u.aux) (put t.kept 0 u.kept)

-- What an accepted call is to leave: the score with its row put in or taken out, and the fresh rendering of that score, each laid over what it was
-- handed.
unfoldable pub afresh : Setup → Reel → Call → Reel
afresh s o c =
    let n = count_after o.count c in
    let score = score_with (score_of o) c in
    reel n (put o.rows 0 score) (laid_over o.left (take_of (fresh s n score)))

-- What a list is to leave: "a refused one .. leaves score and take." So each place past the count has what the last call that wrote there left.
unfoldable pub expected : Setup → Reel → List Call → Reel
expected s o [] = o
expected s o (c ∷ cs) = expected s (cond (accepts s o c) (afresh s o c) o) cs

-- ---- What one call does.

-- Where row i of the score after a call came from: the rows behind one put in stood a place lower, those behind one taken out a place higher. The row
-- put in came from nowhere; no claim asks for it.
unfoldable pub came : Call → ℕ → ℕ
came Render i = i
came (Edit k row) i = i
came (Insert p row) i = cond (ltb p i) (i - 1) i
came (Remove p) i = cond (ltb i p) i (i + 1)

-- The lowest row before which a call handed a count of n may stop: a rendering renders all rows, an edit and an insertion their own at least; "after
-- a removal the row now there" is measured too.
unfoldable pub lowest_stop : ℕ → Call → ℕ
lowest_stop n Render = n
lowest_stop n (Edit k row) = k + 1
lowest_stop n (Insert p row) = p + 1
lowest_stop n (Remove p) = p

-- Before row j a call may stop: it is the end, or its row restarts, or the state's words before it are the same, by `old` and by `new`, which say
-- them where the row came from and where it is.
abbrev pub Stop : ℕ → List ℕ → (ℕ → List ℕ) → (ℕ → List ℕ) → ℕ → Type 0
Stop n rows old new j = (j ≡ n) ⊎ ((word_for restart (row_at rows j) ≡ 1) ⊎ (old j ≡ new j))

-- The smallest such j from `low` on.
pub record First (n : ℕ) (rows : List ℕ) (old new : ℕ → List ℕ) (low j : ℕ) : Type 0 where
  pub least : low ≤ j
  pub most : j ≤ n
  pub stops : Stop n rows old new j
  pub smallest : (i : ℕ) → low ≤ i → i < j → ¬ Stop n rows old new i

-- Row i of a take.
abbrev pub words_at : ℕ → Take → ℕ → Take
words_at frames t i = lent (part frames t.out i) (part frames t.aux i) (part kept_count t.kept i)

-- Past the first n rows a take is as it was.
pub record Past (frames n : ℕ) (old new : Take) : Type 0 where
  pub out : drop (n * frames) new.out ≡ drop (n * frames) old.out
  pub aux : drop (n * frames) new.aux ≡ drop (n * frames) old.aux
  pub kept : drop (n * kept_count) new.kept ≡ drop (n * kept_count) old.kept

-- The call reports the rows from its position to before row j, and what they hold. Its score is laid over the lent row words. Every other row of the
-- take has the words that it had where it came from, and past the new count every word stays.
pub record Writes (s : Setup) (o : Reel) (c : Call) (j : ℕ) (holds : Holds) : Type 0 where
  pub reports : (called s o c).answer ≡ Ok (record { rows = j - position c; holds = holds })
  pub count : (next s o c).count ≡ count_after o.count c
  pub rows : (next s o c).rows ≡ put o.rows 0 (score_with (score_of o) c)
  pub others : (i : ℕ) → (i < position c) ⊎ (j ≤ i) → i < (next s o c).count → words_at s.frames (next s o c).left i ≡ words_at s.frames o.left (came c i)
  pub past : Past s.frames (next s o c).count o.left (next s o c).left

-- An edit that changes no word.
unfoldable pub Unchanging : Reel → Call → Type 0
Unchanging o Render = ⊥
Unchanging o (Edit k row) = row_at o.rows k ≡ row
Unchanging o (Insert p row) = ⊥
Unchanging o (Remove p) = ⊥

-- A call is refused just where the table says so, "with number and place as the table says"; "An accepted edit that changes no word writes nothing
-- and reports 0 for both", and five zeros; of every other accepted call `Changed` is true.
pub record Right (s : Setup) (o : Reel) (c : Call) (Changed : Type 0) : Type 0 where
  pub refuses : (r : Refusal) → refusal_in s o c ≡ Err r → ((called s o c).answer ≡ Err r) × (next s o c ≡ o)
  pub unchanged : refusal_in s o c ≡ accepted → Unchanging o c → ((called s o c).answer ≡ Ok nothing) × (next s o c ≡ o)
  pub changed : refusal_in s o c ≡ accepted → ¬ Unchanging o c → Changed

-- ---- Any take: "These rules hold for junk in out, aux and kept as well".

-- Rows from row i on, as many as the first number says, each from the words that some kept words have before it.
unfoldable pub made_from : Setup → List ℕ → List ℕ → ℕ → ℕ → List Row
made_from s rows kept zero i = []
made_from s rows kept (suc l) i = row_in s rows kept i ∷ made_from s rows kept l (i + 1)

-- A call on any take renders rows from its position on, and stops at the smallest j where "j is n, or row j restarts", or "the 13 words kept after
-- j - 1 are the same" as those before row j where it came from, in the take that the call was lent. Each row that it renders is made from the
-- words that the take then keeps before it, and what these rows hold is reported.
pub record Retaken (s : Setup) (o : Reel) (c : Call) : Type 0 where
  pub stop : ℕ
  pub first : let o' = next s o c in
      First o'.count o'.rows (λ j. words_before s o.left.kept (came c j)) (words_before s o'.left.kept) (lowest_stop o.count c) stop
  pub made : let o' = next s o c in
      (i : ℕ) → position c ≤ i → i < stop → words_at s.frames o'.left i ≡ (row_in s o'.rows o'.left.kept i).words
  pub writes : let o' = next s o c in
      Writes s o c stop (holds_of (made_from s o'.rows o'.left.kept (stop - position c) (position c)))

abbrev pub Retakes : Type 0
Retakes = (s : Setup) (o : Reel) (c : Call) → Five c → Right s o c (Retaken s o c)

-- ---- Kinds of holds.

-- What any call reports, on any take: on the terrain voice `held` is map plus bank; on the others each count is at most `held`, and `held` at most
-- their sum.
abbrev pub HoldKinds : Type 0
HoldKinds = (s : Setup) (o : Reel) (c : Call) (p : Report) → (called s o c).answer ≡ Ok p → KindsOn (voice_of s.instrument) p.holds

-- ---- Takes of a list.

-- Where the take is that of a fresh rendering, "the smallest j .. where j is n, or row j restarts, or the fresh renderings of the score before and
-- after this [call] keep the same 13 words" before row j, in the first of them where it came from; "and as `held` the sum over these rows in the
-- fresh rendering of the score after it"; so are the five counts "over the same rows".
pub record FreshRetaken (s : Setup) (o : Reel) (c : Call) : Type 0 where
  pub stop : ℕ
  pub first : let o' = next s o c in
      First o'.count (score_of o') (λ j. before_in s (fresh_of s o) (came c j)) (before_in s (fresh_of s o')) (lowest_stop o.count c) stop
  pub writes : Writes s o c stop (holds_of (rows_from (fresh_of s (next s o c)) (position c) stop))

-- Each call of a list, handed what the call before it left.
unfoldable pub EachRight : Setup → Reel → List Call → Type 0
EachRight s o [] = Unit {0}
EachRight s o (c ∷ cs) = Right s o c (FreshRetaken s o c) × EachRight s (next s o c) cs

-- The first n rows of a take.
abbrev pub cut : Setup → ℕ → Take → Take
cut s n t = lent (take (n * s.frames) t.out) (take (n * s.frames) t.aux) (take (n * kept_count) t.kept)

-- After the rendering and the list: count, row words and take are, to the last lent word, those expected; so the rows below the count are those of
-- a fresh rendering of the resulting score; the rendering reported all its rows and what they hold; and each call of the list was right.
pub record Promise (s : Setup) (o : Reel) (cs : List Call) : Type 0 where
  pub all : after s o (Render ∷ cs) ≡ expected s o (Render ∷ cs)
  pub below : let o' = after s o (Render ∷ cs) in cut s o'.count o'.left ≡ take_of (fresh_of s o')
  pub rendered : (called s o Render).answer ≡ Ok (record { rows = o.count; holds = holds_of (fresh_of s o) })
  pub each : EachRight s (next s o Render) cs

-- A rendering that is not refused.
abbrev pub Accepted : Setup → Reel → Type 0
Accepted s o = IsOk (called s o Render).answer

-- "For every accepted whole rendering and every list of row edits after it, refused edits included"; such lists "may mix in insertions and
-- removals", and here renderings. The lent take, and all that is lent past the count, may hold any words.
abbrev pub Demand3 : Type 0
Demand3 = (s : Setup) (o : Reel) (cs : List Call) → Fives cs → Accepted s o → Promise s o cs

-- ---- What every row has.

-- Something that each row has which is made from the fresh state, or from the kept words of a row that has it.
pub record Inherits (s : Setup) (Has : Take → Type 0) : Type 0 where
  pub first : (row : List ℕ) → row_within row ≡ true → Has (row_by s row (kept_words (fresh_start s))).words
  pub next : (row : List ℕ) (w : Take) → row_within row ≡ true → Has w → Has (row_by s row w.kept).words

-- Every row of the take has it, after an accepted rendering and every list of calls.
abbrev pub Inherited : Type 1
Inherited = (s : Setup) (Has : Take → Type 0) → Inherits s Has → (o : Reel) (cs : List Call) → Fives cs → Accepted s o
    → (i : ℕ) → i < (after s o (Render ∷ cs)).count → Has (words_at s.frames (after s o (Render ∷ cs)).left i)
