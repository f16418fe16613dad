-- The words before a row: one that is not the first has a part of the kept words before it, and where a place is made they stand there.
use Rattle.std.proofs.Common.{◌≡◌, refl, ◌∙◌, List, ℕ, zero, suc, ◌-◌, ◌*◌, arith}
use Rattle.voice.specs.declared.State.{State}
use Rattle.voice.specs.Voice.{kept_count}
use Rattle.lists.specs.Lists.{put, shift_up}
use Rattle.rows.specs.Rows.{kept_at, before_row, kept_room}

pub later_before : (fresh : State) (kept : List ℕ) (k : ℕ) → (k ≡ 0 → ⊥) → kept_at kept (k - 1) ≡ before_row fresh kept k
unfolding before_row
later_before fresh kept zero h = absurd (h refl)
later_before fresh kept (suc k) h =
    let a : suc k - 1 ≡ k = omega arith in
    rw a refl

-- A place is made: the kept words moved up, and those of the state before the row put in.
pub room_made : (fresh : State) (n p : ℕ) (kept moved before left : List ℕ) → before ≡ before_row fresh kept p → moved ≡ shift_up kept_count kept p n
    → left ≡ put moved (p * kept_count) before → left ≡ kept_room fresh n kept p
room_made fresh n p kept moved before left b m e = e ∙ rw (m, b)
