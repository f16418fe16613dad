-- A call's refusal, by each of its tests in turn.
use Rattle.std.proofs.Common.{◌≡◌, sym, ℕ, List, Bool, true, false, cond, Err}
use Rattle.score.specs.declared.refusal.Refusal.{Refusal}
use Rattle.score.specs.declared.refusal.Refusal.TheVariants.{Position, Full}
use Rattle.score.specs.Numbers.{Tested, accepted}
use Rattle.score.specs.Limits.{limit_refusal}
use Rattle.rows.specs.Rows.{Setup, Take}
use Rattle.refusals.specs.declared.Call.{Call}
use Rattle.refusals.specs.Calls.{count_after, rows_after, position}
use Rattle.refusals.specs.Refusals.{wrong_position, full, settings_refusal, lengths_refusal, score_refusal, refusal_of}

-- A test that refuses has its own refusal.
told : (b : Bool) (x : Refusal) (y : Tested) (r : Refusal) → cond b (Err x) accepted ≡ Err r → Err r ≡ cond b (Err x) y
told true x y r e = sym e
told false x y r e = cc

module _ (s : Setup) (n : ℕ) (rows : List ℕ) (t : Take) (c : Call) where
  pub by_settings : (r : Refusal) → settings_refusal s ≡ Err r → Err r ≡ refusal_of s n rows t c
  unfolding refusal_of
  by_settings r e = rw e

  module _ (first : settings_refusal s ≡ accepted) where
    pub by_lengths : (r : Refusal) → lengths_refusal s n rows t c ≡ Err r → Err r ≡ refusal_of s n rows t c
    unfolding refusal_of
    by_lengths r e = rw (first, e)

    module _ (second : lengths_refusal s n rows t c ≡ accepted) where
      pub by_position : (r : Refusal) → cond (wrong_position n c) (Err (Position (position c))) accepted ≡ Err r → Err r ≡ refusal_of s n rows t c
      unfolding refusal_of score_refusal
      by_position r e = rw (first, second) (told (wrong_position n c) _ _ r e)

      pub by_full : wrong_position n c ≡ false → full s n rows t c ≡ true → Err Full ≡ refusal_of s n rows t c
      unfolding refusal_of score_refusal
      by_full w f = rw (first, second, w, f)

      pub by_limits : wrong_position n c ≡ false → full s n rows t c ≡ false → limit_refusal (count_after n c) (rows_after n rows c) ≡ refusal_of s n rows t c
      unfolding refusal_of score_refusal
      by_limits w f = rw (first, second, w, f)
