-- The digits that are left and those put are the field.
use Rattle.std.proofs.Common.{◌≡◌, ◌∙◌, append-nil, arith, drop_of_length-le}
use Rattle.std.proofs.lemmas.List.{length-set}
use Rattle.text.specs.Text.{lower_digits, field_of}
use Rattle.text.proofs.LowerDigits.{put_in_front}
use Rattle.text.proofs.word.put_word.Goals as goal

pub loop-k-init : goal.loop-k-init
unfolding field_of
loop-k-init c = record { long = c.requires; put = rw (drop_of_length-le c.args.text.now {i = 8} (omega arith)) (append-nil _) }

pub loop-k-preserved : goal.loop-k-preserved
loop-k-preserved c =
    let l = c.loop-k in
    record {
      long = length-set _ _ _ ∙ l.invariant.long;
      put = rw c.lower_digit.ensures (put_in_front l.k l.left l.text c.loop-k-test.true (omega (arith, l.auto.k, l.invariant.long)) ∙ l.invariant.put);
    }

pub returns : goal.returns
unfolding lower_digits
returns c = let z : c.loop-k.k ≡ 0 = omega arith in rw z at c.loop-k.invariant.put
