-- A voice's own block is the block of the state that holds it, for every voice.
use Rattle.std.proofs.Common.{ℕ, ◌≡◌, ap, ◌∙◌, List}
use Rattle.utils.specs.Rendered.{Rendered, Renders}
use Rattle.utils.specs.declared.holds.Holds.{Holds}
use Rattle.voice.specs.declared.State.{State}
use Rattle.voice.specs.Voice.{among}

pub renders_among : {S : Type 0} (of : S → State) (b : Rendered S) (n : ℕ) (s : S) (state : State) (h holds : Holds) (out aux : List ℕ)
    → state ≡ of s → holds ≡ h → Renders b n s h out aux → Renders (among of b) n state holds out aux
renders_among of b n s state h holds out aux e f r =
    record { out_is = r.out_is; aux_is = r.aux_is; state_is = e ∙ ap of r.state_is; holds_is = f ∙ r.holds_is; holds_most = rw f r.holds_most }
