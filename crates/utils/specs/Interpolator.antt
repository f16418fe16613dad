-- Document 01, "Interpolators and differentiator": "An interpolator holds its value and its increment as floats."
use Rattle.std.specs.Prelude.{ℕ, Float}
use Rattle.words.specs.Binary32.{◌⊕◌, ◌⊖◌, ◌⊘◌, of_count}
use Rattle.utils.specs.declared.parameter_interpolator.ParameterInterpolator.{ParameterInterpolator}

-- "Increment: target minus value, divided by the number of steps".
abbrev pub increment_of : Float → Float → ℕ → Float
increment_of value target size = (target ⊖ value) ⊘ of_count size

-- An interpolator at its start.
abbrev pub interpolator : Float → Float → ℕ → ParameterInterpolator
interpolator value target size = record { value = value; increment = increment_of value target size }

-- "each step adds it. It may overshoot."
abbrev pub stepped : ParameterInterpolator → ParameterInterpolator
stepped p = record { value = p.value ⊕ p.increment; increment = p.increment }
