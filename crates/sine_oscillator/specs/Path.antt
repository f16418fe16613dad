-- Document 01, "Path and terrain voice": the path oscillator, FastSineOscillator of `sine_oscillator.rs`.
use Rattle.std.specs.Prelude.{ℕ, cond, ◌||◌, List}
use Rattle.std.specs.Prelude.{Float}
use Rattle.std.specs.Float.Ieee.{le}
use Rattle.words.specs.Binary32.{◌⊕◌, ◌⊖◌, ◌⊗◌, ◌⊘◌, decimal}
use Rattle.utils.specs.Utils.{fast_rsqrt_carmack}
use Rattle.utils.specs.Interpolator.{interpolator, stepped}
use Rattle.utils.specs.Frames.{state_after, each_of}
use Rattle.sine_oscillator.specs.declared.FastSineOscillator.{FastSineOscillator}
use Rattle.sine_oscillator.specs.declared.Quadrature.{Quadrature}

-- What `init` leaves: x is 1, the others are 0.
abbrev pub path_fresh : FastSineOscillator
path_fresh = record { x = decimal 1 0; y = decimal 0 0; epsilon = decimal 0 0; amplitude = decimal 0 0 }

-- `fast_2_sin`, with `core::f32::consts::PI` as it is written.
unfoldable pub fast2_sin : Float → Float
fast2_sin f =
    let f_pi = f ⊗ decimal 314159265358979323846264338327950288 35 in
    f_pi ⊗ (decimal 2 0 ⊖ (decimal 2 0 ⊗ decimal 96 2 ⊘ decimal 6 0) ⊗ f_pi ⊗ f_pi)

-- "frequency >= 0.25": the frequency held there, and the amplitude, which fades towards it.
abbrev pub limited_frequency : Float → Float
limited_frequency frequency = cond (le (decimal 25 2) frequency) (decimal 25 2) frequency

abbrev pub limited_amplitude : Float → Float → Float
limited_amplitude frequency amplitude =
    cond (le (decimal 25 2) frequency) (decimal 0 0) (amplitude ⊗ (decimal 1 0 ⊖ frequency ⊗ decimal 4 0))

-- A coordinate of a point of this norm, brought back to the circle where the norm has left 0.5 to 2.
abbrev pub on_circle : Float → Float → Float
on_circle norm v = cond (le norm (decimal 5 1) || le (decimal 2 0) norm) (v ⊗ fast_rsqrt_carmack norm) v

-- `render_quadrature` before its first sample: epsilon and amplitude are on their way over n steps.
unfoldable pub quadrature_of : FastSineOscillator → Float → Float → ℕ → Quadrature
quadrature_of s frequency amplitude n =
    let norm = s.x ⊗ s.x ⊕ s.y ⊗ s.y in
    record {
      x = on_circle norm s.x;
      y = on_circle norm s.y;
      epsilon = interpolator s.epsilon (fast2_sin (limited_frequency frequency)) n;
      am = interpolator s.amplitude (limited_amplitude frequency amplitude) n;
    }

-- A sample's step.
abbrev pub quadrature_next : Quadrature → Quadrature
quadrature_next q =
    let epsilon = stepped q.epsilon in
    let e = epsilon.value in
    let x = q.x ⊕ e ⊗ q.y in
    record { x = x; y = q.y ⊖ e ⊗ x; epsilon = epsilon; am = stepped q.am }

-- The two samples that a step gives.
abbrev pub quadrature_out : Quadrature → Float
quadrature_out q = (quadrature_next q).x ⊗ (quadrature_next q).am.value

abbrev pub quadrature_out2 : Quadrature → Float
quadrature_out2 q = (quadrature_next q).y ⊗ (quadrature_next q).am.value

module _ (s : FastSineOscillator) (frequency amplitude : Float) (n : ℕ) where
  -- "`render_quadrature` fills two runs": n samples of each.
  abbrev pub path_run : List Float
  path_run = each_of quadrature_next quadrature_out n (quadrature_of s frequency amplitude n)

  abbrev pub path_run2 : List Float
  path_run2 = each_of quadrature_next quadrature_out2 n (quadrature_of s frequency amplitude n)

  -- The oscillator that it leaves: "end value handed back".
  unfoldable pub path_after : FastSineOscillator
  path_after =
      let q = state_after quadrature_next n (quadrature_of s frequency amplitude n) in
      record { x = q.x; y = q.y; epsilon = q.epsilon.value; amplitude = q.am.value }
