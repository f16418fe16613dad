-- Document 02, N5: what the five counts have to do with `held`, on each voice.
use Rattle.utils.specs.Holds.{OfFrames, OfReadings}
use Rattle.utils.specs.declared.holds.Holds.{Holds}
use Rattle.voice.specs.declared.Voice.{Voice}
use Rattle.voice.specs.declared.Voice.TheVariants.{Wavetable, Terrain, Oscillator}

-- "A wavetable or plain oscillator frame may have several kinds; it counts once in each"; the terrain voice counts readings.
unfoldable pub KindsOn : Voice → Holds → Type 0
KindsOn Wavetable = OfFrames
KindsOn Terrain = OfReadings
KindsOn Oscillator = OfFrames
