-- How code says what was held: by the surface on which it was.
use Rattle.utils.specs.Holds.{of_reading}
use Rattle.terrain.specs.Heights.{Reading, Start}
use Rattle.terrain.specs.declared.Height.{Height}
use Rattle.terrain.specs.declared.Place.{Place}

-- Where a reading starts, and what a reading gives.
abbrev pub start_of : Place → Start
start_of p = record { flat = p.flat; holds = of_reading p.held }

abbrev pub reading_of : Height → Reading
reading_of h = record { value = h.value; holds = of_reading h.held }
