-- Document 01's sixteen ticks, computed.
use mathlib.Core.Path.{◌≡◌, refl}
use mathlib.Core.List.{map}
use Rattle.rules.specs.Sixteen.{Said, sixteen}
use Rattle.rules.proofs.Computed.Computing.{computing}

pub each_tick_gives_what_is_said : map (λ (c : Said). c.gives) sixteen ≡ map (λ (c : Said). c.after) sixteen
unfolding sixteen computing
each_tick_gives_what_is_said = refl
