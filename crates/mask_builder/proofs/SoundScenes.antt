-- A scene of real voices, real settings and a table with finite entries is one that the masks by a
-- table are built from. Assumes nothing.
use mathlib.Core.Path.{◌≡◌}
use mathlib.Core.List.{List}
use Prim.Native.Nat.{ℕ, ◌≤◌, ◌<◌}
use native.Mathlib.Omega.{arith}
use lib.Dec.{T}
use lib.ListN.{length, get_or}
use lib.Ieee.{Float, nan, binary32}
use Rattle.lists.specs.Totals.{All}
use Rattle.float_laws.specs.Units.{real}
use Rattle.limits.specs.Lengths.{most_size, bins}
use Rattle.scene.specs.declared.MaskVoice.{MaskVoice}
use Rattle.scene.specs.declared.MaskConfig.{MaskConfig}
use Rattle.scene.specs.Voices.{RealVoice}
use Rattle.scene.proofs.SettingsNumbers.{RealSettings}
use Rattle.lobes.specs.Grid.{grid_of}
use Rattle.lobe_bounds.proofs.Bounded.{grid-width}
use Rattle.openness.specs.Scene.{SoundScene}
use Rattle.mask_builder.proofs.Built.{grid-partials}

pub sound-scene : (config : MaskConfig) (voices : List MaskVoice) (table : List Float)
    → config.fft_size ≤ most_size → All RealVoice voices → RealSettings config
    → length table ≡ bins config.fft_size
    → ((i : ℕ) → 0 < i → i < length table → T (real binary32 (get_or table i nan)))
    → SoundScene (grid_of config) voices table
unfolding grid_of
sound-scene config voices table h v s l t =
    let w = grid-width config s.width in
    record {
      last = omega arith;
      long = omega (arith, l);
      grid-real = record { width-real = w.0; width_above = w.1; rolloff-real = s.rolloff; few = grid-partials config };
      voices-real = v;
      table-real = t;
    }
