-- No accepted voice takes the logarithm off its domain. A note sounds at 1/2 to 2 ^ 18 Hz, a pitch
-- in hertz at 1 to 20,000; its partials are 1 to 24 times that, and a bin lies at a quarter to
-- 2 ^ 17 Hz. Rounding keeps the order, so every centre and every bin over a centre lies between two
-- numbers that are positive and normal. Assumes nothing.
use mathlib.Core.Bool.{false}
use Prim.Native.Nat.{ℕ, ◌≤◌}
use native.Mathlib.Nat.{le_trans}
use lib.Dec.{T, lit≤}
use lib.IntN.{pos, negsuc}
use lib.Count.{count_trailing_zeros}
use lib.Ieee.{Float, fin, binary32, fits, le, of_bits, of_fields, of_int, lt, mul, div, round, size}
use lib.Ieee.{span, climb, units, odd}
use lib.Ieee.Fits.{and_i, and_l, and_r}
use Rattle.float_laws.specs.Units.{number, real, real-number}
use Rattle.float_laws.specs.Order.{le-trans-f, lt-of-lt-of-le-f}
use Rattle.float_laws.specs.Bounds.{real-between}
use Rattle.float_laws.specs.Round.{plus_zero}
use Rattle.float_laws.specs.Mono.{mul-number, mul_mono, div-number, div_mono, div-anti}
use Rattle.float_laws.specs.Mono.{above_zero as positive-size}
use Rattle.float_laws.specs.Exact.{real-whole}
use Rattle.float32.proofs.Limits.{within_low, within-high}
use Rattle.power.specs.Power.{largest}
use Rattle.power.specs.Log.{least_normal, positive_normal}
use Rattle.limits.specs.Limits as limits
use Rattle.limits.specs.Limits.{least_tuning, most_tuning, least_hertz, most_hertz}
use Rattle.frequencies.specs.Frequency.{bin_hertz, hertz}
use Rattle.frequencies.proofs.Entries.{quarter, top}
use Rattle.frequencies.proofs.Accepted.{BinHertz, hertz-accepted}
use Rattle.pitch.proofs.Range.{Tuning, whole_le, hertz-real, hertz-low, hertz-high}
use Rattle.scene.specs.declared.MaskVoice.{MaskVoice}
use Rattle.scene.specs.declared.Pitch.{Pitch}
use Rattle.scene.specs.declared.Pitch.TheVariants.{Note, Hertz}
use Rattle.scene.specs.Accepted.{size_accepted}
use Rattle.scene.specs.Voices.{RealPitch, RealVoice}
use Rattle.scene.proofs.Voices.{accepted-real}
use Rattle.lobes.specs.declared.Grid.{Grid}
use Rattle.lobes.specs.Grid.{grid_of}
use Rattle.lobes.specs.Tone.{pitch_hertz, fundamental_of, tone_of, center_of}
use Rattle.lobes.specs.Centers.{CentersNormal, LogarithmsDefined}

abbrev least : Float
least = fin false 1 (negsuc 0)

abbrev most : Float
most = fin false 1 (pos 18)

-- a frequency that a pitch may have: finite, and from 1/2 to 2 ^ 18
record Sounding (hertz : Float) : Type 0 where
  is_real : T (real binary32 hertz)
  low : T (le least hertz)
  high : T (le hertz most)

-- ---- the ends, computed
record Ends : Type 0 where
  zero_number : T (number binary32 plus_zero)
  least-real : T (real binary32 least)
  least_above : T (le plus_zero least)
  most-real : T (real binary32 most)
  from-half : T (le least least_hertz)
  to-most : T (le most_hertz most)
  hertz-real : T (real binary32 least_hertz) × T (real binary32 most_hertz)

ends : Ends
unfolding of_bits of_fields odd count_trailing_zeros le fits
ends =
    record {
      zero_number = tt;
      least-real = tt;
      least_above = tt;
      most-real = tt;
      from-half = tt;
      to-most = tt;
      hertz-real = (tt, tt);
    }

-- ---- a pitch
tuning-of :
    (t : Float) → T (real binary32 t) → T (le least_tuning t) → T (le t most_tuning) → Tuning t
unfolding of_bits
tuning-of t r l h = record { finite = r; least = l; most = h }

sounding : (pitch : Pitch) → RealPitch pitch → Sounding (pitch_hertz pitch)
unfolding pitch_hertz
sounding (Note note t) r =
    let tuning =
    tuning-of t r.tuning-real (within_low least_tuning most_tuning t r.tuning-within)
    (within-high least_tuning most_tuning t r.tuning-within) in
    record {
      is_real = hertz-real note r.note-low t tuning;
      low = hertz-low note r.note-low t tuning;
      high = hertz-high note r.note-low t tuning;
    }
sounding (Hertz h) r =
    let n = real-number binary32 h r.hertz-real in
    record {
      is_real = r.hertz-real;
      low =
          le-trans-f binary32 least least_hertz h (real-number binary32 least ends.least-real)
          (real-number binary32 least_hertz ends.hertz-real.0) n ends.from-half
          (within_low least_hertz most_hertz h r.hertz-within);
      high =
          le-trans-f binary32 h most_hertz most n
          (real-number binary32 most_hertz ends.hertz-real.1)
          (real-number binary32 most ends.most-real)
          (within-high least_hertz most_hertz h r.hertz-within) ends.to-most;
    }

-- ---- a multiple of it
abbrev whole : ℕ → Float
whole n = of_int binary32 (pos n)

abbrev lowest : Float
lowest = mul binary32 least (whole 1)

abbrev highest : Float
highest = mul binary32 most (whole 24)

-- a centre that a partial may have: finite, and from 1/2 to 24 * 2 ^ 18
record Centre (center : Float) : Type 0 where
  is_real : T (real binary32 center)
  low : T (le lowest center)
  high : T (le center highest)

record CentreEnds : Type 0 where
  one-above : T (le plus_zero (whole 1))
  lowest-real : T (real binary32 lowest)
  highest-real : T (real binary32 highest)
  lowest-normal : T (le least_normal lowest)
  highest-normal : T (le highest largest)
  normal-real : T (real binary32 least_normal) × T (real binary32 largest)

centre-ends : CentreEnds
unfolding of_int mul round size span climb units odd count_trailing_zeros le fits
centre-ends =
    record {
      one-above = tt;
      lowest-real = tt;
      highest-real = tt;
      lowest-normal = tt;
      highest-normal = tt;
      normal-real = (tt, tt);
    }

module _ (hertz : Float) (s : Sounding hertz) (partial : ℕ) (from_one : 1 ≤ partial)
    (to_last : partial ≤ 24) where
  abbrev center : Float
  center = mul binary32 hertz (whole partial)

  whole-real : (n : ℕ) → n ≤ 24 → T (real binary32 (whole n))
  whole-real n h = real-whole binary32 n (le_trans h (lit≤ tt))

  partial-real : T (real binary32 (whole partial))
  partial-real = whole-real partial to_last

  from-whole : T (le (whole 1) (whole partial))
  from-whole = whole_le binary32 1 partial from_one (le_trans to_last (lit≤ tt))

  above_zero : T (le plus_zero hertz)
  above_zero =
      le-trans-f binary32 plus_zero least hertz ends.zero_number
      (real-number binary32 least ends.least-real) (real-number binary32 hertz s.is_real)
      ends.least_above s.low

  from_lowest : T (le lowest center)
  from_lowest =
      mul_mono binary32 least hertz (whole 1) (whole partial) ends.least-real s.is_real
      (whole-real 1 (lit≤ tt)) partial-real ends.least_above centre-ends.one-above s.low
      from-whole

  to-highest : T (le center highest)
  to-highest =
      mul_mono binary32 hertz most (whole partial) (whole 24) s.is_real ends.most-real
      partial-real (whole-real 24 (lit≤ tt)) above_zero
      (le-trans-f binary32 plus_zero (whole 1) (whole partial) ends.zero_number
      (real-number binary32 (whole 1) (whole-real 1 (lit≤ tt)))
      (real-number binary32 (whole partial) partial-real) centre-ends.one-above from-whole)
      s.high (whole_le binary32 partial 24 to_last (lit≤ tt))

  multiple : Centre center
  multiple =
      record {
        is_real =
            real-between binary32 lowest center highest
            (mul-number binary32 hertz (whole partial) s.is_real partial-real)
            centre-ends.lowest-real centre-ends.highest-real from_lowest to-highest;
        low = from_lowest;
        high = to-highest;
      }

-- ---- a number between two ends that are positive and normal is so too
normal-between :
    (low x high : Float) → T (real binary32 low) → T (real binary32 x) → T (real binary32 high)
    → T (le least_normal low) → T (le high largest) → T (le low x) → T (le x high)
    → T (positive_normal x)
normal-between low x high p q r a b h k =
    let n = real-number binary32 x q in
    let normal = centre-ends.normal-real in
    and_i (le least_normal x) (le x largest)
    (le-trans-f binary32 least_normal low x (real-number binary32 least_normal normal.0)
    (real-number binary32 low p) n a h)
    (le-trans-f binary32 x high largest n (real-number binary32 high r)
    (real-number binary32 largest normal.1) k b)

centre-normal : (center : Float) → Centre center → T (positive_normal center)
centre-normal center c =
    let e = centre-ends in
    normal-between lowest center highest e.lowest-real c.is_real e.highest-real
    e.lowest-normal e.highest-normal c.low c.high

-- ---- a bin's frequency over a centre
abbrev least_ratio : Float
least_ratio = div binary32 quarter highest

abbrev most_ratio : Float
most_ratio = div binary32 top lowest

record RatioEnds : Type 0 where
  quarter-real : T (real binary32 quarter)
  quarter-above : T (le plus_zero quarter)
  top-real : T (real binary32 top)
  top_above : T (le plus_zero top)
  lowest-above : T (lt plus_zero lowest)
  least-real : T (real binary32 least_ratio)
  most-real : T (real binary32 most_ratio)
  least-normal : T (le least_normal least_ratio)
  most-normal : T (le most_ratio largest)

ratio-ends : RatioEnds
unfolding of_int mul div round size span climb units odd count_trailing_zeros le lt fits
ratio-ends =
    record {
      quarter-real = tt;
      quarter-above = tt;
      top-real = tt;
      top_above = tt;
      lowest-above = tt;
      least-real = tt;
      most-real = tt;
      least-normal = tt;
      most-normal = tt;
    }

module _ (hertz center : Float) (b : BinHertz hertz) (c : Centre center) where
  center-above : T (lt plus_zero center)
  center-above =
      lt-of-lt-of-le-f binary32 plus_zero lowest center ends.zero_number
      (real-number binary32 lowest centre-ends.lowest-real)
      (real-number binary32 center c.is_real) ratio-ends.lowest-above c.low

  ratio-number : (x : Float) → T (real binary32 x) → T (number binary32 (div binary32 x center))
  ratio-number x p =
      div-number binary32 x center p c.is_real
      (positive-size binary32 center (real-number binary32 center c.is_real) center-above).1

  from-least : T (le least_ratio (div binary32 hertz center))
  from-least =
      le-trans-f binary32 least_ratio (div binary32 quarter center) (div binary32 hertz center)
      (real-number binary32 least_ratio ratio-ends.least-real)
      (ratio-number quarter ratio-ends.quarter-real) (ratio-number hertz b.is_real)
      (div-anti binary32 quarter center highest ratio-ends.quarter-real c.is_real
      centre-ends.highest-real ratio-ends.quarter-above center-above c.high)
      (div_mono binary32 quarter hertz center ratio-ends.quarter-real b.is_real c.is_real
      center-above b.low)

  to-most : T (le (div binary32 hertz center) most_ratio)
  to-most =
      le-trans-f binary32 (div binary32 hertz center) (div binary32 top center) most_ratio
      (ratio-number hertz b.is_real) (ratio-number top ratio-ends.top-real)
      (real-number binary32 most_ratio ratio-ends.most-real)
      (div_mono binary32 hertz top center b.is_real ratio-ends.top-real c.is_real
      center-above b.high)
      (div-anti binary32 top lowest center ratio-ends.top-real centre-ends.lowest-real
      c.is_real ratio-ends.top_above ratio-ends.lowest-above c.low)

  ratio-normal : T (positive_normal (div binary32 hertz center))
  ratio-normal =
      let e = ratio-ends in
      normal-between least_ratio (div binary32 hertz center) most_ratio e.least-real
      (real-between binary32 least_ratio (div binary32 hertz center) most_ratio
      (ratio-number hertz b.is_real) e.least-real e.most-real from-least to-most)
      e.most-real e.least-normal e.most-normal from-least to-most

-- ---- a voice
module _ (grid : Grid) (voice : MaskVoice) (r : RealVoice voice) where
  centre-of :
      (partial : ℕ) → 1 ≤ partial → partial ≤ 24 → Centre (center_of (tone_of grid voice) partial)
  unfolding tone_of fundamental_of
  centre-of partial from_one to_last =
      multiple (pitch_hertz voice.pitch) (sounding voice.pitch r.pitch-real) partial
      from_one to_last

  pub center-normal : CentersNormal grid voice
  center-normal partial from_one to_last =
      centre-normal (center_of (tone_of grid voice) partial) (centre-of partial from_one to_last)

pub logarithms-defined : LogarithmsDefined
unfolding grid_of size_accepted
logarithms-defined config f accepted voice g h =
    let r = accepted-real voice h g in
    let rate = config.sample_rate in
    let n = config.fft_size in
    let hertz-at =
    hertz-accepted rate f.rate n (and_r (limits.size n) (limits.rate rate) accepted)
    (and_l (limits.size n) (limits.rate rate) accepted) in (
      center-normal (grid_of config) voice r,
      λ partial from_one to_last bin first last.
          ratio-normal (hertz (bin_hertz rate n) bin) (center_of (tone_of (grid_of config) voice) partial)
          (hertz-at bin first last) (centre-of (grid_of config) voice r partial from_one to_last),
    )
