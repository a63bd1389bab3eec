-- `soften_spectral_edges` and `smooth_mask_in_db` of document 01, in the Rust's order of
-- operations. Assumes nothing.
use Rattle.std.specs.Prelude.{List, ℕ, ◌+◌, ◌-◌, length, get_or, Float}
use Rattle.std.specs.Float.{nan, binary32}
use Rattle.std.specs.Float.Ieee.{add, sub, mul, div, neg, of_bits}
use Rattle.lists.specs.Maps.{map_at, map_range}
use Rattle.float32.specs.Order.{maximum, clamp}
use Rattle.power.specs.Decimal.{exp, log10}
use Rattle.decibels.specs.Gain.{decibels_per_decade, gain_of}

-- 1.0e-6
abbrev pub least_gain : Float
least_gain = of_bits binary32 0x358637bd

-- 0.2
abbrev pub side_share : Float
side_share = of_bits binary32 0x3e4ccccd

-- 0.6
abbrev pub center_share : Float
center_share = of_bits binary32 0x3f19999a

-- 0.03
abbrev pub smooth_mask_time_seconds : Float
smooth_mask_time_seconds = of_bits binary32 0x3cf5c28f

abbrev pub ZERO : Float
ZERO = of_bits binary32 0x00000000

abbrev pub ONE : Float
ONE = of_bits binary32 0x3f800000

-- ---- decibels

-- 20 · log10(max(x, 1.0e-6))
abbrev pub decibels_of : Float → Float
decibels_of x = mul binary32 decibels_per_decade (log10 (maximum x least_gain))

-- ---- softened edges

-- a bin's gain from its own decibels and its neighbours'
abbrev pub softened : Float → Float → Float → Float
softened left center right = gain_of (add binary32 (add binary32 (mul binary32 left side_share) (mul binary32 center center_share)) (mul binary32 right side_share))

-- the softened gain of a bin with a neighbour on each side
abbrev pub softened_at : List Float → ℕ → Float
softened_at source b = softened (decibels_of (get_or source (b - 1) nan)) (decibels_of (get_or source b nan)) (decibels_of (get_or source (b + 1) nan))

-- the first and the last bin are kept; with fewer than three bins all are
unfoldable pub softened_of : List Float → List Float
softened_of source = map_range (λ b x. softened_at source b) 1 (length source - 1) source

-- ---- gains that approach a target

-- the fraction of the distance that is covered in the seconds elapsed
abbrev pub blend_of : Float → Float
blend_of elapsed = clamp ZERO ONE (sub binary32 ONE (exp (div binary32 (neg elapsed) smooth_mask_time_seconds)))

-- the gain at that fraction of the distance between two levels in decibels
abbrev pub nearer : Float → Float → Float → Float
nearer blend current target = gain_of (add binary32 current (mul binary32 (sub binary32 target current) blend))

-- that fraction of the distance from one gain to another, in decibels
abbrev pub toward : Float → Float → Float → Float
toward blend current target = gain_of (add binary32 (decibels_of current) (mul binary32 (sub binary32 (decibels_of target) (decibels_of current)) blend))

abbrev pub smoothed_of : List Float → List Float → Float → List Float
smoothed_of current target elapsed = map_at (λ b x. toward (blend_of elapsed) x (get_or target b nan)) current
