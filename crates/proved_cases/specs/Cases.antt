-- Document 01's 'Proved cases', in its order: a list of equations, each between what a definition
-- gives and the number itself. Assumes nothing.
use Rattle.std.specs.Prelude.{◌≡◌, true, false, List, [], ◌∷◌, pos, negsuc, Float}
use Rattle.std.specs.Float.{fin}
use Rattle.power.specs.Power.{E2}
use Rattle.power.specs.Log.{L2}
use Rattle.sine.specs.Table.{K, R}
use Rattle.pitch.specs.Pitch.{note_hertz}
use Rattle.masks.specs.Manual.{curve_point, curve_gain}
use Rattle.windows.specs.Windows.{dual_of}
use Rattle.smoothing.specs.Smoothing.{softened_of}

-- the first is the second
pub data Case : Type 1 where
  case : {A : Type 0} → A → A → Case

abbrev pub Holds : List Case → Type 0
Holds [] = Unit {0}
Holds (case a b ∷ cs) = (a ≡ b) × Holds cs

-- whole numbers and halves as floats: `fin s m e` is m * 2 ^ e, negative where s is true, and
-- `negsuc n` is -(n + 1)
abbrev zero : Float
zero = fin false 0 (pos 0)

abbrev one : Float
one = fin false 1 (pos 0)

abbrev half : Float
half = fin false 1 (negsuc 0)

abbrev pub cases : List Case
cases =
    case (E2 zero) one
    ∷ case (E2 (fin true 1 (pos 0))) half
    -- 11863283/2^23
    ∷ case (E2 half) (fin false 11863283 (negsuc 22))
    ∷ case (E2 (fin true 127 (pos 0))) zero
    ∷ case (L2 one) zero
    -- 8 is 2^3
    ∷ case (L2 (fin false 1 (pos 3))) (fin false 3 (pos 0))
    ∷ case (K 1) 759250124
    ∷ case (R 128) 759250125
    -- note 69 is 440, 55 * 2^3, and note 57 is 220, 55 * 2^2, at tuning 0
    ∷ case (note_hertz 69 zero) (fin false 55 (pos 3))
    ∷ case (note_hertz 57 zero) (fin false 55 (pos 2))
    -- curve -144, -9 * 2^4, gives 0; +6, 3 * 2, gives 1
    ∷ case (curve_gain (fin true 9 (pos 4))) zero
    ∷ case (curve_gain (fin false 3 (pos 1))) one
    -- at size 8,192 bin 1 reads point 2, at size 64 point 256
    ∷ case (curve_point 1 8192) 2
    ∷ case (curve_point 1 64) 256
    -- four ones with overlap 2 have dual 0.5 each; softening 1, 1, 1 keeps it
    ∷ case (dual_of (one ∷ one ∷ one ∷ one ∷ []) 2) (half ∷ half ∷ half ∷ half ∷ [])
    ∷ case (softened_of (one ∷ one ∷ one ∷ [])) (one ∷ one ∷ one ∷ [])
    ∷ []
