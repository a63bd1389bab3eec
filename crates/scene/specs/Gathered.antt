-- The voices of a list of any length in the core's array of 128. Assumes nothing.
use Rattle.std.specs.Prelude.{cond, List, ◌++◌, ℕ, ◌-◌, ltb, length, take, replicate}
use Rattle.limits.specs.Lengths.{most_voices}
use Rattle.scene.specs.declared.MaskVoice.{MaskVoice}
use Rattle.scene.specs.Made.{silent_voice}

-- how many of n voices the array holds
abbrev pub held : ℕ → ℕ
held n = cond (ltb most_voices n) most_voices n

-- the array with the first n of the voices at its start
unfoldable pub gathered_to : ℕ → List MaskVoice → List MaskVoice
gathered_to n voices = take n voices ++ replicate (most_voices - n) silent_voice

abbrev pub gathered : List MaskVoice → List MaskVoice
gathered voices = gathered_to (held (length voices)) voices
