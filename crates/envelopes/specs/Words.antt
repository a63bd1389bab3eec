-- The sixteen bytes of held notes as two 64-bit words: word 0 has the bytes 0 to 7, word 1 the
-- bytes 8 to 15, and the first byte of each is its most significant. Assumes nothing.
use Rattle.std.specs.Prelude.{Bool, List, ◌≡◌, ℕ, ◌+◌, ◌-◌, ◌*◌, ◌/◌, ◌%◌, ◌^◌, ◌<◌, eqb, length, get_or}
use Rattle.lists.specs.Bytes.{number_at}
use Rattle.limits.specs.Lengths.{midi_notes, held_bytes}
use Rattle.envelopes.specs.Envelope.{is_held}

abbrev pub word_of : List ℕ → ℕ → ℕ
word_of held index = number_at held (8 * index) 8

-- bit k of a number, the lowest being 0
abbrev pub is_set : ℕ → ℕ → Bool
is_set number k = eqb (number / 2 ^ k % 2) 1

-- the n entries from `first` on are bytes
abbrev pub Bytes : List ℕ → ℕ → ℕ → Type 0
Bytes held first n = (k : ℕ) → k < n → get_or held (first + k) 0 < 256

-- "Note n is held exactly when word floor(n/64) has bit 63 - (n mod 64) set, the lowest bit being
-- 0", for every sixteen bytes.
abbrev pub HeldByWords : Type 0
HeldByWords =
    (held : List ℕ) → length held ≡ held_bytes → Bytes held 0 held_bytes
    → (n : ℕ) → n < midi_notes → is_held held n ≡ is_set (word_of held (n / 64)) (63 - n % 64)
