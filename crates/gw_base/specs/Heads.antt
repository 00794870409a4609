-- The first bytes of a text as one number, by which most texts are distinguished at once (own).
use Rattle.std.specs.Prelude.{ℕ, zero, suc, ◌+◌, ◌*◌, nat_le, if◌then◌else◌, List, [], ◌∷◌}

-- what a byte is worth that so many follow
abbrev pub worth : ℕ → ℕ
worth zero = 1
worth (suc k) = worth k * 256

-- the first k bytes as one number, the first byte worth most; what a shorter text lacks is worth nothing
abbrev pub head_of : ℕ → List ℕ → ℕ
head_of zero text = 0
head_of (suc k) [] = 0
head_of (suc k) (b ∷ text) = b * worth k + head_of k text

-- how many bytes are looked at where a text has so much room
abbrev pub head_len : ℕ → ℕ
head_len room = if nat_le 8 room then 8 else 0
