-- What stands beside the name of a property that is kept (own to this gateway), and only a guide: names of other tags
-- are other names, in any case; names of the same tag may be.
use Rattle.std.specs.Prelude.{ℕ, ◌+◌, ◌*◌, ◌/◌, ◌%◌, ◌^◌, List, [], ◌∷◌, bit_xor}

-- a number of 64 bits, with its upper bits over its lower ones
abbrev pub carried : ℕ → ℕ
carried n = bit_xor n (n / 2 ^ 29)

-- a tag with a byte behind it; by 32 what two letters are that differ in their case alone is the same
abbrev pub with_byte : ℕ → ℕ → ℕ
with_byte tag byte = carried (((tag * 11400714819323198485) % 2 ^ 64 + byte % 32) % 2 ^ 64)

-- a tag with these bytes behind it
abbrev pub tag_of : ℕ → List ℕ → ℕ
tag_of tag [] = tag
tag_of tag (byte ∷ bytes) = tag_of (with_byte tag byte) bytes

-- by all of its bytes, so that names are not distinguished by their ends alone
unfoldable pub name_tag : List ℕ → ℕ
name_tag name = tag_of 0 name
