-- Names that are the same in any case have the same tag.
use Rattle.std.proofs.Common.{◌≡◌, ℕ, ◌%◌, ◌==◌, true, false, List, [], ◌∷◌, map, refl, ap, sym, ◌∙◌, arith}
use Rattle.std.specs.Char.{to_ascii_lowercase}
use Rattle.std.proofs.lemmas.Slice.Eq.{bytes_eq-Decides}
use Rattle.std.proofs.lemmas.Str.Ascii.{lowercase_is}
use Rattle.gw_text.specs.Tokens.{is_same_word}
use Rattle.gw_term.specs.NameTags.{with_byte, tag_of, name_tag}

lower_byte : (byte : ℕ) → to_ascii_lowercase byte % 32 ≡ byte % 32
lower_byte byte = grind (arith, lowercase_is byte)

lower_tag : (tag : ℕ) (bytes : List ℕ) → tag_of tag (map to_ascii_lowercase bytes) ≡ tag_of tag bytes
lower_tag tag [] = refl
lower_tag tag (byte ∷ bytes) = grind (arith, lower_tag (with_byte tag (to_ascii_lowercase byte)) bytes, lower_byte)

-- that of the name in lower case
lower_name : (name : List ℕ) → name_tag (map to_ascii_lowercase name) ≡ name_tag name
unfolding name_tag
lower_name name = lower_tag 0 name

pub same_tags : (name other : List ℕ) → is_same_word name other ≡ true → name_tag name ≡ name_tag other
same_tags name other same =
    let folded : map to_ascii_lowercase name ≡ map to_ascii_lowercase other = (bytes_eq-Decides (map to_ascii_lowercase name) (map to_ascii_lowercase other)).0 same in
    sym (lower_name name) ∙ ap name_tag folded ∙ lower_name other

pub other_names : (name other : List ℕ) → name_tag name == name_tag other ≡ false → is_same_word name other ≡ false
other_names name other h = grind (arith, same_tags)
