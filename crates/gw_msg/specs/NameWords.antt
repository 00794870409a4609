-- Which words are TerminationIDs and mIds, as tests, and what they stand for (own). They find what gw_base has as
-- forms, `IsTerm` and `IsMid`: that each is so is proved, so that a word that is read stands for what the grammar says
-- and for nothing else.
use Rattle.std.specs.Prelude.{ℕ, ◌-◌, Bool, ◌==◌, ◌||◌, ◌&&◌, nat_lt, nat_le, bytes_eq, if◌then◌else◌, List, [], ◌∷◌, ◌++◌, length, take, slice_index, Option, Some, None, codes}
use Rattle.std.specs.List.{list_all, list_any}
use Rattle.std.specs.Str.Parse.{digits_value}
use Rattle.gw_base.specs.Bytes.{byte, is_letter, is_digit, is_name_byte, is_one_of, last_byte}
use Rattle.gw_base.specs.Addresses.{is_address_byte, address_max}
use Rattle.gw_base.specs.Mids.{is_domain_byte, is_device_byte, port_digits, port_max}
use Rattle.gw_base.specs.Names.{name_max}
use Rattle.gw_base.specs.Wildcards.{is_wildcard_byte, is_term_byte}
use Rattle.gw_base.specs.declared.term_ref.TermRef.{TermRef}
use Rattle.gw_base.specs.declared.term_ref.TermRef.TheVariants.{Root, All, Choose, Under, Name, Other}
use Rattle.gw_text.specs.Tokens.{is_same_word}

-- bytes of the class, one at least and at most so many
abbrev pub is_bytes : (most : ℕ) → (ℕ → Bool) → List ℕ → Bool
is_bytes most p text = nat_lt 0 (length text) && (nat_le (length text) most && list_all p text)

-- the first byte is of the class
abbrev pub has_first : (ℕ → Bool) → List ℕ → Bool
has_first p text = p (slice_index text 0)

-- ---- TerminationIDs

-- IsTermText
abbrev pub is_term_text : List ℕ → Bool
is_term_text text = has_first (λ b. is_letter b || is_wildcard_byte b) text && is_bytes name_max is_term_byte text

-- IsName
abbrev pub is_name : List ℕ → Bool
is_name text = has_first is_letter text && is_bytes name_max is_name_byte text

-- IsChoose
abbrev pub is_choose_word : List ℕ → Bool
is_choose_word text = bytes_eq text (codes "$") || bytes_eq text (codes "RTP/$")

-- the text without its last byte
abbrev pub without_last : List ℕ → List ℕ
without_last text = take (length text - 1) text

-- IsUnder: `*` behind a name that ends in `/`
abbrev pub is_under : List ℕ → Bool
is_under text = bytes_eq text (without_last text ++ codes "*") && (is_name (without_last text) && last_byte (without_last text) == byte (codes "/"))

-- what a text of the form stands for
abbrev pub term_class : List ℕ → TermRef
term_class text =
    if is_same_word text (codes "ROOT") then Root
    else if bytes_eq text (codes "*") then All
    else if is_choose_word text then Choose
    else if is_under text then Under (without_last text)
    else if list_any is_wildcard_byte text then Other text
    else Name text

-- the TerminationID that a word spells
abbrev pub term_of : List ℕ → Option TermRef
term_of word = if is_term_text word then Some (term_class word) else None

-- ---- mIds

-- a text of which a front passes the one test, and what is behind it the other
abbrev pub splits : (p q : List ℕ → Bool) → List ℕ → Bool
splits p q [] = p [] && q []
splits p q (b ∷ bs) = (p [] && q (b ∷ bs)) || splits (λ front. p (b ∷ front)) q bs

-- these bytes
abbrev pub is_text : List ℕ → List ℕ → Bool
is_text bytes text = bytes_eq text bytes

-- IsAddress
abbrev pub is_address : List ℕ → Bool
is_address = is_bytes address_max is_address_byte

-- IsDomain
abbrev pub is_domain : List ℕ → Bool
is_domain text = has_first (λ b. is_letter b || is_digit b) text && is_bytes name_max is_domain_byte text

-- IsDevice
abbrev pub is_device : List ℕ → Bool
is_device text = has_first (λ b. is_letter b || is_one_of (codes "*") b) text && is_bytes name_max is_device_byte text

-- IsPort
abbrev pub is_port : List ℕ → Bool
is_port text = nat_le (digits_value 10 text) port_max && is_bytes port_digits is_digit text

-- IsOptionalPort
abbrev pub is_optional_port : List ℕ → Bool
is_optional_port text = is_text [] text || splits (is_text (codes ":")) is_port text

-- such a text between two brackets, and perhaps a port
abbrev pub is_bracketed : (left right : List ℕ) → (List ℕ → Bool) → List ℕ → Bool
is_bracketed left right p = splits (is_text left) (splits p (splits (is_text right) is_optional_port))

-- IsMid
abbrev pub is_mid : List ℕ → Bool
is_mid text = is_bracketed (codes "[") (codes "]") is_address text || (is_bracketed (codes "<") (codes ">") is_domain text || is_device text)

-- the mId that a word spells
abbrev pub mid_of : List ℕ → Option (List ℕ)
mid_of word = if is_mid word then Some word else None
