-- The bytes that the text encoding gives a meaning, by name, and its classes of bytes (RFC 3525, Annex B.2).
use Rattle.std.specs.Prelude.{ℕ, Bool, ◌||◌, ◌&&◌, ◌==◌, not, codes}
use Rattle.gw_base.specs.Bytes.{is_letter, is_digit, is_one_of, byte}

-- the control bytes NUL, HTAB, LF and CR, by their numbers
abbrev pub nul : ℕ
nul = 0

abbrev pub tab : ℕ
tab = 9

abbrev pub line_feed : ℕ
line_feed = 10

abbrev pub carriage_return : ℕ
carriage_return = 13

abbrev pub space : ℕ
space = byte (codes " ")

abbrev pub quote_mark : ℕ
quote_mark = byte (codes "\"")

abbrev pub comma : ℕ
comma = byte (codes ",")

abbrev pub dash : ℕ
dash = byte (codes "-")

abbrev pub colon : ℕ
colon = byte (codes ":")

abbrev pub semicolon : ℕ
semicolon = byte (codes ";")

abbrev pub equals_sign : ℕ
equals_sign = byte (codes "=")

abbrev pub left_bracket : ℕ
left_bracket = byte (codes "[")

abbrev pub backslash : ℕ
backslash = byte (codes "\\")

abbrev pub right_bracket : ℕ
right_bracket = byte (codes "]")

abbrev pub left_brace : ℕ
left_brace = byte (codes "{")

abbrev pub right_brace : ℕ
right_brace = byte (codes "}")

-- the last byte that is seen
abbrev pub tilde : ℕ
tilde = byte (codes "~")

-- EOL: what ends a line
abbrev pub is_eol : ℕ → Bool
is_eol b = b == carriage_return || b == line_feed

-- WSP or EOL: a space, a tab or the end of a line
abbrev pub is_blank : ℕ → Bool
is_blank b = b == space || b == tab || is_eol b

-- what a comment has behind its `;` and before its end (own: all but byte 0)
abbrev pub is_comment_byte : ℕ → Bool
is_comment_byte b = not (is_eol b) && not (b == nul)

-- what white space begins with
abbrev pub is_space_start : ℕ → Bool
is_space_start b = is_blank b || b == semicolon

-- what white space does not begin with
abbrev pub is_solid : ℕ → Bool
is_solid b = not (is_space_start b)

-- what a safe byte is beside letters and digits
abbrev pub is_safe_mark : ℕ → Bool
is_safe_mark b = is_one_of (codes "!$%&'()*+-./?@\\^_`|~") b

-- SafeChar: what words are made of
abbrev pub is_safe : ℕ → Bool
is_safe b = is_letter b || is_digit b || is_safe_mark b
