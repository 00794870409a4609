-- Groups in braces, which are kept as sent (own reading). A group is `{`, pieces and `}`: white space, quoted texts,
-- words, signs, octets and groups within it. Octets stand in braces behind a word Local or Remote that does not follow
-- `=`, white space aside.
use Rattle.std.specs.Prelude.{◌≡◌, ◌<◌, ◌-◌, ◌==◌, ◌&&◌, not, ℕ, Bool, true, false, if◌then◌else◌, List, [], ◌∷◌, ◌++◌, length, Option, Some}
use Rattle.gw_text.specs.Lexical.{nul, quote_mark, left_brace, right_brace, equals_sign, is_safe, is_solid}
use Rattle.gw_text.specs.Space.{IsSep}
use Rattle.gw_text.specs.Forms.{IsWord}
use Rattle.gw_text.specs.Quoted.{IsQuoted}
use Rattle.gw_text.specs.Octets.{IsOctets}
use Rattle.gw_text.specs.Tokens.{token_of}
use Rattle.gw_text.specs.declared.token.Token.{Token}
use Rattle.gw_text.specs.declared.token.Token.TheVariants.{Local, Remote}
use Rattle.gw_text.specs.declared.fault.ScanFault.{ScanFault}
use Rattle.gw_text.specs.declared.fault.ScanFault.TheVariants.{Unexpected, TooDeep, Overflow}
use Rattle.gw_text.specs.declared.group.Before.{Before}
use Rattle.gw_text.specs.declared.group.Before.TheVariants.{Equals, OctetsWord, Other}

-- what stands in a group, from the front
pub data Pieces : Type 0 where
  nothing : Pieces
  -- white space, comments among it
  space : List ℕ → Pieces → Pieces
  quoted : List ℕ → Pieces → Pieces
  word : List ℕ → Pieces → Pieces
  -- a byte of another kind, as `=` or `,`
  mark : ℕ → Pieces → Pieces
  -- the text between the braces of octets
  octets : List ℕ → Pieces → Pieces
  -- what stands in a group within it
  group : Pieces → Pieces → Pieces

-- the bytes of them
abbrev pub text_of : Pieces → List ℕ
text_of nothing = []
text_of (space span rest) = span ++ text_of rest
text_of (quoted span rest) = span ++ text_of rest
text_of (word w rest) = w ++ text_of rest
text_of (mark b rest) = b ∷ text_of rest
text_of (octets body rest) = left_brace ∷ (body ++ right_brace ∷ text_of rest)
text_of (group inside rest) = left_brace ∷ (text_of inside ++ right_brace ∷ text_of rest)

-- a byte that is a piece alone: no safe byte, none with which white space begins, no quote, no brace, and not 0
abbrev pub is_mark : ℕ → Bool
is_mark b = not (is_safe b) && is_solid b && not (b == nul) && not (b == quote_mark) && not (b == left_brace) && not (b == right_brace)

-- the tokens behind which braces enclose octets
abbrev pub is_octets_token : Option Token → Bool
is_octets_token (Some Local) = true
is_octets_token (Some Remote) = true
is_octets_token _ = false

-- Local or Remote, in either form
abbrev pub is_octets_word : List ℕ → Bool
is_octets_word w = is_octets_token (token_of w)

-- ---- what stands before a piece, white space aside

-- behind a word
abbrev pub after_word : Before → List ℕ → Before
after_word Equals w = Other
after_word OctetsWord w = if is_octets_word w then OctetsWord else Other
after_word Other w = if is_octets_word w then OctetsWord else Other

-- behind a mark
abbrev pub after_mark : ℕ → Before
after_mark b = if b == equals_sign then Equals else Other

-- behind pieces
abbrev pub after : Before → Pieces → Before
after before nothing = before
after before (space span rest) = after before rest
after before (quoted span rest) = after Other rest
after before (word w rest) = after (after_word before w) rest
after before (mark b rest) = after (after_mark b) rest
after before (octets body rest) = after Other rest
after before (group inside rest) = after Other rest

-- a `{` begins octets there
abbrev pub begins_octets : Before → Bool
begins_octets OctetsWord = true
begins_octets before = false

-- ---- which pieces may stand in a group

-- a word comes first
abbrev pub is_word_first : Pieces → Bool
is_word_first (word w rest) = true
is_word_first _ = false

-- Pieces that may stand behind before, where braces may lie so many levels deeper. A word is as long as it can be.
abbrev pub AreValid : (levels : ℕ) → Before → Pieces → Type 0
AreValid levels before nothing = Unit {0}
AreValid levels before (space span rest) = IsSep span × AreValid levels before rest
AreValid levels before (quoted span rest) = IsQuoted span × AreValid levels Other rest
AreValid levels before (word w rest) = IsWord w × (is_word_first rest ≡ false) × AreValid levels (after_word before w) rest
AreValid levels before (mark b rest) = (is_mark b ≡ true) × AreValid levels (after_mark b) rest
AreValid levels before (octets body rest) = (begins_octets before ≡ true) × (0 < levels) × IsOctets body × AreValid levels Other rest
AreValid levels before (group inside rest) = (begins_octets before ≡ false) × (0 < levels) × AreValid (levels - 1) Other inside × AreValid levels Other rest

-- a group whose braces lie at most so deep, its own among them
pub record IsGroup (depth : ℕ) (text : List ℕ) : Type 0 where
  pub inside : Pieces
  pub split : text ≡ left_brace ∷ (text_of inside ++ right_brace ∷ [])
  pub some : 0 < depth
  pub valid : AreValid (depth - 1) Other inside

-- ---- a brace that lies too deep

-- groups that are not closed, each within the one before: their braces, and what stands in them
abbrev pub open_text : List Pieces → List ℕ
open_text [] = []
open_text (p ∷ ps) = left_brace ∷ (text_of p ++ open_text ps)

-- where a group is open behind p, its brace does not begin octets
abbrev pub GoesDeeper : Before → Pieces → List Pieces → Type 0
GoesDeeper before p [] = Unit {0}
GoesDeeper before p (q ∷ qs) = begins_octets (after before p) ≡ false

abbrev pub AreOpen : (levels : ℕ) → List Pieces → Type 0
AreOpen levels [] = Unit {0}
AreOpen levels (p ∷ ps) = AreValid (levels - 1) Other p × GoesDeeper Other p ps × AreOpen (levels - 1) ps

-- as many groups as may lie within one another are open, and another `{` comes, whatever follows it
pub record IsTooDeep (depth : ℕ) (text : List ℕ) : Type 0 where
  pub groups : List Pieces
  pub rest : List ℕ
  pub split : text ≡ open_text groups ++ left_brace ∷ rest
  pub full : length groups ≡ depth
  pub valid : AreOpen depth groups

-- Why there is no group at the front of a text: a brace lies too deep, or anything else.
abbrev pub HasNoGroup : ℕ → ScanFault → List ℕ → Type 0
HasNoGroup depth Unexpected text = (¬ IsTooDeep depth text) × ((before behind : List ℕ) → text ≡ before ++ behind → ¬ IsGroup depth before)
HasNoGroup depth TooDeep text = IsTooDeep depth text × ((before behind : List ℕ) → text ≡ before ++ behind → ¬ IsGroup depth before)
HasNoGroup depth Overflow text = ⊥
