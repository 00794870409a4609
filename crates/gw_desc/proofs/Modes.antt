-- Modes, from the bytes of a value.
use Rattle.std.proofs.Common.{◌≡◌, ◌∙◌, ℕ, List, length, Option, ap}
use Rattle.std.proofs.lemmas.Slice.Eq.{HasBytesAt, text_from_reads}
use Rattle.gw_desc.specs.Values.{mode_of}
use Rattle.gw_desc.specs.declared.values.Mode.{Mode}

-- a value of these bytes is the mode that they are
pub sent_as : (value text : List ℕ) (mode : Option Mode) → length value ≡ length text → HasBytesAt value 0 text → mode_of text ≡ mode → mode_of value ≡ mode
sent_as value text mode l reads is = ap mode_of (text_from_reads value text l reads) ∙ is
