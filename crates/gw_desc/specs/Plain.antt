-- What the descriptors that most commands have are, where nothing is wrong (own): which of the tests that they pass,
-- and why.
use Rattle.std.specs.Prelude.{◌≡◌, Bool, true, false, List}
use Rattle.std.specs.List.{list_any}
use Rattle.gw_base.specs.declared.command_words.Verb.{Verb}
use Rattle.gw_base.specs.declared.command_words.Verb.TheVariants as verb
use Rattle.gw_desc.specs.declared.descriptor.Descriptor.{Descriptor}
use Rattle.gw_desc.specs.declared.descriptor.Descriptor.TheVariants as descriptor
use Rattle.gw_desc.specs.declared.descriptor.MediaPart.{MediaPart}
use Rattle.gw_desc.specs.declared.descriptor.StreamPart.{StreamPart}
use Rattle.gw_desc.specs.declared.descriptor.StreamPart.TheVariants as part
use Rattle.gw_desc.specs.Checks.{has_part_twice, is_media_twice, is_control_twice, is_list_twice, is_bad_control, is_media_bad, is_part_long, is_part_past, is_tail_long}

-- the commands that may have all descriptors but Services
abbrev pub is_usual : Verb → Bool
is_usual verb.Add = true
is_usual verb.Modify = true
is_usual verb.Move = true
is_usual _ = false

-- two parts of one kind
abbrev pub is_same_part : StreamPart → StreamPart → Bool
is_same_part (part.Local a) (part.Local b) = true
is_same_part (part.Remote a) (part.Remote b) = true
is_same_part (part.LocalControl a) (part.LocalControl b) = true
is_same_part _ _ = false

-- a part of a stream with nothing wrong in itself
abbrev pub IsPlainPart : StreamPart → Type 0
IsPlainPart p = (is_control_twice p ≡ false) × (is_bad_control p ≡ false) × (is_part_long p ≡ false)

-- parts of one stream with nothing wrong
abbrev pub IsPlainStream : List StreamPart → Type 0
IsPlainStream parts = (has_part_twice parts ≡ false) × (list_any is_control_twice parts ≡ false) × (list_any is_bad_control parts ≡ false) × (list_any is_part_long parts ≡ false)

-- parts of a Media with nothing wrong
abbrev pub IsPlainMedia : List MediaPart → Type 0
IsPlainMedia parts = (is_media_twice parts ≡ false) × (list_any is_list_twice parts ≡ false) × (is_media_bad parts ≡ false) × (list_any is_part_past parts ≡ false)

-- a Media with nothing wrong
abbrev pub HasPlainMedia : Descriptor → Type 0
HasPlainMedia (descriptor.Media parts) = IsPlainMedia parts
HasPlainMedia _ = ⊥

-- a descriptor that is kept as sent, and is not too long
abbrev pub HasShortTail : Descriptor → Type 0
HasShortTail (descriptor.Keep kind tail) = is_tail_long tail ≡ false
HasShortTail _ = ⊥
