-- Of one part, one stream and one Media with nothing wrong: what holds of each holds of the whole.
use Rattle.std.proofs.Common.{◌≡◌, ℕ, true, false, List, [], ◌∷◌, None, refl, ◌∙◌, arith}
use Rattle.gw_base.specs.declared.command_words.Verb.{Verb}
use Rattle.gw_desc.specs.declared.descriptor.Descriptor.{Descriptor}
use Rattle.gw_desc.specs.declared.descriptor.Descriptor.TheVariants as descriptor
use Rattle.gw_desc.specs.declared.descriptor.KeptKind.{KeptKind}
use Rattle.gw_desc.specs.declared.descriptor.MediaPart.{MediaPart}
use Rattle.gw_desc.specs.declared.descriptor.MediaPart.TheVariants as media
use Rattle.gw_desc.specs.declared.descriptor.StreamPart.{StreamPart}
use Rattle.gw_desc.specs.declared.descriptor.StreamPart.TheVariants as part
use Rattle.gw_desc.specs.declared.descriptor.Property.{Property}
use Rattle.gw_desc.specs.declared.descriptor.Tail.{Tail}
use Rattle.gw_desc.specs.Checks.{check_code, has_illegal, has_unknown, has_twice, has_kind_twice, has_content_twice, has_bad, has_past, has_part_twice, has_property_twice, is_media_twice, is_media_bad, is_bad_mode, is_stream_number, is_tail_long}
use Rattle.gw_desc.specs.Twice.{has_name_twice}
use Rattle.gw_desc.specs.Values.{is_mode}
use Rattle.gw_desc.specs.Plain.{is_usual, is_same_part, IsPlainPart, IsPlainStream, IsPlainMedia, HasPlainMedia, HasShortTail}
use Rattle.gw_desc.proofs.Few.{none_of_one, none_of_one_part}

-- ---- properties

pub plain_property : (p : Property (List ℕ)) → is_bad_mode p ≡ false → IsPlainPart (part.LocalControl (p ∷ []))
unfolding has_property_twice has_name_twice
plain_property p h = (rw (none_of_one (λ (q : Property (List ℕ)). is_mode q.name) (p ∷ []) (omega arith)) refl, rw h refl, refl)

-- ---- streams

two_parts : (a b : StreamPart) → has_part_twice (a ∷ b ∷ []) ≡ is_same_part a b
unfolding has_part_twice
two_parts a b = grind arith

one_part : (a : StreamPart) → has_part_twice (a ∷ []) ≡ false
unfolding has_part_twice
one_part a = grind arith

pub plain_stream_of_one : (a : StreamPart) → IsPlainPart a → IsPlainStream (a ∷ [])
plain_stream_of_one a h = (one_part a, rw h.0 refl, rw h.1 refl, rw h.2 refl)

pub plain_stream_of_two : (a b : StreamPart) → IsPlainPart a → IsPlainPart b → is_same_part a b ≡ false → IsPlainStream (a ∷ b ∷ [])
plain_stream_of_two a b g h apart = (two_parts a b ∙ apart, rw (g.0, h.0) refl, rw (g.1, h.1) refl, rw (g.2, h.2) refl)

-- ---- a Media of one Stream

pub plain_media : (number : ℕ) (parts : List StreamPart) → is_stream_number number ≡ true → IsPlainStream parts → IsPlainMedia (media.Stream number parts ∷ [])
unfolding is_media_twice is_media_bad
plain_media number parts n h =
    (none_of_one_part (media.Stream number parts ∷ []) (omega arith) ∙ rw h.0 refl, rw h.1 refl, rw h.2 refl, rw (n, h.3) refl)

-- ---- the whole list

of_one : (v : Verb) (parts : List MediaPart) → is_usual v ≡ true → IsPlainMedia parts → check_code v (descriptor.Media parts ∷ []) ≡ None
unfolding check_code has_illegal has_unknown has_twice has_kind_twice has_content_twice has_bad has_past
of_one v parts u h = grind arith

kept_with : (v : Verb) (parts : List MediaPart) (kind : KeptKind) (tail : Tail (List ℕ)) → has_kind_twice (descriptor.Media parts ∷ descriptor.Keep kind tail ∷ []) ≡ false
unfolding has_kind_twice
kept_with v parts kind tail = grind arith

of_two : (v : Verb) (parts : List MediaPart) (kind : KeptKind) (tail : Tail (List ℕ)) → is_usual v ≡ true → IsPlainMedia parts → is_tail_long tail ≡ false
    → check_code v (descriptor.Media parts ∷ descriptor.Keep kind tail ∷ []) ≡ None
unfolding check_code has_illegal has_unknown has_twice has_content_twice has_bad has_past
of_two v parts kind tail u h t = grind (arith, kept_with)

pub plain_of_one : (v : Verb) (d : Descriptor) → is_usual v ≡ true → HasPlainMedia d → check_code v (d ∷ []) ≡ None
plain_of_one v d u h = grind (arith, of_one)

pub plain_of_two : (v : Verb) (d e : Descriptor) → is_usual v ≡ true → HasPlainMedia d → HasShortTail e → check_code v (d ∷ e ∷ []) ≡ None
plain_of_two v d e u h t = grind (arith, of_two)
